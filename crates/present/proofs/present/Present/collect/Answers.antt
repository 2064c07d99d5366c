use Rattle.std.proofs.Common.{subst, sym, arith}
use Rattle.world.specs.declared.run_event.RunEvent.TheVariants.{Collect}
use Rattle.world.specs.World.{WorldValue, run_of}
use Rattle.world.specs.Quiet.{IsQuiet}
use Rattle.present.proofs.Calls.{then_holds}
use Rattle.present.proofs.Tidied.{then_rests}
use Rattle.present.proofs.present.Present.collect.Goals as goal

pub invariant_of-self-2 : goal.invariant_of-self-2
invariant_of-self-2 c =
    let at = c.clock_of-time.ensures c.self.inside.actors.topology c.self.inside.past c.self.invariant.0 in (
      then_holds c.self.inside.actors _ c.self.inside.past _ _ c.self.invariant.0 (c.in_ok-collect.ensures.ok c.self.inside.actors.topology c.self.inside.past c.self.invariant.0)
          c.collect.ensures.topology c.add_collection.ensures,
      then_rests c.self.inside.actors c.collect.new.self c.self.inside.past _ (Collect c.args.shard c.clock_of-time.result) c.self.invariant.1
          (subst (λ (z : WorldValue). IsQuiet (run_of z)) (sym c.self.view_is) c.requires.quiet, omega arith)
          c.collect.ensures.topology c.add_collection.ensures,
    )
