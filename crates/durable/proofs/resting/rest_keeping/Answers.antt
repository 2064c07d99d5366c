use Rattle.std.proofs.Common.{◌∙◌, refl, subst, sym, rules}
use Rattle.messages.specs.Topology.{TopologyValue}
use Rattle.world.specs.World.{WorldValue, run_of}
use Rattle.world.specs.Quiet.{IsQuiet}
use Rattle.present.proofs.Tidied.{takes_quiet, one_tidied, still_top}
use Rattle.durable.specs.Logged.{IsLogged}
use Rattle.durable.proofs.Untidied.{untidied}
use Rattle.durable.proofs.resting.rest_keeping.Goals as goal

pub returns-in_err-rest_at-clause-quiet : goal.returns-in_err-rest_at-clause-quiet
returns-in_err-rest_at-clause-quiet g c = subst (λ (z : WorldValue). IsQuiet (run_of z)) (sym c.in_err-rest_at.ensures.same) c.loop-shard.invariant.quiet

pub loop-shard-preserved : goal.loop-shard-preserved
loop-shard-preserved g c =
    let inv = c.loop-shard.invariant in
    let new = c.rest_at.new in
    let seen = g.D.Disk.seen in
    let may = g.D.Disk.may_leave in
    record {
      topology = still_top c.loop-shard.world new.world _ c.in_ok-rest_at.ensures.taken ∙ inv.topology;
      quiet = takes_quiet c.loop-shard.world new.world _ _ inv.quiet c.in_ok-rest_at.ensures.taken;
      tidied = one_tidied c.args.world.now.top c.loop-shard.shard c.loop-shard.shard c.args.world.now.events c.loop-shard.world new.world inv.topology refl inv.tidied c.in_ok-rest_at.ensures.taken;
      disk = c.rest_at.ensures.disk ∙ inv.disk;
      secret = c.rest_at.ensures.secret ∙ inv.secret;
      logged = λ l.
          subst (λ (t : TopologyValue). IsLogged seen may t new.log new.world.events) inv.topology
          (c.in_ok-rest_at.ensures.logged (subst (λ (t : TopologyValue). IsLogged seen may t c.loop-shard.log c.loop-shard.world.events) (sym inv.topology) (inv.logged l)));
    }

pub returns-in_err-rest_at-clause-disk : goal.returns-in_err-rest_at-clause-disk
returns-in_err-rest_at-clause-disk g c = c.rest_at.ensures.disk ∙ c.loop-shard.invariant.disk

pub returns-in_err-rest_at-clause-secret : goal.returns-in_err-rest_at-clause-secret
returns-in_err-rest_at-clause-secret g c = c.rest_at.ensures.secret ∙ c.loop-shard.invariant.secret

pub returns-in_err-rest_at-clause-refused : goal.returns-in_err-rest_at-clause-refused
returns-in_err-rest_at-clause-refused g c =
    untidied c.from_residual.result c.args.world.now.top c.loop-shard.shard c.args.world.now.events c.loop-shard.world c.rest_at.new.world c.in_err-rest_at.field-0.0 (search rules) c.loop-shard.invariant.topology (search rules)
    c.loop-shard.invariant.tidied c.in_err-rest_at.ensures.same c.in_err-rest_at.ensures.refused
