use Rattle.std.proofs.Common.{rules, refl, sym, subst}
use Rattle.shard.specs.declared.kept.ShardKept.{ShardKept}
use Rattle.shard.specs.Events.{shard_run}
use Rattle.shard.specs.Kept.{Represents}
use Rattle.shard.proofs.in_code.ShardSteps.{collects}
use Rattle.shard.proofs.shard.Shard.collect.Goals as goal

pub returns-clause-leads : goal.returns-clause-leads
returns-clause-leads c = λ top me before r.
    let k = c.self.inside.kept in
    let l : ShardKept = record k { clock = c.receive.new.self; transactions = c.collect.new.self } in
    collects c.receive.new.self k l c.args.time (search rules) (search rules) refl refl (search rules) (search rules) (search rules) (search rules) refl refl refl top me before
    (subst (λ (m : ShardKept). Represents top me m (shard_run top me before).state) (sym c.self.view_is) r)
