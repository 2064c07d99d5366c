use Rattle.std.proofs.Common.{arith, ◌≡◌, ◌∙◌, rules, map}
use Rattle.client.proofs.Planned.{posted_read, asked_read}
use Rattle.planner.specs.declared.reads.ShardKeys.{ShardKeys}
use Rattle.client.specs.Envelopes.{node_in}
use Rattle.client.proofs.accepting.asks.Goals as goal

pub returns-clause-asked : goal.returns-clause-asked
returns-clause-asked c =
    let nodes : c.in_ok-asked.asked.items ≡ map (λ (s : ShardKeys). node_in c.args.kept.now.home s.shard) c.in_ok-plan.plan.asked.items = search rules in
    nodes ∙ asked_read c.args.kept.now c.args.read.now c.in_ok-plan.plan.asked.items (search rules)

pub returns-clause-sends : goal.returns-clause-sends
returns-clause-sends c = grind (arith, posted_read, asked_read)
