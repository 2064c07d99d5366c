use Rattle.std.proofs.Common.{rules, ◌≡◌, ◌∙◌, ap, ◌++◌, ◌∷◌, [], map, false}
use Rattle.std.specs.Prelude.{is_some}
use Rattle.logical_time.specs.Stamps.{StampValue}
use Rattle.messages.specs.declared.body.Body.{Body}
use Rattle.messages.specs.declared.body.Body.TheVariants as body
use Rattle.messages.specs.Words.{envelope}
use Rattle.replicator.proofs.Sent.{announced_beside}
use Rattle.replicator.proofs.replicating.announcements.Goals as goal

pub returns-clause-envelopes : goal.returns-clause-envelopes
returns-clause-envelopes c = λ top me is.
    let stamp : StampValue = record { time = c.args.time; node = c.node-node.result } in
    let begin : Body = body.ReplBegin c.args.cohorts.now c.args.txn c.args.rows.now stamp c.args.dependencies.now in
    let told : c.add_begins.new.envelopes.items ≡ c.push.new.self.items ++ map (λ n. envelope c.node-node.result n c.args.time begin) c.in_ok-nodes.nodes.items = search rules in
    let done : c.push.new.self.items ≡ envelope c.node-node.result c.args.txn.session c.args.time (body.Done c.args.txn c.args.time stamp) ∷ [] = search rules in
    let none : is_some c.args.stamp.now ≡ false = search rules in
    told
    ∙ (ap (λ es. es ++ map (λ n. envelope c.node-node.result n c.args.time begin) c.in_ok-nodes.nodes.items) done
    ∙ announced_beside c.args.stamp.now top me c.node-node.result c.args.time c.args.txn c.args.rows.now c.args.cohorts.now c.args.dependencies.now c.in_ok-nodes.nodes.items none (c.node-node.ensures.place top me is) (c.in_ok-nodes.ensures.place top me is))
