use Rattle.std.proofs.Common.{◌∙◌}
use Rattle.std.proofs.lemmas.Result.{IfOk-weaker}
use Rattle.replicator.proofs.Sent.{parts_beside}
use Rattle.replicator.proofs.replicating.repl_parts.Goals as goal

pub returns-in_ok-nodes-in-Submitted-clause-envelopes : goal.returns-in_ok-nodes-in-Submitted-clause-envelopes
returns-in_ok-nodes-in-Submitted-clause-envelopes c = λ top me p is txn rows coordinator.
    IfOk-weaker c.parts_to.result _ _
    (λ envelopes made.
    made
    ∙ parts_beside c.args.origin top me c.node.result c.args.time p c.args.writer c.args.rows.now c.args.stamp c.in_ok-nodes-in-Submitted.nodes.items
    c.in-Submitted.is txn rows coordinator (c.node.ensures.place top me is) (c.in_ok-nodes-in-Submitted.ensures.place top me is))
    c.parts_to.ensures.ok
