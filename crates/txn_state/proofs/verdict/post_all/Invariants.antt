use Rattle.std.proofs.Common.{◌≤◌, ◌+◌, take}
use Rattle.txn_state.specs.Announced.{Announced}
use Rattle.txn_state.proofs.verdict.post_all.Given as goal

abbrev pub invariant-loop-node : goal.invariant-loop-node
invariant-loop-node g l = record {
  told : Announced g.P.Post.noticed (take l.node-index l.nodes) l.txn l.commit l.stamp l.fn.post l.post;
  space : g.P.Post.space l.fn.post ≤ g.P.Post.space l.post + l.node-index;
}
