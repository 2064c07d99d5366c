use Rattle.std.proofs.Common.{◌≡◌, ◌∙◌, sym, ap, subst, ◌+◌, ◌++◌, ◌∷◌, [], take, arith}
use Rattle.std.proofs.lemmas.List.{take_more}
use Rattle.txn_state.specs.Announced.{Announced}
use Rattle.txn_state.proofs.Notices.{announced_more}
use Rattle.txn_state.proofs.verdict.post_all.Goals as goal

pub loop-node-preserved : goal.loop-node-preserved
loop-node-preserved g c =
    let i = c.loop-node.node-index in
    let ns = c.args.nodes.now in
    let x = c.node-item.result in
    let e : take (i + 1) ns ≡ take i ns ++ x ∷ [] = take_more ns i x (omega arith) ∙ ap (λ y. take i ns ++ y ∷ []) (sym c.node-item.is) in
    record {
      told =
          subst (λ ms. Announced g.P.Post.noticed ms c.args.txn c.args.commit c.args.stamp.now c.args.post.now c.notice.new.self) (sym e)
          (announced_more g.P.Post.noticed (take i ns) x c.args.txn c.args.commit c.args.stamp.now c.args.post.now c.loop-node.post c.notice.new.self c.loop-node.invariant.told c.notice.ensures.told);
      space = omega arith;
    }
