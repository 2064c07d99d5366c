use Rattle.std.proofs.Common.{◌∙◌, ap, arith, drop}
use Rattle.std.proofs.lemmas.List.{drop-drop}
use Rattle.peers.proofs.outbound.forget.Goals as goal

pub loop-dropped-preserved : goal.loop-dropped-preserved
loop-dropped-preserved c = record {
  within = omega (arith, c.loop-dropped-test.true);
  kept = c.forget_first.ensures.kept ∙ ap (drop 1) c.loop-dropped.invariant.kept ∙ drop-drop 1 c.loop-dropped.dropped c.args.kept.now.items;
  bytes = c.forget_first.ensures.bytes;
}
