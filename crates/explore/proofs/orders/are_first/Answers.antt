use Rattle.std.proofs.Common.{◌≡◌, ◌∙◌, sym, arith}
use Rattle.explore.proofs.Beginnings.{one_more, seen_at}
use Rattle.explore.proofs.orders.are_first.Goals as goal

pub returns-then-not-same_event : goal.returns-then-not-same_event
returns-then-not-same_event c = (
  λ e. cc,
  λ first. sym c.if-not-same_event.true ∙ c.same_event.ensures.1 (seen_at (λ e. e.now) c.args.done.now c.args.asked.now c.loop-place.place c.index-done-place.result c.index-asked-place.result (omega arith)
      (omega arith) c.index-done-place.is c.index-asked-place.is first),
)

pub loop-place-preserved : goal.loop-place-preserved
loop-place-preserved c = record {
  lengths = c.loop-place.invariant.lengths;
  same =
      one_more (λ e. e.now) c.args.done.now c.args.asked.now c.loop-place.place c.index-done-place.result c.index-asked-place.result (omega arith) (omega arith) c.index-done-place.is
      c.index-asked-place.is c.loop-place.invariant.same (c.same_event.ensures.0 c.if-not-same_event.false);
}
