use Rattle.std.proofs.Common.{◌≡◌, ◌<◌, ◌∙◌, ap, sym, true, false, List, length, rules, arith}
use Rattle.messages.specs.declared.envelope.Envelope.{Envelope}
use Rattle.actors.specs.Resting.{IsFlushed}
use Rattle.actors.proofs.Lists.{each_more, all_of}
use Rattle.actors.proofs.Lanes.{same_ends, same_rings, still_through, waiting_set}
use Rattle.actors.proofs.lane.flush.Goals.{then-branch, else-branch}
use Rattle.actors.proofs.lane.flush.Goals as goal

pub loop-place-preserved : goal.loop-place-preserved
loop-place-preserved c =
    let inv = c.loop-place.invariant in
    let d = c.index_mut.result.now in
    let h = c.index_mut.ensures.value in
    let lt : c.loop-place.place < length c.loop-place.lanes.items = search rules in
    let count = waiting_set _ _ d c.flush.new.self lt h in
    let same : c.in_ok-flush.field-0 ≡ false → length c.flush.new.self.waiting ≡ length d.waiting = λ quiet. ap (λ (es : List Envelope). length es) (c.in_ok-flush.ensures.still quiet).1 in
    record {
      ends = same_ends _ _ d c.flush.new.self h c.flush.ensures.to ∙ inv.ends;
      whole = λ node. still_through _ _ d c.flush.new.self node lt h c.flush.ensures.to c.flush.ensures.whole ∙ inv.whole node;
      still = elim c.if-branch.branch [
        | then-branch w ↦ λ m. absurd (let e : true ≡ false = sym w.moved-is ∙ m in cc)
        | else-branch w ↦ λ m. let quiet : c.in_ok-flush.field-0 ≡ false = search rules in same_rings _ _ d c.flush.new.self h (c.in_ok-flush.ensures.still quiet).0 ∙ inv.still (sym w.moved-is ∙ m)
      ];
      waiting = elim c.if-branch.branch [
        | then-branch w ↦ λ m. absurd (let e : true ≡ false = sym w.moved-is ∙ m in cc)
        | else-branch w ↦ λ m. let quiet : c.in_ok-flush.field-0 ≡ false = search rules in omega (arith, count, same quiet, inv.waiting (sym w.moved-is ∙ m))
      ];
      most = elim c.if-branch.branch [
        | then-branch w ↦ let moved : c.in_ok-flush.field-0 ≡ true = search rules in omega (arith, count, c.in_ok-flush.ensures.fewer moved, inv.most)
        | else-branch w ↦ let quiet : c.in_ok-flush.field-0 ≡ false = search rules in omega (arith, count, same quiet, inv.most)
      ];
      fewer = elim c.if-branch.branch [
        | then-branch w ↦ λ m. let moved : c.in_ok-flush.field-0 ≡ true = search rules in omega (arith, count, c.in_ok-flush.ensures.fewer moved, inv.most)
        | else-branch w ↦ λ m. let quiet : c.in_ok-flush.field-0 ≡ false = search rules in omega (arith, count, same quiet, inv.fewer (sym w.moved-is ∙ m))
      ];
      flushed = each_more IsFlushed _ _ c.flush.new.self lt inv.flushed c.in_ok-flush.ensures.flushed;
    }

pub returns-clause-flushed : goal.returns-clause-flushed
returns-clause-flushed c = all_of IsFlushed c.loop-place.lanes.items (λ k w lt at. c.loop-place.invariant.flushed k w (search rules) at)

pub returns-in_err-flush-clause-ends : goal.returns-in_err-flush-clause-ends
returns-in_err-flush-clause-ends c =
    same_ends _ _ c.index_mut.result.now c.flush.new.self c.index_mut.ensures.value c.flush.ensures.to ∙ c.loop-place.invariant.ends

pub returns-in_err-flush-clause-whole : goal.returns-in_err-flush-clause-whole
returns-in_err-flush-clause-whole c =
    let lt : c.loop-place.place < length c.loop-place.lanes.items = search rules in
    λ node. still_through _ _ c.index_mut.result.now c.flush.new.self node lt c.index_mut.ensures.value c.flush.ensures.to c.flush.ensures.whole ∙ c.loop-place.invariant.whole node
