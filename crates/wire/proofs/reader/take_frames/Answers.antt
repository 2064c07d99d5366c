use Rattle.std.proofs.Common.{◌≤◌, ◌+◌, length, arith, rules}
use Rattle.std.proofs.lemmas.List.{length-drop}
use Rattle.wire.proofs.Whole.{whole_at, pushed, spelled_more, kept_more}
use Rattle.wire.proofs.reader.take_frames.Goals as goal

pub overflow_add-at : goal.overflow_add-at
overflow_add-at c =
    let bytes = c.args.bytes.now in
    let at = c.loop-at.at in
    let w = whole_at bytes at c.in-Whole.used c.in-Whole.op c.in_ok-look.field-0 (λ i. omega (arith, c.type_inv.bytes i)) c.in_ok-look.ensures c.in-Whole.is in
    let bound : at + c.in-Whole.used ≤ length bytes = omega (arith, w.within, length-drop at bytes, c.loop-at.invariant.bound) in
    search rules

pub loop-at-smaller : goal.loop-at-smaller
loop-at-smaller c =
    let w = whole_at c.args.bytes.now c.loop-at.at c.in-Whole.used c.in-Whole.op c.in_ok-look.field-0 (λ i. omega (arith, c.type_inv.bytes i)) c.in_ok-look.ensures c.in-Whole.is in
    omega (arith, w.some, c.loop-at.invariant.bound)

pub loop-at-preserved : goal.loop-at-preserved
loop-at-preserved c =
    let bytes = c.args.bytes.now in
    let at = c.loop-at.at in
    let op = c.in-Whole.op in
    let used = c.in-Whole.used in
    let held = c.loop-at.held.items in
    let w = whole_at bytes at used op c.in_ok-look.field-0 (λ i. omega (arith, c.type_inv.bytes i)) c.in_ok-look.ensures c.in-Whole.is in
    rw c.in_ok-push_back-in-Whole.ensures.items (record {
      bound = omega (arith, w.within, length-drop at bytes, c.loop-at.invariant.bound);
      text = pushed held at used bytes _ op w c.loop-at.invariant.text;
      spelled = λ before. spelled_more held op (c.loop-at.invariant.spelled before) w.spelled;
      kept = kept_more _ held op c.loop-at.invariant.kept;
    })
