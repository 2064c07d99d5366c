use Rattle.std.proofs.Common.{◌<◌, ◌≤◌, List, length, refl, subst}
use Rattle.running.proofs.Exact.{one_event_left, one_refusal_left, nothing_left}
use Rattle.running.proofs.course.Course.is_whole.Goals as goal

pub returns-then-next_own-journal : goal.returns-then-next_own-journal
returns-then-next_own-journal c = λ top first done come. (
  λ no. absurd (cc),
  λ only.
      absurd
      (one_event_left top first c.args.seat.now c.args.self.now c.args.self.now done come c.journal-journal.result.now c.journal-journal.ensures.value c.next_own.result
      c.next_own.ensures.passed c.next_own.ensures.own c.requires.refusals c.if-next_own-journal.true only),
)

pub returns-then-self-refusals : goal.returns-then-self-refusals
returns-then-self-refusals c = λ top first done come. (
  λ no. absurd (cc),
  λ only.
      absurd
      (one_refusal_left top first c.args.seat.now c.args.self.now c.args.self.now done come c.journal-journal.result.now c.journal-journal.ensures.value c.next_own.result
      c.next_own.ensures.passed c.next_own.ensures.own c.requires.refusals
      (subst (λ (l : List _). c.args.self.now.refusals < length l) c.refusals.ensures c.if-self-refusals.true) only),
)

pub returns : goal.returns
returns c = λ top first done come. (
  λ on.
      nothing_left top first c.args.seat.now c.args.self.now c.args.self.now done come c.journal-journal.result.now c.journal-journal.ensures.value c.next_own.result
      c.next_own.ensures.passed c.next_own.ensures.own c.requires.refusals c.next_own.ensures.within.1 c.if-next_own-journal.false
      (subst (λ (l : List _). length l ≤ c.args.self.now.refusals) c.refusals.ensures c.if-self-refusals.false),
  λ only. refl,
)
