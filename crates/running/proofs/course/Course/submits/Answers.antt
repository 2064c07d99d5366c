use Rattle.std.proofs.Common.{◌≡◌, ◌∷◌, [], refl}
use Rattle.messages.specs.declared.event.ActorEvent.TheVariants as event
use Rattle.actors.specs.Journals.{submissions}
use Rattle.running.proofs.Exact.{own_came, own_differs}
use Rattle.running.proofs.course.Course.submits.Goals as goal

pub returns-then-not-is_submission-clause-stopped : goal.returns-then-not-is_submission-clause-stopped
returns-then-not-is_submission-clause-stopped c = λ top first done none come off.
    own_differs top first c.args.seat.now c.args.self.now c.args.self.now done come c.journal-journal.result.now c.journal-journal.ensures.value c.next_own-self.result
    c.next_own-self.ensures.passed (event.Submit c.args.op.now) _ c.item_at.ensures none c.next_own-self.ensures.own c.if-not-is_submission.ensures

pub returns-clause-came : goal.returns-clause-came
returns-clause-came c = λ top first done none come on.
    let one : submissions (event.Submit c.args.op.now ∷ []) ≡ 1 = refl in
    own_came top first c.args.seat.now c.args.self.now _ done come c.journal-journal.result.now c.journal-journal.ensures.value c.next_own-self.result
    c.next_own-self.ensures.passed (event.Submit c.args.op.now) _ c.item_at.ensures none refl c.if-not-is_submission.ensures refl refl refl c.home_after-self.ensures
