use Rattle.std.proofs.Common.{◌≡◌, ◌∙◌, Some, slice_get, refl, ap, sym}
use Rattle.running.proofs.AskedMore.{came_by_refusal}
use Rattle.running.proofs.Exact.{refusal_stopped}
use Rattle.running.proofs.course.Course.refuses.Goals as goal

pub returns-then-not-is_refusal-clause-stopped : goal.returns-then-not-is_refusal-clause-stopped
returns-then-not-is_refusal-clause-stopped c = λ top first x done some come off.
    refusal_stopped top first c.args.seat.now c.args.self.now done come c.requires.refusals x c.args.fault some
    (λ is.
    let no = c.if-not-is_refusal.ensures.1 (c.item_at.ensures ∙ ap (λ l. slice_get l c.args.self.now.refusals) c.refusals-refusals.ensures ∙ is) in
    absurd (cc))

pub returns-clause-came : goal.returns-clause-came
returns-clause-came c = λ top first x done some come on.
    let here : slice_get c.args.seat.now.refusals c.args.self.now.refusals ≡ Some (c.args.self.now.accepted, c.args.fault) =
    ap (λ l. slice_get l c.args.self.now.refusals) (sym c.refusals-refusals.ensures) ∙ sym c.item_at.ensures ∙ c.if-not-is_refusal.ensures.0 refl in
    came_by_refusal top first c.args.seat.now c.args.self.now _ done x (c.args.self.now.accepted, c.args.fault) come some refl here refl refl refl refl
