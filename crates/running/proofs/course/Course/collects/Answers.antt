use Rattle.std.proofs.Common.{◌≡◌, ◌∷◌, [], refl, arith}
use Rattle.messages.specs.declared.event.ActorEvent.TheVariants as event
use Rattle.actors.specs.Journals.{submissions}
use Rattle.running.proofs.Exact.{own_came, own_differs}
use Rattle.running.proofs.course.Course.collects.Goals as goal

pub returns-then-not-is_collection-clause-stopped : goal.returns-then-not-is_collection-clause-stopped
returns-then-not-is_collection-clause-stopped c = λ top first done come off.
    own_differs top first c.args.seat.now c.args.self.now c.args.self.now done come c.journal-journal.result.now c.journal-journal.ensures.value c.next_own-self.result
    c.next_own-self.ensures.passed (event.Collect c.args.time) _ c.item_at.ensures refl c.next_own-self.ensures.own c.if-not-is_collection.ensures

pub returns-clause-came : goal.returns-clause-came
returns-clause-came c = λ top first done come on.
    let none : submissions (event.Collect c.args.time ∷ []) ≡ 0 = refl in
    own_came top first c.args.seat.now c.args.self.now _ done come c.journal-journal.result.now c.journal-journal.ensures.value c.next_own-self.result
    c.next_own-self.ensures.passed (event.Collect c.args.time) _ c.item_at.ensures refl refl c.if-not-is_collection.ensures refl refl (omega (arith, none)) refl
