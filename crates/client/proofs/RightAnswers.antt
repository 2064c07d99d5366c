-- A read that completes from right rows is answered right.
use Rattle.std.proofs.Common.{◌≡◌, ◌∙◌, ◌+◌, max, ap, refl, Some, map}
use Rattle.messages.specs.declared.envelope.Envelope.{Envelope}
use Rattle.messages.specs.declared.outcome.Outcome.TheVariants as outcome
use Rattle.messages.specs.Rounds.{answer_of}
use Rattle.planner.proofs.Right.{right_joined}
use Rattle.read_txn.specs.Completed.{shown}
use Rattle.client.specs.declared.kept.SessionKept.{SessionKept}
use Rattle.client.specs.Steps.{heard_kept}
use Rattle.client.specs.Right.{AnswersRight}

pub answers_right : (k l : SessionKept) (e : Envelope) → l ≡ heard_kept (max k.clock e.time + 1) k e.from e.body → AnswersRight k e l.untaken
answers_right k l e state = record {
  right = λ read time rows history completes right.
      ap (λ (m : SessionKept). m.untaken) (state ∙ completes)
      ∙ ap (λ answer. Some (k.count, outcome.Read time answer)) (right_joined read (map shown rows) (answer_of read rows) refl history time right);
}
