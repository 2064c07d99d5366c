-- How an operation may end: a write is committed, a read is answered or given up, and a session moved to where it was
-- asked to.
use Rattle.std.proofs.Common.{ℕ, List, sym, subst}
use Rattle.logical_time.specs.Stamps.{StampValue}
use Rattle.column_family.specs.declared.batch.Change.{Change}
use Rattle.slice.specs.declared.read.Read.{Read}
use Rattle.slice.specs.declared.read.AnsweredRow.{AnsweredRow}
use Rattle.messages.specs.declared.op.Op.{Op}
use Rattle.messages.specs.declared.op.Op.TheVariants as op
use Rattle.messages.specs.declared.outcome.Outcome.{Outcome}
use Rattle.messages.specs.declared.outcome.Outcome.TheVariants as outcome
use Rattle.world.specs.Promises.{Fits}

-- what holds of each of these
pub record EndCases (P : Op → Outcome → Type 0) : Type 0 where
  pub wrote : (batch : List Change) (commit : ℕ) (stamp : StampValue) → P (op.Batch batch) (outcome.Wrote commit stamp)
  pub answered : (read : Read) (time : ℕ) (answer : List AnsweredRow) → P (op.Read read) (outcome.Read time answer)
  pub given_up : (read : Read) → P (op.Read read) outcome.Collected
  pub moved : (dc floor : ℕ) → P (op.Move dc) (outcome.Moved dc floor)

-- holds of each operation and each outcome that fits it
pub end_cases : (P : Op → Outcome → Type 0) → EndCases P → (o : Op) (r : Outcome) → Fits o r → P o r
end_cases P c (op.Batch batch) (outcome.Wrote commit stamp) k = c.wrote batch commit stamp
end_cases P c (op.Read read) (outcome.Read time answer) k = c.answered read time answer
end_cases P c (op.Read read) outcome.Collected k = c.given_up read
end_cases P c (op.Move dc) (outcome.Moved there floor) k = subst (λ z. P (op.Move dc) (outcome.Moved z floor)) (sym k) (c.moved dc floor)
end_cases P c (op.Batch batch) (outcome.Read time answer) k = absurd k
end_cases P c (op.Batch batch) outcome.Collected k = absurd k
end_cases P c (op.Batch batch) (outcome.Moved there floor) k = absurd k
end_cases P c (op.Read read) (outcome.Wrote commit stamp) k = absurd k
end_cases P c (op.Read read) (outcome.Moved there floor) k = absurd k
end_cases P c (op.Move dc) (outcome.Wrote commit stamp) k = absurd k
end_cases P c (op.Move dc) (outcome.Read time answer) k = absurd k
end_cases P c (op.Move dc) outcome.Collected k = absurd k
