use Rattle.std.proofs.Common.{◌≡◌, ℕ, map, take}
use Rattle.slice.specs.declared.read.Read.{Read}
use Rattle.messages.specs.declared.rows_at.AtTime.{AtTime}
use Rattle.commit_check.specs.Waiting.{AnswersBy, freed, reply}
use Rattle.commit_check.proofs.freeing.freed_answers.Given as goal

-- the reads so far that are let go are answered
abbrev pub invariant-loop-wait : goal.invariant-loop-wait
invariant-loop-wait g l = (f : ℕ → Read → AtTime) → AnswersBy (g.A.AnswersAt.answered l.answers) f
    → l.envelopes.items ≡ map (reply l.me l.time f) (freed l.txn l.cause (take l.wait-index l.waits))
