use Rattle.commit_check.proofs.reading_at.answer_at.Goals as goal

pub returns-clause-ok : goal.returns-clause-ok
returns-clause-ok c = λ a keeps low. c.answer.ensures.ok a keeps low tt
