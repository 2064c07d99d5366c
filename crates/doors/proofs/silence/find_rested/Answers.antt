use Rattle.doors.proofs.silence.find_rested.Goals as goal

pub returns-then-not-is_among-clause-stood : goal.returns-then-not-is_among-clause-stood
returns-then-not-is_among-clause-stood g c = c.is_answered.ensures.yes c.if-is_answered.true
