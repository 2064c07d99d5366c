use Rattle.std.proofs.Common.{◌∙◌}
use Rattle.slice.proofs.SetBetween.{listed_between}
use Rattle.slice.proofs.meeting.has_name_between.Goals as goal

pub returns-clause-listed : goal.returns-clause-listed
returns-clause-listed c = λ listed same. c.find_between.ensures ∙ listed_between c.args.low.now c.args.high.now c.args.names.now.keys listed same
