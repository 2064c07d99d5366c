use Rattle.std.proofs.Common.{◌∙◌, sym}
use Rattle.slice.proofs.SetBetween.{none_between}
use Rattle.slice.proofs.meeting.find_between.Goals as goal

pub returns : goal.returns
returns c =
    none_between c.args.low.now c.args.high.now c.args.names.now.keys
    (sym c.is_open.ensures ∙ c.if-is_open.false)
    (sym c.le.ensures ∙ c.if-le.false)
