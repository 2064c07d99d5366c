use Rattle.std.proofs.Common.{refl}
use Rattle.wire.specs.Frames.{front_of}
use Rattle.front.proofs.Rounds.{begins_going}
use Rattle.front.proofs.Moments.{none_held_back}
use Rattle.front.proofs.serving.serve_by.Goals as goal

pub returns-clause-served : goal.returns-clause-served
unfolding front_of
returns-clause-served g c = c.rounds.ensures.served (g.L.Line.seen c.args.line.now) c.args.port.now (begins_going g.F.Frames.refuses g.P.Port.steps (g.L.Line.seen c.args.line.now) c.args.port.now (g.F.Frames.kept c.args.frames.now) c.requires refl)

pub returns-clause-prompt : goal.returns-clause-prompt
unfolding front_of
returns-clause-prompt g c =
    let now = g.L.Line.seen c.args.line.now in
    c.rounds.ensures.prompt now c.args.port.now (begins_going g.F.Frames.refuses g.P.Port.steps now c.args.port.now (g.F.Frames.kept c.args.frames.now) c.requires refl) (none_held_back g.F.Frames.refuses g.P.Port.steps now c.args.port.now)
