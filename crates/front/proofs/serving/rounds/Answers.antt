use Rattle.std.proofs.Common.{rules}
use Rattle.front.proofs.Rounds.{gave_up}
use Rattle.front.proofs.Moments.{gave_up_prompt}
use Rattle.front.proofs.serving.rounds.Goals as goal

pub returns-clause-served : goal.returns-clause-served
returns-clause-served g c l p going = gave_up g.F.Frames.refuses g.P.Port.steps l p (g.F.Frames.kept c.loop-piece.reader) (g.L.Line.seen c.loop-piece.line) c.loop-piece.port c.give_up.result (g.L.Line.seen c.give_up.new.line) (c.loop-piece.invariant.going l p going) (search rules) c.give_up.ensures

pub returns-clause-prompt : goal.returns-clause-prompt
returns-clause-prompt g c l p going was =
    gave_up_prompt g.F.Frames.refuses g.P.Port.steps l p (g.F.Frames.kept c.loop-piece.reader) (g.L.Line.seen c.loop-piece.line) c.loop-piece.port c.give_up.result (g.L.Line.seen c.give_up.new.line) (c.loop-piece.invariant.going l p going)
    (c.loop-piece.invariant.prompt l p going was) c.give_up.ensures

pub returns-in-Some-clause-served : goal.returns-in-Some-clause-served
returns-in-Some-clause-served g c l p going = c.in-Some.ensures.goes_on c.loop-piece._piece l p (c.loop-piece.invariant.going l p going)

pub returns-in-Some-clause-prompt : goal.returns-in-Some-clause-prompt
returns-in-Some-clause-prompt g c l p going was = c.in-Some.ensures.prompt c.loop-piece._piece l p (c.loop-piece.invariant.going l p going) (c.loop-piece.invariant.prompt l p going was)

pub loop-piece-preserved : goal.loop-piece-preserved
loop-piece-preserved g c = record {
  going = λ s p start. c.in_default.ensures.goes_on c.loop-piece._piece s p (c.loop-piece.invariant.going s p start);
  prompt = λ s p start was. c.in_default.ensures.prompt c.loop-piece._piece s p (c.loop-piece.invariant.going s p start) (c.loop-piece.invariant.prompt s p start was);
}
