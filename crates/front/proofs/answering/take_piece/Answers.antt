use Rattle.std.proofs.Common.{subst, Bool, ap, Err}
use Rattle.logical_time.specs.declared.fault.Fault.{Fault}
use Rattle.front.specs.Parts.{AnswersHeld}
use Rattle.front.proofs.Fed.{fed_text, fed_fault}
use Rattle.front.proofs.Rounds.{goes_on, cut_served, fault_served}
use Rattle.front.proofs.Moments.{answered_same, taken_same}
use Rattle.front.proofs.answering.take_piece.Goals as goal

pub returns-then-not-answer_held-clause-goes_on : goal.returns-then-not-answer_held-clause-goes_on
returns-then-not-answer_held-clause-goes_on g c n l m p going came =
    let fed = fed_text (Unit {0}) c.args.piece.now (g.F.Frames.kept c.args.reader.now) (g.F.Frames.kept c.feed-fed.new.self) c.feed-fed.result (c.feed-fed.ensures.feeds going.fault) in
    cut_served g.F.Frames.refuses g.P.Port.steps l p (g.F.Frames.kept c.args.reader.now) m c.args.port.now c.args.piece.now (g.L.Line.seen c.args.line.now) (g.F.Frames.kept c.feed-fed.new.self) (g.L.Line.seen c.answer_held.new.line) c.answer_held.new.port going came fed
    (subst (λ (b : Bool). AnswersHeld g.F.Frames.refuses g.P.Port.steps b (g.F.Frames.kept c.feed-fed.new.self) (g.L.Line.seen c.args.line.now) c.args.port.now (g.F.Frames.kept c.answer_held.new.reader) (g.L.Line.seen c.answer_held.new.line) c.answer_held.new.port) c.if-not-answer_held.true c.answer_held.ensures)

pub returns-in-Ok-clause-goes_on : goal.returns-in-Ok-clause-goes_on
returns-in-Ok-clause-goes_on g c n l m p going came =
    let fed = c.in-Ok.ensures.feeds going.fault in
    let held = subst (λ (b : Bool). AnswersHeld g.F.Frames.refuses g.P.Port.steps b (g.F.Frames.kept c.feed-fed.new.self) (g.L.Line.seen c.args.line.now) c.args.port.now (g.F.Frames.kept c.answer_held.new.reader) (g.L.Line.seen c.answer_held.new.line) c.answer_held.new.port) c.if-not-answer_held.false c.answer_held.ensures in
    goes_on g.F.Frames.refuses g.P.Port.steps l p (g.F.Frames.kept c.args.reader.now) m c.args.port.now c.args.piece.now (g.L.Line.seen c.args.line.now) (g.F.Frames.kept c.feed-fed.new.self) (g.F.Frames.kept c.answer_held.new.reader) (g.L.Line.seen c.answer_held.new.line) c.answer_held.new.port going came c.requires fed.0 fed.1 fed.2 held.0 held.1

pub returns-in-Err-clause-goes_on : goal.returns-in-Err-clause-goes_on
returns-in-Err-clause-goes_on g c n l m p going came =
    let fed = fed_fault (Unit {0}) c.args.piece.now (g.F.Frames.kept c.args.reader.now) (g.F.Frames.kept c.feed-fed.new.self) c.in-Err.fault (c.in-Err.ensures.feeds going.fault) in
    let held = subst (λ (b : Bool). AnswersHeld g.F.Frames.refuses g.P.Port.steps b (g.F.Frames.kept c.feed-fed.new.self) (g.L.Line.seen c.args.line.now) c.args.port.now (g.F.Frames.kept c.answer_held.new.reader) (g.L.Line.seen c.answer_held.new.line) c.answer_held.new.port) c.if-not-answer_held.false c.answer_held.ensures in
    fault_served g.F.Frames.refuses g.P.Port.steps l p (g.F.Frames.kept c.args.reader.now) m c.args.port.now c.args.piece.now (g.L.Line.seen c.args.line.now) (g.F.Frames.kept c.feed-fed.new.self) (g.F.Frames.kept c.answer_held.new.reader) (g.L.Line.seen c.answer_held.new.line) c.answer_held.new.port c.in-Err.fault c.refuse.result (g.L.Line.seen c.refuse.new.line) going came c.requires (λ is. c.in-Err.ensures.memory (ap (λ (e : Fault). Err e) is)) fed held.0 held.1 c.refuse.ensures

pub returns-then-not-answer_held-clause-moments : goal.returns-then-not-answer_held-clause-moments
returns-then-not-answer_held-clause-moments g c = answered_same g.F.Frames.refuses g.P.Port.steps c.answer_held.result (g.F.Frames.kept c.feed-fed.new.self) (g.L.Line.seen c.args.line.now) c.args.port.now (g.F.Frames.kept c.answer_held.new.reader) (g.L.Line.seen c.answer_held.new.line) c.answer_held.new.port c.answer_held.ensures

pub returns-in-Ok-clause-moments : goal.returns-in-Ok-clause-moments
returns-in-Ok-clause-moments g c = answered_same g.F.Frames.refuses g.P.Port.steps c.answer_held.result (g.F.Frames.kept c.feed-fed.new.self) (g.L.Line.seen c.args.line.now) c.args.port.now (g.F.Frames.kept c.answer_held.new.reader) (g.L.Line.seen c.answer_held.new.line) c.answer_held.new.port c.answer_held.ensures

pub returns-in-Err-clause-moments : goal.returns-in-Err-clause-moments
returns-in-Err-clause-moments g c = taken_same g.F.Frames.refuses g.P.Port.steps c.answer_held.result (g.F.Frames.kept c.feed-fed.new.self) (g.L.Line.seen c.args.line.now) c.args.port.now (g.F.Frames.kept c.answer_held.new.reader) (g.L.Line.seen c.answer_held.new.line) c.answer_held.new.port c.in-Err.fault c.refuse.result (g.L.Line.seen c.refuse.new.line) c.answer_held.ensures c.refuse.ensures
