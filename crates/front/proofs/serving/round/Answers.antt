use Rattle.std.proofs.Common.{◌≡◌, ◌∙◌, ◌<◌, ap, subst, rules}
use Rattle.front.specs.Lines.{LineValue, ends, awaited}
use Rattle.front.specs.Parts.{EndsInput}
use Rattle.front.proofs.Buffers.{reads-none, reads-some}
use Rattle.front.proofs.Rounds.{input_served, going_awaited}
use Rattle.front.proofs.Moments.{awaits_prompt, same_prompt, input_prompt}
use Rattle.front.proofs.serving.round.Goals as goal

pub returns-in-Some-eq0-clause-goes_on : goal.returns-in-Some-eq0-clause-goes_on
returns-in-Some-eq0-clause-goes_on g c n l p going =
    let now = g.L.Line.seen c.args.line.now in
    let ended : g.L.Line.seen c.read.new.self ≡ ends (awaited now) = c.in-Some-eq0.ensures.line ∙ reads-none c.in-Some-eq0.field-0 c.read.new.buffer now c.in-Some-eq0.field-0-test in
    input_served g.F.Frames.refuses g.P.Port.steps l p (g.F.Frames.kept c.args.reader.now) (awaited now) c.args.port.now c.end_of_input.result (g.L.Line.seen c.end_of_input.new.line)
    (going_awaited g.F.Frames.refuses g.P.Port.steps l p (g.F.Frames.kept c.args.reader.now) now c.args.port.now going)
    (subst (λ (m : LineValue). EndsInput (g.F.Frames.kept c.args.reader.now) c.end_of_input.result m (g.L.Line.seen c.end_of_input.new.line)) ended c.end_of_input.ensures)

pub returns-in-Some-clause-goes_on : goal.returns-in-Some-clause-goes_on
returns-in-Some-clause-goes_on g c n l p going =
    let now = g.L.Line.seen c.args.line.now in
    let some : 0 < c.in-Some.n = search rules in
    c.take_piece.ensures.goes_on n l (awaited now) p (going_awaited g.F.Frames.refuses g.P.Port.steps l p (g.F.Frames.kept c.args.reader.now) now c.args.port.now going)
    (c.in-Some.ensures.line ∙ reads-some c.in-Some.n c.read.new.buffer now some)

pub returns-in-None-clause-goes_on : goal.returns-in-None-clause-goes_on
returns-in-None-clause-goes_on g c = search rules

pub returns-in-Some-eq0-clause-prompt : goal.returns-in-Some-eq0-clause-prompt
returns-in-Some-eq0-clause-prompt g c n l p going was =
    let now = g.L.Line.seen c.args.line.now in
    let ended : g.L.Line.seen c.read.new.self ≡ ends (awaited now) = c.in-Some-eq0.ensures.line ∙ reads-none c.in-Some-eq0.field-0 c.read.new.buffer now c.in-Some-eq0.field-0-test in
    input_prompt g.F.Frames.refuses g.P.Port.steps l p (g.F.Frames.kept c.args.reader.now) now c.args.port.now c.end_of_input.result (g.L.Line.seen c.read.new.self) (g.L.Line.seen c.end_of_input.new.line) going was
    (ap (λ (x : LineValue). x.moments) ended) c.end_of_input.ensures

pub returns-in-Some-clause-prompt : goal.returns-in-Some-clause-prompt
returns-in-Some-clause-prompt g c n l p going was =
    let now = g.L.Line.seen c.args.line.now in
    let some : 0 < c.in-Some.n = search rules in
    let came = ap (λ (x : LineValue). x.moments) (c.in-Some.ensures.line ∙ reads-some c.in-Some.n c.read.new.buffer now some) in
    same_prompt g.F.Frames.refuses g.P.Port.steps l p (awaited now).moments (g.L.Line.seen c.take_piece.new.line).moments (c.take_piece.ensures.moments ∙ came)
    (awaits_prompt g.F.Frames.refuses g.P.Port.steps l p (g.F.Frames.kept c.args.reader.now) now c.args.port.now going was)

pub returns-in-None-clause-prompt : goal.returns-in-None-clause-prompt
returns-in-None-clause-prompt g c n l p going was =
    same_prompt g.F.Frames.refuses g.P.Port.steps l p (g.L.Line.seen c.args.line.now).moments (g.L.Line.seen c.read.new.self).moments (ap (λ (x : LineValue). x.moments) c.in-None.ensures.line) was
