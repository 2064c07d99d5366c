use Rattle.readiness.proofs.Flushes.{last-all, last-full, last-failed}
use Rattle.readiness.proofs.writing.write_last.Goals as goal

pub returns-in-All : goal.returns-in-All
returns-in-All g c =
    last-all c.args.last c.as_slice.result.now c.advance.new.self c.push-sent.result.gone c.push-sent.result.flow (g.L.ReadyLine.seen c.args.line.now) (g.L.ReadyLine.seen c.push-sent.new.line) c.in-All.is c.as_slice.ensures c.advance.ensures c.push-sent.ensures.pushed

pub returns-in-Full : goal.returns-in-Full
returns-in-Full g c =
    last-full c.args.last c.as_slice.result.now c.advance.new.self c.push-sent.result.gone c.push-sent.result.flow (g.L.ReadyLine.seen c.args.line.now) (g.L.ReadyLine.seen c.push-sent.new.line) c.in-Full.is c.as_slice.ensures c.advance.ensures c.push-sent.ensures.pushed

pub returns-in-Failed : goal.returns-in-Failed
returns-in-Failed g c =
    last-failed c.args.last c.as_slice.result.now c.push-sent.result.gone c.push-sent.result.flow (g.L.ReadyLine.seen c.args.line.now) (g.L.ReadyLine.seen c.push-sent.new.line) c.in-Failed.is c.as_slice.ensures c.push-sent.ensures.pushed
