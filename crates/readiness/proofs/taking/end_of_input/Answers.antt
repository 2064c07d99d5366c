use Rattle.readiness.specs.Kept.{view}
use Rattle.readiness.proofs.Events.{ended_clean, ended_inside}
use Rattle.readiness.proofs.Silent.{refused_line}
use Rattle.readiness.proofs.taking.end_of_input.Goals as goal

pub returns-in-Ok-clause-keeps : goal.returns-in-Ok-clause-keeps
returns-in-Ok-clause-keeps g c s came = ended_clean (view g.L.ReadyLine.seen c.args.connection.now) s c.finish.new.self c.none.result c.requires.stage c.requires.held came c.in-Ok.ensures.fault c.none.ensures

pub returns-in-Err-clause-keeps : goal.returns-in-Err-clause-keeps
returns-in-Err-clause-keeps g c s came =
    ended_inside (view g.L.ReadyLine.seen c.args.connection.now) s c.finish.new.self c.in-Err.fault (view g.L.ReadyLine.seen c.refuse.new.connection) c.requires.stage c.requires.held came c.in-Err.ensures.fault c.refuse.ensures

pub returns-in-Err-clause-line : goal.returns-in-Err-clause-line
returns-in-Err-clause-line g c = refused_line c.in-Err.fault (record { line = g.L.ReadyLine.seen c.args.connection.now.line; reader = c.finish.new.self; waiting = c.args.connection.now.waiting.items; stage = c.args.connection.now.stage }) (view g.L.ReadyLine.seen c.refuse.new.connection) c.refuse.ensures
