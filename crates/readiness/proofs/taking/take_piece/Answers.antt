use Rattle.readiness.specs.Kept.{view}
use Rattle.readiness.proofs.Events.{piece_taken, piece_stopped}
use Rattle.readiness.proofs.Silent.{stopped_line}
use Rattle.readiness.proofs.taking.take_piece.Goals as goal

pub returns-in-Ok-clause-keeps : goal.returns-in-Ok-clause-keeps
returns-in-Ok-clause-keeps g c s came = piece_taken c.args.piece.now (view g.L.ReadyLine.seen c.args.connection.now) s c.feed.new.self c.requires.stage came (λ none. c.in-Ok.ensures.feeds none)

pub returns-in-Err-clause-keeps : goal.returns-in-Err-clause-keeps
returns-in-Err-clause-keeps g c s came =
    piece_stopped (Unit {0}) c.args.piece.now (view g.L.ReadyLine.seen c.args.connection.now) s c.feed.new.self c.in-Err.fault c.stop_at.result (view g.L.ReadyLine.seen c.stop_at.new.connection) c.requires.stage came (λ none. c.in-Err.ensures.feeds none) c.stop_at.ensures

pub returns-in-Err-clause-line : goal.returns-in-Err-clause-line
returns-in-Err-clause-line g c = stopped_line c.in-Err.fault c.stop_at.result (record { line = g.L.ReadyLine.seen c.args.connection.now.line; reader = c.feed.new.self; waiting = c.args.connection.now.waiting.items; stage = c.args.connection.now.stage }) (view g.L.ReadyLine.seen c.stop_at.new.connection) c.stop_at.ensures
