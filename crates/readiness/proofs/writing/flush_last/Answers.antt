use Rattle.std.proofs.Common.{◌∙◌, sym}
use Rattle.readiness.specs.Kept.{view}
use Rattle.readiness.proofs.Flushes.{last_written, last_flushed}
use Rattle.readiness.proofs.writing.flush_last.Goals as goal

pub returns-in-Ending-clause-keeps : goal.returns-in-Ending-clause-keeps
returns-in-Ending-clause-keeps g c =
    last_written (view g.L.ReadyLine.seen c.args.connection.now) (g.L.ReadyLine.seen c.write_last-connection.new.line) c.in-Ending.last c.write_last-connection.result (sym c.replace.ensures.value ∙ c.in-Ending.is) c.requires c.write_last-connection.ensures

pub returns-in-Ending-clause-flushed : goal.returns-in-Ending-clause-flushed
returns-in-Ending-clause-flushed g c =
    last_flushed (view g.L.ReadyLine.seen c.args.connection.now) (g.L.ReadyLine.seen c.write_last-connection.new.line) c.in-Ending.last c.write_last-connection.result (sym c.replace.ensures.value ∙ c.in-Ending.is) c.requires c.write_last-connection.ensures
