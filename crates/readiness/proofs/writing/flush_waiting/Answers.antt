use Rattle.std.proofs.Common.{refl}
use Rattle.readiness.specs.Kept.{view}
use Rattle.readiness.proofs.Flushes.{waiting_flushed}
use Rattle.readiness.proofs.writing.flush_waiting.Goals as goal

pub returns-clause-flushed : goal.returns-clause-flushed
returns-clause-flushed g c =
    waiting_flushed (view g.L.ReadyLine.seen c.args.connection.now) _ c.as_slice.result.now c.push-sent.result.gone c.push-sent.result.flow c.as_slice.ensures c.push-sent.ensures.within c.advance.ensures.items refl refl c.push-sent.ensures.pushed
