use Rattle.std.proofs.Common.{subst}
use Rattle.readiness.specs.declared.writing.Flow.{Flow}
use Rattle.readiness.specs.Kept.{view}
use Rattle.readiness.specs.Turns.{WaitingFlushed}
use Rattle.readiness.proofs.Flushes.{all_went, some_went, none_waits, write_failed, flushed_last, full_flushed}
use Rattle.readiness.proofs.writing.flush.Goals as goal

pub returns-in-All-clause-keeps : goal.returns-in-All-clause-keeps
returns-in-All-clause-keeps g c l past k =
    let v = view g.L.ReadyLine.seen c.args.connection.now in
    let w = view g.L.ReadyLine.seen c.flush_waiting.new.connection in
    let h = subst (λ (f : Flow). WaitingFlushed f v w) c.in-All.is c.flush_waiting.ensures.flushed in
    c.flush_last.ensures.keeps l past (all_went v w (c.has_failed.ensures.no c.if-has_failed.false) h l past k)

pub returns-in-All-clause-flushed : goal.returns-in-All-clause-flushed
returns-in-All-clause-flushed g c =
    let v = view g.L.ReadyLine.seen c.args.connection.now in
    let w = view g.L.ReadyLine.seen c.flush_waiting.new.connection in
    let h = subst (λ (f : Flow). WaitingFlushed f v w) c.in-All.is c.flush_waiting.ensures.flushed in
    flushed_last v w (view g.L.ReadyLine.seen c.flush_last.new.connection) h c.flush_last.ensures.flushed

pub flush_last-requires : goal.flush_last-requires
flush_last-requires g c =
    let v = view g.L.ReadyLine.seen c.args.connection.now in
    let w = view g.L.ReadyLine.seen c.flush_waiting.new.connection in
    none_waits v w (subst (λ (f : Flow). WaitingFlushed f v w) c.in-All.is c.flush_waiting.ensures.flushed)

pub returns-in-Full-clause-keeps : goal.returns-in-Full-clause-keeps
returns-in-Full-clause-keeps g c =
    let v = view g.L.ReadyLine.seen c.args.connection.now in
    let w = view g.L.ReadyLine.seen c.flush_waiting.new.connection in
    some_went v w (c.has_failed.ensures.no c.if-has_failed.false) (subst (λ (f : Flow). WaitingFlushed f v w) c.in-Full.is c.flush_waiting.ensures.flushed)

pub returns-in-Full-clause-flushed : goal.returns-in-Full-clause-flushed
returns-in-Full-clause-flushed g c =
    let v = view g.L.ReadyLine.seen c.args.connection.now in
    let w = view g.L.ReadyLine.seen c.flush_waiting.new.connection in
    full_flushed v w (subst (λ (f : Flow). WaitingFlushed f v w) c.in-Full.is c.flush_waiting.ensures.flushed)

pub returns-in-Failed-clause-keeps : goal.returns-in-Failed-clause-keeps
returns-in-Failed-clause-keeps g c =
    let v = view g.L.ReadyLine.seen c.args.connection.now in
    let w = view g.L.ReadyLine.seen c.flush_waiting.new.connection in
    write_failed v w (c.has_failed.ensures.no c.if-has_failed.false) (subst (λ (f : Flow). WaitingFlushed f v w) c.in-Failed.is c.flush_waiting.ensures.flushed)
