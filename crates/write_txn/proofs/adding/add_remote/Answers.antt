use Rattle.std.proofs.Common.{Some, ap, subst, ◌≡◌, ◌∙◌}
use Rattle.logical_time.specs.Stamps.{TxnValue, WriterValue}
use Rattle.pending.specs.Marks.{MarkList, time_at}
use Rattle.write_txn.specs.declared.open.Open.TheVariants as in_open
use Rattle.write_txn.specs.Ledger.{Holds, Becomes, state_of, state_ready}
use Rattle.write_txn.proofs.StepMarks.{becomes_twice, held_marks}
use Rattle.write_txn.proofs.adding.add_remote.Goals as goal

held : (c : goal.After-ready) → Becomes c.args.remote.ballot.part.writer.txn (state_ready c.args.time (Some (Holds (in_open.Remote c.args.remote)))) c.args.ledger.now c.ready.new.self
held c =
    let named : c.txn-txn.result ≡ c.args.remote.ballot.part.writer.txn = c.txn-txn.ensures ∙ ap (λ (w : WriterValue). w.txn) c.writer.ensures in
    let ready = subst (λ (t : TxnValue). Becomes t (state_ready c.args.time (state_of c.add_marked.new.ledger t)) c.add_marked.new.ledger c.ready.new.self) named c.ready.ensures.ready in
    becomes_twice c.args.ledger.now c.add_marked.new.ledger c.ready.new.self c.args.remote.ballot.part.writer.txn (Some (Holds (in_open.Remote c.args.remote))) (state_ready c.args.time) c.in-Ok-add_marked.ensures.ok ready

pub returns-in-Ok-add_marked-clause-marks : goal.returns-in-Ok-add_marked-clause-marks
returns-in-Ok-add_marked-clause-marks c r t =
    ap (λ (m : MarkList). time_at m r t) c.in-Ok-add_marked.ensures.marks
    ∙ held_marks c.args.marks.now c.mark_remote.new.marks c.args.ledger.now c.ready.new.self c.args.remote c.args.time c.requires.marks c.requires.unknown c.in-Ok.ensures.ok (held c) r t

pub returns-in-Ok-add_marked-clause-ok : goal.returns-in-Ok-add_marked-clause-ok
returns-in-Ok-add_marked-clause-ok c = held c
