use Rattle.std.proofs.Common.{rules}
use Rattle.shard.proofs.in_code.PartSteps.{prepares_kept, prepares_nothing}
use Rattle.shard.proofs.parts.prepare_remote.Goals.{in_default-via-in-Some+in_default, in_default-via-in_default}
use Rattle.write_txn.specs.Ledger.{state_of}
use Rattle.write_txn.proofs.Replicas.{is_kept}
use Rattle.shard.proofs.in_code.QuietSteps.{contrary, unkept}
use Rattle.shard.proofs.parts.prepare_remote.Goals as goal

pub returns-in_default-clause-step : goal.returns-in_default-clause-step
returns-in_default-clause-step c = λ top me a r apart.
    elim c.in_default.branch [
      | in_default-via-in-Some+in_default w ↦ rw w.kept-is (prepares_nothing top me c.args.clock c.args.kept.now a c.args.txn c.args.outbox.now.sent r (search rules))
      | in_default-via-in_default w ↦ rw w.kept-is (prepares_nothing top me c.args.clock c.args.kept.now a c.args.txn c.args.outbox.now.sent r (search rules))
    ]

pub returns-clause-step : goal.returns-clause-step
returns-clause-step c = λ top me a r apart.
    prepares_kept top me c.args.clock c.args.kept.now c.prepare_kept.new.self a c.args.txn c.in-Some-Kept.held c.args.outbox.now.sent c.post.new.self.sent r (search rules) apart (search rules) (search rules) c.prepare_kept.ensures.store c.prepare_kept.ensures.early (search rules)

pub returns-in_err-reserve-clause-quiet : goal.returns-in_err-reserve-clause-quiet
returns-in_err-reserve-clause-quiet c = λ top me a r e.
    contrary (is_kept (state_of c.args.kept.now.transactions.ledger c.args.txn)) (search rules) (unkept top me c.args.clock c.args.kept.now a c.args.txn r e)

pub returns-in_err-prepare_kept-clause-quiet : goal.returns-in_err-prepare_kept-clause-quiet
returns-in_err-prepare_kept-clause-quiet c = λ top me a r e.
    contrary (is_kept (state_of c.args.kept.now.transactions.ledger c.args.txn)) (search rules) (unkept top me c.args.clock c.args.kept.now a c.args.txn r e)
