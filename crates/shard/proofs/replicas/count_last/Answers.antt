use Rattle.std.proofs.Common.{rules, ◌∙◌, ◌++◌, ◌==◌, ◌&&◌, ap, refl, Bool, false, List, length}
use Rattle.txn_state.specs.RemoteBallot.{missing_in}
use Rattle.messages.specs.declared.envelope.Envelope.{Envelope}
use Rattle.write_txn.specs.declared.open.Open.TheVariants as in_open
use Rattle.write_txn.specs.Ledger.{LedgerValue, state_of, remote_with, state_with}
use Rattle.shard.proofs.in_code.NoticeSteps.{ready_room, missing_passes, missing_settles, missing_so}
use Rattle.shard.proofs.in_code.PartSteps.{known_open}
use Rattle.shard.proofs.in_code.QuietSteps.{contrary, fits, missing_waits, not_last_missing}
use Rattle.shard.proofs.replicas.count_last.Goals.{in_default-via-in-Some+in_default, in_default-via-in_default}
use Rattle.shard.proofs.replicas.count_last.Goals as goal

pub returns-in_default-clause-step : goal.returns-in_default-clause-step
returns-in_default-clause-step c = λ top me a r apart.
    elim c.in_default.branch [
      | in_default-via-in-Some+in_default w ↦ missing_passes c.args.missing top me c.args.clock c.args.kept.now a c.args.txn c.args.outbox.now.sent r c.requires (search rules)
      | in_default-via-in_default w ↦ missing_passes c.args.missing top me c.args.clock c.args.kept.now a c.args.txn c.args.outbox.now.sent r c.requires (search rules)
    ]

pub conclude-requires-clause-settles : goal.conclude-requires-clause-settles
conclude-requires-clause-settles c =
    let remote = c.in-Some-Remote.remote in
    let ledger = c.args.kept.now.transactions.ledger in
    let room = c.make_room_if.new.transactions in
    missing_settles c.args.missing c.args.txn c.args.clock c.now-time.result remote (record c.args.kept.now { transactions = c.count.new.self }) room.ledger
    (state_with c.args.missing (state_of room.ledger c.args.txn)) c.stamp.result c.in_ok-complete.complete (search rules) c.now-time.ensures
    (ap (state_with c.args.missing) (ap (λ (x : LedgerValue). state_of x c.args.txn) c.make_room_if.ensures.ledger ∙ known_open (state_of ledger c.args.txn) (in_open.Remote remote) (search rules))) c.stamp.ensures
    c.in_ok-complete.ensures.complete c.in_ok-complete.ensures.ok
    (ready_room c.args.txn remote ledger room c.count.new.self c.is_decided.result ((missing_in (remote_with remote c.args.missing).ballot == 0) && (length remote.ballot.notices.cohorts == 0))
    (c.is_decided.ensures ∙ ap (λ (b : Bool). b && (length remote.ballot.notices.cohorts == 0)) c.is_last-is_ready.ensures) (search rules) c.count.ensures.store c.in_ok-make_room_if.ensures.ok)

pub returns-clause-step : goal.returns-clause-step
returns-clause-step c = λ top me a r apart.
    let remote = c.in-Some-Remote.remote in
    let es = c.in_ok-envelopes-in-Some-Remote.envelopes.items in
    missing_so c.args.missing top me c.args.clock c.now-time.result c.args.txn remote c.args.kept.now c.make_room_if.new.transactions c.count.new.self c.stamp.result c.is_last-is_ready.result
    c.in_ok-complete.complete c.conclude.new.kept a c.args.outbox.now.sent es c.conclude.new.outbox.sent c.now-time.ensures (search rules) (search rules) c.stamp.ensures c.is_last-is_ready.ensures
    r apart c.make_room_if.ensures.store c.make_room_if.ensures.ledger c.make_room_if.ensures.early c.in_ok-complete.ensures.ok c.count.ensures.store c.count.ensures.early c.in_ok-complete.ensures.complete
    c.conclude.ensures.concluded (λ undecided there. c.in_ok-envelopes-in-Some-Remote.ensures.ok top me a r undecided there)
    (c.conclude.ensures.sent top me r.place ∙ ap (λ (xs : List Envelope). xs ++ es) c.reserve.ensures.same)

pub returns-in_err-envelopes-in-Some-Remote-clause-quiet : goal.returns-in_err-envelopes-in-Some-Remote-clause-quiet
returns-in_err-envelopes-in-Some-Remote-clause-quiet c = λ top me a r e.
    let more = not_last_missing c.args.missing top me c.args.clock c.args.kept.now a c.args.txn c.in-Some-Remote.remote r e (search rules) (search rules) in
    contrary false (c.in_err-envelopes-in-Some-Remote.ensures.waits (c.is_last-is_ready.ensures ∙ more)) refl

pub returns-in_err-reserve-clause-quiet : goal.returns-in_err-reserve-clause-quiet
returns-in_err-reserve-clause-quiet c = λ top me a r e.
    let more = not_last_missing c.args.missing top me c.args.clock c.args.kept.now a c.args.txn c.in-Some-Remote.remote r e (search rules) (search rules) in
    let envelopes = c.in_ok-envelopes-in-Some-Remote in
    contrary false (c.in_err-reserve.ensures.succeeds (fits envelopes.envelopes.items c.len.result c.args.outbox.now.room (envelopes.ensures.none (c.is_last-is_ready.ensures ∙ more)) (search rules))) refl

pub returns-in_err-make_room_if-clause-quiet : goal.returns-in_err-make_room_if-clause-quiet
returns-in_err-make_room_if-clause-quiet c = λ top me a r e.
    let more = not_last_missing c.args.missing top me c.args.clock c.args.kept.now a c.args.txn c.in-Some-Remote.remote r e (search rules) (search rules) in
    contrary false (c.in_err-make_room_if.ensures.waits (c.is_decided.ensures ∙ ap (λ (b : Bool). b && (length c.in-Some-Remote.remote.ballot.notices.cohorts == 0)) (c.is_last-is_ready.ensures ∙ more))) refl

pub returns-in_err-complete-clause-quiet : goal.returns-in_err-complete-clause-quiet
returns-in_err-complete-clause-quiet c = λ top me a r e.
    let more = not_last_missing c.args.missing top me c.args.clock c.args.kept.now a c.args.txn c.in-Some-Remote.remote r e (search rules) (search rules) in
    contrary false (c.in_err-complete.ensures.waits (missing_waits c.args.missing c.args.txn c.args.kept.now.transactions.ledger c.make_room_if.new.transactions.ledger c.in-Some-Remote.remote c.make_room_if.ensures.ledger (search rules) more)) refl
