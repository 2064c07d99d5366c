use Rattle.std.proofs.Common.{rules, ◌≡◌, ◌∙◌, ◌++◌, ap, subst, ℕ, List}
use Rattle.std.specs.Prelude.{is_some}
use Rattle.messages.specs.declared.envelope.Envelope.{Envelope}
use Rattle.messages.specs.Topology.{TopologyValue}
use Rattle.messages.specs.Shard.{ShardState, PreparedPart}
use Rattle.messages.specs.Commits.{apply_part}
use Rattle.write_txn.specs.declared.open.Open.TheVariants as in_open
use Rattle.write_txn.specs.Ledger.{state_of, part_in}
use Rattle.shard.proofs.in_code.Applying.{applies_so, commit_passes, has_room, no_part, some_part}
use Rattle.shard.proofs.in_code.PartSteps.{known_open}
use Rattle.shard.proofs.in_code.QuietSteps.{contrary, unprepared}
use Rattle.shard.proofs.committing.commit.Goals.{in_default-via-in-Some+in_default, in_default-via-in_default}
use Rattle.shard.proofs.committing.commit.Goals as goal

pub returns-in_default-clause-step : goal.returns-in_default-clause-step
returns-in_default-clause-step c = λ top me a r apart.
    let s = state_of c.args.kept.now.transactions.ledger c.args.txn in
    elim c.in_default.branch [
      | in_default-via-in-Some+in_default w ↦ commit_passes top me c.args.clock c.args.txn c.args.commit c.args.stamp c.args.kept.now a c.args.outbox.now.sent r (no_part s (search rules))
      | in_default-via-in_default w ↦ commit_passes top me c.args.clock c.args.txn c.args.commit c.args.stamp c.args.kept.now a c.args.outbox.now.sent r (no_part s (search rules))
    ]

pub commit-requires : goal.commit-requires
commit-requires c = has_room c.args.kept.now.transactions.ledger c.make_room_for.new.self.ledger c.args.txn c.make_room_for.new.self.store c.make_room_for.ensures.ledger c.in_ok-make_room_for.ensures.ok

pub returns-clause-step : goal.returns-clause-step
returns-clause-step c = λ top me a r apart.
    let p = c.in-Some-Part.part in
    let envelopes = c.in_ok-envelopes-in-Some-Part in
    applies_so top me c.args.clock c.args.txn p c.args.commit c.args.stamp c.args.kept.now c.make_room_for.new.self c.commit.new.self c.release.new.self a c.args.outbox.now.sent c.post_all.new.self.sent r
    (known_open (state_of c.args.kept.now.transactions.ledger c.args.txn) (in_open.Part p) (search rules)) apart
    c.make_room_for.ensures.store c.make_room_for.ensures.ledger c.make_room_for.ensures.early c.commit.ensures.applied c.commit.ensures.keeps c.commit.ensures.early
    c.release.ensures (λ there. posted top me a p (subst (λ (n : ℕ). envelopes.envelopes.items ≡ (apply_part top me n a p c.args.commit c.args.stamp).sends) c.now.ensures (envelopes.ensures.ok top me a r there)))
  where
    posted : (top : TopologyValue) (me : ℕ) (a : ShardState) (p : PreparedPart) → c.in_ok-envelopes-in-Some-Part.envelopes.items ≡ (apply_part top me c.args.clock a p c.args.commit c.args.stamp).sends
        → c.post_all.new.self.sent ≡ c.args.outbox.now.sent ++ (apply_part top me c.args.clock a p c.args.commit c.args.stamp).sends
    posted top me a p e = c.post_all.ensures ∙ (ap (λ (es : List Envelope). es ++ c.in_ok-envelopes-in-Some-Part.envelopes.items) c.reserve.ensures.same ∙ ap (λ (es : List Envelope). c.args.outbox.now.sent ++ es) e)

pub returns-in_err-envelopes-in-Some-Part-clause-quiet : goal.returns-in_err-envelopes-in-Some-Part-clause-quiet
returns-in_err-envelopes-in-Some-Part-clause-quiet c = λ top me a r e.
    let s = state_of c.args.kept.now.transactions.ledger c.args.txn in
    contrary (is_some (part_in s)) (some_part s c.in-Some-Part.part (search rules)) (unprepared top me c.args.clock c.args.kept.now a c.args.txn c.args.commit c.args.stamp r e)

pub returns-in_err-reserve-clause-quiet : goal.returns-in_err-reserve-clause-quiet
returns-in_err-reserve-clause-quiet c = λ top me a r e.
    let s = state_of c.args.kept.now.transactions.ledger c.args.txn in
    contrary (is_some (part_in s)) (some_part s c.in-Some-Part.part (search rules)) (unprepared top me c.args.clock c.args.kept.now a c.args.txn c.args.commit c.args.stamp r e)

pub returns-in_err-make_room_for-clause-quiet : goal.returns-in_err-make_room_for-clause-quiet
returns-in_err-make_room_for-clause-quiet c = λ top me a r e.
    let s = state_of c.args.kept.now.transactions.ledger c.args.txn in
    contrary (is_some (part_in s)) (some_part s c.in-Some-Part.part (search rules)) (unprepared top me c.args.clock c.args.kept.now a c.args.txn c.args.commit c.args.stamp r e)
