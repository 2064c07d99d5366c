use Rattle.std.proofs.Common.{rules, ◌≡◌, ◌∙◌, ◌++◌, ◌==◌, ap, subst, ℕ, List}
use Rattle.std.proofs.lemmas.List.{append_assoc}
use Rattle.logical_time.specs.Stamps.{TxnValue}
use Rattle.messages.specs.declared.envelope.Envelope.{Envelope}
use Rattle.messages.specs.Replication as machine
use Rattle.write_txn.specs.Stands.{kept_ballot_of}
use Rattle.shard.specs.Concluding.{IsConcluded}
use Rattle.shard.proofs.in_code.ReplBegunSteps.{begins_so}
use Rattle.shard.proofs.repl_begun.begin.Goals as goal

pub returns-clause-step : goal.returns-clause-step
returns-clause-step c = λ top me a r begun apart.
    let ballot = kept_ballot_of c.args.remote in
    let checks = machine.dep_checks top me c.now-time.result ballot in
    let told = c.in-Ok-told_by.told.items in
    let posted : c.post_dep_checks.new.outbox.sent ≡ c.reserve.new.self.sent ++ checks = c.post_dep_checks.ensures.sent top me ballot r.place (search rules) (search rules) in
    begins_so top me c.args.clock c.now-time.result c.args.remote c.args.kept.now c.make_room_if.new.transactions c.wait.new.self c.stamp-stamp.result (c.missing-is_ready.result == 0)
    c.in_ok-complete.complete c.conclude.new.kept a c.args.outbox.now.sent (checks ++ told) c.conclude.new.outbox.sent c.now-time.ensures c.requires.unknown begun c.stamp-stamp.ensures (ap (λ (n : ℕ). n == 0) c.missing-is_ready.ensures)
    r apart c.make_room_if.ensures.store c.make_room_if.ensures.ledger c.make_room_if.ensures.early c.in_ok-complete.ensures.ok c.wait.ensures.store c.wait.ensures.early c.in_ok-complete.ensures.complete
    (subst (λ (t : TxnValue). IsConcluded t c.stamp-stamp.result c.args.clock c.in_ok-complete.complete (record c.args.kept.now { transactions = c.wait.new.self }) c.conclude.new.kept) (search rules) c.conclude.ensures.concluded)
    (λ undecided there. ap (λ (es : List Envelope). checks ++ es) (c.in-Ok-told_by.ensures.ok top me a r undecided there))
    (c.conclude.ensures.sent top me r.place ∙ (ap (λ (xs : List Envelope). xs ++ told) (posted ∙ ap (λ (xs : List Envelope). xs ++ checks) c.reserve.ensures.same) ∙ append_assoc c.args.outbox.now.sent checks told))
