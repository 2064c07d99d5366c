use Rattle.std.proofs.Common.{◌∙◌, ◌++◌, ap, subst, ℕ, List, map}
use Rattle.messages.specs.declared.envelope.Envelope.{Envelope}
use Rattle.messages.specs.Posting.{commit_to}
use Rattle.write_txn.specs.Ledger.{state_of, state_voted, Becomes}
use Rattle.shard.proofs.in_code.LastVotes.{room_for_own, decides_by_vote}
use Rattle.shard.proofs.voting.decide_by.Goals as goal

pub settle-requires-clause-room : goal.settle-requires-clause-room
settle-requires-clause-room c =
    room_for_own c.args.kept.now.transactions.ledger c.make_room_for.new.self.ledger c.args.txn c.args.node c.in-Some.complete c.make_room_for.new.self.store c.vote.new.self.store c.requires
    c.make_room_for.ensures.ledger c.in-Some.ensures.complete c.vote.ensures.store c.in_ok-make_room_for.ensures.ok

pub returns-clause-step : goal.returns-clause-step
returns-clause-step c = λ top me a r apart.
    let l = c.make_room_for.new.self.ledger in
    let voted = subst (λ (n : ℕ). Becomes c.args.txn (state_voted c.node-here.result n c.args.node (state_of l c.args.txn)) l c.vote.new.self.ledger) c.now.ensures c.vote.ensures.voted in
    let sent = c.settle.ensures.sent top me r.place ∙ ap (λ (es : List Envelope). (es ++ map (commit_to me c.args.clock c.args.txn c.args.clock c.in_ok-stamp.field-0.stamp) c.in-Some.complete.cohorts) ++ c.in_ok-stamp.field-0.envelopes.items) c.reserve.ensures.same in
    decides_by_vote top me c.args.clock c.args.node c.node-here.result c.args.txn c.args.kept.now c.make_room_for.new.self c.vote.new.self c.settle.new.kept a c.in-Some.complete c.in_ok-stamp.field-0.stamp
    c.args.outbox.now.sent c.in_ok-stamp.field-0.envelopes.items c.settle.new.outbox.sent r apart c.requires c.make_room_for.ensures.ledger c.make_room_for.ensures.store c.make_room_for.ensures.early c.node-here.ensures.value
    voted c.vote.ensures.store c.vote.ensures.early c.in-Some.ensures.complete (λ led held. c.in_ok-stamp.ensures.stamp led held) (λ led held there. c.in_ok-stamp.ensures.ok top me a led r held there) c.settle.ensures.settled sent
