use Rattle.std.proofs.Common.{◌≡◌, ◌∙◌, ◌++◌, ap, sym, subst, ℕ, List, map, arith}
use Rattle.std.proofs.lemmas.Grind.{common_steps}
use Rattle.logical_time.specs.Stamps.{StampValue}
use Rattle.txn_state.specs.Prepared.{PreparedValue}
use Rattle.messages.specs.declared.envelope.Envelope.{Envelope}
use Rattle.messages.specs.Place.{IsPlace}
use Rattle.messages.specs.Posting.{commit_to}
use Rattle.shard.specs.declared.kept.ShardKept.{ShardKept}
use Rattle.shard.specs.Deciding.{node_at, IsSettled}
use Rattle.shard.proofs.in_code.Begins.{decides_begun}
use Rattle.shard.proofs.begun.decide_now.Goals as goal

pub returns-clause-step : goal.returns-clause-step
returns-clause-step c = λ top me a r apart.
    let k = c.args.kept.now in
    let b = c.args.begun in
    let now = c.in-Ok.ensures.noted in
    let told_stamp = c.new-stamp.result in
    let stamp : StampValue = record { time = c.args.clock; node = node_at k.place } in
    let stamped : told_stamp ≡ stamp =
    c.new-stamp.ensures
    ∙ ap (λ (m : ℕ). record { time = m; node = c.node.result }) c.now.ensures
    ∙ ap (λ (m : ℕ). record { time = c.args.clock; node = m }) (c.node.ensures.value ∙ ap (λ (x : ShardKept). node_at x.place) now.rest) in
    let own_is : c.new-complete.result ≡ record { own = record { part = record { writer = record { txn = b.txn; shard = k.place.shard }; batch = b.rows }; time = c.args.clock }; cohorts = c.args.votes.cohorts } =
    c.new-complete.ensures ∙ (ap (λ (o : PreparedValue). record { own = o; cohorts = c.args.votes.cohorts }) c.own_part.ensures
    ∙ ap (λ (x : ShardKept). record { own = record { part = record { writer = record { txn = b.txn; shard = x.place.shard }; batch = b.rows }; time = c.args.clock }; cohorts = c.args.votes.cohorts }) now.rest) in
    let place = subst (λ (x : ShardKept). IsPlace top me x.place) (sym now.rest) r.place in
    let settled = subst (λ (s : StampValue). IsSettled b.txn c.new-complete.result.own c.args.clock s c.note_decision.new.kept c.settle.new.kept) stamped c.settle.ensures.settled in
    let sent = c.settle.ensures.sent top me place
    ∙ (ap (λ (s : StampValue). (c.note_decision.new.outbox.sent ++ map (commit_to me c.args.clock b.txn c.args.clock s) c.new-complete.result.cohorts) ++ c.in-Ok.envelopes.items) stamped
    ∙ ap (λ (es : List Envelope). (es ++ map (commit_to me c.args.clock b.txn c.args.clock stamp) c.new-complete.result.cohorts) ++ c.in-Ok.envelopes.items) c.note_decision.ensures.unsent) in
    decides_begun top me c.args.clock k c.note_decision.new.kept c.settle.new.kept a b c.args.votes c.new-complete.result c.args.outbox.now.sent c.in-Ok.envelopes.items c.settle.new.outbox.sent
    r apart c.requires.unknown (c.requires.votes top me r.place) c.requires.none now own_is (λ undecided there. c.in-Ok.ensures.told top me a r undecided there) settled sent

pub returns-clause-same : goal.returns-clause-same
returns-clause-same c = grind (arith, common_steps)

pub returns-clause-unsent : goal.returns-clause-unsent
returns-clause-unsent c = grind (arith, common_steps)

pub returns-in-Err-clause-same : goal.returns-in-Err-clause-same
returns-in-Err-clause-same c = grind (arith, common_steps)

pub returns-in-Err-clause-step : goal.returns-in-Err-clause-step
returns-in-Err-clause-step c = grind (arith, common_steps)

pub returns-in-Err-clause-unsent : goal.returns-in-Err-clause-unsent
returns-in-Err-clause-unsent c = grind (arith, common_steps)

pub settle-requires-clause-decided : goal.settle-requires-clause-decided
settle-requires-clause-decided c = grind (arith, common_steps)
