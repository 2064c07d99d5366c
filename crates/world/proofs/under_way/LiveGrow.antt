-- What is under way stays so while all grows.
use Rattle.std.specs.Prelude.{Contains}
use Rattle.std.proofs.Common.{ℕ, List, inl, inr, ◌∙◌, subst, subst₂, le_refl, le_trans}
use Rattle.logical_time.specs.Stamps.{TxnValue, WriterValue}
use Rattle.column_family.specs.declared.batch.Change.{Change}
use Rattle.store.specs.declared.part.Applied.{Applied}
use Rattle.messages.specs.declared.envelope.Envelope.{Envelope}
use Rattle.messages.specs.Topology.{TopologyValue}
use Rattle.messages.specs.Shard.{ShardState, Role, Own, Cohort, Replica, PreparedPart, BegunBallot}
use Rattle.messages.specs.Session.{SessionState, Open, Idle, Writing, FirstRound, SecondRound, Moving}
use Rattle.world.specs.Run.{Run, Submission}
use Rattle.world.proofs.safety.Facts.{IsWritten, near, Sees}
use Rattle.world.proofs.envelopes.About.{Kind, OfBegin, OfPrepare, OfYes, OfCommit, OfAt, OfNotBy, OfCheck, OfRead, OfReadAt, OfReplBegin, OfReplPart, OfNotify, OfPrepareRemote, OfDepCheck, OfDepOk, OfDone, OfPartNow, OfPartAt, Sent}
use Rattle.world.proofs.under_way.Underway.{HasPrepared, HasBallot, HasDecision, HasKeptPart, HasKeptBallot, Knows, Awaits, WaitsFor, of_ballot, of_moving, Aside, Away, AtOrigin, Leads, Placed, Round, SessionOnward, Onward, RoleLive, PreparedLive, BallotLive, AppliedLive, Entries, ShardLive, SaysLive, HasEnded, WasCounted, by_ballot, by_move, Acted, SubmissionLive, OpenLive}
use Rattle.shard.specs.Sound.{IsWithin}
use Rattle.shard.proofs.steps.Within.{within_itself}

-- ## Messages

pub sent_in : {xs ys : List Envelope} {s r : ℕ} {k : Kind} → ((e : Envelope) → Contains xs e → Contains ys e) → Sent xs s r k → Sent ys s r k
sent_in f k = record { message = k.message; among = f k.message k.among; by = k.by; for = k.for; is = k.is }

pub sent_on : {top : TopologyValue} {w x : Run} {s r : ℕ} {k : Kind} → Onward top w x → Sent w.sent s r k → Sent x.sent s r k
sent_on g k = sent_in g.sent k

-- ## What a shard has of a transaction

pub stays_in : {X : Type 0} (xs ys : List X) → ((y : X) → Contains xs y → Contains ys y) → (y : X) → Contains xs y → Contains ys y
stays_in xs ys f y m = f y m

pub prepared_on : {a b : ShardState} {t : TxnValue} → IsWithin a b → HasPrepared a t → HasPrepared b t
prepared_on g k = (k.0, stays_in _ _ g.prepared k.0 k.1, k.2)

pub ballot_on : {a b : ShardState} {t : TxnValue} → IsWithin a b → HasBallot a t → HasBallot b t
ballot_on g k = (k.0, stays_in _ _ g.ballots k.0 k.1, k.2)

pub decision_on : {a b : ShardState} {t : TxnValue} → IsWithin a b → HasDecision a t → HasDecision b t
decision_on g k = (k.0, stays_in _ _ g.decided k.0 k.1, k.2)

pub kept_part_on : {a b : ShardState} {t : TxnValue} → IsWithin a b → HasKeptPart a t → HasKeptPart b t
kept_part_on g k = (k.0, stays_in _ _ g.kept_parts k.0 k.1, k.2)

pub kept_ballot_on : {a b : ShardState} {t : TxnValue} → IsWithin a b → HasKeptBallot a t → HasKeptBallot b t
kept_ballot_on g k = (k.0, stays_in _ _ g.kept_ballots k.0 k.1, k.2)

pub known_on : {a b : ShardState} {t : TxnValue} → IsWithin a b → Knows a t → Knows b t
known_on g (inl k) = inl (prepared_on g k)
known_on g (inr k) = inr (decision_on g k)

pub awaits_on : {a b : ShardState} {waiter dependency : TxnValue} → IsWithin a b → Awaits a waiter dependency → Awaits b waiter dependency
awaits_on g k = record { ballot = k.ballot; among = stays_in _ _ g.kept_ballots k.ballot k.among; txn = k.txn; writer = k.writer; named = k.named; is = k.is }

pub waits_for_on : {top : TopologyValue} {w x : Run} {dc from : ℕ} {waiter dependency : TxnValue} → Onward top w x → WaitsFor top w dc from waiter dependency
    → WaitsFor top x dc from waiter dependency
waits_for_on {from = from} g (of_ballot k) = of_ballot (awaits_on (g.shards from) k)
waits_for_on g (of_moving b m is own to k n q) = of_moving b (g.submitted b m) is own to k n q

pub sees_on : {a b : ShardState} {t : TxnValue} → IsWithin a b → Sees a.applied t → Sees b.applied t
sees_on g k = (k.0, stays_in _ _ g.applied k.0 k.1, k.2)

-- ## Where a transaction belongs

pub written_on : {top : TopologyValue} {w x : Run} {t : TxnValue} {b : Submission} {batch : List Change} → Onward top w x → IsWritten w t b batch → IsWritten x t b batch
written_on {b = b} g k = record { among = g.submitted b k.among; txn = k.txn; op = k.op }

pub aside_on : {top : TopologyValue} {w x : Run} {node : ℕ} {t : TxnValue} → Onward top w x → Aside top w node t → Aside top x node t
aside_on g k = record { submission = k.submission; batch = k.batch; written = written_on g k.written; cohort = k.cohort }

pub away_on : {top : TopologyValue} {w x : Run} {node : ℕ} {t : TxnValue} → Onward top w x → Away top w node t → Away top x node t
away_on g k = record { submission = k.submission; batch = k.batch; written = written_on g k.written; away = k.away }

pub origin_on : {top : TopologyValue} {w x : Run} {node : ℕ} {t : TxnValue} → Onward top w x → AtOrigin top w node t → AtOrigin top x node t
origin_on g k = record { submission = k.submission; batch = k.batch; written = written_on g k.written; here = k.here }

pub leads_on : {top : TopologyValue} {w x : Run} {node : ℕ} {t : TxnValue} → Onward top w x → Leads top w node t → Leads top x node t
leads_on g k = record { submission = k.submission; batch = k.batch; written = written_on g k.written; here = k.here }

pub placed_on : {top : TopologyValue} {w x : Run} {k : WriterValue} → Onward top w x → Placed top w k → Placed top x k
placed_on g k = record { submission = k.submission; batch = k.batch; written = written_on g k.written; coordinator = k.coordinator }

-- ## What was sent for each entry

pub role_on : (r : Role) {top : TopologyValue} {w x : Run} (node coordinator : ℕ) (t : TxnValue) → Onward top w x → RoleLive r w node coordinator t → RoleLive r x node coordinator t
role_on Own node coordinator t g k = ballot_on (g.shards node) k
role_on Cohort node coordinator t g k = sent_on g k
role_on Replica node coordinator t g k = (sent_on g k.0, kept_part_on (g.shards node) k.1)

pub prepared_live_on : {top : TopologyValue} {w x : Run} (node : ℕ) (p : PreparedPart) → Onward top w x → PreparedLive top w node p → PreparedLive top x node p
prepared_live_on {top = top} node p g k = role_on p.role node (near top node p.coordinator) p.txn g k

pub ballot_live_on : {top : TopologyValue} {w x : Run} (node : ℕ) (b : BegunBallot) → Onward top w x → BallotLive top w node b → BallotLive top x node b
ballot_live_on node b g (p, inl e) = (prepared_on (g.shards node) p, inl e)
ballot_live_on node b g (p, inr k) = (prepared_on (g.shards node) p, inr (away_on g k.0, λ c m. sent_on g (k.1 c m)))

pub applied_live_on : {top : TopologyValue} {w x : Run} (node : ℕ) (v : Applied) → Onward top w x → AppliedLive top w node v → AppliedLive top x node v
applied_live_on node v g (inl e) = inl e
applied_live_on node v g (inr (inl k)) = inr (inl (away_on g k))
applied_live_on node v g (inr (inr k)) = inr (inr (λ dc m. sent_on g (k dc m)))

pub entries_on : {top : TopologyValue} {w x : Run} {node : ℕ} {b : ShardState} → Onward top w x → Entries top w node b → Entries top x node b
entries_on {top = top} {node = node} g k =
    record {
      prepared = λ p m. prepared_live_on node p g (k.prepared p m);
      ballots = λ u m. ballot_live_on node u g (k.ballots u m);
      kept_parts = λ p m. let q = k.kept_parts p m in record { away = away_on g q.away; here = q.here; told = sent_on g q.told };
      kept_ballots = λ r m. let q = k.kept_ballots r m in record { away = away_on g q.away; here = q.here; asked = λ d i. sent_on g (q.asked d i) };
      early = λ v m. let q = k.early v m in (origin_on g q.0, leads_on g q.1);
      votes = λ v m. ballot_on (g.shards node) (k.votes v m);
      notices = λ v m. let q = k.notices v m in (kept_part_on (g.shards v.node) q.0, leads_on g q.1, q.2);
      decided = λ d m.
          let q = k.decided d m in
          record {
            submission = q.submission;
            batch = q.batch;
            written = written_on g q.written;
            cohorts = λ c i. sent_on g (q.cohorts c i);
            done = λ e. sent_on g (q.done e);
            copies = λ e dc i. sent_on g (q.copies e dc i);
          };
      applied = λ v m. applied_live_on node v g (k.applied v m);
      askers = λ u m. let q = k.askers u m in record { leads = leads_on g q.leads; here = q.here; awaits = waits_for_on g q.awaits };
      told = λ u d m i e. sent_on g (k.told u d m i e);
    }

pub shard_on : {top : TopologyValue} {w x : Run} {node : ℕ} {b : ShardState} → Onward top w x → ShardLive top w node b → ShardLive top x node b
shard_on g k = record { entries = entries_on g k.entries; counted = k.counted; voted = k.voted; ready = k.ready }

-- ## Sessions

pub round_on : {top : TopologyValue} {w x : Run} (node number time : ℕ) → Onward top w x → Round (w.sessions node) number time → Round (x.sessions node) number time
round_on node number time g k = (g.sessions node).rounds number time k

pub ended_on : {top : TopologyValue} {w x : Run} {t : TxnValue} → Onward top w x → HasEnded w t → HasEnded x t
ended_on g k = (k.0, g.transcript k.0 k.1, k.2)

-- the same session's open operation
pub open_on : (top : TopologyValue) {w x : Run} (node : ℕ) (a : SessionState) (o : Open) → Onward top w x → OpenLive top w node a o → OpenLive top x node a o
open_on top node a Idle g k = tt
open_on top node a (Writing coordinator) g k = tt
open_on top node a (FirstRound read heard) g k = record { some = k.some; asked = λ shard m. sent_on g (k.asked shard m) }
open_on top node a (SecondRound read time first heard) g k = record { some = k.some; asked = λ shard m. sent_on g (k.asked shard m) }
open_on top node a (Moving dc left floor) g k = record { there = k.there; some = k.some; asked = λ d m. sent_on g (k.asked d m) }

-- ## What messages rest on, and what they left

pub says_on : (top : TopologyValue) {w x : Run} (from to : ℕ) → Onward top w x → (k : Kind) → SaysLive top w from to k → SaysLive top x from to k
says_on top from to g (OfBegin t) k = tt
says_on top from to g (OfPrepare t) k = (aside_on g k.0, origin_on g k.1)
says_on top from to g (OfYes t) (inl o, aside, leads, dc) = (inl (origin_on g o), aside_on g aside, leads_on g leads, dc)
says_on top from to g (OfYes t) (inr o, aside, leads, dc) = (inr (known_on (g.shards to) o), aside_on g aside, leads_on g leads, dc)
says_on top from to g (OfCommit t) k = (prepared_on (g.shards to) k.0, aside_on g k.1)
says_on top from to g (OfAt t) k = tt
says_on top from to g (OfNotBy t time) k = tt
says_on top from to g (OfCheck t time) k = tt
says_on top from to g (OfRead number) k = (le_trans k.0 (g.sessions from).count, k.1)
says_on top from to g (OfReadAt number time) k = (round_on from number time g k.0, k.1)
says_on top from to g (OfReplBegin t) k = (away_on g k.0, k.1)
says_on top from to g (OfReplPart t) k = (aside_on g k.0, away_on g k.1, k.2)
says_on top from to g (OfNotify t) k = (kept_part_on (g.shards from) k.0, leads_on g k.1, k.2)
says_on top from to g (OfPrepareRemote t) k = (kept_part_on (g.shards to) k.0, known_on (g.shards from) k.1, leads_on g k.2, k.3)
says_on top from to g (OfDepCheck dependency waiter) k = (leads_on g k.0, k.1, waits_for_on g k.2)
says_on top from to g (OfDepOk dependency waiter) k = waits_for_on g k
says_on top from to g (OfDone t) k = k
says_on top from to g (OfPartNow number) k = le_trans k (g.sessions to).count
says_on top from to g (OfPartAt number time) k = round_on to number time g k

pub counted_on : {top : TopologyValue} {w x : Run} (to : ℕ) (waiter dependency : TxnValue) → Onward top w x → WasCounted w to waiter dependency → WasCounted x to waiter dependency
counted_on to waiter dependency g (by_ballot k m) = by_ballot (kept_ballot_on (g.shards to) k) (stays_in _ _ (g.shards to).met _ m)
counted_on to waiter dependency g (by_move b m is dc moves k) = by_move b (g.submitted b m) is dc moves ((g.sessions to).left waiter.number dependency k)

pub acted_on : (top : TopologyValue) {w x : Run} (from to : ℕ) → Onward top w x → (k : Kind) → Acted top w from to k → Acted top x from to k
acted_on top from to g (OfBegin t) k = known_on (g.shards to) k
acted_on top from to g (OfPrepare t) k = known_on (g.shards to) k
acted_on top from to g (OfYes t) (inl k) = inl (stays_in _ _ (g.shards to).votes _ k)
acted_on top from to g (OfYes t) (inr (inl k)) = inr (inl (stays_in _ _ (g.shards to).early _ k))
acted_on top from to g (OfYes t) (inr (inr k)) = inr (inr (decision_on (g.shards to) k))
acted_on top from to g (OfCommit t) k = sees_on (g.shards to) k
acted_on top from to g (OfAt t) k = tt
acted_on top from to g (OfNotBy t time) k = tt
acted_on top from to g (OfCheck t time) k = tt
acted_on top from to g (OfRead number) k = sent_on g k
acted_on top from to g (OfReadAt number time) (inl k) = inl (sent_on g k)
acted_on top {x = x} from to g (OfReadAt number time) (inr (inl k)) =
    elim (g.waits to k.0 k.1) [
      | inl y ↦ inr (inl (y.0, y.1, y.2 ∙ k.2, y.3 ∙ k.3, y.4 ∙ k.4))
      | inr y ↦ inl (subst (λ z. Sent x.sent to from (OfPartAt number z)) k.4 (subst₂ (λ i n. Sent x.sent to i (OfPartAt n k.0.time)) k.2 k.3 y))
    ]
acted_on top from to g (OfReadAt number time) (inr (inr k)) = inr (inr (k.0, k.1, round_on from number k.0 g k.2))
acted_on top from to g (OfReplBegin t) (inl k) = inl (kept_ballot_on (g.shards to) k)
acted_on top from to g (OfReplBegin t) (inr k) = inr (known_on (g.shards to) k)
acted_on top from to g (OfReplPart t) (inl k) = inl (kept_part_on (g.shards to) k)
acted_on top from to g (OfReplPart t) (inr (inl k)) = inr (inl (kept_ballot_on (g.shards to) k))
acted_on top from to g (OfReplPart t) (inr (inr k)) = inr (inr (known_on (g.shards to) k))
acted_on top from to g (OfNotify t) (inl k) = inl (stays_in _ _ (g.shards to).notices _ k)
acted_on top from to g (OfNotify t) (inr k) = inr (known_on (g.shards to) k)
acted_on top from to g (OfPrepareRemote t) k = known_on (g.shards to) k
acted_on top from to g (OfDepCheck dependency waiter) (inl k) = inl (sent_on g k)
acted_on top from to g (OfDepCheck dependency waiter) (inr k) = inr (k.0, stays_in _ _ (g.shards to).askers k.0 k.1, k.2, k.3, k.4)
acted_on top from to g (OfDepOk dependency waiter) k = counted_on to waiter dependency g k
acted_on top from to g (OfDone t) k = ended_on g k
acted_on top from to g (OfPartNow number) k = (g.sessions to).missing number from k
acted_on top from to g (OfPartAt number time) k = (g.sessions to).awaited number from k

-- ## Submissions

pub submission_on : {top : TopologyValue} {w x : Run} {b : Submission} {batch : List Change} → Onward top w x → SubmissionLive top w b batch → SubmissionLive top x b batch
submission_on g k = record { home = k.home; begun = sent_on g k.begun; prepared = λ c m. sent_on g (k.prepared c m); dependencies = λ d m. placed_on g (k.dependencies d m) }

-- ## Onward of one actor that doesn't change

pub same_shard_on : (a : ShardState) → IsWithin a a
same_shard_on a = within_itself a

pub same_session_on : (top : TopologyValue) (a : SessionState) → SessionOnward top a a
same_session_on top a =
    record { count = le_refl a.count; missing = λ m node k. k; rounds = λ m time k. k; awaited = λ m node k. k; left = λ m t k. k }
