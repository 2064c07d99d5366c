-- A decision, a ballot that is held, and a part that is prepared.
use Rattle.std.proofs.Common.{◌≡◌, subst, refl, ℕ, ◌<◌, inl, inr, true, false, ◌||◌, List, [], ◌∷◌, ◌++◌, map, Option, Some, None, arith}
use Rattle.std.specs.Prelude.{filter, is_some}
use Rattle.std.specs.List.{list_any}
use Rattle.std.proofs.lemmas.List.Elements.{Contains-append_right, Contains-push}
use Rattle.logical_time.specs.Stamps.{TxnValue, StampValue}
use Rattle.column_family.specs.declared.batch.Change.{Change}
use Rattle.column_family.specs.Normal.{IsNormal}
use Rattle.column_family.proofs.Options.{neither}
use Rattle.planner.proofs.Members.{contains_map}
use Rattle.store.specs.declared.part.Applied.{Applied}
use Rattle.messages.specs.declared.envelope.Envelope.{Envelope}
use Rattle.messages.specs.Topology.{TopologyValue, shard_of}
use Rattle.messages.specs.Words.{is_same_txn, other_dcs}
use Rattle.messages.specs.Shard.{ShardState, Role, Own, PreparedPart, BegunBallot, Vote, Decision, KeptPart, KeptBallot, Asker}
use Rattle.messages.specs.Known.{decision_of, prepared_part, kept_part, kept_ballot, is_known, is_applied}
use Rattle.messages.specs.Commits.{applied_part, commits, stamp_for, announcements, dep_oks, decide, hold, prepare_part}
use Rattle.messages.specs.Honest.{ToldCommit, all_told, IsHonest, StampedTxn}
use Rattle.shard.specs.Sound.{Seen, IsDecided, IsCohorts, IsLed, IsFollowed, BodySound, Holds, Able, IsWithin}
use Rattle.shard.proofs.lists.Lists.{no_truth, same_txn, same_if_equal, any_has, any_none, found_some, each_joined, each_mapped}
use Rattle.shard.proofs.knowing.Grow.{with_prepared, with_applied}
use Rattle.shard.proofs.knowing.Updates.{aside}
use Rattle.shard.proofs.knowing.Additions.{prepare_one, with_ballot, AreReady, begin_one, with_decision, decide_one, stamped_txn, apply_one}
use Rattle.shard.proofs.knowing.LetGo.{able_after, ArePlain, let_go_able}

-- ## What isn't known

-- a transaction that isn't known is neither led nor followed
pub unknown_unled : (t : TxnValue) (a : ShardState) → is_known t a ≡ false → IsLed a t → ⊥
unknown_unled t a unknown led =
    let n = neither (list_any (λ b. is_same_txn b.txn t) a.ballots || is_some (prepared_part t a) || is_some (kept_part t a) || is_some (kept_ballot t a)) (is_some (decision_of t a)) unknown in
    let m = neither (list_any (λ b. is_same_txn b.txn t) a.ballots || is_some (prepared_part t a) || is_some (kept_part t a)) (is_some (kept_ballot t a)) n.0 in
    let k = neither (list_any (λ b. is_same_txn b.txn t) a.ballots || is_some (prepared_part t a)) (is_some (kept_part t a)) m.0 in
    let j = neither (list_any (λ b. is_same_txn b.txn t) a.ballots) (is_some (prepared_part t a)) k.0 in
    elim led [
      | inl b ↦ no_truth _ (any_has (λ (z : BegunBallot). is_same_txn z.txn t) a.ballots b.0 b.1 (same_if_equal b.0.txn t b.2)) j.0
      | inr (inl d) ↦ no_truth _ (found_some (λ (z : Decision). is_same_txn z.txn t) a.decided d.0 d.1 (same_if_equal d.0.txn t d.2)) n.1
      | inr (inr r) ↦ no_truth _ (found_some (λ (z : KeptBallot). is_same_txn z.txn t) a.kept_ballots r.0 r.1 (same_if_equal r.0.txn t r.2)) m.1
    ]

pub unknown_unfollowed : (t : TxnValue) (a : ShardState) → is_known t a ≡ false → IsFollowed a t → ⊥
unknown_unfollowed t a unknown followed =
    let n = neither (list_any (λ b. is_same_txn b.txn t) a.ballots || is_some (prepared_part t a) || is_some (kept_part t a) || is_some (kept_ballot t a)) (is_some (decision_of t a)) unknown in
    let m = neither (list_any (λ b. is_same_txn b.txn t) a.ballots || is_some (prepared_part t a) || is_some (kept_part t a)) (is_some (kept_ballot t a)) n.0 in
    let k = neither (list_any (λ b. is_same_txn b.txn t) a.ballots || is_some (prepared_part t a)) (is_some (kept_part t a)) m.0 in
    let j = neither (list_any (λ b. is_same_txn b.txn t) a.ballots) (is_some (prepared_part t a)) k.0 in
    elim followed [
      | inl p ↦ no_truth _ (found_some (λ (z : PreparedPart). is_same_txn z.txn t) a.prepared p.0 p.1 (same_if_equal p.0.txn t p.2)) j.1
      | inr q ↦ no_truth _ (found_some (λ (z : KeptPart). is_same_txn z.txn t) a.kept_parts q.0 q.1 (same_if_equal q.0.txn t q.2)) k.1
    ]

pub undecided_none : (t : TxnValue) (a : ShardState) → is_some (decision_of t a) ≡ false → IsDecided a t → ⊥
undecided_none t a none (d, has, is) =
    no_truth _ (found_some (λ (z : Decision). is_same_txn z.txn t) a.decided d has (same_if_equal d.txn t is)) none

-- what is neither decided nor a cohort's isn't applied
not_applied : {top : TopologyValue} {me : ℕ} {last : ShardState} {es : Seen} (a : ShardState) (t : TxnValue) → (IsDecided a t → ⊥) → (IsFollowed a t → ⊥)
    → Holds top me last es a → is_applied t a ≡ false
not_applied a t undecided unfollowed h =
    any_none (λ (x : Applied). is_same_txn x.part.writer.txn t) a.applied
    (λ x has is.
    let same = same_txn x.part.writer.txn t is in
    elim (h.origin x has) [
      | inl decided ↦ undecided (subst (IsDecided a) same decided)
      | inr cohorts ↦ unfollowed (inl (subst (IsCohorts a) same cohorts))
    ])

-- ## A decision

commits_plain : (es : Seen) (top : TopologyValue) (me n : ℕ) (t : TxnValue) (stamp : StampValue) (cohorts : List ℕ) → ArePlain es (commits top me n t stamp cohorts)
commits_plain es top me n t stamp cohorts b = each_mapped (λ (e : Envelope). BodySound es b e.to e.body) _ cohorts (λ s has. tt)

announcements_plain : (es : Seen) (top : TopologyValue) (me n : ℕ) (b : BegunBallot) (o : Option StampValue) → ArePlain es (announcements top me n b o)
announcements_plain es top me n b None c = (tt, each_mapped (λ (e : Envelope). BodySound es c e.to e.body) _ (other_dcs top me) (λ d has. tt))
announcements_plain es top me n b (Some stamp) c = tt

dep_oks_plain : (es : Seen) (me n : ℕ) (t : TxnValue) (askers : List Asker) → ArePlain es (dep_oks me n t askers)
dep_oks_plain es me n t askers b =
    each_mapped (λ (e : Envelope). BodySound es b e.to e.body) _ (filter (λ k. is_same_txn k.dependency t) askers) (λ k has. tt)

pub is_applied_now : (a : ShardState) (x : Applied) → is_applied x.part.writer.txn (with_applied a x) ≡ true
is_applied_now a x =
    any_has (λ (y : Applied). is_same_txn y.part.writer.txn x.part.writer.txn) (a.applied ++ x ∷ []) x (Contains-push a.applied x)
    (same_if_equal x.part.writer.txn x.part.writer.txn refl)

pub decide_able : {top : TopologyValue} {me : ℕ} {last : ShardState} {es : Seen} (a : ShardState) (n : ℕ) (b : BegunBallot) → IsHonest last es.envelopes
    → a.clock < n → IsNormal b.rows → (IsFollowed a b.txn → ⊥) → (IsDecided a b.txn → ⊥) → AreReady top me a b.txn
    → IsWithin (decide top me n a b).state last → Holds top me last es a → Able top me last es a (decide top me n a b)
decide_able {top = top} {me = me} {last = last} {es = es} a n b honest lt normal unfollowed undecided ready within h =
    let stamp = stamp_for me n b.stamp in
    let d : Decision = record { txn = b.txn; commit = n; stamp = stamp } in
    let x = applied_part b.txn (shard_of top me) b.rows n stamp in
    let new = not_applied a b.txn undecided unfollowed h in
    let own = contains_map (λ (z : Decision). let s : StampedTxn = record { txn = z.txn; stamp = z.stamp } in s) last.decided d (within.decided d (Contains-push a.decided d)) in
    let sends = commits top me n b.txn stamp b.cohorts ++ announcements top me n b b.stamp ++ dep_oks me n b.txn a.askers in
    let plain : ArePlain es sends =
    λ c.
    each_joined (λ (e : Envelope). BodySound es c e.to e.body) (commits top me n b.txn stamp b.cohorts ++ announcements top me n b b.stamp) (dep_oks me n b.txn a.askers)
    (each_joined (λ (e : Envelope). BodySound es c e.to e.body) (commits top me n b.txn stamp b.cohorts) (announcements top me n b b.stamp)
    (commits_plain es top me n b.txn stamp b.cohorts c) (announcements_plain es top me n b b.stamp c))
    (dep_oks_plain es me n b.txn a.askers c) in
    able_after (decide_one a d unfollowed ready h)
    (λ h1. able_after
    (apply_one (with_decision a d) x honest normal
    (Contains-append_right (map (λ (z : ToldCommit). let s : StampedTxn = record { txn = z.txn; stamp = z.stamp } in s) (all_told es.envelopes)) _ (stamped_txn x) own)
    (inl (d, Contains-push a.decided d, refl)) (inr (d, within.decided d (Contains-push a.decided d), refl, refl, refl)) new (inl lt) h1)
    (λ h2. let_go_able (with_applied (with_decision a d) x) n b.txn (λ y. true) sends (omega (arith, lt))
    (λ y has is. inl (is_applied_now (with_decision a d) x)) plain h2))

-- ## Ballots and parts that are prepared

pub hold_able : {top : TopologyValue} {me : ℕ} {last : ShardState} {es : Seen} (a : ShardState) (n : ℕ) (b : BegunBallot) (counted : List Vote)
    (sends : List Envelope) → a.clock < n → IsNormal b.rows → (IsFollowed a b.txn → ⊥) → AreReady top me a b.txn → ArePlain es sends
    → Holds top me last es a → Able top me last es a (hold top me n a b counted sends)
hold_able {top = top} {me = me} {last = last} {es = es} a n b counted sends lt normal unfollowed ready plain h =
    let p : PreparedPart = record { txn = b.txn; rows = b.rows; coordinator = shard_of top me; time = n; role = Own } in
    able_after (begin_one a b normal unfollowed ready h)
    (λ h1. able_after
    (prepare_one (with_ballot a b) p (omega (arith, lt)) normal (inl (refl, (b, Contains-push a.ballots b, refl))) h1)
    (λ h2. record {
      onward = aside (with_prepared (with_ballot a b) p) n a.low a.early (a.votes ++ counted) a.askers (omega (arith, lt)) (omega arith) h2;
      sends = plain _;
    }))

pub prepare_part_able : {top : TopologyValue} {me : ℕ} {last : ShardState} {es : Seen} (a : ShardState) (n : ℕ) (t : TxnValue) (rows : List Change)
    (coordinator : ℕ) (role : Role) → a.clock < n → IsNormal rows → (role ≡ Own → ⊥) → (IsLed a t → ⊥) → Holds top me last es a
    → Able top me last es a (prepare_part top me n a t rows coordinator role)
prepare_part_able a n t rows coordinator role lt normal theirs unled h =
    let p : PreparedPart = record { txn = t; rows = rows; coordinator = coordinator; time = n; role = role } in
    able_after (prepare_one a p (omega (arith, lt)) normal (inr (theirs, unled)) h)
    (λ h1. record {
      onward = aside (with_prepared a p) n a.low a.early a.votes a.askers (omega (arith, lt)) (omega arith) h1;
      sends = (tt, tt);
    })
