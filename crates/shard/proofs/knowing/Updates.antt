-- What a shard knows goes on holding when one thing is added to it.
use Rattle.std.proofs.Common.{◌≡◌, ◌∙◌, sym, ap, subst, refl, ℕ, ◌≤◌, inl, inr, true, List, [], ◌∷◌, ◌++◌, arith}
use Rattle.std.specs.Prelude.{Contains}
use Rattle.std.proofs.lemmas.List.Elements.{Contains-push_cases}
use Rattle.logical_time.specs.Stamps.{TxnValue}
use Rattle.column_family.specs.Normal.{IsNormal}
use Rattle.column_family.proofs.Options.{both_true}
use Rattle.messages.specs.Topology.{TopologyValue, dc_of, shard_node}
use Rattle.messages.specs.Shard.{ShardState, Vote, KeptPart, KeptBallot, Met, Asker, WaitingRead}
use Rattle.messages.specs.Known.{has_vote, all_voted, is_met, all_met}
use Rattle.messages.specs.Replication.{is_ready}
use Rattle.shard.specs.Sound.{Seen, IsLed, IsFollowed, Holds, Onward, WaitSound}
use Rattle.shard.proofs.lists.Lists.{any_more, all_weaker, both_hold}
use Rattle.shard.proofs.knowing.Grow.{grows_then, grows_beside, wait_grows}

pub onward_then : {top : TopologyValue} {me : ℕ} {last : ShardState} {es : Seen} {a b c : ShardState} → Onward top me last es a b → Onward top me last es b c
    → Onward top me last es a c
onward_then u v = record { grows = grows_then u.grows v.grows; holds = v.holds }

-- ## The clock, the horizon, and what is only counted

pub aside : {top : TopologyValue} {me : ℕ} {last : ShardState} {es : Seen} (a : ShardState) (n low : ℕ) (early votes : List Vote) (askers : List Asker)
    → a.clock ≤ n → a.low ≤ low → Holds top me last es a
    → Onward top me last es a (record a { clock = n; low = low; early = early; votes = votes; askers = askers })
aside a n low early votes askers clock lower h =
    let g = grows_beside a (record a { clock = n; low = low; early = early; votes = votes; askers = askers }) clock lower refl refl in
    record {
      grows = g;
      holds = record {
        sides = h.sides;
        one = h.one;
        readied = h.readied;
        own = h.own;
        origin = h.origin;
        prepared = h.prepared;
        ballots = h.ballots;
        kept_parts = h.kept_parts;
        kept_ballots = h.kept_ballots;
        stamped_apart = h.stamped_apart;
        met = h.met;
        decided_so = h.decided_so;
        waiting = λ x has. wait_grows g (h.waiting x has);
      };
    }

-- the clock moves
pub moved : {top : TopologyValue} {me : ℕ} {last : ShardState} {es : Seen} (a : ShardState) (n : ℕ) → a.clock ≤ n → Holds top me last es a
    → Onward top me last es a (record a { clock = n })
moved a n le h = aside a n a.low a.early a.votes a.askers le (omega arith) h

abbrev pub with_known : ShardState → List Vote → List Met → ShardState
with_known a notices met = record a { notices = notices; met = met }

-- each vote of these is one of those, and each answer of these one of those
abbrev pub HasVotes : List Vote → List Vote → Type 0
HasVotes few many = (t : TxnValue) (node : ℕ) → has_vote few t node ≡ true → has_vote many t node ≡ true

abbrev pub HasMet : List Met → List Met → Type 0
HasMet few many = (waiter dependency : TxnValue) → is_met few waiter dependency ≡ true → is_met many waiter dependency ≡ true

ready_more : (top : TopologyValue) (me : ℕ) (a : ShardState) (notices : List Vote) (met : List Met) (r : KeptBallot) → HasVotes a.notices notices → HasMet a.met met
    → is_ready top me a r ≡ true → is_ready top me (with_known a notices met) r ≡ true
ready_more top me a notices met r votes answers e =
    let b = both_true (all_voted top me r.cohorts a.notices r.txn) (all_met a.met r.txn r.dependencies) e in
    both_hold (all_voted top me r.cohorts notices r.txn) (all_met met r.txn r.dependencies)
    (all_weaker (λ s. has_vote a.notices r.txn (shard_node top (dc_of top me) s)) (λ s. has_vote notices r.txn (shard_node top (dc_of top me) s))
    (λ s has. votes r.txn (shard_node top (dc_of top me) s) has) r.cohorts b.0)
    (all_weaker (λ w. is_met a.met r.txn w.txn) (λ w. is_met met r.txn w.txn) (λ w has. answers r.txn w.txn has) r.dependencies b.1)

-- notices and answers
more_known : {top : TopologyValue} {me : ℕ} {last : ShardState} {es : Seen} (a : ShardState) (notices : List Vote) (met : List Met)
    → HasVotes a.notices notices → HasMet a.met met → Holds top me last es a → Onward top me last es a (with_known a notices met)
more_known {top = top} {me = me} a notices met votes answers h =
    let g = grows_beside a (with_known a notices met) (omega arith) (omega arith) refl refl in
    record {
      grows = g;
      holds = record {
        sides = h.sides;
        one = h.one;
        readied = λ r has begun. ready_more top me a notices met r votes answers (h.readied r has begun);
        own = h.own;
        origin = h.origin;
        prepared = h.prepared;
        ballots = h.ballots;
        kept_parts = h.kept_parts;
        kept_ballots = h.kept_ballots;
        stamped_apart = h.stamped_apart;
        met = h.met;
        decided_so = h.decided_so;
        waiting = λ x has. wait_grows g (h.waiting x has);
      };
    }

pub more_notices : {top : TopologyValue} {me : ℕ} {last : ShardState} {es : Seen} (a : ShardState) (v : Vote) → Holds top me last es a
    → Onward top me last es a (record a { notices = a.notices ++ v ∷ [] })
more_notices a v h = more_known a (a.notices ++ v ∷ []) a.met (λ t node has. any_more _ a.notices (v ∷ []) has) (λ waiter dependency has. has) h

pub more_met : {top : TopologyValue} {me : ℕ} {last : ShardState} {es : Seen} (a : ShardState) (m : Met) → Holds top me last es a
    → Onward top me last es a (record a { met = a.met ++ m ∷ [] })
more_met a m h = more_known a a.notices (a.met ++ m ∷ []) (λ t node has. has) (λ waiter dependency has. any_more _ a.met (m ∷ []) has) h

-- ## Parts and ballots that are kept

abbrev pub with_kept_part : ShardState → KeptPart → ShardState
with_kept_part a k = record a { kept_parts = a.kept_parts ++ k ∷ [] }

pub keep_part : {top : TopologyValue} {me : ℕ} {last : ShardState} {es : Seen} (a : ShardState) (k : KeptPart) → IsNormal k.rows
    → (IsLed a k.txn → ⊥) → Holds top me last es a → Onward top me last es a (with_kept_part a k)
keep_part a k normal unled h =
    let g = grows_beside a (with_kept_part a k) (omega arith) (omega arith) refl refl in
    record {
      grows = g;
      holds = record {
        sides = λ t led followed. elim followed [
          | inl cohorts ↦ h.sides t led (inl cohorts)
          | inr at ↦ elim (Contains-push_cases a.kept_parts k at.0 at.1) [
            | inl old ↦ h.sides t led (inr (at.0, old, at.2))
            | inr own ↦ unled (subst (IsLed a) (sym (ap (λ (z : KeptPart). z.txn) own ∙ at.2)) led)
          ]
        ];
        one = h.one;
        readied = h.readied;
        own = h.own;
        origin = h.origin;
        prepared = h.prepared;
        ballots = h.ballots;
        kept_parts = λ z has. elim (Contains-push_cases a.kept_parts k z has) [
          | inl old ↦ h.kept_parts z old
          | inr own ↦ subst (λ (y : KeptPart). IsNormal y.rows) own normal
        ];
        kept_ballots = h.kept_ballots;
        stamped_apart = h.stamped_apart;
        met = h.met;
        decided_so = h.decided_so;
        waiting = λ x has. wait_grows g (h.waiting x has);
      };
    }

abbrev pub with_kept_ballot : ShardState → KeptBallot → ShardState
with_kept_ballot a r = record a { kept_ballots = a.kept_ballots ++ r ∷ [] }

pub keep_ballot : {top : TopologyValue} {me : ℕ} {last : ShardState} {es : Seen} (a : ShardState) (r : KeptBallot) → IsNormal r.rows
    → (IsFollowed a r.txn → ⊥) → (IsLed a r.txn → ⊥) → Holds top me last es a → Onward top me last es a (with_kept_ballot a r)
keep_ballot a r normal unfollowed unled h =
    let g = grows_beside a (with_kept_ballot a r) (omega arith) (omega arith) refl refl in
    record {
      grows = g;
      holds = record {
        sides = λ t led followed. elim led [
          | inl ballot ↦ h.sides t (inl ballot) followed
          | inr (inl decided) ↦ h.sides t (inr (inl decided)) followed
          | inr (inr at) ↦ elim (Contains-push_cases a.kept_ballots r at.0 at.1) [
            | inl old ↦ h.sides t (inr (inr (at.0, old, at.2))) followed
            | inr own ↦ unfollowed (subst (IsFollowed a) (sym (ap (λ (z : KeptBallot). z.txn) own ∙ at.2)) followed)
          ]
        ];
        one = λ s z has also same. elim (Contains-push_cases a.kept_ballots r s has) [
          | inl old ↦ elim (Contains-push_cases a.kept_ballots r z also) [
            | inl older ↦ h.one s z old older same
            | inr own ↦ absurd (unled (inr (inr (s, old, same ∙ sym (ap (λ (y : KeptBallot). y.txn) own)))))
          ]
          | inr own ↦ elim (Contains-push_cases a.kept_ballots r z also) [
            | inl older ↦ absurd (unled (inr (inr (z, older, sym same ∙ sym (ap (λ (y : KeptBallot). y.txn) own)))))
            | inr too ↦ sym own ∙ too
          ]
        ];
        readied = λ s has begun. elim (Contains-push_cases a.kept_ballots r s has) [
          | inl old ↦ h.readied s old begun
          | inr own ↦ (let same : s.txn ≡ r.txn = sym (ap (λ (y : KeptBallot). y.txn) own) in absurd (elim begun [
            | inl ballot ↦ unled (subst (IsLed a) same (inl ballot))
            | inr decided ↦ unled (subst (IsLed a) same (inr (inl decided)))
          ]))
        ];
        own = h.own;
        origin = h.origin;
        prepared = h.prepared;
        ballots = h.ballots;
        kept_parts = h.kept_parts;
        kept_ballots = λ z has. elim (Contains-push_cases a.kept_ballots r z has) [
          | inl old ↦ h.kept_ballots z old
          | inr own ↦ subst (λ (y : KeptBallot). IsNormal y.rows) own normal
        ];
        stamped_apart = h.stamped_apart;
        met = h.met;
        decided_so = h.decided_so;
        waiting = λ x has. wait_grows g (h.waiting x has);
      };
    }

-- ## Waiting reads

pub now_waiting : {top : TopologyValue} {me : ℕ} {last : ShardState} {es : Seen} (a : ShardState) (ws : List WaitingRead)
    → ((x : WaitingRead) → Contains ws x → WaitSound es a x) → Holds top me last es a → Onward top me last es a (record a { waiting = ws })
now_waiting a ws sound h =
    let g = grows_beside a (record a { waiting = ws }) (omega arith) (omega arith) refl refl in
    record {
      grows = g;
      holds = record {
        sides = h.sides;
        one = h.one;
        readied = h.readied;
        own = h.own;
        origin = h.origin;
        prepared = h.prepared;
        ballots = h.ballots;
        kept_parts = h.kept_parts;
        kept_ballots = h.kept_ballots;
        stamped_apart = h.stamped_apart;
        met = h.met;
        decided_so = h.decided_so;
        waiting = λ x has. wait_grows g (sound x has);
      };
    }
