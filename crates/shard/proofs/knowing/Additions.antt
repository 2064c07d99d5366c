-- What a shard knows goes on holding when a part is prepared or applied, and a ballot begun or decided.
use Rattle.std.proofs.Common.{◌≡◌, ◌∙◌, sym, ap, subst, refl, ℕ, ◌≤◌, ◌⊎◌, inl, inr, true, false, [], ◌∷◌, ◌++◌, arith}
use Rattle.std.specs.Prelude.{Contains}
use Rattle.std.specs.Ordering.{is_eq}
use Rattle.std.proofs.lemmas.List.Elements.{Contains-append_left, Contains-push_cases}
use Rattle.logical_time.specs.Stamps.{TxnValue, stamp_cmp}
use Rattle.column_family.specs.Normal.{IsNormal}
use Rattle.store.specs.declared.part.Applied.{Applied}
use Rattle.store.specs.Keeps.{IsNewStamp}
use Rattle.store.proofs.newest.Apart.{apart_more}
use Rattle.messages.specs.Topology.{TopologyValue}
use Rattle.messages.specs.Words.{is_same_txn}
use Rattle.messages.specs.Shard.{ShardState, Own, PreparedPart, BegunBallot, Decision, KeptBallot}
use Rattle.messages.specs.Known.{is_applied}
use Rattle.messages.specs.Replication.{is_ready}
use Rattle.messages.specs.Honest.{IsHonest, StampedTxn, stamps_met}
use Rattle.shard.specs.Right.{IsAppliedAsDecided}
use Rattle.shard.specs.Sound.{Seen, IsDecided, IsCohorts, IsLed, IsFollowed, Holds, Onward, IsBallot}
use Rattle.shard.proofs.lists.Lists.{any_has, any_none, same_if_equal, same_stamp, no_truth}
use Rattle.shard.proofs.knowing.Grow.{grows_beside, with_prepared, grows_prepared, with_applied, IsLate, grows_applied, wait_grows}

-- ## A part is prepared

pub prepare_one : {top : TopologyValue} {me : ℕ} {last : ShardState} {es : Seen} (a : ShardState) (p : PreparedPart) → a.clock ≤ p.time → IsNormal p.rows
    → ((p.role ≡ Own) × IsBallot a p.txn) ⊎ ((p.role ≡ Own → ⊥) × (IsLed a p.txn → ⊥)) → Holds top me last es a → Onward top me last es a (with_prepared a p)
prepare_one {es = es} a p late normal side h =
    let g = grows_prepared {es = es.envelopes} a p late in
    record {
      grows = g;
      holds = record {
        sides = λ t led followed. elim followed [
          | inl at ↦ elim (Contains-push_cases a.prepared p at.0 at.1) [
            | inl old ↦ h.sides t led (inl (at.0, old, at.2, at.3))
            | inr own ↦ elim side [
              | inl ours ↦ at.3 (ap (λ (z : PreparedPart). z.role) (sym own) ∙ ours.0)
              | inr theirs ↦ theirs.1 (subst (IsLed a) (sym (ap (λ (z : PreparedPart). z.txn) own ∙ at.2)) led)
            ]
          ]
          | inr part ↦ h.sides t led (inr part)
        ];
        one = h.one;
        readied = h.readied;
        own = λ z has role. elim (Contains-push_cases a.prepared p z has) [
          | inl old ↦ h.own z old role
          | inr new ↦ elim side [
            | inl ours ↦ subst (λ (y : PreparedPart). IsBallot a y.txn) new ours.1
            | inr theirs ↦ absurd (theirs.0 (ap (λ (y : PreparedPart). y.role) new ∙ role))
          ]
        ];
        origin = λ x has. elim (h.origin x has) [
          | inl decided ↦ inl decided
          | inr at ↦ inr (at.0, Contains-append_left a.prepared (p ∷ []) at.0 at.1, at.2, at.3)
        ];
        prepared = λ z has. elim (Contains-push_cases a.prepared p z has) [
          | inl old ↦ h.prepared z old
          | inr own ↦ subst (λ (y : PreparedPart). IsNormal y.rows) own normal
        ];
        ballots = h.ballots;
        kept_parts = h.kept_parts;
        kept_ballots = h.kept_ballots;
        stamped_apart = h.stamped_apart;
        met = h.met;
        decided_so = h.decided_so;
        waiting = λ x has. wait_grows g (h.waiting x has);
      };
    }

-- ## A ballot is begun, or decided

abbrev pub with_ballot : ShardState → BegunBallot → ShardState
with_ballot a b = record a { ballots = a.ballots ++ b ∷ [] }

-- each kept ballot of the transaction has all that it needs
abbrev pub AreReady : TopologyValue → ℕ → ShardState → TxnValue → Type 0
AreReady top me a t = (r : KeptBallot) → Contains a.kept_ballots r → r.txn ≡ t → is_ready top me a r ≡ true

pub begin_one : {top : TopologyValue} {me : ℕ} {last : ShardState} {es : Seen} (a : ShardState) (b : BegunBallot) → IsNormal b.rows
    → (IsFollowed a b.txn → ⊥) → AreReady top me a b.txn → Holds top me last es a → Onward top me last es a (with_ballot a b)
begin_one a b normal unfollowed ready h =
    let g = grows_beside a (with_ballot a b) (omega arith) (omega arith) refl refl in
    record {
      grows = g;
      holds = record {
        sides = λ t led followed. elim led [
          | inl at ↦ elim (Contains-push_cases a.ballots b at.0 at.1) [
            | inl old ↦ h.sides t (inl (at.0, old, at.2)) followed
            | inr own ↦ unfollowed (subst (IsFollowed a) (sym (ap (λ (z : BegunBallot). z.txn) own ∙ at.2)) followed)
          ]
          | inr other ↦ h.sides t (inr other) followed
        ];
        one = h.one;
        readied = λ r has begun. elim begun [
          | inl at ↦ elim (Contains-push_cases a.ballots b at.0 at.1) [
            | inl old ↦ h.readied r has (inl (at.0, old, at.2))
            | inr own ↦ ready r has (sym (ap (λ (z : BegunBallot). z.txn) own ∙ at.2))
          ]
          | inr decided ↦ h.readied r has (inr decided)
        ];
        own = λ p has role. (let at = h.own p has role in (at.0, Contains-append_left a.ballots (b ∷ []) at.0 at.1, at.2));
        origin = h.origin;
        prepared = h.prepared;
        ballots = λ z has. elim (Contains-push_cases a.ballots b z has) [
          | inl old ↦ h.ballots z old
          | inr own ↦ subst (λ (y : BegunBallot). IsNormal y.rows) own normal
        ];
        kept_parts = h.kept_parts;
        kept_ballots = h.kept_ballots;
        stamped_apart = h.stamped_apart;
        met = h.met;
        decided_so = h.decided_so;
        waiting = λ x has. wait_grows g (h.waiting x has);
      };
    }

abbrev pub with_decision : ShardState → Decision → ShardState
with_decision a d = record a { decided = a.decided ++ d ∷ [] }

pub decide_one : {top : TopologyValue} {me : ℕ} {last : ShardState} {es : Seen} (a : ShardState) (d : Decision) → (IsFollowed a d.txn → ⊥)
    → AreReady top me a d.txn → Holds top me last es a → Onward top me last es a (with_decision a d)
decide_one a d unfollowed ready h =
    let g = grows_beside a (with_decision a d) (omega arith) (omega arith) refl refl in
    record {
      grows = g;
      holds = record {
        sides = λ t led followed. elim led [
          | inl ballot ↦ h.sides t (inl ballot) followed
          | inr (inl at) ↦ elim (Contains-push_cases a.decided d at.0 at.1) [
            | inl old ↦ h.sides t (inr (inl (at.0, old, at.2))) followed
            | inr own ↦ unfollowed (subst (IsFollowed a) (sym (ap (λ (z : Decision). z.txn) own ∙ at.2)) followed)
          ]
          | inr (inr kept) ↦ h.sides t (inr (inr kept)) followed
        ];
        one = h.one;
        readied = λ r has begun. elim begun [
          | inl ballot ↦ h.readied r has (inl ballot)
          | inr at ↦ elim (Contains-push_cases a.decided d at.0 at.1) [
            | inl old ↦ h.readied r has (inr (at.0, old, at.2))
            | inr own ↦ ready r has (sym (ap (λ (z : Decision). z.txn) own ∙ at.2))
          ]
        ];
        own = h.own;
        origin = λ x has. elim (h.origin x has) [
          | inl at ↦ inl (at.0, Contains-append_left a.decided (d ∷ []) at.0 at.1, at.2)
          | inr cohorts ↦ inr cohorts
        ];
        prepared = h.prepared;
        ballots = h.ballots;
        kept_parts = h.kept_parts;
        kept_ballots = h.kept_ballots;
        stamped_apart = h.stamped_apart;
        met = h.met;
        decided_so = h.decided_so;
        waiting = λ x has. wait_grows g (h.waiting x has);
      };
    }

-- ## A part is applied

abbrev pub stamped_txn : Applied → StampedTxn
stamped_txn x = record { txn = x.part.writer.txn; stamp = x.stamp }

-- a transaction that isn't applied has a stamp that no part has
new_stamp : {top : TopologyValue} {me : ℕ} {last : ShardState} {es : Seen} (a : ShardState) (x : Applied) → IsHonest last es.envelopes → Holds top me last es a
    → Contains (stamps_met last es.envelopes) (stamped_txn x) → is_applied x.part.writer.txn a ≡ false → IsNewStamp x.stamp a.applied
new_stamp a x honest h met new =
    any_none (λ (y : Applied). is_eq (stamp_cmp x.stamp y.stamp)) a.applied
    (λ y has same.
    let txn : y.part.writer.txn ≡ x.part.writer.txn =
    honest.stamps (stamped_txn y) (stamped_txn x) (h.met y has) met (sym (same_stamp x.stamp y.stamp same)) in
    no_truth (is_applied x.part.writer.txn a)
    (any_has (λ (z : Applied). is_same_txn z.part.writer.txn x.part.writer.txn) a.applied y has (same_if_equal y.part.writer.txn x.part.writer.txn txn))
    new)

pub apply_one : {top : TopologyValue} {me : ℕ} {last : ShardState} {es : Seen} (a : ShardState) (x : Applied) → IsHonest last es.envelopes → IsNormal x.part.batch
    → Contains (stamps_met last es.envelopes) (stamped_txn x) → IsDecided a x.part.writer.txn ⊎ IsCohorts a x.part.writer.txn
    → IsAppliedAsDecided last es.envelopes x → is_applied x.part.writer.txn a ≡ false → IsLate es.envelopes a x → Holds top me last es a → Onward top me last es a (with_applied a x)
apply_one {last = last} {es = es} a x honest normal met origin source new late h =
    let g = grows_applied {es = es.envelopes} a x new late in
    record {
      grows = g;
      holds = record {
        sides = h.sides;
        one = h.one;
        readied = h.readied;
        own = h.own;
        origin = λ y has. elim (Contains-push_cases a.applied x y has) [
          | inl old ↦ h.origin y old
          | inr own ↦ subst (λ (z : Applied). IsDecided a z.part.writer.txn ⊎ IsCohorts a z.part.writer.txn) own origin
        ];
        prepared = h.prepared;
        ballots = h.ballots;
        kept_parts = h.kept_parts;
        kept_ballots = h.kept_ballots;
        stamped_apart = apart_more a.applied x normal (new_stamp a x honest h met new) h.stamped_apart;
        met = λ y has. elim (Contains-push_cases a.applied x y has) [
          | inl old ↦ h.met y old
          | inr own ↦ subst (λ (z : Applied). Contains (stamps_met last es.envelopes) (stamped_txn z)) own met
        ];
        decided_so = λ y has. elim (Contains-push_cases a.applied x y has) [
          | inl old ↦ h.decided_so y old
          | inr own ↦ subst (λ (z : Applied). IsAppliedAsDecided last es.envelopes z) own source
        ];
        waiting = λ y has. wait_grows g (h.waiting y has);
      };
    }
