-- Steps by which a transaction comes to stand otherwise, while it is in one data centre alone.
use Rattle.std.proofs.Common.{◌≡◌, ◌∙◌, sym, ap, subst, refl, ℕ, Bool, true, false, ◌||◌, [], ◌∷◌, ◌++◌, Option, Some, None, append-nil}
use Rattle.std.specs.Prelude.{is_some}
use Rattle.logical_time.specs.Stamps.{StampValue, TxnValue}
use Rattle.store.specs.declared.part.Applied.{Applied}
use Rattle.messages.specs.Topology.{TopologyValue}
use Rattle.messages.specs.Words.{is_same_txn}
use Rattle.messages.specs.Shard.{ShardState, PreparedPart, KeptPart}
use Rattle.messages.specs.Known.{is_known, prepared_part, kept_part, kept_ballot, decision_of, is_applied}
use Rattle.messages.specs.Commits.{applied_part, apply_part}
use Rattle.write_txn.specs.declared.open.Open.TheVariants as in_open
use Rattle.write_txn.specs.Ledger.{State, Holds, IsApplied, IsDecided}
use Rattle.write_txn.specs.View.{view_of}
use Rattle.write_txn.specs.Stands.{Stands, IsUnled, StandsPart, is_cohorts}
use Rattle.write_txn.specs.Moves.{IsAbout, Moves}
use Rattle.write_txn.proofs.Finds.{own_txn, find_last, any_last, any_found, stays, adds, others_if_none, once_more}

-- ## What is known

-- a transaction is known exactly where something is known of it
pub known_if : (top : TopologyValue) (me : ℕ) (t : TxnValue) (a : ShardState) (s : Option State) → Stands top me t (view_of t a) s → is_known t a ≡ is_some s
known_if top me t a s h = ap (λ (b : Bool). b || is_some (prepared_part t a) || is_some (kept_part t a) || is_some (kept_ballot t a) || is_some (decision_of t a)) (any_found (λ b. is_same_txn b.txn t) a.ballots) ∙ go s h
  where
    go : (s : Option State) → Stands top me t (view_of t a) s
        → (is_some (view_of t a).ballot || is_some (view_of t a).prepared || is_some (view_of t a).kept_part || is_some (view_of t a).kept_ballot || is_some (view_of t a).decision) ≡ is_some s
    go None h = rw (h.unled.ballot, h.prepared, h.kept_part, h.unled.kept_ballot, h.unled.decision) refl
    go (Some (Holds (in_open.Kept k))) h = rw (h.unled.ballot, h.prepared, h.kept_part) refl
    go (Some (Holds (in_open.Part p))) h = rw (h.unled.ballot, h.prepared) refl
    go (Some (Holds (in_open.Led l))) h = rw h.ballot refl
    go (Some (Holds (in_open.Remote r))) h = rw (h.0.ballot, h.0.prepared, h.0.kept_part, h.0.kept_ballot) refl
    go (Some IsApplied) h = rw (h.unled.ballot, h.prepared) refl
    go (Some (IsDecided commit stamp)) h = rw h.decision (go5 (is_some (view_of t a).ballot) (is_some (view_of t a).prepared) (is_some (view_of t a).kept_part) (is_some (view_of t a).kept_ballot))
      where
        go5 : (b c d e : Bool) → (b || c || d || e || true) ≡ true
        go5 true c d e = refl
        go5 false true d e = refl
        go5 false false true e = refl
        go5 false false false true = refl
        go5 false false false false = refl

-- ## A part is prepared

-- a step that extends the prepared parts by this one
prepared_about : (a : ShardState) (p : PreparedPart) (n : ℕ) → IsAbout p.txn a (record a { clock = n; prepared = a.prepared ++ p ∷ [] })
prepared_about a p n = record {
  prepared = adds (λ q. is_same_txn q.txn p.txn) a.prepared p (own_txn p.txn);
  ballots = stays (λ q. is_same_txn q.txn p.txn) a.ballots;
  kept_parts = stays (λ q. is_same_txn q.txn p.txn) a.kept_parts;
  kept_ballots = stays (λ q. is_same_txn q.txn p.txn) a.kept_ballots;
  decided = stays (λ q. is_same_txn q.txn p.txn) a.decided;
  applied = stays (λ q. is_same_txn q.part.writer.txn p.txn) a.applied;
  early = stays (λ q. is_same_txn q.txn p.txn) a.early;
  votes = stays (λ q. is_same_txn q.txn p.txn) a.votes;
  notices = stays (λ q. is_same_txn q.txn p.txn) a.notices;
  met = stays (λ q. is_same_txn q.waiter p.txn) a.met;
}

pub cohort_prepares : (top : TopologyValue) (me n : ℕ) (a : ShardState) (p : PreparedPart) → IsUnled (view_of p.txn a) → prepared_part p.txn a ≡ None → is_applied p.txn a ≡ false → is_cohorts p.role ≡ true
    → ((k : KeptPart) → kept_part p.txn a ≡ Some k → k.coordinator ≡ p.coordinator)
    → Moves top me p.txn (Some (Holds (in_open.Part p))) [] a (record a { clock = n; prepared = a.prepared ++ p ∷ [] })
cohort_prepares top me n a p unled none unapplied role kept = record {
  about = prepared_about a p n;
  own = record {
    unled = record { ballot = unled.ballot; kept_ballot = unled.kept_ballot; decision = unled.decision };
    prepared = find_last (λ q. is_same_txn q.txn p.txn) a.prepared p none (own_txn p.txn);
    cohorts = role;
    applied = unapplied;
    kept_part = kept;
  };
  applied = sym (append-nil a.applied);
  low = refl;
  askers = refl;
  once = λ o. once_more (λ (x : PreparedPart). x.txn) a.prepared p o (others_if_none (λ (x : PreparedPart). x.txn) a.prepared p.txn none);
  kept_once = λ o. o;
}

-- ## A part is applied

with_applied : (a : ShardState) (x : Applied) (n : ℕ) → IsAbout x.part.writer.txn a (record a { clock = n; applied = a.applied ++ x ∷ [] })
with_applied a x n = record {
  prepared = stays (λ q. is_same_txn q.txn x.part.writer.txn) a.prepared;
  ballots = stays (λ q. is_same_txn q.txn x.part.writer.txn) a.ballots;
  kept_parts = stays (λ q. is_same_txn q.txn x.part.writer.txn) a.kept_parts;
  kept_ballots = stays (λ q. is_same_txn q.txn x.part.writer.txn) a.kept_ballots;
  decided = stays (λ q. is_same_txn q.txn x.part.writer.txn) a.decided;
  applied = adds (λ q. is_same_txn q.part.writer.txn x.part.writer.txn) a.applied x (own_txn x.part.writer.txn);
  early = stays (λ q. is_same_txn q.txn x.part.writer.txn) a.early;
  votes = stays (λ q. is_same_txn q.txn x.part.writer.txn) a.votes;
  notices = stays (λ q. is_same_txn q.txn x.part.writer.txn) a.notices;
  met = stays (λ q. is_same_txn q.waiter x.part.writer.txn) a.met;
}

pub cohort_applies : (top : TopologyValue) (me n : ℕ) (a : ShardState) (t : TxnValue) (p : PreparedPart) (commit : ℕ) (stamp : StampValue) → p.txn ≡ t → StandsPart (view_of t a) p
    → Moves top me t (Some IsApplied) (applied_part p.txn p.coordinator p.rows commit stamp ∷ []) a (apply_part top me n a p commit stamp).state
cohort_applies top me n a t p commit stamp is h = record {
  about =
      let i = with_applied a (applied_part p.txn p.coordinator p.rows commit stamp) n in
      subst (λ (u : TxnValue). IsAbout u a (apply_part top me n a p commit stamp).state) is
      (record { prepared = i.prepared; ballots = i.ballots; kept_parts = i.kept_parts; kept_ballots = i.kept_ballots; decided = i.decided; applied = i.applied; early = i.early; votes = i.votes; notices = i.notices; met = i.met });
  own = record {
    unled = record { ballot = h.unled.ballot; kept_ballot = h.unled.kept_ballot; decision = h.unled.decision };
    prepared = ap is_some h.prepared;
    cohorts = λ q e. let same : Some p ≡ Some q = sym h.prepared ∙ e in let is_it : p ≡ q = cc in subst (λ (x : PreparedPart). is_cohorts x.role ≡ true) is_it h.cohorts;
    applied = any_last (λ x. is_same_txn x.part.writer.txn t) a.applied (applied_part p.txn p.coordinator p.rows commit stamp) (subst (λ (u : TxnValue). is_same_txn u t ≡ true) (sym is) (own_txn t));
  };
  applied = refl;
  low = refl;
  askers = refl;
  once = λ o. o;
  kept_once = λ o. o;
}
