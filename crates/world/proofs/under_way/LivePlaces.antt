-- What a shard that knows a transaction has of it, and where a transaction can't be.
use Rattle.std.proofs.Common.{◌≡◌, ℕ, ◌<◌, Bool, true, false, not, ◌&&◌, ◌||◌, List, [], ◌∷◌, Option, Some, None, ◌⊎◌, inl, inr, refl, sym, ap, ◌∙◌, subst, eqb-true, eq-eqb}
use Rattle.std.specs.Prelude.{◌==◌, find, is_some, Contains}
use Rattle.std.specs.List.{list_any, list_all, range_with_len}
use Rattle.std.proofs.lemmas.Bool.{false≢true, and_parts, and_from}
use Rattle.logical_time.specs.Stamps.{TxnValue, WriterValue}
use Rattle.column_family.specs.declared.batch.Change.{Change}
use Rattle.planner.specs.Plan.{coordinator_of, cohorts_of}
use Rattle.messages.specs.Topology.{TopologyValue, dc_of, shard_of, shard_node}
use Rattle.messages.specs.Words.{is_same_txn, other_dcs}
use Rattle.messages.specs.Shard.{ShardState, Vote, Met}
use Rattle.messages.specs.Known.{decision_of, prepared_part, kept_part, kept_ballot, is_known, has_vote, is_cohort, all_voted, is_met, all_met}
use Rattle.messages.proofs.Numbering.{number_of_shard, shard_again}
use Rattle.world.specs.Run.{Run, Submission}
use Rattle.world.proofs.lists.Members.{contains_first, contains_rest, filter_contains, any_found, any_has, found, same_txn, same_txn_self}
use Rattle.world.proofs.safety.Facts.{IsWritten, near, lead}
use Rattle.world.proofs.safety.Invariant.{SubmittedSound}
use Rattle.world.proofs.envelopes.Near.{listed_below, cohort_below, cohort_other, lead_number, near_dc}
use Rattle.world.proofs.safety.OneBatch.{submitted_one, batch_one}
use Rattle.world.proofs.under_way.Underway.{HasPrepared, HasBallot, HasDecision, HasKeptPart, HasKeptBallot, vote_of, met_of, Aside, Away, AtOrigin, Leads}

-- ## Tests

pub not_and : (p q : Bool) → (p && not q) ≡ false → p ≡ true → q ≡ true
not_and true true e i = refl
not_and true false e i = absurd (cc)
not_and false q e i = absurd (false≢true i)

pub same_at : (t u : TxnValue) → t ≡ u → is_same_txn t u ≡ true
same_at t u e = subst (λ z. is_same_txn t z ≡ true) e (same_txn_self t)

pub txn_split : (u t : TxnValue) → ((u ≡ t) ⊎ (u ≡ t → ⊥))
txn_split u t = go (is_same_txn u t) refl
  where
    go : (b : Bool) → is_same_txn u t ≡ b → (u ≡ t) ⊎ (u ≡ t → ⊥)
    go true e = inl (same_txn u t e)
    go false e = inr (λ q. false≢true (sym e ∙ same_at u t q))

pub vote_at : (votes : List Vote) (t : TxnValue) (node : ℕ) → Contains votes (vote_of t node) → has_vote votes t node ≡ true
vote_at votes t node m =
    any_has (λ v. is_same_txn v.txn t && (v.node == node)) votes (vote_of t node) m (and_from (is_same_txn t t) (node == node) (same_txn_self t) (eq-eqb node node refl))

pub vote_from : (votes : List Vote) (t : TxnValue) (node : ℕ) → has_vote votes t node ≡ true → Contains votes (vote_of t node)
vote_from votes t node e =
    let r = any_found (λ v. is_same_txn v.txn t && (v.node == node)) votes e in
    let p = and_parts (is_same_txn r.0.txn t) (r.0.node == node) r.2 in
    subst (λ z. Contains votes z) (λ i. record { txn = same_txn r.0.txn t p.0 i; node = eqb-true r.0.node node p.1 i }) r.1

all_from : {X : Type 0} (p : X → Bool) (xs : List X) → ((x : X) → Contains xs x → p x ≡ true) → list_all p xs ≡ true
all_from p [] f = refl
all_from p (x ∷ xs) f = and_from (p x) (list_all p xs) (f x (contains_first x xs)) (all_from p xs (λ y m. f y (contains_rest x y xs m)))

pub all_voted_from : (top : TopologyValue) (me : ℕ) (cohorts : List ℕ) (votes : List Vote) (t : TxnValue) → ((c : ℕ) → Contains cohorts c → Contains votes (vote_of t (near top me c))) → all_voted top me cohorts votes t ≡ true
all_voted_from top me cohorts votes t f = all_from (λ s. has_vote votes t (shard_node top (dc_of top me) s)) cohorts (λ c m. vote_at votes t (near top me c) (f c m))

pub met_at : (met : List Met) (waiter dependency : TxnValue) → Contains met (met_of waiter dependency) → is_met met waiter dependency ≡ true
met_at met waiter dependency m =
    any_has (λ m. is_same_txn m.waiter waiter && is_same_txn m.dependency dependency) met (met_of waiter dependency) m
    (and_from (is_same_txn waiter waiter) (is_same_txn dependency dependency) (same_txn_self waiter) (same_txn_self dependency))

pub met_from : (met : List Met) (waiter dependency : TxnValue) → is_met met waiter dependency ≡ true → Contains met (met_of waiter dependency)
met_from met waiter dependency e =
    let r = any_found (λ m. is_same_txn m.waiter waiter && is_same_txn m.dependency dependency) met e in
    let p = and_parts (is_same_txn r.0.waiter waiter) (is_same_txn r.0.dependency dependency) r.2 in
    subst (λ z. Contains met z) (λ i. record { waiter = same_txn r.0.waiter waiter p.0 i; dependency = same_txn r.0.dependency dependency p.1 i }) r.1

pub all_met_from : (met : List Met) (waiter : TxnValue) (dependencies : List WriterValue) → ((k : WriterValue) → Contains dependencies k → Contains met (met_of waiter k.txn)) → all_met met waiter dependencies ≡ true
all_met_from met waiter dependencies f = all_from (λ w. is_met met waiter w.txn) dependencies (λ k m. met_at met waiter k.txn (f k m))

-- ## What is known

found_txn : {X : Type 0} (f : X → TxnValue) (t : TxnValue) (xs : List X) → is_some (find (λ x. is_same_txn (f x) t) xs) ≡ true → (x : X) × Contains xs x × (f x ≡ t)
found_txn {X} f t xs e = go (find (λ x. is_same_txn (f x) t) xs) refl e
  where
    go : (o : Option X) → find (λ x. is_same_txn (f x) t) xs ≡ o → is_some o ≡ true → (x : X) × Contains xs x × (f x ≡ t)
    go None q e = absurd (false≢true e)
    go (Some x) q e = let p = found (λ x. is_same_txn (f x) t) xs x q in (x, p.0, same_txn (f x) t p.1)

pub prepared_found : (t : TxnValue) (a : ShardState) → is_some (prepared_part t a) ≡ true → HasPrepared a t
prepared_found t a e = found_txn (λ p. p.txn) t a.prepared e

pub decision_found : (t : TxnValue) (a : ShardState) → is_some (decision_of t a) ≡ true → HasDecision a t
decision_found t a e = found_txn (λ d. d.txn) t a.decided e

five_cases : (b p k r d : Bool) → (b || p || k || r || d) ≡ true → (b ≡ true) ⊎ (p ≡ true) ⊎ (k ≡ true) ⊎ (r ≡ true) ⊎ (d ≡ true)
five_cases true p k r d e = inl refl
five_cases false true k r d e = inr (inl refl)
five_cases false false true r d e = inr (inr (inl refl))
five_cases false false false true d e = inr (inr (inr (inl refl)))
five_cases false false false false true e = inr (inr (inr (inr refl)))
five_cases false false false false false e = absurd (cc)

pub known_cases : (t : TxnValue) (a : ShardState) → is_known t a ≡ true → HasBallot a t ⊎ HasPrepared a t ⊎ HasKeptPart a t ⊎ HasKeptBallot a t ⊎ HasDecision a t
known_cases t a e =
    elim (five_cases (list_any (λ b. is_same_txn b.txn t) a.ballots) (is_some (prepared_part t a)) (is_some (kept_part t a)) (is_some (kept_ballot t a)) (is_some (decision_of t a)) e) [
      | inl q ↦ let r = any_found (λ b. is_same_txn b.txn t) a.ballots q in inl (r.0, r.1, same_txn r.0.txn t r.2)
      | inr (inl q) ↦ inr (inl (prepared_found t a q))
      | inr (inr (inl q)) ↦ inr (inr (inl (found_txn (λ k. k.txn) t a.kept_parts q)))
      | inr (inr (inr (inl q))) ↦ inr (inr (inr (inl (found_txn (λ r. r.txn) t a.kept_ballots q))))
      | inr (inr (inr (inr q))) ↦ inr (inr (inr (inr (decision_found t a q))))
    ]

-- ## Where a transaction is

-- a data centre of the others is one, and another
pub other_dc : (top : TopologyValue) (me dc : ℕ) → Contains (other_dcs top me) dc → (dc < top.dcs) × (dc ≡ dc_of top me → ⊥)
other_dc top me dc m =
    let p = filter_contains (λ d. not (d == dc_of top me)) (range_with_len 0 top.dcs) dc m in
    (listed_below top.dcs dc p.0, λ e. false≢true (sym (ap not (eq-eqb dc (dc_of top me) e)) ∙ p.1))

module _ (top : TopologyValue) (x : Run) (some : 0 < top.shards) (k : SubmittedSound top x) where
  -- a shard that coordinates is no cohort
  pub lead_beside : (node : ℕ) (t : TxnValue) → Leads top x node t → Aside top x node t → ⊥
  lead_beside node t l a =
      let same = batch_one k l.written a.written in
      cohort_other top.shards a.batch (shard_of top node) a.cohort (lead_number top node (dc_of top node) l.batch some l.here ∙ ap (coordinator_of top.shards) same)

  pub away_home : (node : ℕ) (t : TxnValue) (b : Submission) (batch : List Change) → Away top x node t → IsWritten x t b batch → dc_of top node ≡ b.home → ⊥
  away_home node t b batch a h e = a.away (e ∙ ap (λ s. s.home) (submitted_one k h a.written))

  pub away_origin : (node : ℕ) (t : TxnValue) → Away top x node t → AtOrigin top x node t → ⊥
  away_origin node t a o = away_home node t o.submission o.batch a o.written o.here

  -- the batch's cohorts in a shard's data centre
  pub cohort_aside : (node : ℕ) (t : TxnValue) (b : Submission) (batch : List Change) (c : ℕ) → IsWritten x t b batch → Contains (cohorts_of top.shards batch) c → Aside top x (near top node c) t
  cohort_aside node t b batch c h m =
      record {
        submission = b;
        batch = batch;
        written = h;
        cohort = subst (λ z. Contains (cohorts_of top.shards batch) z) (sym (number_of_shard top (dc_of top node) c (cohort_below top.shards batch c m))) m;
      }

  -- its coordinator in a shard's data centre
  pub near_leads : (node c : ℕ) (t : TxnValue) (b : Submission) (batch : List Change) → IsWritten x t b batch → c ≡ coordinator_of top.shards batch → c < top.shards → Leads top x (near top node c) t
  near_leads node c t b batch h e lt =
      record {
        submission = b;
        batch = batch;
        written = h;
        here = ap (near top node) e ∙ ap (λ d. lead top d batch) (sym (near_dc top node c lt));
      }

-- a cohort in this data centre is one of the batch's cohorts there
pub among_cohorts : (top : TopologyValue) (me from : ℕ) (cohorts : List ℕ) → Contains cohorts (shard_of top from) → dc_of top from ≡ dc_of top me → is_cohort top me cohorts from ≡ true
among_cohorts top me from cohorts m e =
    any_has (λ s. shard_node top (dc_of top me) s == from) cohorts (shard_of top from) m
    (eq-eqb (shard_node top (dc_of top me) (shard_of top from)) from (ap (λ d. shard_node top d (shard_of top from)) (sym e) ∙ shard_again top from))
