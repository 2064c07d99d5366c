-- What the bodies of a two-phase commit are, by what is known of their transaction.
use Rattle.std.proofs.Common.{◌≡◌, ◌∙◌, sym, ap, refl, ℕ, Bool, true, false, not, List, [], ◌∷◌, Option, Some, None, length, arith}
use Rattle.std.specs.Prelude.{filter, ◌==◌, option_map}
use Rattle.std.proofs.lemmas.Bool.Decides.{nat_tests}
use Rattle.logical_time.specs.Stamps.{StampValue, TxnValue}
use Rattle.column_family.specs.declared.batch.Change.{Change}
use Rattle.column_family.proofs.Options.{by_cases}
use Rattle.txn_state.specs.Votes.{is_among, counted, are_all_there}
use Rattle.messages.specs.Topology.{TopologyValue}
use Rattle.messages.specs.Words.{is_same_txn}
use Rattle.messages.specs.Shard.{ShardState, PreparedPart, Role, Own, Cohort, Replica, BegunBallot, Vote, quiet}
use Rattle.messages.specs.Known.{prepared_part, decision_of, standing_ballot, all_voted, has_vote, is_applied}
use Rattle.messages.specs.Commits.{decide, hold, with_vote, yes_for, on_yes, vote_if, counted_if, early_if, begin_if, on_begin, prepare_if, prepare_part, on_prepare, commit_if, commit_for, on_commit, apply_part}
use Rattle.write_txn.specs.declared.open.Open.TheVariants as in_open
use Rattle.write_txn.specs.declared.open.Led.{Led}
use Rattle.write_txn.specs.Ledger.{State, Holds, IsApplied, IsDecided, decided_in}
use Rattle.write_txn.specs.View.{view_of, near_nodes, left_of, nodes_for}
use Rattle.write_txn.specs.Stands.{Stands, IsUnknown, StandsPart, StandsLed, begun_of, own_part, is_cohorts}
use Rattle.write_txn.proofs.Finds.{nodes_one, found_txn}
use Rattle.write_txn.proofs.Counting.{voted_left, awaited_left, left_counted, has_among}
use Rattle.write_txn.proofs.CohortSteps.{known_if}
use Rattle.write_txn.proofs.Leading.{same_about, MayDecide, MayHold, standing, with_vote_about}

-- ## Begin

-- a known transaction is passed over
pub begin_known : (top : TopologyValue) (me n : ℕ) (a : ShardState) (b : BegunBallot) (s : State) → Stands top me b.txn (view_of b.txn a) (Some s) → on_begin top me n a b ≡ quiet n a
begin_known top me n a b s h = ap (λ k. begin_if k (all_voted top me b.cohorts a.early b.txn) top me n a b) (known_if top me b.txn a (Some s) h)

-- an unknown one: all cohorts voted early, or there are none
pub begin_voted : (top : TopologyValue) (me n : ℕ) (a : ShardState) (b : BegunBallot) → Stands top me b.txn (view_of b.txn a) None → (length (left_of (near_nodes top me b.cohorts) (view_of b.txn a).early) == 0) ≡ true
    → on_begin top me n a b ≡ decide top me n a b
begin_voted top me n a b h e =
    ap (λ k. begin_if k (all_voted top me b.cohorts a.early b.txn) top me n a b) (known_if top me b.txn a None h)
    ∙ ap (λ k. begin_if false k top me n a b) (voted_left top me b.cohorts a.early b.txn ∙ e)

-- some are missing
pub begin_unvoted : (top : TopologyValue) (me n : ℕ) (a : ShardState) (b : BegunBallot) → Stands top me b.txn (view_of b.txn a) None → (length (left_of (near_nodes top me b.cohorts) (view_of b.txn a).early) == 0) ≡ false
    → on_begin top me n a b ≡ hold top me n a b (filter (λ v. is_same_txn v.txn b.txn) a.early) []
begin_unvoted top me n a b h e =
    ap (λ k. begin_if k (all_voted top me b.cohorts a.early b.txn) top me n a b) (known_if top me b.txn a None h)
    ∙ ap (λ k. begin_if false k top me n a b) (voted_left top me b.cohorts a.early b.txn ∙ e)

filtered_nodes : (t : TxnValue) (vs : List Vote) → nodes_for (filter (λ v. is_same_txn v.txn t) vs) t ≡ nodes_for vs t
filtered_nodes t [] = refl
filtered_nodes t (v ∷ vs) = by_cases (is_same_txn v.txn t) (λ yes. rw (yes, yes) (ap (λ (ns : List ℕ). v.node ∷ ns) (filtered_nodes t vs))) (λ no. rw no (filtered_nodes t vs))

pub early_nodes : (t : TxnValue) (vs : List Vote) → nodes_for (filter (λ v. is_same_txn v.txn t) vs) t ≡ nodes_for vs t
early_nodes t vs = filtered_nodes t vs

no_ballot : {T P : Type 0} (o : Option T) (r : T) → o ≡ None → o ≡ Some r → P
no_ballot o r e f = absurd (let g : None ≡ Some r = sym e ∙ f in cc)

pub unknown_decides : (top : TopologyValue) (me : ℕ) (a : ShardState) (t : TxnValue) → IsUnknown (view_of t a) → MayDecide top me t a a
unknown_decides top me a t h = record {
  about = same_about t a;
  applied = refl;
  low = refl;
  askers = refl;
  once = λ o. o;
  same_kept = refl;
  undecided = h.unled.decision;
  own = λ p e. no_ballot (prepared_part t a) p h.prepared e;
  kept_part = h.kept_part;
  readied = λ r e. no_ballot (view_of t a).kept_ballot r h.unled.kept_ballot e;
}

pub unknown_holds : (top : TopologyValue) (me : ℕ) (a : ShardState) (t : TxnValue) → IsUnknown (view_of t a) → MayHold top me t a a
unknown_holds top me a t h = record {
  about = same_about t a;
  applied = refl;
  low = refl;
  askers = refl;
  same_parts = refl;
  same_kept = refl;
  unbegun = h.unled.ballot;
  undecided = h.unled.decision;
  unprepared = h.prepared;
  unapplied = h.applied;
  unvoted = h.votes;
  kept_part = h.kept_part;
  readied = λ r e. no_ballot (view_of t a).kept_ballot r h.unled.kept_ballot e;
}

-- ## Prepare

pub prepare_known : (top : TopologyValue) (me n : ℕ) (a : ShardState) (t : TxnValue) (rows : List Change) (coordinator : ℕ) (s : State) → Stands top me t (view_of t a) (Some s)
    → on_prepare top me n a t rows coordinator ≡ quiet n a
prepare_known top me n a t rows coordinator s h = ap (λ k. prepare_if k top me n a t rows coordinator) (known_if top me t a (Some s) h)

pub prepare_unknown : (top : TopologyValue) (me n : ℕ) (a : ShardState) (t : TxnValue) (rows : List Change) (coordinator : ℕ) → Stands top me t (view_of t a) None
    → on_prepare top me n a t rows coordinator ≡ prepare_part top me n a t rows coordinator Cohort
prepare_unknown top me n a t rows coordinator h = ap (λ k. prepare_if k top me n a t rows coordinator) (known_if top me t a None h)

-- ## Yes

-- whether a ballot stands
abbrev pub is_led : Option State → Bool
is_led None = false
is_led (Some (Holds (in_open.Kept k))) = false
is_led (Some (Holds (in_open.Part p))) = false
is_led (Some (Holds (in_open.Led l))) = true
is_led (Some (Holds (in_open.Remote r))) = false
is_led (Some IsApplied) = false
is_led (Some (IsDecided commit stamp)) = false

pub not_standing : (top : TopologyValue) (me : ℕ) (a : ShardState) (t : TxnValue) (s : Option State) → Stands top me t (view_of t a) s → is_led s ≡ false → standing_ballot t a ≡ None
not_standing top me a t None h e = rw h.unled.decision h.unled.ballot
not_standing top me a t (Some (Holds (in_open.Kept k))) h e = rw h.unled.decision h.unled.ballot
not_standing top me a t (Some (Holds (in_open.Part p))) h e = rw h.unled.decision h.unled.ballot
not_standing top me a t (Some (Holds (in_open.Led l))) h e = absurd (cc)
not_standing top me a t (Some (Holds (in_open.Remote r))) h e = rw h.0.decision h.0.ballot
not_standing top me a t (Some IsApplied) h e = rw h.unled.decision h.unled.ballot
not_standing top me a t (Some (IsDecided commit stamp)) h e = rw h.decision refl

pub yes_ignored : (top : TopologyValue) (me n : ℕ) (a : ShardState) (t : TxnValue) (node : ℕ) (s : State) → Stands top me t (view_of t a) (Some s) → is_led (Some s) ≡ false → on_yes top me n a node t ≡ quiet n a
yes_ignored top me n a t node s h e =
    ap (λ o. yes_for o top me n a t node) (not_standing top me a t (Some s) h e)
    ∙ (ap (λ k. early_if k (has_vote a.early t node) n a t node) (known_if top me t a (Some s) h) ∙ go (has_vote a.early t node))
  where
    go : (b : Bool) → early_if true b n a t node ≡ quiet n a
    go true = refl
    go false = refl

-- an early vote, by whether it came already
pub yes_early : (top : TopologyValue) (me n : ℕ) (a : ShardState) (t : TxnValue) (node : ℕ) → Stands top me t (view_of t a) None
    → on_yes top me n a node t ≡ early_if false (is_among (view_of t a).early node) n a t node
yes_early top me n a t node h =
    ap (λ o. yes_for o top me n a t node) (not_standing top me a t None h refl)
    ∙ (ap (λ k. early_if k (has_vote a.early t node) n a t node) (known_if top me t a None h)
    ∙ ap (λ k. early_if false k n a t node) (has_among a.early t node))

-- the last vote was awaited
last_awaited : (ns : List ℕ) (node : ℕ) → (length ns == 0) ≡ false → (length (filter (λ n. not (n == node)) ns) == 0) ≡ true → is_among ns node ≡ true
last_awaited [] node e f = absurd (cc)
last_awaited (n ∷ ns) node e f = by_cases (n == node)
    (λ yes. rw yes refl)
    (λ no. absurd (let g = rw no at f in impossible (filter (λ n. not (n == node)) ns) g))
  where
    impossible : (xs : List ℕ) → (length (n ∷ xs) == 0) ≡ true → ⊥
    impossible xs g = grind (arith, nat_tests)

-- the last vote of a ballot decides
pub yes_decides : (top : TopologyValue) (me n : ℕ) (a : ShardState) (t : TxnValue) (l : Led) (node : ℕ) → (begun_of l).txn ≡ t → StandsLed top me (view_of t a) l → are_all_there (counted l.ballot.votes node) ≡ true
    → on_yes top me n a node t ≡ decide top me n (with_vote a t node) (begun_of l)
yes_decides top me n a t l node is h all =
    ap (λ o. yes_for o top me n a t node) (standing top me a t l h)
    ∙ (ap (λ (b : Bool). vote_if b top me n a (begun_of l) node)
    (awaited_left top me l.cohorts a.votes t node ∙ (ap (λ (ns : List ℕ). is_among ns node) (sym h.missing) ∙ last_awaited l.ballot.votes.missing node h.open_yet all))
    ∙ (ap (λ (u : TxnValue). counted_if (all_voted top me l.cohorts (with_vote a u node).votes u) top me n (with_vote a u node) (begun_of l)) is
    ∙ ap (λ (b : Bool). counted_if b top me n (with_vote a t node) (begun_of l)) (all_is ∙ all)))
  where
    missing_is : (counted l.ballot.votes node).missing ≡ left_of (near_nodes top me l.cohorts) (view_of t (with_vote a t node)).votes
    missing_is = ap (filter (λ n. not (n == node))) h.missing
        ∙ (sym (left_counted (near_nodes top me l.cohorts) (nodes_for a.votes t) node) ∙ ap (left_of (near_nodes top me l.cohorts)) (sym (nodes_one t a.votes node)))

    all_is : all_voted top me l.cohorts (with_vote a t node).votes t ≡ are_all_there (counted l.ballot.votes node)
    all_is = voted_left top me l.cohorts (with_vote a t node).votes t ∙ ap (λ (ns : List ℕ). length ns == 0) (sym missing_is)

pub voted_decides : (top : TopologyValue) (me : ℕ) (a : ShardState) (t : TxnValue) (l : Led) (node : ℕ) → StandsLed top me (view_of t a) l → MayDecide top me t a (with_vote a t node)
voted_decides top me a t l node h = record {
  about = with_vote_about a t node;
  applied = refl;
  low = refl;
  askers = refl;
  once = λ o. o;
  same_kept = refl;
  undecided = h.decision;
  own = λ p e. let f : Some (own_part l) ≡ Some p = sym h.prepared ∙ e in let g : own_part l ≡ p = cc in ap (λ (x : PreparedPart). x.role) (sym g);
  kept_part = h.kept_part;
  readied = h.readied;
}

-- ## Commit, and At

pub commit_applies : (top : TopologyValue) (me n : ℕ) (a : ShardState) (t : TxnValue) (p : PreparedPart) (commit : ℕ) (stamp : StampValue) → p.txn ≡ t → StandsPart (view_of t a) p
    → on_commit top me n a t commit stamp ≡ apply_part top me n a p commit stamp
commit_applies top me n a t p commit stamp is h =
    ap (λ o. commit_for o top me n a commit stamp) h.prepared
    ∙ (ap (λ (u : TxnValue). commit_if p.role (is_applied u a) top me n a p commit stamp) is
    ∙ (ap (λ (b : Bool). commit_if p.role b top me n a p commit stamp) h.applied ∙ go p.role h.cohorts))
  where
    go : (r : Role) → is_cohorts r ≡ true → commit_if r false top me n a p commit stamp ≡ apply_part top me n a p commit stamp
    go Own e = absurd (cc)
    go Cohort e = refl
    go Replica e = refl

-- whether a cohort's part is prepared
abbrev pub is_part : Option State → Bool
is_part None = false
is_part (Some (Holds (in_open.Kept k))) = false
is_part (Some (Holds (in_open.Part p))) = true
is_part (Some (Holds (in_open.Led l))) = false
is_part (Some (Holds (in_open.Remote r))) = false
is_part (Some IsApplied) = false
is_part (Some (IsDecided commit stamp)) = false

pub commit_ignored : (top : TopologyValue) (me n : ℕ) (a : ShardState) (t : TxnValue) (commit : ℕ) (stamp : StampValue) (s : Option State) → Stands top me t (view_of t a) s → is_part s ≡ false
    → on_commit top me n a t commit stamp ≡ quiet n a
commit_ignored top me n a t commit stamp None h e = ap (λ o. commit_for o top me n a commit stamp) h.prepared
commit_ignored top me n a t commit stamp (Some (Holds (in_open.Kept k))) h e = ap (λ o. commit_for o top me n a commit stamp) h.prepared
commit_ignored top me n a t commit stamp (Some (Holds (in_open.Part p))) h e = absurd (cc)
commit_ignored top me n a t commit stamp (Some (Holds (in_open.Led l))) h e = ap (λ o. commit_for o top me n a commit stamp) h.prepared
commit_ignored top me n a t commit stamp (Some (Holds (in_open.Remote r))) h e = ap (λ o. commit_for o top me n a commit stamp) h.0.prepared
commit_ignored top me n a t commit stamp (Some IsApplied) h e = go (prepared_part t a) refl
  where
    at_role : (r : Role) (p : PreparedPart) → is_cohorts r ≡ true → commit_if r true top me n a p commit stamp ≡ quiet n a
    at_role Own p f = absurd (cc)
    at_role Cohort p f = refl
    at_role Replica p f = refl

    go : (o : Option PreparedPart) → prepared_part t a ≡ o → commit_for o top me n a commit stamp ≡ quiet n a
    go None f = refl
    go (Some p) f =
        ap (λ (u : TxnValue). commit_if p.role (is_applied u a) top me n a p commit stamp) (found_txn a.prepared t p f)
        ∙ (ap (λ (b : Bool). commit_if p.role b top me n a p commit stamp) h.applied ∙ at_role p.role p (h.cohorts p f))
commit_ignored top me n a t commit stamp (Some (IsDecided c s)) h e = go (prepared_part t a) refl
  where
    go : (o : Option PreparedPart) → prepared_part t a ≡ o → commit_for o top me n a commit stamp ≡ quiet n a
    go None f = refl
    go (Some p) f = ap (λ (r : Role). commit_if r (is_applied p.txn a) top me n a p commit stamp) (h.prepared p f)

-- ## Decisions

-- what the state tells of a decision is what is known of it
pub decision_if : (top : TopologyValue) (me : ℕ) (t : TxnValue) (a : ShardState) (s : Option State) → Stands top me t (view_of t a) s
    → decision_of t a ≡ option_map (λ (d : ℕ × StampValue). record { txn = t; commit = d.0; stamp = d.1 }) (decided_in s)
decision_if top me t a None h = h.unled.decision
decision_if top me t a (Some (Holds (in_open.Kept k))) h = h.unled.decision
decision_if top me t a (Some (Holds (in_open.Part p))) h = h.unled.decision
decision_if top me t a (Some (Holds (in_open.Led l))) h = h.decision
decision_if top me t a (Some (Holds (in_open.Remote r))) h = h.0.decision
decision_if top me t a (Some IsApplied) h = h.unled.decision
decision_if top me t a (Some (IsDecided commit stamp)) h = h.decision
