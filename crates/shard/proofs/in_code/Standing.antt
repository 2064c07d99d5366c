-- What is kept goes on standing for the machine, as events come.
use Rattle.std.proofs.Common.{◌≡◌, ◌∙◌, sym, ap, subst, refl, ℕ, Bool, true, false, if◌then◌else◌, List, [], ◌∷◌, ◌++◌, Option, Some, None, is_some, option_map, ◌||◌, append-nil, arith}
use Rattle.std.specs.Prelude.{filter, find}
use Rattle.std.specs.List.{list_any}
use Rattle.std.specs.Ordering.{is_eq}
use Rattle.std.proofs.lemmas.List.Folds.{list_any-append}
use Rattle.std.proofs.lemmas.Bool.Decides.{nat_tests}
use Rattle.logical_time.specs.Stamps.{StampValue, TxnValue, stamp_cmp}
use Rattle.column_family.specs.Normal.{IsNormal}
use Rattle.column_family.proofs.Options.{by_cases, neither}
use Rattle.store.specs.declared.part.Applied.{Applied}
use Rattle.store.specs.Keeps.{Keeps, IsNewStamp, AreApart}
use Rattle.dependencies.specs.Askers.{askers_of}
use Rattle.messages.specs.declared.envelope.Envelope.{Envelope}
use Rattle.messages.specs.Topology.{TopologyValue}
use Rattle.messages.specs.Place.{IsPlace}
use Rattle.messages.specs.Words.{is_same_txn}
use Rattle.messages.specs.Shard.{ShardState, ShardStep, WaitingRead, Decision, quiet}
use Rattle.messages.specs.Known.{decision_of}
use Rattle.write_txn.specs.Ledger.{State, state_of, decided_in}
use Rattle.write_txn.specs.View.{View, view_of}
use Rattle.write_txn.specs.Voters.{voters_of}
use Rattle.write_txn.specs.Stands.{Stands}
use Rattle.write_txn.specs.Moves.{Moves}
use Rattle.write_txn.proofs.Finds.{own_txn, same_txn}
use Rattle.write_txn.proofs.Views.{view_of_others}
use Rattle.write_txn.proofs.Bodies.{decision_if}
use Rattle.shard.specs.declared.kept.ShardKept.{ShardKept}
use Rattle.shard.specs.Kept.{Represents, IsStep, GoesOn}
use Rattle.shard.specs.Effects.{IsAfter, IsSpared, IsStored}

-- ## Nothing changes

pub spared : (k l : ShardKept) → IsSpared k l → GoesOn k l
spared k l i top me a r = record {
  place = subst (IsPlace top me) (sym i.place) r.place;
  clock = r.clock ∙ sym i.clock;
  low = r.low ∙ sym i.low;
  store = i.store a.applied r.store;
  stands = λ t. subst (Stands top me t (view_of t a)) (sym (i.states t)) (r.stands t);
  early = λ t e. i.early t ∙ r.early t (sym (i.states t) ∙ e);
  notices = λ t e. i.notices t ∙ r.notices t (sym (i.states t) ∙ e);
  early_forgotten = λ t e. i.early t ∙ r.early_forgotten t (sym (ap (λ (o : Option State). is_some o) (i.states t)) ∙ e);
  notices_forgotten = λ t e. i.notices t ∙ r.notices_forgotten t (sym (ap (λ (o : Option State). is_some o) (i.states t)) ∙ e);
  askers = λ t e. i.askers t ∙ r.askers t e;
  waiting = r.waiting ∙ sym i.waiting;
  once = r.once;
  kept_once = r.kept_once;
}

-- only the clock moves
pub moves_on : (top : TopologyValue) (me n : ℕ) (k : ShardKept) (a : ShardState) → Represents top me k a → Represents top me (record k { clock = n }) (record a { clock = n })
moves_on top me n k a r = record {
  place = r.place;
  clock = refl;
  low = r.low;
  store = r.store;
  stands = r.stands;
  early = r.early;
  notices = r.notices;
  early_forgotten = r.early_forgotten;
  notices_forgotten = r.notices_forgotten;
  askers = r.askers;
  waiting = r.waiting;
  once = r.once;
  kept_once = r.kept_once;
}

-- what only moves the clock is such a step
pub is_quiet : (top : TopologyValue) (me n : ℕ) (k : ShardKept) (a : ShardState) (step : ShardStep) (before : List Envelope) → Represents top me k a → step ≡ quiet n a
    → IsStep top me step (record k { clock = n }) before before
is_quiet top me n k a step before r e = subst (λ (s : ShardStep). IsStep top me s (record k { clock = n }) before before) (sym e)
    (record { state = moves_on top me n k a r; sends = sym (append-nil before) })

-- ## Stamps apart

apart_back : (s t : StampValue) → is_eq (stamp_cmp s t) ≡ false → is_eq (stamp_cmp t s) ≡ false
apart_back s t h = grind (arith, nat_tests)

-- what is applied last is in normal form, and its stamp is new
pub apart_last : (xs : List Applied) (x : Applied) → AreApart (xs ++ x ∷ []) → IsNormal x.part.batch × IsNewStamp x.stamp xs
apart_last [] x h = (h.0, refl)
apart_last (y ∷ ys) x h =
    let m = apart_last ys x h.2 in
    let n = neither (list_any (λ z. is_eq (stamp_cmp y.stamp z.stamp)) ys) (is_eq (stamp_cmp y.stamp x.stamp) || false) (sym (list_any-append (λ z. is_eq (stamp_cmp y.stamp z.stamp)) ys (x ∷ [])) ∙ h.1) in
    (m.0, ap (λ (b : Bool). b || list_any (λ z. is_eq (stamp_cmp x.stamp z.stamp)) ys) (apart_back y.stamp x.stamp (neither (is_eq (stamp_cmp y.stamp x.stamp)) false n.1).0) ∙ m.1)

abbrev pub listed : Option Applied → List Applied
listed None = []
listed (Some x) = x ∷ []

stored : (k l : ShardKept) (a b : ShardState) (x : Option Applied) → b.applied ≡ a.applied ++ listed x → IsStored x k.transactions.store l.transactions.store → Keeps k.transactions.store a.applied → AreApart b.applied
    → Keeps l.transactions.store b.applied
stored k l a b None e i h p = subst (Keeps l.transactions.store) (sym (e ∙ append-nil a.applied)) (i a.applied h)
stored k l a b (Some x) e i h p = let q = apart_last a.applied x (subst AreApart e p) in subst (Keeps l.transactions.store) (sym e) (i a.applied h q.0 q.1)

-- ## One transaction moves

none_mapped : {A B : Type 0} (f : A → B) (o : Option A) → option_map f o ≡ None → o ≡ None
none_mapped f None e = refl
none_mapped f (Some x) e = absurd (cc)

find_before : {T : Type 0} (q : T → Bool) (xs ys : List T) → find q (xs ++ ys) ≡ None → find q xs ≡ None
find_before q [] ys e = refl
find_before q (x ∷ xs) ys e = by_cases (q x)
    (λ yes. absurd (let f : Some x ≡ None = rw yes at e in cc))
    (λ no. rw no (find_before q xs ys (rw no at e)))

pub moved : (top : TopologyValue) (me n : ℕ) (t : TxnValue) (s : State) (x : Option Applied) (waits : List WaitingRead) (k l : ShardKept) (a b : ShardState)
    → Represents top me k a → IsAfter t s x n waits k l → Moves top me t (Some s) (listed x) a b → b.clock ≡ n → b.waiting ≡ waits → AreApart b.applied
    → Represents top me l b
moved top me n t s x waits k l a b r i m clock waiting apart = record {
  place = subst (IsPlace top me) (sym i.place) r.place;
  clock = clock ∙ sym i.clock;
  low = m.low ∙ (r.low ∙ sym i.low);
  store = stored k l a b x m.applied i.store r.store apart;
  stands = λ u. by_cases (is_same_txn t u)
      (λ yes. subst (λ v. Stands top me v (view_of v b) (state_of l.transactions.ledger v)) (same_txn t u yes) (subst (Stands top me t (view_of t b)) (sym (state_own t (own_txn t))) m.own))
      (λ no. subst (λ (v : View). Stands top me u v (state_of l.transactions.ledger u)) (sym (view_of_others t u a b no m.about)) (subst (Stands top me u (view_of u a)) (sym (state_other u no)) (r.stands u)));
  early = λ u e. by_cases (is_same_txn t u)
      (λ yes. absurd (let f : Some s ≡ None = sym (state_own u yes) ∙ e in cc))
      (λ no. i.early u no ∙ (r.early u (sym (state_other u no) ∙ e) ∙ ap (λ (v : View). v.early) (sym (view_of_others t u a b no m.about))));
  notices = λ u e. by_cases (is_same_txn t u)
      (λ yes. absurd (let f : Some s ≡ None = sym (state_own u yes) ∙ e in cc))
      (λ no. i.notices u no ∙ (r.notices u (sym (state_other u no) ∙ e) ∙ ap (λ (v : View). v.notices) (sym (view_of_others t u a b no m.about))));
  early_forgotten = λ u e. by_cases (is_same_txn t u)
      (λ yes. subst (λ (v : TxnValue). voters_of l.transactions.early v ≡ []) (same_txn t u yes) (i.own_early (r.early_forgotten t)))
      (λ no. i.early u no ∙ r.early_forgotten u (known_before u no e));
  notices_forgotten = λ u e. by_cases (is_same_txn t u)
      (λ yes. subst (λ (v : TxnValue). voters_of l.notices v ≡ []) (same_txn t u yes) (i.own_notices (r.notices_forgotten t)))
      (λ no. i.notices u no ∙ r.notices_forgotten u (known_before u no e));
  askers = λ u e. by_cases (is_same_txn t u)
      (λ yes. let f = same_txn t u yes in subst (λ v. askers_of l.askers v ≡ filter (λ z. is_same_txn z.dependency v) b.askers) f (own_askers (subst (λ v. decision_of v b ≡ None) (sym f) e)))
      (λ no. i.askers u no ∙ (r.askers u (ap (λ (v : View). v.decision) (sym (view_of_others t u a b no m.about)) ∙ e) ∙ ap (filter (λ z. is_same_txn z.dependency u)) (sym m.askers)));
  waiting = waiting ∙ sym i.waiting;
  once = m.once r.once;
  kept_once = m.kept_once r.kept_once;
}
  where
    state_own : (u : TxnValue) → is_same_txn t u ≡ true → state_of l.transactions.ledger u ≡ Some s
    state_own u e = i.state u ∙ ap (λ (b : Bool). if b then Some s else state_of k.transactions.ledger u) e

    state_other : (u : TxnValue) → is_same_txn t u ≡ false → state_of l.transactions.ledger u ≡ state_of k.transactions.ledger u
    state_other u e = i.state u ∙ ap (λ (b : Bool). if b then Some s else state_of k.transactions.ledger u) e

    known_before : (u : TxnValue) → is_same_txn t u ≡ false → is_some (state_of l.transactions.ledger u) ≡ true → is_some (state_of k.transactions.ledger u) ≡ true
    known_before u other e = sym (ap (λ (o : Option State). is_some o) (state_other u other)) ∙ e

    own_askers : decision_of t b ≡ None → askers_of l.askers t ≡ filter (λ z. is_same_txn z.dependency t) b.askers
    own_askers e =
        let undecided = none_mapped (λ (d : ℕ × StampValue). record { txn = t; commit = d.0; stamp = d.1 }) (decided_in (Some s)) (sym (decision_if top me t b (Some s) m.own) ∙ e) in
        let before = find_before (λ (d : Decision). is_same_txn d.txn t) a.decided m.about.decided.more (ap (find (λ (d : Decision). is_same_txn d.txn t)) (sym m.about.decided.is) ∙ e) in
        i.own_askers undecided ∙ (r.askers t before ∙ ap (filter (λ z. is_same_txn z.dependency t)) (sym m.askers))
