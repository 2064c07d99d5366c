-- The step of a dependency check, as what is kept takes it.
use Rattle.std.proofs.Common.{◌≡◌, ◌∙◌, sym, ap, subst, refl, ℕ, Bool, true, false, ◌&&◌, ◌||◌, if◌then◌else◌, List, [], ◌∷◌, ◌++◌, Option, Some, None, append-nil}
use Rattle.std.specs.Prelude.{filter, ◌==◌}
use Rattle.logical_time.specs.Stamps.{StampValue, TxnValue}
use Rattle.column_family.proofs.Options.{by_cases}
use Rattle.dependencies.specs.Askers.{AskersValue, askers_of, with_asker, KeepsAskers}
use Rattle.messages.specs.declared.body.Body.TheVariants.{DepOk}
use Rattle.messages.specs.declared.envelope.Envelope.{Envelope}
use Rattle.messages.specs.Topology.{TopologyValue}
use Rattle.messages.specs.Words.{is_same_txn, envelope}
use Rattle.messages.specs.Shard.{ShardState, Asker, Decision}
use Rattle.messages.specs.Known.{decision_of, is_asker}
use Rattle.messages.specs.Replication.{remember_if, dep_check_for, on_dep_check}
use Rattle.write_txn.specs.Ledger.{state_of, decided_in}
use Rattle.write_txn.proofs.Finds.{own_txn, same_txn, filter_extended, adds, of_another}
use Rattle.write_txn.proofs.Bodies.{decision_if}
use Rattle.shard.specs.declared.kept.ShardKept.{ShardKept}
use Rattle.shard.specs.Kept.{Represents, IsStep}
use Rattle.shard.proofs.in_code.Standing.{moves_on}

-- ## Decided

-- an asker for what is decided is answered
pub answers_asker : (top : TopologyValue) (me n : ℕ) (k : ShardKept) (a : ShardState) (q : Asker) (commit : ℕ) (stamp : StampValue) (before after : List Envelope)
    → Represents top me k a → decided_in (state_of k.transactions.ledger q.dependency) ≡ Some (commit, stamp)
    → after ≡ before ++ envelope me q.from n (DepOk q.dependency q.waiter commit) ∷ []
    → IsStep top me (on_dep_check me n a q) (record k { clock = n }) before after
answers_asker top me n k a q commit stamp before after r decided sends =
    let known = decision_if top me q.dependency a (state_of k.transactions.ledger q.dependency) (r.stands q.dependency) in
    let is : decision_of q.dependency a ≡ Some (record { txn = q.dependency; commit = commit; stamp = stamp }) = rw decided at known in
    subst (λ (o : Option Decision). IsStep top me (dep_check_for o me n a q) (record k { clock = n }) before after) (sym is)
    (record { state = moves_on top me n k a r; sends = sends })

-- ## Remembered

-- whether one asked is whether it is among those that asked for the same
pub own_askers : (ks : List Asker) (q : Asker) → is_asker (filter (λ z. is_same_txn z.dependency q.dependency) ks) q.dependency q.waiter q.from ≡ is_asker ks q.dependency q.waiter q.from
own_askers [] q = refl
own_askers (x ∷ xs) q = by_cases (is_same_txn x.dependency q.dependency)
    (λ yes. rw (yes, yes) (ap (λ (b : Bool). (is_same_txn x.waiter q.waiter && (x.from == q.from)) || b) (own_askers xs q)))
    (λ no. rw no (own_askers xs q))

filter_last : (ks : List Asker) (q : Asker) → filter (λ z. is_same_txn z.dependency q.dependency) (ks ++ q ∷ []) ≡ filter (λ z. is_same_txn z.dependency q.dependency) ks ++ q ∷ []
filter_last [] q = rw (own_txn q.dependency) refl
filter_last (x ∷ xs) q = by_cases (is_same_txn x.dependency q.dependency)
    (λ yes. rw yes (ap (λ (zs : List Asker). x ∷ zs) (filter_last xs q)))
    (λ no. rw no (filter_last xs q))

-- the askers of the state once this one is remembered
abbrev with_this : Bool → List Asker → Asker → List Asker
with_this true ks q = ks
with_this false ks q = ks ++ q ∷ []

-- of its own dependency
with_own : (ks : List Asker) (q : Asker) (b : Bool) → is_asker ks q.dependency q.waiter q.from ≡ b
    → with_asker q (filter (λ z. is_same_txn z.dependency q.dependency) ks) ≡ filter (λ z. is_same_txn z.dependency q.dependency) (with_this b ks q)
with_own ks q true e = rw (own_askers ks q ∙ e) refl
with_own ks q false e = rw (own_askers ks q ∙ e) (sym (filter_last ks q))

-- of another
with_others : (ks : List Asker) (q : Asker) (b : Bool) (t : TxnValue) → is_same_txn q.dependency t ≡ false
    → filter (λ z. is_same_txn z.dependency t) ks ≡ filter (λ z. is_same_txn z.dependency t) (with_this b ks q)
with_others ks q true t e = refl
with_others ks q false t e =
    sym (filter_extended (λ z. is_same_txn z.dependency q.dependency) (λ z. is_same_txn z.dependency t) ks (ks ++ q ∷ []) (λ z f. of_another q.dependency t z.dependency f e)
    (adds (λ z. is_same_txn z.dependency q.dependency) ks q (own_txn q.dependency)))

-- what is kept, with these askers, at this clock
abbrev pub with_askers : ShardKept → AskersValue → ℕ → ShardKept
with_askers k es n = record k { clock = n; askers = es }

keeps_askers : (k : ShardKept) (es : AskersValue) (a : ShardState) (q : Asker) (b : Bool) → is_asker a.askers q.dependency q.waiter q.from ≡ b → KeepsAskers k.askers a → decision_of q.dependency a ≡ None
    → ((t : TxnValue) → askers_of es t ≡ (if is_same_txn q.dependency t then with_asker q (askers_of k.askers t) else askers_of k.askers t))
    → (t : TxnValue) → decision_of t a ≡ None → askers_of es t ≡ filter (λ z. is_same_txn z.dependency t) (with_this b a.askers q)
keeps_askers k es a q b e keeps undecided is t none = by_cases (is_same_txn q.dependency t)
    (λ yes. subst (λ (u : TxnValue). askers_of es u ≡ filter (λ z. is_same_txn z.dependency u) (with_this b a.askers q)) (same_txn q.dependency t yes)
    (is q.dependency ∙ (rw (own_txn q.dependency) (ap (with_asker q) (keeps q.dependency undecided) ∙ with_own a.askers q b e))))
    (λ no. is t ∙ (rw no (keeps t none ∙ with_others a.askers q b t no)))

-- an asker for what isn't decided is remembered, once
pub remembers_asker : (top : TopologyValue) (me n : ℕ) (k : ShardKept) (es : AskersValue) (a : ShardState) (q : Asker) (before : List Envelope)
    → Represents top me k a → decided_in (state_of k.transactions.ledger q.dependency) ≡ None
    → ((t : TxnValue) → askers_of es t ≡ (if is_same_txn q.dependency t then with_asker q (askers_of k.askers t) else askers_of k.askers t))
    → IsStep top me (on_dep_check me n a q) (with_askers k es n) before before
remembers_asker top me n k es a q before r open_yet is =
    subst (λ (o : Option Decision). IsStep top me (dep_check_for o me n a q) (with_askers k es n) before before) (sym undecided) (go (is_asker a.askers q.dependency q.waiter q.from) refl)
  where
    undecided : decision_of q.dependency a ≡ None
    undecided = let known = decision_if top me q.dependency a (state_of k.transactions.ledger q.dependency) (r.stands q.dependency) in rw open_yet at known

    go : (b : Bool) → is_asker a.askers q.dependency q.waiter q.from ≡ b → IsStep top me (remember_if b n a q) (with_askers k es n) before before
    go true e = record {
      state = record {
        place = r.place;
        clock = refl;
        low = r.low;
        store = r.store;
        stands = r.stands;
        early = r.early;
        notices = r.notices;
        early_forgotten = r.early_forgotten;
        notices_forgotten = r.notices_forgotten;
        askers = keeps_askers k es a q true e r.askers undecided is;
        waiting = r.waiting;
        once = r.once;
        kept_once = r.kept_once;
      };
      sends = sym (append-nil before);
    }
    go false e = record {
      state = record {
        place = r.place;
        clock = refl;
        low = r.low;
        store = r.store;
        stands = r.stands;
        early = r.early;
        notices = r.notices;
        early_forgotten = r.early_forgotten;
        notices_forgotten = r.notices_forgotten;
        askers = keeps_askers k es a q false e r.askers undecided is;
        waiting = r.waiting;
        once = r.once;
        kept_once = r.kept_once;
      };
      sends = sym (append-nil before);
    }
