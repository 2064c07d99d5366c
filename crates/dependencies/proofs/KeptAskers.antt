-- What is kept stands for the askers of the shard's state: it does at first, after one more is remembered, and after a
-- decision, whose askers are forgotten.
use Rattle.std.proofs.Common.{◌≡◌, ◌∙◌, ℕ, ap, sym, refl, Bool, true, false, ◌||◌, List, [], ◌∷◌, ◌++◌, filter, Some, None}
use Rattle.std.specs.Prelude.{if◌then◌else◌, ◌&&◌, ◌==◌, find}
use Rattle.logical_time.specs.Stamps.{TxnValue}
use Rattle.messages.specs.Topology.{TopologyValue}
use Rattle.messages.specs.Words.{is_same_txn}
use Rattle.messages.specs.Shard.{ShardState, BegunBallot, Decision, Asker, new_shard}
use Rattle.messages.specs.Known.{decision_of, is_asker}
use Rattle.messages.specs.Commits.{stamp_for, decide}
use Rattle.messages.specs.Replication.{remember_if}
use Rattle.dependencies.specs.Askers.{AskersValue, askers_of, with_asker, KeepsAskers}
use Rattle.dependencies.proofs.Txns.{same_txn}

-- those that asked for this transaction
abbrev asked_for : TxnValue → List Asker → List Asker
asked_for t ks = filter (λ k. is_same_txn k.dependency t) ks

-- whether one asked is told by those that asked for the same
asked_among : (d waiter : TxnValue) (from : ℕ) (ks : List Asker) → is_asker (asked_for d ks) d waiter from ≡ is_asker ks d waiter from
asked_among d waiter from [] = refl
asked_among d waiter from (k ∷ ks) = go (is_same_txn k.dependency d) refl (asked_among d waiter from ks)
  where
    go : (b : Bool) → is_same_txn k.dependency d ≡ b → is_asker (asked_for d ks) d waiter from ≡ is_asker ks d waiter from
        → is_asker (if b then k ∷ asked_for d ks else asked_for d ks) d waiter from
        ≡ ((b && is_same_txn k.waiter waiter && (k.from == from)) || is_asker ks d waiter from)
    go true same h = ap (λ own. (own && is_same_txn k.waiter waiter && (k.from == from)) || is_asker (asked_for d ks) d waiter from) same ∙ ap (λ others. (is_same_txn k.waiter waiter && (k.from == from)) || others) h
    go false same h = h

asked_last : (t : TxnValue) (ks : List Asker) (k : Asker) → asked_for t (ks ++ k ∷ []) ≡ (if is_same_txn k.dependency t then asked_for t ks ++ k ∷ [] else asked_for t ks)
asked_last t [] k = last (is_same_txn k.dependency t)
  where
    last : (b : Bool) → (if b then k ∷ [] else []) ≡ (if b then [] ++ k ∷ [] else [])
    last true = refl
    last false = refl
asked_last t (x ∷ ks) k = ap (λ later. if is_same_txn x.dependency t then x ∷ later else later) (asked_last t ks k) ∙ either (is_same_txn x.dependency t) (is_same_txn k.dependency t)
  where
    either : (b c : Bool) → (if b then x ∷ (if c then asked_for t ks ++ k ∷ [] else asked_for t ks) else (if c then asked_for t ks ++ k ∷ [] else asked_for t ks))
        ≡ (if c then (if b then x ∷ asked_for t ks else asked_for t ks) ++ k ∷ [] else (if b then x ∷ asked_for t ks else asked_for t ks))
    either true true = refl
    either true false = refl
    either false true = refl
    either false false = refl

-- before the first event
pub new_keeps : (es : AskersValue) → ((t : TxnValue) → askers_of es t ≡ []) → KeepsAskers es new_shard
new_keeps es none t undecided = none t

-- one more is remembered
pub remember_keeps : (es fs : AskersValue) (n : ℕ) (a : ShardState) (k : Asker) → KeepsAskers es a → decision_of k.dependency a ≡ None
    → ((t : TxnValue) → askers_of fs t ≡ (if is_same_txn k.dependency t then with_asker k (askers_of es t) else askers_of es t))
    → KeepsAskers fs (remember_if (is_asker a.askers k.dependency k.waiter k.from) n a k).state
remember_keeps es fs n a k keeps new step = go (is_asker a.askers k.dependency k.waiter k.from) refl
  where
    -- for its own dependency what is kept tells whether it asked
    own : (t : TxnValue) → decision_of t a ≡ None → is_same_txn k.dependency t ≡ true → is_asker (askers_of es t) k.dependency k.waiter k.from ≡ is_asker a.askers k.dependency k.waiter k.from
    own t undecided same =
        ap (λ ks. is_asker ks k.dependency k.waiter k.from) (keeps t undecided)
        ∙ (ap (λ u. is_asker (asked_for u a.askers) k.dependency k.waiter k.from) (sym (same_txn k.dependency t same)) ∙ asked_among k.dependency k.waiter k.from a.askers)

    kept : (b : Bool) (t : TxnValue) → is_asker a.askers k.dependency k.waiter k.from ≡ b → decision_of t a ≡ None → (c : Bool) → is_same_txn k.dependency t ≡ c
        → (if c then with_asker k (askers_of es t) else askers_of es t) ≡ (if c then (if b then asked_for t a.askers else asked_for t a.askers ++ k ∷ []) else asked_for t a.askers)
    kept b t asked undecided true same =
        ap (λ known. if known then askers_of es t else askers_of es t ++ k ∷ []) (own t undecided same ∙ asked) ∙ ap (λ ks. if b then ks else ks ++ k ∷ []) (keeps t undecided)
    kept b t asked undecided false same = keeps t undecided

    no_more : (c : Bool) (ks : List Asker) → (if c then ks else ks) ≡ ks
    no_more true ks = refl
    no_more false ks = refl

    go : (b : Bool) → is_asker a.askers k.dependency k.waiter k.from ≡ b → KeepsAskers fs (remember_if b n a k).state
    go true asked t undecided = step t ∙ (kept true t asked undecided (is_same_txn k.dependency t) refl ∙ no_more (is_same_txn k.dependency t) (asked_for t a.askers))
    go false asked t undecided = step t ∙ (kept false t asked undecided (is_same_txn k.dependency t) refl ∙ sym (asked_last t a.askers k))

-- what isn't decided after a decision wasn't before, and is another transaction
still_undecided : (t : TxnValue) (ds : List Decision) (d : Decision) → find (λ x. is_same_txn x.txn t) (ds ++ d ∷ []) ≡ None
    → (find (λ x. is_same_txn x.txn t) ds ≡ None) × (is_same_txn d.txn t ≡ false)
still_undecided t [] d undecided = (refl, go (is_same_txn d.txn t) undecided)
  where
    go : (b : Bool) → (if b then Some d else None) ≡ None → b ≡ false
    go true e = absurd (cc)
    go false e = refl
still_undecided t (x ∷ ds) d undecided = go (is_same_txn x.txn t) (still_undecided t ds d) undecided
  where
    go : (b : Bool) → (find (λ y. is_same_txn y.txn t) (ds ++ d ∷ []) ≡ None → (find (λ y. is_same_txn y.txn t) ds ≡ None) × (is_same_txn d.txn t ≡ false))
        → (if b then Some x else find (λ y. is_same_txn y.txn t) (ds ++ d ∷ [])) ≡ None
        → ((if b then Some x else find (λ y. is_same_txn y.txn t) ds) ≡ None) × (is_same_txn d.txn t ≡ false)
    go true rest e = absurd (cc)
    go false rest e = rest e

-- a ballot is decided, and those that asked for it, which are answered, are forgotten
pub forget_keeps : (es fs : AskersValue) (top : TopologyValue) (me n : ℕ) (a : ShardState) (b : BegunBallot) → KeepsAskers es a
    → ((t : TxnValue) → askers_of fs t ≡ (if is_same_txn b.txn t then [] else askers_of es t)) → KeepsAskers fs (decide top me n a b).state
forget_keeps es fs top me n a b keeps step t undecided =
    let h = still_undecided t a.decided (record { txn = b.txn; commit = n; stamp = stamp_for me n b.stamp }) undecided in
    step t ∙ (ap (λ own. if own then [] else askers_of es t) h.1 ∙ keeps t h.0)
