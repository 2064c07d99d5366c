-- What is kept of those that asked, once one more is remembered.
use Rattle.std.proofs.Common.{◌≡◌, ◌∙◌, ap, sym, refl, Bool, true, false, ◌||◌, List, [], ◌∷◌, ◌++◌, map}
use Rattle.std.specs.Prelude.{if◌then◌else◌, ◌&&◌, ◌==◌}
use Rattle.logical_time.specs.Stamps.{TxnValue}
use Rattle.messages.specs.Words.{is_same_txn}
use Rattle.messages.specs.Known.{is_asker}
use Rattle.dependencies.specs.declared.waiters.Waiting.{Waiting}
use Rattle.dependencies.specs.Waiting.{is_among, with_waiting}
use Rattle.dependencies.specs.Askers.{AskersValue, waiting_for, asker_for, askers_of, with_asker}
use Rattle.dependencies.proofs.Txns.{same_txn, same_itself}

-- whether one asked is told by those that wait for the dependency
pub asked_as_kept : (t : TxnValue) (one : Waiting) (ws : List Waiting) → is_asker (map (asker_for t) ws) t one.waiter one.from ≡ is_among one ws
asked_as_kept t one [] = refl
asked_as_kept t one (w ∷ ws) =
    ap (λ own. (own && is_same_txn w.waiter one.waiter && (w.from == one.from)) || is_asker (map (asker_for t) ws) t one.waiter one.from) (same_itself t)
    ∙ ap (λ others. (is_same_txn w.waiter one.waiter && (w.from == one.from)) || others) (asked_as_kept t one ws)

last_mapped : (t : TxnValue) (one : Waiting) (ws : List Waiting) → map (asker_for t) (ws ++ one ∷ []) ≡ map (asker_for t) ws ++ asker_for t one ∷ []
last_mapped t one [] = refl
last_mapped t one (w ∷ ws) = ap (λ ks. asker_for t w ∷ ks) (last_mapped t one ws)

added_if : (b : Bool) (t : TxnValue) (one : Waiting) (ws : List Waiting)
    → map (asker_for t) (if b then ws else ws ++ one ∷ []) ≡ (if b then map (asker_for t) ws else map (asker_for t) ws ++ asker_for t one ∷ [])
added_if true t one ws = refl
added_if false t one ws = last_mapped t one ws

added : (t : TxnValue) (one : Waiting) (ws : List Waiting) → map (asker_for t) (with_waiting one ws) ≡ with_asker (asker_for t one) (map (asker_for t) ws)
added t one ws =
    added_if (is_among one ws) t one ws
    ∙ ap (λ b. if b then map (asker_for t) ws else map (asker_for t) ws ++ asker_for t one ∷ []) (sym (asked_as_kept t one ws))

-- those that asked for each dependency, by those that wait for it
pub remembered : (es fs : AskersValue) (d : TxnValue) (one : Waiting)
    → ((t : TxnValue) → waiting_for fs t ≡ (if is_same_txn d t then with_waiting one (waiting_for es t) else waiting_for es t))
    → (t : TxnValue) → askers_of fs t ≡ (if is_same_txn d t then with_asker (asker_for d one) (askers_of es t) else askers_of es t)
remembered es fs d one h t = ap (map (asker_for t)) (h t) ∙ go (is_same_txn d t) refl
  where
    go : (b : Bool) → is_same_txn d t ≡ b
        → map (asker_for t) (if b then with_waiting one (waiting_for es t) else waiting_for es t) ≡ (if b then with_asker (asker_for d one) (askers_of es t) else askers_of es t)
    go true same = added t one (waiting_for es t) ∙ ap (λ u. with_asker (asker_for u one) (askers_of es t)) (sym (same_txn d t same))
    go false same = refl
