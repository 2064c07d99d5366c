-- The submission of a number is found, in longer lists too, and a new one has a number of its own.
use Rattle.std.proofs.Common.{◌≡◌, ◌∙◌, ℕ, Bool, true, false, List, [], ◌∷◌, ◌++◌, Some, None, refl, ap, arith}
use Rattle.std.specs.Prelude.{if◌then◌else◌, find, Contains}
use Rattle.logical_time.specs.Stamps.{TxnValue}
use Rattle.messages.specs.declared.op.Op.{Op}
use Rattle.messages.specs.Topology.{TopologyValue}
use Rattle.messages.specs.Words.{is_same_txn}
use Rattle.messages.specs.Submitting.{begun}
use Rattle.world.specs.Run.{Run, Submission}
use Rattle.world.proofs.lists.Members.{contains_first, contains_rest, same_txn}
use Rattle.world.proofs.safety.Invariant.{Inv}
use Rattle.world.proofs.steps.Begun.{begins}

-- what is found is found in a longer list
pub found_still : {X : Type 0} (p : X → Bool) (xs ys : List X) (x : X) → find p xs ≡ Some x → find p (xs ++ ys) ≡ Some x
found_still p [] ys x e = absurd (cc)
found_still p (z ∷ xs) ys x e = go (p z) refl e (found_still p xs ys x)
  where
    go : (b : Bool) → p z ≡ b → (if b then Some z else find p xs) ≡ Some x → (find p xs ≡ Some x → find p (xs ++ ys) ≡ Some x)
        → (if b then Some z else find p (xs ++ ys)) ≡ Some x
    go true q f rest = f
    go false q f rest = rest f

pub found_last : {X : Type 0} (p : X → Bool) (xs : List X) (x : X) → p x ≡ true → ((y : X) → Contains xs y → p y ≡ false) → find p (xs ++ x ∷ []) ≡ Some x
found_last p [] x is none = ap (λ b. if b then Some x else None) is
found_last p (y ∷ xs) x is none =
    ap (λ b. if b then Some y else find p (xs ++ x ∷ [])) (none y (contains_first y xs)) ∙ found_last p xs x is (λ z m. none z (contains_rest y z xs m))

-- no earlier submission of the session has the number of the next
pub number_is_new : (top : TopologyValue) (w : Run) (node n : ℕ) (o : Op) → Inv top w → (b : Submission) → Contains w.submitted b
    → is_same_txn (record { session = b.session; number = b.number }) (record { session = node; number = (begun top node n (w.sessions node) o).state.count }) ≡ false
number_is_new top w node n o inv b m = go (is_same_txn (record { session = b.session; number = b.number }) (record { session = node; number = next })) refl
  where
    next : ℕ
    next = (begun top node n (w.sessions node) o).state.count

    go : (t : Bool) → is_same_txn (record { session = b.session; number = b.number }) (record { session = node; number = next }) ≡ t → t ≡ false
    go false e = refl
    go true e =
        let q = same_txn (record { session = b.session; number = b.number }) (record { session = node; number = next }) e in
        let of : b.session ≡ node = ap (λ (t : TxnValue). t.session) q in
        let number : b.number ≡ next = ap (λ (t : TxnValue). t.number) q in
        let most = inv.submitted.number b m in
        let at : (w.sessions b.session).count ≡ (w.sessions node).count = ap (λ z. (w.sessions z).count) of in
        let count = (begins top node n (w.sessions node) o).count in
        absurd (omega arith)
