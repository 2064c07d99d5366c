-- One more notice.
use Rattle.std.proofs.Common.{subst, refl, ℕ, List, [], ◌∷◌, ◌++◌}
use Rattle.logical_time.specs.Stamps.{StampValue, TxnValue}
use Rattle.txn_state.specs.Announced.{Announced}

pub announced_more : {S : Type 0} (P : S → ℕ → TxnValue → ℕ → StampValue → S → Type 0) (ns : List ℕ) (n : ℕ) (t : TxnValue) (commit : ℕ) (stamp : StampValue) (x y z : S) → Announced P ns t commit stamp x y → P y n t commit stamp z → Announced P (ns ++ n ∷ []) t commit stamp x z
announced_more P [] n t commit stamp x y z before now = (z, subst (λ w. P w n t commit stamp z) before now, refl)
announced_more P (k ∷ ns) n t commit stamp x y z before now =
    (before.0, before.1, announced_more P ns n t commit stamp before.0 y z before.2 now)
