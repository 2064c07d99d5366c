-- Why a log isn't opened.
use Rattle.std.proofs.Common.{◌≡◌, ℕ, ◌+◌, true, List, Option, Some, Result, Err, IfErr, IfSome, refl, inl, sym, subst, length, drop}
use Rattle.std.specs.Prelude.{IsErrAnd}
use Rattle.messages.specs.Topology.{TopologyValue}
use Rattle.records.specs.Records.{spelled, recovered, has_first}
use Rattle.keeper.specs.declared.recovery.RecoveryError.{RecoveryError}
use Rattle.keeper.specs.declared.recovery.RecoveryError.TheVariants.{Disk, Damaged}
use Rattle.durable.specs.declared.error.OpenError.{OpenError}
use Rattle.durable.specs.declared.error.OpenError.TheVariants.{Unrecovered, Unread, Refused}
use Rattle.durable.specs.Looked.{IsDamagedAt}
use Rattle.durable.specs.Stuck.{CantRead, CantRecall, CantOpen}

unrecovered : (top : TopologyValue) (secret : ℕ) (bytes : List ℕ) (x : RecoveryError) → ((at : ℕ) → x ≡ Damaged at → IsDamagedAt secret bytes at) → CantOpen top secret bytes (Unrecovered x)
unrecovered top secret bytes (Disk e) damaged = tt
unrecovered top secret bytes (Damaged at) damaged = damaged at refl

some_holds : (o : Option (List ℕ)) (s : List ℕ) (P : List ℕ → Type 0) → o ≡ Some s → IfSome o P → P s
some_holds o s P is h = subst (λ (z : Option (List ℕ)). IfSome z P) is h

-- a log that couldn't be recovered
pub refused_first : {T : Type 0} (top : TopologyValue) (secret : ℕ) (bytes : List ℕ) (shown : Option (List ℕ)) (x : RecoveryError) (result : Result T OpenError) → result ≡ Err (Unrecovered x) → shown ≡ Some bytes
    → ((at : ℕ) → x ≡ Damaged at → IfSome shown (λ s. (at ≡ length (spelled secret 0 (recovered secret 0 0 s))) × (has_first secret (at + 1) (drop (at + 1) s) ≡ true))) → IfErr result (CantOpen top secret bytes)
refused_first {T = T} top secret bytes shown x result is told damaged =
    subst (λ (r : Result T OpenError). IfErr r (CantOpen top secret bytes)) (sym is)
    (unrecovered top secret bytes x (λ at here.
    let h = some_holds shown bytes (λ s. (at ≡ length (spelled secret 0 (recovered secret 0 0 s))) × (has_first secret (at + 1) (drop (at + 1) s) ≡ true)) told (damaged at here) in
    (h.0, subst (λ (n : ℕ). has_first secret (n + 1) (drop (n + 1) bytes) ≡ true) h.0 h.1)))

-- what can't be read leads to no world
pub unread : (top : TopologyValue) (secret : ℕ) (bytes : List ℕ) (x : OpenError) → CantRead secret bytes x → CantRecall top secret bytes x
unread top secret bytes (Unrecovered e) why = why
unread top secret bytes (Unread n) why = why
unread top secret bytes (Refused fault) why = inl why

pub unread_first : {T : Type 0} (top : TopologyValue) (secret : ℕ) (bytes : List ℕ) (x : OpenError) (result : Result T OpenError) → result ≡ Err x → CantRead secret bytes x → IfErr result (CantRecall top secret bytes)
unread_first {T = T} top secret bytes x result is why = subst (λ (r : Result T OpenError). IfErr r (CantRecall top secret bytes)) (sym is) (unread top secret bytes x why)

-- what is told as damaged is so inside
pub damaged_inside : {T : Type 0} (at : ℕ) (x : RecoveryError) (result : Result T OpenError) → result ≡ Err (Unrecovered x) → IsErrAnd result (λ e. e ≡ Unrecovered (Damaged at)) → x ≡ Damaged at
damaged_inside {T = T} at x result same is =
    let h : Unrecovered x ≡ Unrecovered (Damaged at) = subst (λ (r : Result T OpenError). IsErrAnd r (λ e. e ≡ Unrecovered (Damaged at))) same is in
    one h
  where
    one : {y z : RecoveryError} → Unrecovered y ≡ Unrecovered z → y ≡ z
    one h = cc
