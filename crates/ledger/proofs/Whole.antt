-- A head that was written whole is read.
use Rattle.std.proofs.Common.{◌≡◌, ◌∙◌, ℕ, ◌-◌, ◌<◌, ◌^◌, List, [], ◌∷◌, ◌++◌, length, take, drop, slice_index, Result, Err, IfErr, ◌⊎◌, inl, inr, refl, sym, ap, subst, append_assoc, arith}
use Rattle.std.specs.Prelude.{true}
use Rattle.std.specs.Int.{w64, to_be_bytes, from_be_bytes}
use Rattle.std.proofs.lemmas.List.{take_all}
use Rattle.std.proofs.lemmas.Nat.{from_be_bytes-to_be_bytes_8}
use Rattle.messages.specs.Topology.{TopologyValue}
use Rattle.records.specs.Records.{spelling}
use Rattle.ledger.specs.Heads.{titled, head_of, topology_text, IsStore, BeginsAsStore, IsNoHead}
use Rattle.ledger.specs.declared.head.HeadError.{HeadError}
use Rattle.ledger.specs.declared.head.HeadError.TheVariants.{Damaged, Memory}
use Rattle.ledger.proofs.Stores.{Told}

abbrev pub first_eight : List ℕ → List ℕ
first_eight rest =
    slice_index rest 0 ∷ slice_index rest 1 ∷ slice_index rest 2 ∷ slice_index rest 3 ∷ slice_index rest 4 ∷ slice_index rest 5 ∷ slice_index rest 6 ∷ slice_index rest 7 ∷ []

abbrev pub behind_eight : List ℕ → List ℕ
behind_eight rest = take (length rest - 8) (drop 8 rest)

secret_told : (rest more : List ℕ) (s value : ℕ) → s < 2 ^ 64 → rest ≡ to_be_bytes w64 s ++ more → value ≡ from_be_bytes w64 (first_eight rest) → value ≡ s
secret_told rest more s value lt is told =
    told ∙ ap (from_be_bytes w64) (subst (λ (r : List ℕ). first_eight r ≡ to_be_bytes w64 s) (sym is) refl) ∙ from_be_bytes-to_be_bytes_8 s lt

behind_told : (rest more : List ℕ) (s : ℕ) → rest ≡ to_be_bytes w64 s ++ more → behind_eight rest ≡ more
behind_told rest more s is =
    subst (λ (r : List ℕ). behind_eight r ≡ more) (sym is) (take_all (length (to_be_bytes w64 s ++ more) - 8) more (omega arith))

-- what stands behind the title of a store's head
untitled : (file rest more : List ℕ) (s : ℕ) (top : TopologyValue) → file ≡ titled 1 ++ rest → file ≡ head_of s top ++ more
    → rest ≡ to_be_bytes w64 s ++ (spelling s 0 (record { first = true; body = topology_text top }) ++ more)
untitled file rest more s top is head =
    ap (drop 6) (sym is ∙ head) ∙ append_assoc (to_be_bytes w64 s) (spelling s 0 (record { first = true; body = topology_text top })) more

module _ (file rest : List ℕ) (title : file ≡ titled 1 ++ rest) (value : ℕ) (value_is : value ≡ from_be_bytes w64 (first_eight rest)) where
  pub secret_is : (b : BeginsAsStore file) → value ≡ b.0
  secret_is b = secret_told rest _ b.0 value b.1 (untitled file rest b.4 b.0 b.2 title b.5) value_is

  -- what it is told of
  pub told_of : (b : BeginsAsStore file) → Told value (behind_eight rest) b.2 b.4
  told_of b =
      behind_told rest _ b.0 (untitled file rest b.4 b.0 b.2 title b.5)
      ∙ ap (λ s. spelling s 0 (record { first = true; body = topology_text b.2 }) ++ b.4) (sym (secret_is b))

  -- no topology was told
  pub no_topology : {T : Type 0} (e : HeadError) (result : Result T HeadError) → result ≡ Err e → (e ≡ Damaged) ⊎ (e ≡ Memory)
      → ((top : TopologyValue) (more : List ℕ) → IsStore top → Told value (behind_eight rest) top more → e ≡ Memory) → IfErr result (IsNoHead file)
  no_topology {T = T} e result is why whole = subst (λ (r : Result T HeadError). IfErr r (IsNoHead file)) (sym is) (by why)
    where
      by : (e ≡ Damaged) ⊎ (e ≡ Memory) → IsNoHead file e
      by (inl d) = subst (IsNoHead file) (sym d) (rest, title, λ b. differ (sym d ∙ whole b.2 b.4 b.3 (told_of b)))
        where
          differ : Damaged ≡ Memory → ⊥
          differ h = cc
      by (inr m) = subst (IsNoHead file) (sym m) tt

  -- another head would have been written of what was told
  pub another_head : (top : TopologyValue) (head : List ℕ) → head ≡ head_of value top → ((t : TopologyValue) (more : List ℕ) → IsStore t → Told value (behind_eight rest) t more → top ≡ t)
      → ((more : List ℕ) → file ≡ head ++ more → ⊥) → BeginsAsStore file → ⊥
  another_head top head is whole none b =
      none b.4
      (b.5 ∙ ap (λ (h : List ℕ). h ++ b.4) (sym (is ∙ ap (λ t. head_of value t) (whole b.2 b.4 b.3 (told_of b)) ∙ ap (λ s. head_of s b.2) (secret_is b))))
