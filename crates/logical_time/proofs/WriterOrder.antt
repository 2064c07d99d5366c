-- Writers are ordered, and stand once after equal ones are left out of a list in order.
use Rattle.std.proofs.Common.{◌≡◌, ◌∙◌, sym, ap, Bool, true, ◌&&◌, List, arith}
use Rattle.std.specs.Prelude.{◌==◌, Contains, IsSorted}
use Rattle.std.specs.Cmp.{IsEquivalence}
use Rattle.std.specs.Ordering.{eq_by_cmp, is_eq}
use Rattle.std.specs.declared.cmp.Ordering.TheVariants.{Equal}
use Rattle.std.specs.List.{dedup}
use Rattle.std.specs.List.Sorted.{IsStrictlySortedBy}
use Rattle.std.proofs.lemmas.Bool.Decides.{nat_tests}
use Rattle.std.proofs.lemmas.Cmp.{eq_by_cmp_equiv}
use Rattle.std.proofs.lemmas.List.Kept.{Contains-dedup, Contains-from_dedup, IsStrictlySortedBy-dedup}
use Rattle.logical_time.specs.Stamps.{WriterValue, writer_cmp}
pub use Rattle.logical_time.specs.WriterLaws.{writer_total}

-- whether both are the same writer
abbrev pub same_writer : WriterValue → WriterValue → Bool
same_writer v w = ((v.txn.session == w.txn.session) && (v.txn.number == w.txn.number)) && (v.shard == w.shard)

ties : (v w : WriterValue) → same_writer v w ≡ eq_by_cmp writer_cmp v w
ties v w = grind (arith, nat_tests)

equivalence : IsEquivalence same_writer
equivalence =
    let known = eq_by_cmp_equiv writer_total in
    record {
      refl = λ v. ties v v ∙ known.refl v;
      symm = λ v w. ties v w ∙ known.symm v w ∙ sym (ties w v);
      congr = λ u v w h. ties u w ∙ known.congr u v w (sym (ties u v) ∙ h) ∙ sym (ties v w);
    }

same_session : (v w : WriterValue) → same_writer v w ≡ true → v.txn.session ≡ w.txn.session
same_session v w e = grind (arith, nat_tests)

same_number : (v w : WriterValue) → same_writer v w ≡ true → v.txn.number ≡ w.txn.number
same_number v w e = grind (arith, nat_tests)

same_shard : (v w : WriterValue) → same_writer v w ≡ true → v.shard ≡ w.shard
same_shard v w e = grind (arith, nat_tests)

joined : (v w : WriterValue) → v.txn.session ≡ w.txn.session → v.txn.number ≡ w.txn.number → v.shard ≡ w.shard → v ≡ w
joined v w session number shard =
    ap (λ s. record { txn = record { session = s; number = v.txn.number }; shard = v.shard }) session
    ∙ ap (λ n. record { txn = record { session = w.txn.session; number = n }; shard = v.shard }) number
    ∙ ap (λ s. record { txn = w.txn; shard = s }) shard

pub same : (v w : WriterValue) → same_writer v w ≡ true → v ≡ w
same v w e = joined v w (same_session v w e) (same_number v w e) (same_shard v w e)

-- writers that compare as equal are the same
pub exact_writer : (v w : WriterValue) → writer_cmp v w ≡ Equal → v ≡ w
exact_writer v w e = same v w (ties v w ∙ ap is_eq e)

pub kept_once : (ws : List WriterValue) (w : WriterValue) → Contains ws w → Contains (dedup same_writer ws) w
kept_once ws w has = Contains-dedup equivalence same ws w has

pub only_kept : (ws : List WriterValue) (w : WriterValue) → Contains (dedup same_writer ws) w → Contains ws w
only_kept ws w has = Contains-from_dedup same_writer ws w has

pub strictly_sorted : (ws : List WriterValue) → IsSorted writer_cmp ws → IsStrictlySortedBy writer_cmp (dedup same_writer ws)
strictly_sorted ws sorted = IsStrictlySortedBy-dedup writer_total ties ws sorted
