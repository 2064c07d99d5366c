-- The latest EVT of a row's columns, after a step of them and among those that are seen.
use Rattle.std.proofs.Common.{◌≡◌, ◌∙◌, sym, ap, subst, refl, ℕ, ◌≤◌, inl, inr, true, false, List, [], ◌∷◌, map, Option, Some, None, IfSome, IsSomeAnd, arith}
use Rattle.std.specs.Prelude.{slice_get, Contains}
use Rattle.std.specs.Str.{bytes_eq}
use Rattle.std.proofs.lemmas.Slice.Eq.{bytes_eq-Decides}
use Rattle.versions.specs.declared.version.Version.{Version}
use Rattle.versions.specs.Chain.{Held, kept_from}
use Rattle.slice.specs.declared.predicate.Predicate.{Predicate}
use Rattle.slice.specs.Slice.{is_asked}
use Rattle.store.specs.declared.sight.Moment.TheVariants.{Now}
use Rattle.store.specs.Stored.{Chains, column_held, collected_held, nothing_held, no_ranges}
use Rattle.store.specs.Latest.{IsLatest, IsLatestAfter, evt_at}
use Rattle.store.specs.Part.{greatest_of}
use Rattle.store.specs.Sight.{NamedVersion, AreSeen, evt_or_0, sight_of}
use Rattle.store.proofs.applied.Collected.{row_collected}
use Rattle.store.proofs.lists.Lists.{contains_first, contains_rest, first_or_rest, none_in_empty}
use Rattle.store.proofs.lists.Maps.{by_cases}

-- where each column has what it had, so has their latest
pub latest_same : (olds news : List (List ℕ × Held)) (t : ℕ) → ((n : List ℕ) → evt_at news n ≡ evt_at olds n) → IsLatest olds t → IsLatest news t
latest_same olds news t same is = record {
  above = λ n. subst (λ (e : ℕ). e ≤ t) (sym (same n)) (is.above n);
  of_one = (is.of_one.0, same is.of_one.0 ∙ is.of_one.1);
}

-- a column went from one to another, and no other did
pub latest_moved : (olds news : List (List ℕ × Held)) (k : List ℕ) (was now : ℕ)
    → ((n : List ℕ) → bytes_eq k n ≡ false → evt_at news n ≡ evt_at olds n)
    → IsLatestAfter was (evt_at olds k) (evt_at news k) now → IsLatest olds was → IsLatest news now
latest_moved olds news k was now others (inl after) is = record {
  above = λ n. by_cases (bytes_eq k n)
      (λ here. let own : evt_at news k ≡ evt_at news n = ap (evt_at news) ((bytes_eq-Decides k n).0 here) in omega (arith, own, after))
      (λ there. let other = others n there in let below = is.above n in omega (arith, other, below, after));
  of_one = (k, sym after.0);
}
latest_moved olds news k was now others (inr stays) is = record {
  above = λ n. by_cases (bytes_eq k n)
      (λ here. let own : evt_at news k ≡ evt_at news n = ap (evt_at news) ((bytes_eq-Decides k n).0 here) in omega (arith, own, stays))
      (λ there. let other = others n there in let below = is.above n in omega (arith, other, below, stays));
  of_one = by_cases (bytes_eq k is.of_one.0)
      (λ here. let own : evt_at olds k ≡ evt_at olds is.of_one.0 = ap (evt_at olds) ((bytes_eq-Decides k is.of_one.0).0 here) in let one = is.of_one.1 in absurd (omega (arith, own, one, stays)))
      (λ there. (is.of_one.0, others is.of_one.0 there ∙ is.of_one.1 ∙ sym stays.0));
}

-- where it was known and still is
pub latest_put : (olds news : List (List ℕ × Held)) (k : List ℕ) (was now : Option ℕ) (before after : ℕ) → before ≡ evt_at olds k → after ≡ evt_at news k
    → ((n : List ℕ) → bytes_eq k n ≡ false → evt_at news n ≡ evt_at olds n)
    → IfSome now (λ t. IsSomeAnd was (λ s. IsLatestAfter s before after t)) → IfSome was (IsLatest olds) → IfSome now (IsLatest news)
latest_put olds news k was None before after b a others moves is = tt
latest_put olds news k None (Some t) before after b a others moves is = absurd moves
latest_put olds news k (Some s) (Some t) before after b a others moves is =
    latest_moved olds news k s t others (subst (λ (n : ℕ). IsLatestAfter s (evt_at olds k) n t) a (subst (λ (n : ℕ). IsLatestAfter s n after t) b moves)) is

newest_kept : (t : ℕ) (xs : List Version) → slice_get (kept_from t xs) 0 ≡ slice_get xs 0
newest_kept t [] = refl
newest_kept t (x ∷ xs) = refl

-- a collection keeps the newest version of each column
pub latest_collected : (t : ℕ) (olds news : List (List ℕ × Held)) (was : Option ℕ) → news ≡ map (λ e. (e.0, collected_held t e.1)) olds
    → IfSome was (IsLatest olds) → IfSome was (IsLatest news)
latest_collected t olds news None collects is = tt
latest_collected t olds news (Some s) collects is =
    latest_same olds news s
    (λ n. ap (λ (es : List (List ℕ × Held)). evt_at es n) collects
    ∙ ap (λ (xs : List Version). evt_or_0 (slice_get xs 0)) (row_collected t (record { columns = olds; deletions = nothing_held; ranges = no_ranges }) (Some n))
    ∙ ap evt_or_0 (newest_kept t (column_held olds n).versions)) is

-- ---- among the columns that are seen
greatest_up_to : (t : ℕ) (ss : List NamedVersion) → ((s : NamedVersion) → Contains ss s → s.1.evt ≤ t) → greatest_of (map (λ s. s.1.evt) ss) ≤ t
greatest_up_to t [] each = omega arith
greatest_up_to t (s ∷ ss) each =
    let here = each s (contains_first s ss) in
    let rest = greatest_up_to t ss (λ u has. each u (contains_rest s u ss has)) in
    omega (arith, here, rest)

at_most_greatest : (ss : List NamedVersion) (s : NamedVersion) → Contains ss s → s.1.evt ≤ greatest_of (map (λ u. u.1.evt) ss)
at_most_greatest [] s has = absurd (none_in_empty s has)
at_most_greatest (u ∷ ss) s has = elim (first_or_rest u s ss has) [
  | inl here ↦ (let same : u.1.evt ≡ s.1.evt = ap (λ (v : NamedVersion). v.1.evt) here in omega (arith, same))
  | inr there ↦ (let below = at_most_greatest ss s there in omega (arith, below))
]

-- where all columns are asked for, the greatest EVT of those that are seen now is the latest
pub latest_seen : (row : Chains) (p : Predicate) (seen : List NamedVersion) (t : ℕ) → AreSeen (sight_of Now row) p seen → ((n : List ℕ) → is_asked p n ≡ true)
    → IsLatest row.columns t → greatest_of (map (λ s. s.1.evt) seen) ≡ t
latest_seen row p seen t are asks is =
    let below = greatest_up_to t seen (λ s has. subst (λ (o : Option Version). evt_or_0 o ≤ t) (are.sound s.0 s.1 has).1 (is.above s.0)) in
    let above = reaches (slice_get (column_held row.columns is.of_one.0).versions 0) refl in
    omega (arith, below, above)
  where
    reaches : (o : Option Version) → slice_get (column_held row.columns is.of_one.0).versions 0 ≡ o → t ≤ greatest_of (map (λ s. s.1.evt) seen)
    reaches None e = let none : t ≡ 0 = sym is.of_one.1 ∙ ap evt_or_0 e in omega (arith, none)
    reaches (Some v) e =
        let own : t ≡ v.evt = sym is.of_one.1 ∙ ap evt_or_0 e in
        let most = at_most_greatest seen (is.of_one.0, v) (are.whole is.of_one.0 v (asks is.of_one.0) e) in
        omega (arith, own, most)
