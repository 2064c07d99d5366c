-- Two histories of which each has what the other last does by deletions that strike a location: the same transactions
-- delete ranges with it.
use Rattle.std.proofs.Common.{◌≡◌, ◌∙◌, ap, sym, refl, inl, inr, Bool, true, false, ◌&&◌, ◌⊎◌, not, [], ◌∷◌, Option, Some, None}
use Rattle.std.specs.Prelude.{Contains}
use Rattle.std.specs.List.{list_any}
use Rattle.std.specs.Ordering.{is_eq}
use Rattle.logical_time.specs.Stamps.{StampValue, stamp_cmp}
use Rattle.column_family.specs.declared.batch.Committed.{Committed}
use Rattle.column_family.specs.declared.batch.Mutation.{Mutation}
use Rattle.column_family.specs.Location.{Location, is_row_deletion, strikes}
use Rattle.column_family.specs.History.{History, Stamped, last_of, newest_of, keeps_row, leaves_range, is_older_than, ranges_at}
use Rattle.column_family.proofs.Options.{both_true, either_true, both_hold, first_holds, second_holds}
use Rattle.slice.proofs.Lists.{none_in_empty, contains_first, contains_rest, first_or_rest}
use Rattle.slice.proofs.SameNewest.{HasEach}
use Rattle.slice.proofs.Rested.{stamp_found}

module _ (l : Location) (s : StampValue) where
  -- whether an entry has the stamp and deletes a range with the location, and its row by no later change
  abbrev leaves_here : Committed → Bool
  leaves_here c = is_eq (stamp_cmp c.stamp s) && leaves_range l c.batch

  found : (h : History) → list_any leaves_here h ≡ true → (c : Committed) × Contains h c × (leaves_here c ≡ true)
  found [] e = absurd (cc)
  found (c ∷ h) e = go (found h) (either_true (leaves_here c) (list_any leaves_here h) e)
    where
      go : (list_any leaves_here h ≡ true → (d : Committed) × Contains h d × (leaves_here d ≡ true)) → (leaves_here c ≡ true) ⊎ (list_any leaves_here h ≡ true)
          → (d : Committed) × Contains (c ∷ h) d × (leaves_here d ≡ true)
      go ih (inl here) = (c, contains_first c h, here)
      go ih (inr there) = let d = ih there in (d.0, contains_rest c d.0 h d.1, d.2)

  finds : (h : History) (c : Committed) → Contains h c → leaves_here c ≡ true → list_any leaves_here h ≡ true
  finds [] c has e = absurd (none_in_empty c has)
  finds (d ∷ h) c has e = elim (first_or_rest d c h has) [
    | inl is ↦ first_holds (leaves_here d) (list_any leaves_here h) (ap leaves_here is ∙ e)
    | inr there ↦ second_holds (leaves_here d) (list_any leaves_here h) (finds h c there e)
  ]

  kept_some : (o : Option Mutation) → keeps_row o ≡ true → (m : Mutation) × (o ≡ Some m)
  kept_some None e = absurd (cc)
  kept_some (Some m) e = (m, refl)

  carried : (h g : History) → HasEach (strikes l) h g → list_any leaves_here h ≡ true → list_any leaves_here g ≡ true
  carried h g into e =
      let c = found h e in
      let is = both_true (is_eq (stamp_cmp c.0.stamp s)) (leaves_range l c.0.batch) c.2 in
      let m = kept_some (last_of (strikes l) c.0.batch) is.1 in
      let d = into c.0 m.0 c.1 m.1 in
      finds g d.0 d.1
      (both_hold (is_eq (stamp_cmp d.0.stamp s)) (leaves_range l d.0.batch)
      (ap (λ (z : StampValue). is_eq (stamp_cmp z s)) d.2 ∙ is.0)
      (ap keeps_row d.4 ∙ sym (ap keeps_row m.1) ∙ is.1))

  implied : (a b : Bool) → (a ≡ true → b ≡ true) → (b ≡ true → a ≡ true) → a ≡ b
  implied true b f g = sym (f refl)
  implied false true f g = g refl
  implied false false f g = refl

  pub same_ranges : (h g : History) → HasEach (strikes l) h g → HasEach (strikes l) g h
      → newest_of (is_row_deletion l.row) h ≡ newest_of (is_row_deletion l.row) g → ranges_at h l s ≡ ranges_at g l s
  same_ranges h g into back deletion =
      ap (λ (b : Bool). b && not (is_older_than (newest_of (is_row_deletion l.row) h) s)) (implied (list_any leaves_here h) (list_any leaves_here g) (carried h g into) (carried g h back))
      ∙ ap (λ (o : Option Stamped). list_any leaves_here g && not (is_older_than o s)) deletion

  -- a range that counts is of an entry of the history
  pub range_entry : (h : History) → ranges_at h l s ≡ true → (c : Committed) × Contains h c × (c.stamp ≡ s)
  range_entry h e =
      let c = found h (both_true (list_any leaves_here h) (not (is_older_than (newest_of (is_row_deletion l.row) h) s)) e).0 in
      let is = both_true (is_eq (stamp_cmp c.0.stamp s)) (leaves_range l c.0.batch) c.2 in
      let same : Some c.0.stamp ≡ Some s = stamp_found (Some c.0.stamp) s is.0 in
      (c.0, c.1, cc)
