-- Stamps that were seen, and entries that are applied one after the other.
use Rattle.std.proofs.Common.{◌≡◌, ◌∙◌, sym, ap, refl, ℕ, ◌+◌, ◌<◌, Bool, true, false, ◌||◌, cond, List, [], ◌∷◌, ◌++◌, length, map, take, get_or, arith, subst, Option, Some, None}
use Rattle.std.specs.Ordering.{is_eq}
use Rattle.std.specs.List.{list_any}
use Rattle.std.specs.List.Sorted.{IsPermutation}
use Rattle.std.proofs.lemmas.Bool.Decides.{nat_tests}
use Rattle.std.proofs.lemmas.List.{map_more}
use Rattle.std.proofs.lemmas.List.Folds.{list_any-append}
use Rattle.logical_time.specs.Stamps.{StampValue, stamp_cmp}
use Rattle.column_family.specs.declared.batch.Committed.{Committed}
use Rattle.column_family.specs.History.{History}
use Rattle.store.specs.declared.part.Applied.{Applied}
use Rattle.store.specs.Stored.{StoreValue}
use Rattle.store.specs.Keeps.{Keeps}
use Rattle.audit.specs.Laid.{applied_of, all_applied, IsApplied, IsAppliedIn, IsLaidIn}

-- whether an entry has the stamp
abbrev pub is_stamped : History → StampValue → Bool
is_stamped h s = list_any (λ a. is_eq (stamp_cmp s a.stamp)) (all_applied h)

swapped : (a b : StampValue) → is_eq (stamp_cmp a b) ≡ is_eq (stamp_cmp b a)
swapped a b = grind (arith, nat_tests)

either : (b s : Bool) → cond b true s ≡ (s || (b || false))
either true true = refl
either true false = refl
either false true = refl
either false false = refl

-- what comes of the elements so far, and of one more
pub mapped_more : {X Y : Type 0} (f : X → Y) (xs : List X) (i : ℕ) (x : X) (ys zs : List Y) (y : Y) → i < length xs → x ≡ get_or xs i x
    → ys ≡ map f (take i xs) → y ≡ f x → zs ≡ ys ++ y ∷ [] → zs ≡ map f (take (i + 1) xs)
mapped_more f xs i x ys zs y lt is so_far one more =
    more
    ∙ ap (λ l. l ++ y ∷ []) so_far
    ∙ ap (λ z. map f (take i xs) ++ z ∷ []) (one ∙ ap f is)
    ∙ sym (map_more f xs i x lt)

taken_more : (es : History) (i : ℕ) (c : Committed) → i < length es → c ≡ get_or es i c → all_applied (take (i + 1) es) ≡ all_applied (take i es) ++ applied_of c ∷ []
taken_more es i c lt e = sym (mapped_more applied_of es i c (all_applied (take i es)) (all_applied (take i es) ++ applied_of c ∷ []) (applied_of c) lt e refl refl refl)

pub seen_more : (es : History) (i : ℕ) (c : Committed) (s : StampValue) (before after : Bool) → i < length es → c ≡ get_or es i c
    → before ≡ is_stamped (take i es) s → after ≡ cond (is_eq (stamp_cmp c.stamp s)) true before → after ≡ is_stamped (take (i + 1) es) s
seen_more es i c s before after lt e so_far added =
    added
    ∙ ap (λ b. cond b true before) (swapped c.stamp s)
    ∙ either (is_eq (stamp_cmp s c.stamp)) before
    ∙ ap (λ b. b || (is_eq (stamp_cmp s c.stamp) || false)) so_far
    ∙ sym (ap (list_any (λ a. is_eq (stamp_cmp s a.stamp))) (taken_more es i c lt e) ∙ list_any-append (λ (a : Applied). is_eq (stamp_cmp s a.stamp)) (all_applied (take i es)) (applied_of c ∷ []))

pub applied_more : (es : History) (i : ℕ) (c : Committed) (before after : StoreValue) → i < length es → c ≡ get_or es i c → IsApplied before (take i es)
    → Keeps after (all_applied (take i es) ++ applied_of c ∷ []) → after.low ≡ before.low → IsApplied after (take (i + 1) es)
applied_more es i c before after lt e applied keeps low =
    record { keeps = subst (λ parts. Keeps after parts) (sym (taken_more es i c lt e)) keeps; low = low ∙ applied.low }

-- what is applied in another order is laid out
pub laid_in : (o : Option StoreValue) (h order : History) → IsPermutation h order → IsAppliedIn o order → IsLaidIn o h
laid_in None h order same applied = tt
laid_in (Some s) h order same applied = record { order = order; same = same; applied = applied }
