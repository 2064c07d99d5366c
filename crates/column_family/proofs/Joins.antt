-- The newest of two histories, one after the other.
use Rattle.std.proofs.Common.{◌≡◌, ◌∙◌, sym, ap, refl, Bool, true, false, [], ◌∷◌, ◌++◌, Option, Some, None, option_map, arith}
use Rattle.std.proofs.lemmas.Bool.Decides.{nat_tests}
use Rattle.logical_time.specs.Stamps.{StampValue, is_older}
use Rattle.column_family.specs.declared.batch.Change.{Change}
use Rattle.column_family.specs.History.{History, Stamped, newer_of, newest_of, last_of, stamped}

-- a stamp that isn't older than one that isn't older than a third isn't older than that
not_older : (a b c : StampValue) → is_older a b ≡ false → is_older b c ≡ false → is_older a c ≡ false
not_older a b c = grind (arith, nat_tests)

older : (a b c : StampValue) → is_older a b ≡ true → is_older b c ≡ true → is_older a c ≡ true
older a b c = grind (arith, nat_tests)

newer_by : (a b c : Stamped) (x y : Bool) → is_older a.stamp b.stamp ≡ x → is_older b.stamp c.stamp ≡ y
    → newer_of (newer_of (Some a) (Some b)) (Some c) ≡ newer_of (Some a) (newer_of (Some b) (Some c))
newer_by a b c true true p q = rw (p, q, older a.stamp b.stamp c.stamp p q) refl
newer_by a b c true false p q = rw (p, q) (rw p refl)
newer_by a b c false true p q = rw (p, q) refl
newer_by a b c false false p q = rw (p, q, not_older a.stamp b.stamp c.stamp p q) (rw p refl)

pub newer_of_none : (o : Option Stamped) → newer_of o None ≡ o
newer_of_none None = refl
newer_of_none (Some x) = refl

pub newer_of_assoc : (a b c : Option Stamped) → newer_of (newer_of a b) c ≡ newer_of a (newer_of b c)
newer_of_assoc None b c = refl
newer_of_assoc (Some a) None c = refl
newer_of_assoc (Some a) (Some b) None = newer_of_none (newer_of (Some a) (Some b))
newer_of_assoc (Some a) (Some b) (Some c) = newer_by a b c (is_older a.stamp b.stamp) (is_older b.stamp c.stamp) refl refl

-- the newest of a longer history
pub newest_of_append : (p : Change → Bool) (h k : History) → newest_of p (h ++ k) ≡ newer_of (newest_of p h) (newest_of p k)
newest_of_append p [] k = refl
newest_of_append p (c ∷ h) k =
    ap (newer_of (option_map (stamped c) (last_of p c.batch))) (newest_of_append p h k)
    ∙ sym (newer_of_assoc (option_map (stamped c) (last_of p c.batch)) (newest_of p h) (newest_of p k))
