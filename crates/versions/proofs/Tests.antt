-- Tests, and the order of stamps.
use Rattle.std.proofs.Common.{◌≡◌, refl, Bool, true, false, arith}
use Rattle.std.proofs.lemmas.Bool.Decides.{nat_tests}
use Rattle.std.specs.Ordering.{is_eq}
use Rattle.logical_time.specs.Stamps.{StampValue, stamp_cmp, is_older}

pub by_cases : {P : Type 0} (b : Bool) → (b ≡ true → P) → (b ≡ false → P) → P
by_cases true f g = f refl
by_cases false f g = g refl

pub older_than_newer : (s t u : StampValue) → is_older s t ≡ true → is_older t u ≡ true → is_older s u ≡ true
older_than_newer s t u h k = grind (arith, nat_tests)

pub newer_if_not : (a b : StampValue) → is_older a b ≡ false → is_eq (stamp_cmp a b) ≡ false → is_older b a ≡ true
newer_if_not a b h k = grind (arith, nat_tests)

pub not_older_than_itself : (s : StampValue) → is_older s s ≡ false
not_older_than_itself s = grind (arith, nat_tests)

pub not_newer_too : (s t : StampValue) → is_older s t ≡ true → is_older t s ≡ false
not_newer_too s t h = grind (arith, nat_tests)
