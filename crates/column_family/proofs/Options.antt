-- Tests, and the first of two options.
use Rattle.std.proofs.Common.{◌≡◌, refl, inl, inr, Bool, true, false, Option, Some, None}
use Rattle.std.specs.Prelude.{if◌then◌else◌, ◌&&◌, ◌||◌, ◌⊎◌, is_some}
use Rattle.std.specs.Option.{option_or}

pub by_cases : {P : Type 0} (b : Bool) → (b ≡ true → P) → (b ≡ false → P) → P
by_cases true f g = f refl
by_cases false f g = g refl

pub both_true : (a b : Bool) → (a && b) ≡ true → (a ≡ true) × (b ≡ true)
both_true true b h = (refl, h)
both_true false b h = absurd (cc)

pub either_true : (a b : Bool) → (a || b) ≡ true → (a ≡ true) ⊎ (b ≡ true)
either_true true b h = inl refl
either_true false b h = inr h

pub neither : (a b : Bool) → (a || b) ≡ false → (a ≡ false) × (b ≡ false)
neither true b h = absurd (cc)
neither false b h = (refl, h)

pub some_left : {T : Type 0} (a b : Option T) → is_some a ≡ true → is_some (option_or a b) ≡ true
some_left (Some x) b h = refl
some_left None b h = absurd (cc)

pub some_right : {T : Type 0} (a b : Option T) → is_some b ≡ true → is_some (option_or a b) ≡ true
some_right (Some x) b h = refl
some_right None b h = h

pub or_none : {T : Type 0} (a : Option T) → a ≡ option_or a None
or_none None = refl
or_none (Some x) = refl

pub or_some : {T : Type 0} (a b : Option T) → is_some a ≡ true → a ≡ option_or a b
or_some None b h = absurd (cc)
or_some (Some x) b h = refl

pub or_swap : {T : Type 0} (s t : Bool) (x y : T) (a : Option T) → (s ≡ true → t ≡ true → ⊥) → option_or (option_or a (if s then Some x else None)) (if t then Some y else None) ≡ option_or (option_or a (if t then Some y else None)) (if s then Some x else None)
or_swap true true x y a h = absurd (h refl refl)
or_swap true false x y None h = refl
or_swap true false x y (Some z) h = refl
or_swap false true x y None h = refl
or_swap false true x y (Some z) h = refl
or_swap false false x y a h = refl

pub both_hold : (a b : Bool) → a ≡ true → b ≡ true → (a && b) ≡ true
both_hold true b h k = k
both_hold false b h k = h

pub denied : (b : Bool) → (b ≡ true → ⊥) → b ≡ false
denied true h = absurd (h refl)
denied false h = refl

pub or_assoc : {T : Type 0} (a b c : Option T) → option_or (option_or a b) c ≡ option_or a (option_or b c)
or_assoc None b c = refl
or_assoc (Some x) b c = refl

pub first_holds : (a b : Bool) → a ≡ true → (a || b) ≡ true
first_holds true b h = refl
first_holds false b h = absurd (cc)

pub second_holds : (a b : Bool) → b ≡ true → (a || b) ≡ true
second_holds true b h = refl
second_holds false b h = h
