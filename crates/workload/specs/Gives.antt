-- What a reader of JSON values returned, beside what a definition gives.
use Rattle.std.specs.Prelude.{◌≡◌, Option, Some, None, Result, Ok, Err}
use Rattle.logical_time.specs.declared.fault.Fault.{Fault}
use Rattle.logical_time.specs.declared.fault.Fault.TheVariants.{Memory, Script}

infixl 10 ◌>>=◌
-- the second where the first gives something
abbrev pub ◌>>=◌ : {A B : Type 0} → Option A → (A → Option B) → Option B
(Some x) >>= f = f x
None >>= f = None

-- a reader answers `Script` only where there is nothing to give, and beside it only `Memory`
abbrev pub Fails : {A : Type 0} → Fault → Option A → Type 0
Fails Memory o = Unit {0}
Fails Script o = o ≡ None
Fails _ o = ⊥

-- a reader answers the value that is given
abbrev pub Gives : {A : Type 0} → Result A Fault → Option A → Type 0
Gives (Ok x) o = o ≡ Some x
Gives (Err e) o = Fails e o

-- the same, where what it answers is seen through a view
abbrev pub GivesSeen : {A B : Type 0} → (B → A) → Result B Fault → Option A → Type 0
GivesSeen see (Ok x) o = o ≡ Some (see x)
GivesSeen see (Err e) o = Fails e o
