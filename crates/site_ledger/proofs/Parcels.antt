-- Parcels that are read, and those that aren't.
use Rattle.std.proofs.Common.{◌≡◌, ◌∙◌, ℕ, ◌<◌, ◌≤◌, Bool, true, false, List, length, get_or, All, Ok, Err, Some, None, ◌⊎◌, inl, inr, refl, ap}
use Rattle.std.specs.Prelude.{if◌then◌else◌}
use Rattle.std.proofs.lemmas.Bool.{cond-true}
use Rattle.std.proofs.lemmas.List.Elements.{All-from_get_or}
use Rattle.logical_time.specs.declared.fault.Fault.{Fault}
use Rattle.logical_time.specs.declared.fault.Fault.TheVariants.{Memory}
use Rattle.messages.specs.declared.envelope.Envelope.{Envelope}
use Rattle.wire.specs.Fields.{longest}
use Rattle.parcels.specs.Spelling.{is_spelled, parcel, spelling}
use Rattle.parcels.specs.Reading.{parcel_at}
use Rattle.parcels.proofs.BodiesAgain.{spelled_again}
use Rattle.parcels.proofs.BodiesTaken.{read_text, short_spelled}

-- bytes are the parcel of one envelope at most
pub one_envelope : (a b : Envelope) (bytes : List ℕ) → spelling a ≡ Some bytes → spelling b ≡ Some bytes → a ≡ b
one_envelope a b bytes p q =
    let one : parcel_at bytes ≡ Ok a = spelled_again a bytes p in
    let other : parcel_at bytes ≡ Ok b = spelled_again b bytes q in
    cc

-- bytes that are refused are the parcel of no envelope, unless for want of memory
pub unread : (bytes : List ℕ) (f : Fault) → (f ≡ Memory) ⊎ (parcel_at bytes ≡ Err f) → (f ≡ Memory → ⊥) → (e : Envelope) → spelling e ≡ Some bytes → ⊥
unread bytes f (inl memory) other e spelled = other memory
unread bytes f (inr is) other e spelled =
    let again : parcel_at bytes ≡ Ok e = spelled_again e bytes spelled in
    absurd cc

-- and so are those of which an envelope is read that has no parcel
pub unspelled : (bytes : List ℕ) (e : Envelope) → parcel_at bytes ≡ Ok e → spelling e ≡ None → (d : Envelope) → spelling d ≡ Some bytes → ⊥
unspelled bytes e is none d spelled =
    let again : parcel_at bytes ≡ Ok d = spelled_again d bytes spelled in
    absurd cc

module _ (bytes : List ℕ) (e : Envelope) (fits : (i : ℕ) → get_or bytes i 0 < 256) (is : parcel_at bytes ≡ Ok e) where
  all : All (λ b. b < 256) bytes
  all = All-from_get_or (λ b. b < 256) bytes 0 (λ i lt. fits i)

  -- few bytes are the parcel of the envelope that is read of them
  pub short_parcel : length bytes ≤ longest → spelling e ≡ Some bytes
  short_parcel short = short_spelled bytes e all short is

  -- and so are all where it has a parcel
  pub long_parcel : (other : List ℕ) → spelling e ≡ Some other → spelling e ≡ Some bytes
  long_parcel other spelled = by (is_spelled e) refl spelled
    where
      by : (b : Bool) → is_spelled e ≡ b → (if b then Some (parcel e) else None) ≡ Some other → spelling e ≡ Some bytes
      by true q h = cond-true (is_spelled e) (Some (parcel e)) None q ∙ ap (λ (t : List ℕ). Some t) (read_text bytes e all is)
      by false q h = absurd cc
