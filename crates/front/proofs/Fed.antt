-- What a reader that was fed, or whose input has ended, tells.
use Rattle.std.proofs.Common.{◌≡◌, ℕ, List, [], ◌++◌, length, Bool, true, false, cond, Some, None, Result, Ok, Err, refl, ap, inl, inr, ◌⊎◌, arith, lit≤}
use Rattle.std.specs.Prelude.{nat_lt}
use Rattle.std.proofs.lemmas.Bool.{ltb-false}
use Rattle.std.proofs.lemmas.List.{nil_from_length}
use Rattle.logical_time.specs.declared.fault.Fault.{Fault}
use Rattle.logical_time.specs.declared.fault.Fault.TheVariants.{Memory, Truncated}
use Rattle.wire.specs.Frames.{ReaderValue, text, waits, faulty, front_of, IsFrameFault, EndsInside}
use Rattle.wire.specs.Answers.{Feeds, fault_at_end}

-- the piece stands in the text, and its first fault is found
pub record FoundFault (piece : List ℕ) (old new : ReaderValue) (f : Fault) : Type 0 where
  pub fed : text new ≡ text old ++ piece
  pub front : front_of new.rest ≡ faulty f

pub fed_fault : (T : Type 0) (piece : List ℕ) (old new : ReaderValue) (f : Fault) → Feeds {T = T} piece old new (Err f) → ((f ≡ Memory) × (new ≡ old)) ⊎ FoundFault piece old new f
fed_fault T piece old new Memory h = inl (refl, h)
fed_fault T piece old new f h = inr (record { fed = h.0; front = h.2 })

pub fed_text : (T : Type 0) (piece : List ℕ) (old new : ReaderValue) (r : Result T Fault) → Feeds {T = T} piece old new r → (text new ≡ text old ++ piece) ⊎ (new ≡ old)
fed_text T piece old new (Ok x) h = inl h.0
fed_text T piece old new (Err f) h =
    elim (fed_fault T piece old new f h) [
      | inl e ↦ inr e.1
      | inr e ↦ inl e.fed
    ]

given_none : (b : Bool) (f : Fault) → cond b (Some f) None ≡ None → b ≡ false
given_none true f e = absurd cc
given_none false f e = refl

given_some : (b : Bool) (f g : Fault) → cond b (Some f) None ≡ Some g → (b ≡ true) × (g ≡ f)
given_some true f g e = (refl, cc)
given_some false f g e = absurd cc

pub end_clean : (r : ReaderValue) → r.fault ≡ None → fault_at_end r ≡ None → r.rest ≡ []
end_clean r none e =
    let far = given_none (nat_lt 0 (length r.rest)) Truncated (rw none at e) in
    nil_from_length r.rest (let le = ltb-false 0 (length r.rest) far in omega (arith, le))

pub end_inside : (r : ReaderValue) (f : Fault) → r.fault ≡ None → front_of r.rest ≡ waits → fault_at_end r ≡ Some f → EndsInside r.rest (Some f)
end_inside r f none front e =
    let some = given_some (nat_lt 0 (length r.rest)) Truncated f (rw none at e) in
    record { truncated = ap (λ (g : Fault). Some g) some.1; waits = front; some = some.0 }

some_is : (f g : Fault) → Some f ≡ Some g → f ≡ g
some_is f g e = cc

pub end_number : (rest : List ℕ) (f : Fault) → EndsInside rest (Some f) → IsFrameFault f
end_number rest f h = rw (some_is f Truncated h.truncated) (lit≤ tt, lit≤ tt)
