-- What stands first in a stream, where a whole frame is there.
use Rattle.std.proofs.Common.{◌≡◌, ℕ, ◌+◌, ◌≤◌, List, length, take, drop, Result, Err, refl, sym}
use Rattle.std.proofs.lemmas.Bool.{le-ltb}
use Rattle.byteorder.specs.Endian.{big_number}
use Rattle.logical_time.specs.declared.fault.Fault.{Fault}
use Rattle.messages.specs.declared.op.Op.{Op}
use Rattle.wire.specs.Reading.{body_at}
use Rattle.wire.specs.Frames.{faulty, front_with, front_of}
use Rattle.wire.specs.Fields.{longest}

-- a whole frame stands first as its body is read
pub front_is_body : (bytes : List ℕ) (n : ℕ) (r : Result Op Fault) → 4 ≤ length bytes → big_number 4 bytes ≡ n → n ≤ longest → 4 + n ≤ length bytes → body_at (take n (drop 4 bytes)) ≡ r → front_of bytes ≡ front_with (4 + n) r
unfolding front_of
front_is_body bytes n r four is le all e =
    rw (le-ltb _ _ four, is, le-ltb _ _ le, le-ltb _ _ all, e) refl

-- the fault of a whole body
pub fault_is_front : (bytes : List ℕ) (n m : ℕ) (f : Fault) → 4 ≤ length bytes → n ≡ big_number 4 bytes → n ≤ longest → 4 + n ≤ length bytes → m ≡ n → body_at (take m (drop 4 bytes)) ≡ Err f → faulty f ≡ front_of bytes
fault_is_front bytes n m f four is le all same e = sym (front_is_body bytes n (Err f) four (sym is) le all (rw (sym same) e))
