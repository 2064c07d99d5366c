-- What the functions of the crate answer.
use Rattle.std.specs.Prelude.{◌≡◌, ℕ, List, ◌++◌, length, nat_lt, nat_le, Bool, true, false, Option, Some, None, Result, Ok, Err, if◌then◌else◌}
use Rattle.logical_time.specs.declared.fault.Fault.{Fault}
use Rattle.logical_time.specs.declared.fault.Fault.TheVariants.{Memory, Oversize, Truncated}
use Rattle.messages.specs.declared.op.Op.{Op}
use Rattle.wire.specs.Requests.{spelling}
use Rattle.wire.specs.declared.error.FrameError.{FrameError}
use Rattle.wire.specs.declared.error.FrameError.TheVariants as errors
use Rattle.std.specs.Global.{Vec}
use Rattle.wire.specs.Fields.{longest, frame}
use Rattle.wire.specs.Frames.{ReaderValue, text, front_of, waits, faulty}

abbrev pub fault_of : FrameError → Fault
fault_of errors.Memory = Memory
fault_of (errors.Frame f) = f

-- a reader answers what reading gives, and beside it only `Memory`
abbrev pub Fails : {Y : Type 0} → FrameError → Result Y Fault → Type 0
Fails errors.Memory read = Unit {0}
Fails (errors.Frame f) read = read ≡ Err f

abbrev pub Gives : {X Y : Type 0} → (X → Y) → Result X FrameError → Result Y Fault → Type 0
Gives see (Ok x) read = read ≡ Ok (see x)
Gives see (Err e) read = Fails e read

-- a writer is refused with `Oversize` where something doesn't fit, and beside it only `Memory`
abbrev pub Refuses : FrameError → Bool → Type 0
Refuses errors.Memory fits = Unit {0}
Refuses (errors.Frame f) fits = (f ≡ Oversize) × (fits ≡ false)

-- a writer adds a text where everything in it fits
abbrev pub Puts : {T : Type 0} → Bool → List ℕ → Result T FrameError → List ℕ → List ℕ → Type 0
Puts fits added (Ok x) old new = (fits ≡ true) × (new ≡ old ++ added)
Puts fits added (Err e) old new = Refuses e fits

-- Feeding a piece to a reader without a fault. The piece stands at the end of the text, and all that is whole is read:
-- up to a frame that isn't there yet, or up to a fault, which is then the first one. Where memory is refused nothing
-- changes.
abbrev pub Feeds : {T : Type 0} → List ℕ → ReaderValue → ReaderValue → Result T Fault → Type 0
Feeds piece old new (Ok x) = (text new ≡ text old ++ piece) × (new.fault ≡ None) × (front_of new.rest ≡ waits)
Feeds piece old new (Err Memory) = new ≡ old
Feeds piece old new (Err f) = (text new ≡ text old ++ piece) × (new.fault ≡ Some f) × (front_of new.rest ≡ faulty f)

-- the first spelling is taken off the text
abbrev pub Taken : Op → ReaderValue → ReaderValue → Type 0
Taken op old new = (bytes : List ℕ) × (spelling op ≡ Some bytes) × (text old ≡ bytes ++ text new)

-- why a stream that ends with this rest is refused: the fault that was found before, or an end inside a frame
abbrev pub end_fault : Option Fault → List ℕ → Option Fault
end_fault (Some f) rest = Some f
end_fault None rest = if nat_lt 0 (length rest) then Some Truncated else None

abbrev pub fault_at_end : ReaderValue → Option Fault
fault_at_end s = end_fault s.fault s.rest

-- a body gets its length where it isn't too long
abbrev pub Closes : List ℕ → Result (Vec ℕ) FrameError → Type 0
Closes body (Ok closed) = (nat_le (length body) longest ≡ true) × (closed.items ≡ frame body)
Closes body (Err e) = Refuses e (nat_le (length body) longest)

-- an encoder gives the spelling, and is refused with `Oversize` where there is none, and beside it only with `Memory`
abbrev pub Encodes : Option (List ℕ) → Result (Vec ℕ) FrameError → Type 0
Encodes spelled (Ok encoded) = spelled ≡ Some encoded.items
Encodes spelled (Err errors.Memory) = Unit {0}
Encodes spelled (Err (errors.Frame f)) = (f ≡ Oversize) × (spelled ≡ None)
