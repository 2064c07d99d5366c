-- A stream of frames: the length of a body in four bytes, the highest first, and then the body.
use Rattle.std.specs.Prelude.{ℕ, ◌+◌, ◌<◌, ◌^◌, nat_lt, if◌then◌else◌, List, [], ◌∷◌, ◌++◌, length, Option, Some, None, Result, Ok, Err}
use Rattle.std.specs.List.{AllByRecursion}
use Rattle.byteorder.specs.Endian.{big_bytes, big_number}
use Rattle.logical_time.specs.declared.fault.Fault.{Fault}
use Rattle.logical_time.specs.declared.fault.Fault.TheVariants.{Oversize}

-- the frame of a body
abbrev pub frame : List ℕ → List ℕ
frame body = big_bytes 4 (length body) ++ body

-- the frames of bodies, one after the other
abbrev pub frames : List (List ℕ) → List ℕ
frames [] = []
frames (body ∷ bodies) = frame body ++ frames bodies

-- their lengths fit into four bytes
abbrev pub AllFit : List (List ℕ) → Type 0
AllFit bodies = AllByRecursion (λ body. length body < 256 ^ 4) bodies

-- the bytes that were fed and not given out, and how many a body may have
pub record FramesValue : Type 0 where
  pub bytes : List ℕ
  pub most : ℕ

-- The length of the body that stands first in bytes, or none, where its frame isn't whole yet. One that is too great is seen as
-- soon as it is there.
unfoldable pub first_length : ℕ → List ℕ → Result (Option ℕ) Fault
first_length most bytes =
    if nat_lt (length bytes) 4 then Ok None
    else (if nat_lt most (big_number 4 bytes) then Err Oversize
    else (if nat_lt (length bytes) (4 + big_number 4 bytes) then Ok None
    else Ok (Some (big_number 4 bytes))))
