-- A stream of frames, in whatever pieces it comes.
use Rattle.std.specs.Prelude.{◌≡◌, ℕ, ◌+◌, ◌≤◌, List, ◌++◌, length, take, drop, true, Option, Some, None, Result, Ok, Err, nat_lt, ◌⊎◌, if◌then◌else◌}
use Rattle.std.specs.List.{flat_map, list_all}
use Rattle.byteorder.specs.Endian.{big_number}
use Rattle.logical_time.specs.declared.fault.Fault.{Fault}
use Rattle.logical_time.specs.declared.fault.Fault.TheVariants.{Oversize, Truncated}
use Rattle.logical_time.specs.Fault.{number_of}
use Rattle.messages.specs.declared.op.Op.{Op}
use Rattle.wire.specs.Fields.{longest, frame}
use Rattle.wire.specs.Requests.{request, is_spelled}
use Rattle.wire.specs.Reading.{body_at}

-- what stands first in bytes: no whole frame yet; a fault; a request, with the length of its frame
pub data Front : Type 0 where
  waits : Front
  faulty : Fault → Front
  whole : Op → ℕ → Front

abbrev pub front_with : ℕ → Result Op Fault → Front
front_with used (Ok op) = whole op used
front_with used (Err f) = faulty f

-- a length that is too great is a fault as soon as it is there; a fault of a body is found when the frame is whole
unfoldable pub front_of : List ℕ → Front
front_of bytes =
    if nat_lt (length bytes) 4 then waits
    else (if nat_lt longest (big_number 4 bytes) then faulty Oversize
    else (if nat_lt (length bytes) (4 + big_number 4 bytes) then waits
    else front_with (4 + big_number 4 bytes) (body_at (take (big_number 4 bytes) (drop 4 bytes)))))

-- the faults of frames: `Oversize`, `UnknownTag`, `BadCount`, `TrailingBytes` and `Truncated`, by their numbers
abbrev pub IsFrameFault : Fault → Type 0
IsFrameFault f = (30 ≤ number_of f) × (number_of f ≤ 34)

-- what a reader of a stream keeps: the requests not yet taken, the bytes after their frames, and why it stopped
pub record ReaderValue : Type 0 where
  pub held : List Op
  pub rest : List ℕ
  pub fault : Option Fault

-- the frames of requests, one after the other
abbrev pub frames : List Op → List ℕ
frames ops = flat_map (λ op. frame (request op)) ops

-- the bytes fed, without the frames of the requests that were taken
abbrev pub text : ReaderValue → List ℕ
text s = frames s.held ++ s.rest

-- what stands first in a rest that was read as far as it goes
abbrev pub front_for : Option Fault → Front
front_for None = waits
front_for (Some f) = faulty f

-- no whole frame of a request stands first
abbrev pub NoneFirst : List ℕ → Type 0
NoneFirst rest = (op : Op) (used : ℕ) → front_of rest ≡ whole op used → ⊥

-- the input ended inside a frame
pub record EndsInside (rest : List ℕ) (fault : Option Fault) : Type 0 where
  pub truncated : fault ≡ Some Truncated
  pub waits : front_of rest ≡ waits
  pub some : nat_lt 0 (length rest) ≡ true

-- each request held has a spelling, and the rest holds no whole frame: nothing is amiss in it, or its first fault is
-- kept, or the input ended there
pub record IsRead (s : ReaderValue) : Type 0 where
  pub spelled : list_all is_spelled s.held ≡ true
  pub front : (front_of s.rest ≡ front_for s.fault) ⊎ EndsInside s.rest s.fault
