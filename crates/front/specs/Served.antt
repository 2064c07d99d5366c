-- What `serve` reads, and what it writes.
use Rattle.std.specs.Prelude.{◌≡◌, ℕ, ◌<◌, ◌≤◌, ◌-◌, ◌^◌, List, [], ◌∷◌, ◌++◌, length, Bool, true, false, Option, Some, None, Ok, Err, ◌⊎◌, All}
use Rattle.std.specs.List.{list_all}
use Rattle.logical_time.specs.declared.fault.Fault.{Fault}
use Rattle.logical_time.specs.declared.fault.Fault.TheVariants.{Memory, Oversize}
use Rattle.messages.specs.declared.op.Op.{Op}
use Rattle.wire.specs.Requests.{is_spelled}
use Rattle.wire.specs.Replies.{Reply, reply_spelling}
use Rattle.wire.specs.Frames.{waits, faulty, front_of, frames, IsFrameFault, EndsInside}
use Rattle.front.specs.declared.ended.Ended.{Ended}
use Rattle.front.specs.declared.ended.Ended.TheVariants.{Clean, Refused, ReadFailed, WriteFailed}
use Rattle.front.specs.Lines.{Moment, LineValue, with_more, raised}
use Rattle.front.specs.Ports.{Chain}

-- bytes begin with the spellings of these requests, one after the other, and go on with this rest
pub record Begins (bytes : List ℕ) (ops : List Op) (rest : List ℕ) : Type 0 where
  pub spelled : list_all is_spelled ops ≡ true
  pub text : bytes ≡ frames ops ++ rest

-- the reply that refuses
abbrev pub IsRefusal : Fault → List ℕ → Type 0
IsRefusal f bytes = reply_spelling (Err f) ≡ Some bytes

-- what memory is asked for: to feed a piece that comes behind such a rest, and to encode an answer
pub data Need : Type 0 where
  feeding : List ℕ → List ℕ → Need
  encoding : Reply → Need

-- The encoding of an answer, where `refuses` says for what memory is refused. A refusal is always spelled. An outcome
-- is its spelling; the refusal by `Oversize` where it has none; or, only where memory is refused for it, the refusal
-- by `Memory`.
abbrev pub IsEncoding : (Need → Type 0) → Reply → List ℕ → Type 0
IsEncoding refuses (Err f) bytes = IsRefusal f bytes
IsEncoding refuses (Ok o) bytes =
    (reply_spelling (Ok o) ≡ Some bytes) ⊎ (((reply_spelling (Ok o) ≡ None) × IsRefusal Oversize bytes) ⊎ (refuses (encoding (Ok o)) × IsRefusal Memory bytes))

-- the encodings of answers, one after the other
abbrev pub AreEncodings : (Need → Type 0) → List Reply → List ℕ → Type 0
AreEncodings refuses [] bytes = bytes ≡ []
AreEncodings refuses (a ∷ answers) bytes = (first : List ℕ) × (others : List ℕ) × IsEncoding refuses a first × AreEncodings refuses answers others × (bytes ≡ first ++ others)

-- these bytes are the encodings of the answers along a chain of a port's steps over these requests
pub record Answered {P : Type 0} (refuses : Need → Type 0) (steps : P → Op → Reply → P → Type 0) (p : P) (ops : List Op) (replies : List ℕ) (q : P) : Type 0 where
  pub answers : List Reply
  pub chain : Chain steps p ops answers q
  pub encoded : AreEncodings refuses answers replies

-- All requests that the bytes spell are answered, and in the rest no frame is whole, and no fault stands first. So there are
-- no other requests in them: `bytes_spell_one_list`.
pub record UpToDate {P : Type 0} (refuses : Need → Type 0) (steps : P → Op → Reply → P → Type 0) (p : P) (bytes rest replies : List ℕ) (q : P) : Type 0 where
  pub ops : List Op
  pub begins : Begins bytes ops rest
  pub waiting : front_of rest ≡ waits
  pub answered : Answered refuses steps p ops replies q

-- all requests that stand before the first fault are answered: the fault of a frame, `Oversize` to `Truncated`, or an end of
-- input inside of one, which counts only if it was told
pub record AtFault {P : Type 0} (refuses : Need → Type 0) (steps : P → Op → Reply → P → Type 0) (p : P) (ended : Bool) (f : Fault) (bytes replies : List ℕ) (q : P) : Type 0 where
  pub ops : List Op
  pub rest : List ℕ
  pub begins : Begins bytes ops rest
  pub number : IsFrameFault f
  pub fault : ((ended ≡ false) × (front_of rest ≡ faulty f)) ⊎ ((ended ≡ true) × EndsInside rest (Some f))
  pub answered : Answered refuses steps p ops replies q

-- after so many pieces no further one is taken
abbrev pub most_pieces : ℕ
most_pieces = 2 ^ 64 - 1

-- The last piece was refused with `Memory`: feeding it was refused, where what came before had this rest; or as many pieces were
-- taken as are taken, none of them empty. All requests that the pieces before it spell are answered.
pub record AtPiece {P : Type 0} (refuses : Need → Type 0) (steps : P → Op → Reply → P → Type 0) (p : P) (f : Fault) (bytes replies : List ℕ) (q : P) : Type 0 where
  pub memory : f ≡ Memory
  pub before : List ℕ
  pub piece : List ℕ
  pub some : 0 < length piece
  pub cut : bytes ≡ before ++ piece
  pub rest : List ℕ
  pub why : refuses (feeding rest piece) ⊎ (most_pieces ≤ length before)
  pub answered : UpToDate refuses steps p before rest replies q

-- the answers, and after them the refusal of the stream
pub record RefusedAt {P : Type 0} (refuses : Need → Type 0) (steps : P → Op → Reply → P → Type 0) (p : P) (ended : Bool) (f : Fault) (bytes told : List ℕ) (q : P) : Type 0 where
  pub replies : List ℕ
  pub last : List ℕ
  pub refusal : IsRefusal f last
  pub written : told ≡ replies ++ last
  pub stopped : AtFault refuses steps p ended f bytes replies q ⊎ ((ended ≡ false) × AtPiece refuses steps p f bytes replies q)

-- the answers to requests that stand first, perhaps not to all
pub record Begun {P : Type 0} (refuses : Need → Type 0) (steps : P → Op → Reply → P → Type 0) (p : P) (bytes replies : List ℕ) (q : P) : Type 0 where
  pub ops : List Op
  pub rest : List ℕ
  pub begins : Begins bytes ops rest
  pub answered : Answered refuses steps p ops replies q

-- a beginning of the bytes, and not all of them
abbrev pub IsCutShort : List ℕ → List ℕ → Type 0
IsCutShort first bytes = (others : List ℕ) × (0 < length others) × (bytes ≡ first ++ others)

-- how a call ends, by whether it was told the end of input, the bytes that it read and wrote, and the ports before and after
abbrev pub EndsAs : {P : Type 0} → (Need → Type 0) → (P → Op → Reply → P → Type 0) → Ended → Bool → P → List ℕ → List ℕ → P → Type 0
EndsAs refuses steps Clean ended p bytes told q = (ended ≡ true) × UpToDate refuses steps p bytes [] told q
EndsAs refuses steps (Refused f) ended p bytes told q = RefusedAt refuses steps p ended f bytes told q
EndsAs refuses steps ReadFailed ended p bytes told q = (ended ≡ false) × (rest : List ℕ) × UpToDate refuses steps p bytes rest told q
EndsAs refuses steps WriteFailed ended p bytes told q =
    (replies : List ℕ) × IsCutShort told replies
    × (((ended ≡ false) × Begun refuses steps p bytes replies q) ⊎ ((f : Fault) × RefusedAt refuses steps p ended f bytes replies q))

-- how often the end of input was told after a call: once more where the call was told it
abbrev pub endings_after : Bool → ℕ → ℕ
endings_after true n = raised n
endings_after false n = n

-- how many failures there are after a call: one more where it ended by one
abbrev pub failures_after : Ended → ℕ → ℕ
failures_after Clean n = n
failures_after (Refused f) n = n
failures_after ReadFailed n = raised n
failures_after WriteFailed n = raised n

-- What serving makes of a line and of a port, where `refuses` says for what memory is refused. That it was told the end
-- of input is its own: it was told once, by a read of this call, and reads no more after that.
pub record ServedBy {P : Type 0} (refuses : Need → Type 0) (steps : P → Op → Reply → P → Type 0) (result : Ended) (old : LineValue) (p : P) (new : LineValue) (q : P) : Type 0 where
  pub bytes : List ℕ
  pub told : List ℕ
  pub heard : new.heard ≡ with_more bytes old.heard
  pub said : new.said ≡ with_more told old.said
  pub failures : new.failures ≡ failures_after result old.failures
  pub ended : Bool
  pub ended_then : new.endings ≡ endings_after ended old.endings
  pub ends : EndsAs refuses steps result ended p bytes told q

-- nothing is known of for what memory is refused
abbrev pub any_need : Need → Type 0
any_need need = Unit {0}

-- what a call of `serve` makes of a line and of a port
abbrev pub Served : {P : Type 0} → (P → Op → Reply → P → Type 0) → Ended → LineValue → P → LineValue → P → Type 0
Served steps result old p new q = ServedBy any_need steps result old p new q

-- at a moment of a call, all requests that had come were answered, and all the replies had gone
pub record IsPrompt {P : Type 0} (refuses : Need → Type 0) (steps : P → Op → Reply → P → Type 0) (old : LineValue) (p : P) (now : Moment) : Type 0 where
  pub bytes : List ℕ
  pub told : List ℕ
  pub rest : List ℕ
  pub port : P
  pub heard : now.heard ≡ with_more bytes old.heard
  pub said : now.said ≡ with_more told old.said
  pub answered : UpToDate refuses steps p bytes rest told port

-- At each moment that a call added to those of the line, so it was: no reply is held back while the line is waited for.
abbrev pub IsNeverHeldBack : {P : Type 0} → (Need → Type 0) → (P → Op → Reply → P → Type 0) → LineValue → P → Option (List Moment) → Type 0
IsNeverHeldBack refuses steps old p now =
    (more : List Moment) × (now ≡ with_more more old.moments) × All (IsPrompt refuses steps old p) more
