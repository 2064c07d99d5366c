-- What the parts of `serve` make of a line, a port and a reader.
use Rattle.std.specs.Prelude.{◌≡◌, ℕ, ◌<◌, ◌≤◌, List, [], ◌++◌, length, Bool, true, false, Option, Some, None, ◌⊎◌}
use Rattle.logical_time.specs.declared.fault.Fault.{Fault}
use Rattle.logical_time.specs.declared.fault.Fault.TheVariants.{Memory}
use Rattle.messages.specs.declared.op.Op.{Op}
use Rattle.wire.specs.Replies.{Reply}
use Rattle.wire.specs.Frames.{ReaderValue, text}
use Rattle.wire.specs.Answers.{fault_at_end}
use Rattle.front.specs.declared.ended.Ended.{Ended}
use Rattle.front.specs.declared.ended.Ended.TheVariants.{Clean, Refused, ReadFailed, WriteFailed}
use Rattle.front.specs.Lines.{LineValue, with_more, hears, says, ends, fails, awaited}
use Rattle.front.specs.Served.{Need, Begins, IsRefusal, IsCutShort, Answered, Begun, UpToDate, endings_after, ServedBy}

-- a piece is written, or a beginning of it, and then the line failed
abbrev pub Wrote : List ℕ → Bool → LineValue → LineValue → Type 0
Wrote piece true l m = m ≡ says piece l
Wrote piece false l m = (sent : List ℕ) × IsCutShort sent piece × (m ≡ fails (says sent l))

-- A piece is put behind what waits, of which a beginning is written; or the line failed before all of both was.
abbrev pub Puts : List ℕ → Bool → List ℕ → LineValue → List ℕ → LineValue → Type 0
Puts piece true waiting l later m = (sent : List ℕ) × (waiting ++ piece ≡ sent ++ later) × (m ≡ says sent l)
Puts piece false waiting l later m = Wrote (waiting ++ piece) false l m

-- the last reply is written, or the line failed first
abbrev pub Refuses : Fault → Ended → LineValue → LineValue → Type 0
Refuses f result l m = (last : List ℕ) × IsRefusal f last × (((result ≡ Refused f) × Wrote last true l m) ⊎ ((result ≡ WriteFailed) × Wrote last false l m))

-- the end of input is taken: between two frames, or inside of one
abbrev pub EndsInput : ReaderValue → Ended → LineValue → LineValue → Type 0
EndsInput r result l m = ((fault_at_end r ≡ None) × (result ≡ Clean) × (m ≡ l)) ⊎ ((f : Fault) × (fault_at_end r ≡ Some f) × Refuses f result l m)

-- a last look at the line: it failed, or its input ended, or a piece came and is refused
abbrev pub GivesUp : ReaderValue → Ended → LineValue → LineValue → Type 0
GivesUp r result l m = ((result ≡ ReadFailed) × (m ≡ fails l)) ⊎ (EndsInput r result (ends (awaited l)) m ⊎ ((piece : List ℕ) × (0 < length piece) × Refuses Memory result (hears piece (awaited l)) m))

-- requests are taken off a reader and answered
pub record Answering {P : Type 0} (refuses : Need → Type 0) (steps : P → Op → Reply → P → Type 0) (old : ReaderValue) (l : LineValue) (p : P) (r : ReaderValue) (m : LineValue) (q : P) : Type 0 where
  pub ops : List Op
  pub told : List ℕ
  pub begins : Begins (text old) ops (text r)
  pub answered : Answered refuses steps p ops told q
  pub line : m ≡ says told l
  pub rest : r.rest ≡ old.rest
  pub fault : r.fault ≡ old.fault

-- requests are taken off a reader and answered, and the last bytes of the replies wait
pub record Holding {P : Type 0} (refuses : Need → Type 0) (steps : P → Op → Reply → P → Type 0) (old : ReaderValue) (l : LineValue) (p : P) (r : ReaderValue) (m : LineValue) (q : P) (waiting : List ℕ) : Type 0 where
  pub ops : List Op
  pub replies : List ℕ
  pub begins : Begins (text old) ops (text r)
  pub answered : Answered refuses steps p ops replies q
  pub sent : List ℕ
  pub parts : replies ≡ sent ++ waiting
  pub line : m ≡ says sent l
  pub rest : r.rest ≡ old.rest
  pub fault : r.fault ≡ old.fault

-- the line failed among the replies
pub record CutOff {P : Type 0} (refuses : Need → Type 0) (steps : P → Op → Reply → P → Type 0) (bytes : List ℕ) (l : LineValue) (p : P) (m : LineValue) (q : P) : Type 0 where
  pub replies : List ℕ
  pub begun : Begun refuses steps p bytes replies q
  pub sent : List ℕ
  pub beginning : IsCutShort sent replies
  pub line : m ≡ fails (says sent l)

-- all requests that were held are answered, or the line failed first
abbrev pub AnswersHeld : {P : Type 0} → (Need → Type 0) → (P → Op → Reply → P → Type 0) → Bool → ReaderValue → LineValue → P → ReaderValue → LineValue → P → Type 0
AnswersHeld refuses steps true old l p r m q = Answering refuses steps old l p r m q × (r.held ≡ [])
AnswersHeld refuses steps false old l p r m q = CutOff refuses steps (text old) l p m q

-- so much came and went, no call failed, and the end of input was told once or not
pub record Passed (ended : Bool) (bytes told : List ℕ) (old new : LineValue) : Type 0 where
  pub heard : new.heard ≡ with_more bytes old.heard
  pub said : new.said ≡ with_more told old.said
  pub failures : new.failures ≡ old.failures
  pub ended_then : new.endings ≡ endings_after ended old.endings

-- serving goes on after so many pieces: all that came is answered, and nothing is held
pub record Going {P : Type 0} (refuses : Need → Type 0) (pieces : ℕ) (steps : P → Op → Reply → P → Type 0) (l : LineValue) (p : P) (r : ReaderValue) (m : LineValue) (q : P) : Type 0 where
  pub bytes : List ℕ
  pub told : List ℕ
  pub counted : pieces ≤ length bytes
  pub passed : Passed false bytes told l m
  pub answered : UpToDate refuses steps p bytes r.rest told q
  pub held : r.held ≡ []
  pub fault : r.fault ≡ None

-- serving goes on after so many pieces, or has ended
abbrev pub GoesOn : {P : Type 0} → (Need → Type 0) → ℕ → (P → Op → Reply → P → Type 0) → Option Ended → LineValue → P → ReaderValue → LineValue → P → Type 0
GoesOn refuses pieces steps None l p r m q = Going refuses pieces steps l p r m q
GoesOn refuses pieces steps (Some result) l p r m q = ServedBy refuses steps result l p m q
