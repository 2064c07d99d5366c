-- What is kept of a connection: what its line gave and took, and what of that is still to come.
use Rattle.std.specs.Prelude.{◌≡◌, ℕ, List, [], ◌++◌, Bool, true, false, Option, Some, None, ◌⊎◌}
use Rattle.logical_time.specs.declared.fault.Fault.{Fault}
use Rattle.logical_time.specs.declared.fault.Fault.TheVariants.{Memory}
use Rattle.wire.specs.Frames.{ReaderValue, text, faulty, front_of, front_for, EndsInside}
use Rattle.front.specs.Lines.{LineValue, with_more, raised}
use Rattle.front.specs.Served.{Begins, AreEncodings, IsRefusal, any_need, endings_after}
use Rattle.readiness.specs.declared.connection.Stage.{Stage}
use Rattle.readiness.specs.declared.connection.Stage.TheVariants.{Open, Ending, Failed}
use Rattle.readiness.specs.declared.connection.Connection.{Connection}
use Rattle.readiness.specs.Lines.{ReadyValue}
use Rattle.readiness.specs.Exchanges.{Exchange, requests, answers}

-- the parts of a connection
pub record View : Type 0 where
  pub line : ReadyValue
  pub reader : ReaderValue
  pub waiting : List ℕ
  pub stage : Stage

abbrev pub view : {L : Type 0} → (L → ReadyValue) → Connection L → View
view seen c = record { line = seen c.line; reader = c.reader; waiting = c.waiting.items; stage = c.stage }

-- nothing was read yet, and nothing waits
abbrev pub IsNew : {L : Type 0} → L → Connection L → Type 0
IsNew line c = (c.line ≡ line) × (c.reader ≡ record { held = []; rest = []; fault = None }) × (c.waiting.items ≡ []) × (c.stage ≡ Open None)

-- why a stream with this rest is refused: its first fault, an end inside a frame, or memory that was refused
abbrev pub IsStopped : Bool → List ℕ → Fault → Type 0
IsStopped ended rest f = ((ended ≡ false) × (front_of rest ≡ faulty f)) ⊎ (((ended ≡ true) × EndsInside rest (Some f)) ⊎ ((ended ≡ false) × (f ≡ Memory)))

-- What comes behind the last answer: nothing, where the input ended between two frames; or the refusal of the stream.
abbrev pub EndsWith : Bool → List ℕ → List ℕ → Type 0
EndsWith ended rest last = ((ended ≡ true) × (rest ≡ []) × (last ≡ [])) ⊎ ((f : Fault) × IsRefusal f last × IsStopped ended rest f)

-- No call failed, nothing ended, and all replies went or wait. What was read and isn't answered is still in the reader,
-- which waits for more, or has stopped at a fault.
pub record IsOpen (fault : Option Fault) (l : LineValue) (v : View) (rest told replies : List ℕ) : Type 0 where
  pub unread : rest ≡ text v.reader
  pub sent : told ++ v.waiting ≡ replies
  pub endings : v.line.line.endings ≡ l.endings
  pub failures : v.line.line.failures ≡ l.failures
  pub front : front_of v.reader.rest ≡ front_for fault
  pub stopped : v.reader.fault ≡ fault

-- No call failed, and all replies and the last one went or wait; so much is left of the last one.
pub record IsEnding (left : List ℕ) (l : LineValue) (v : View) (rest told replies : List ℕ) : Type 0 where
  pub last : List ℕ
  pub sent : told ++ (v.waiting ++ left) ≡ replies ++ last
  pub ended : Bool
  pub ends : EndsWith ended rest last
  pub endings : v.line.line.endings ≡ endings_after ended l.endings
  pub failures : v.line.line.failures ≡ l.failures

-- One call failed. What went is a beginning of the replies and of a last one, if there is one.
pub record HasFailed (l : LineValue) (v : View) (rest told replies : List ℕ) : Type 0 where
  pub last : List ℕ
  pub lost : List ℕ
  pub sent : told ++ lost ≡ replies ++ last
  pub ended : Bool
  pub ends : ((ended ≡ false) × (last ≡ [])) ⊎ EndsWith ended rest last
  pub endings : v.line.line.endings ≡ endings_after ended l.endings
  pub failures : v.line.line.failures ≡ raised l.failures

abbrev pub Stands : Stage → LineValue → View → List ℕ → List ℕ → List ℕ → Type 0
Stands (Open fault) l v rest told replies = IsOpen fault l v rest told replies
Stands (Ending left) l v rest told replies = IsEnding left l v rest told replies
Stands Failed l v rest told replies = HasFailed l v rest told replies

-- A connection whose line began as this one, and whose requests were answered so: the bytes that were read spell these
-- requests, before a rest; the bytes that were written are the encodings of these answers, up to what waits or is lost.
pub record Kept (l : LineValue) (past : List Exchange) (v : View) : Type 0 where
  pub bytes : List ℕ
  pub told : List ℕ
  pub rest : List ℕ
  pub replies : List ℕ
  pub heard : v.line.line.heard ≡ with_more bytes l.heard
  pub said : v.line.line.said ≡ with_more told l.said
  pub begins : Begins bytes (requests past) rest
  pub encoded : AreEncodings any_need (answers past) replies
  pub stands : Stands v.stage l v rest told replies
