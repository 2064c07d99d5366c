-- What a turn, and each part of it, makes of a connection.
use Rattle.std.specs.Prelude.{◌≡◌, ℕ, ◌+◌, ◌<◌, ◌≤◌, List, [], ◌++◌, length, take, drop, Bool, true, false, Option, Some, None, ◌⊎◌}
use Rattle.logical_time.specs.declared.fault.Fault.{Fault}
use Rattle.logical_time.specs.declared.fault.Fault.TheVariants.{Memory}
use Rattle.messages.specs.declared.op.Op.{Op}
use Rattle.wire.specs.Replies.{Reply}
use Rattle.wire.specs.Frames.{ReaderValue}
use Rattle.wire.specs.Answers.{Taken}
use Rattle.front.specs.Lines.{LineValue, says, fails}
use Rattle.front.specs.Ports.{Chain}
use Rattle.front.specs.Served.{IsEncoding, IsRefusal, any_need}
use Rattle.readiness.specs.declared.connection.Stage.{Stage}
use Rattle.readiness.specs.declared.connection.Stage.TheVariants.{Open, Ending, Failed}
use Rattle.readiness.specs.declared.writing.Flow.{Flow}
use Rattle.readiness.specs.declared.writing.Flow.TheVariants as flow
use Rattle.readiness.specs.declared.connection.Stop.{Stop}
use Rattle.readiness.specs.declared.connection.Stop.TheVariants as stop
use Rattle.readiness.specs.declared.turning.After.{After}
use Rattle.readiness.specs.declared.turning.After.TheVariants.{Waits, Again, Over}
use Rattle.readiness.specs.Lines.{ReadyValue}
use Rattle.readiness.specs.Exchanges.{Exchange, requests, answers}
use Rattle.readiness.specs.Kept.{View, Kept}

-- whatever was kept of a connection is kept, with no request answered
abbrev pub Keeps : View → View → Type 0
Keeps v w = (l : LineValue) (past : List Exchange) → Kept l past v → Kept l past w

-- whatever was kept of a connection is kept, with these exchanges behind those before
abbrev pub Extends : List Exchange → View → View → Type 0
Extends more v w = (l : LineValue) (past : List Exchange) → Kept l past v → Kept l (past ++ more) w

-- requests of the connection are answered along a chain of the port's steps, and all that was kept is kept, with them
-- behind
abbrev pub Turned : {P : Type 0} → (P → Op → Reply → P → Type 0) → View → P → View → P → Type 0
Turned steps v p w q = (more : List Exchange) × Chain steps p (requests more) (answers more) q × Extends more v w

-- the first request that is held is answered, and its reply is put behind what waits
pub record AnswersOne {P : Type 0} (steps : P → Op → Reply → P → Type 0) (v : View) (p : P) (w : View) (q : P) : Type 0 where
  pub op : Op
  pub answer : Reply
  pub bytes : List ℕ
  pub reader : ReaderValue
  pub taken : Taken op v.reader reader
  pub rest : reader.rest ≡ v.reader.rest
  pub fault : reader.fault ≡ v.reader.fault
  pub step : steps p op answer q
  pub encoded : IsEncoding any_need answer bytes
  pub after : w ≡ record { line = v.line; reader = reader; waiting = v.waiting ++ bytes; stage = v.stage }

-- a request was held, and is answered; or none was, and nothing changes
abbrev pub AnswersNext : {P : Type 0} → (P → Op → Reply → P → Type 0) → Bool → View → P → View → P → Type 0
AnswersNext steps true v p w q = AnswersOne steps v p w q
AnswersNext steps false v p w q = (w ≡ v) × (q ≡ p) × (v.reader.held ≡ [])

-- the stream is refused, by a last reply behind what waits
abbrev pub IsRefused : Fault → View → View → Type 0
IsRefused f v w = (last : List ℕ) × IsRefusal f last × (w ≡ record { line = v.line; reader = v.reader; waiting = v.waiting; stage = Ending last })

-- The reader has stopped at a fault, and all that was read before is answered first; or memory was refused, and the
-- stream is.
abbrev pub StopsAt : Fault → Option Stop → View → View → Type 0
StopsAt f result v w =
    ((f ≡ Memory) × (result ≡ Some stop.Over) × IsRefused f v w)
    ⊎ ((f ≡ Memory → ⊥) × (result ≡ None) × (w ≡ record { line = v.line; reader = v.reader; waiting = v.waiting; stage = Open (Some f) }))

-- requests are taken, or the stream is refused, or it has ended
abbrev pub is_open : Stage → Bool
is_open (Open fault) = true
is_open (Ending left) = false
is_open Failed = false

-- what is left of a last reply
abbrev pub left_of : Stage → List ℕ
left_of (Open fault) = []
left_of (Ending left) = left
left_of Failed = []

-- so much of a piece is written: all of it, or the line has no room, or it failed
abbrev pub Pushed : List ℕ → ℕ → Flow → ReadyValue → ReadyValue → Type 0
Pushed piece gone flow.All s t = (t.dry ≡ s.dry) × (gone ≡ length piece) × (t.line ≡ says (take gone piece) s.line)
Pushed piece gone flow.Full s t = (t.dry ≡ s.dry) × (t.full ≡ true) × (t.line ≡ says (take gone piece) s.line)
Pushed piece gone flow.Failed s t = (t.dry ≡ s.dry) × (t.line ≡ fails (says (take gone piece) s.line))

-- what waits is written so
abbrev pub WaitingFlushed : Flow → View → View → Type 0
WaitingFlushed flow v w =
    (gone : ℕ) × (gone ≤ length v.waiting) × (w.waiting ≡ drop gone v.waiting) × (w.stage ≡ v.stage) × (w.reader ≡ v.reader) × Pushed v.waiting gone flow v.line w.line

-- so much of what is left of a last reply is written: all of it, or the line has no room, or it failed
abbrev pub LastWritten : List ℕ → ReadyValue → Stage → ReadyValue → Type 0
LastWritten last s result t =
    (gone : ℕ) × (t.dry ≡ s.dry)
    × (((result ≡ Failed) × (t.line ≡ fails (says (take gone last) s.line)))
    ⊎ ((result ≡ Ending (drop gone last)) × (t.line ≡ says (take gone last) s.line) × ((drop gone last ≡ []) ⊎ (t.full ≡ true))))

-- all has gone
abbrev pub IsDone : View → Type 0
IsDone v = (v.waiting ≡ []) × (left_of v.stage ≡ [])

-- what waits is written, until all has gone, or the line has no room, or it failed
abbrev pub Flushed : View → View → Type 0
Flushed v w = (w.stage ≡ Failed) ⊎ ((is_open w.stage ≡ is_open v.stage) × (IsDone w ⊎ (w.line.full ≡ true)))

-- nothing more is read or written
abbrev pub IsOver : View → Type 0
IsOver v = (v.stage ≡ Failed) ⊎ ((is_open v.stage ≡ false) × IsDone v)

-- all requests that were read are answered
abbrev pub IsAnswered : View → Type 0
IsAnswered v = v.reader.held ≡ []

-- nothing more is read, or nothing more has come, or too much waits
abbrev pub TakesNoMore : ℕ → View → Type 0
TakesNoMore limit v = (is_open v.stage ≡ false) ⊎ ((v.line.dry ≡ true) ⊎ (limit < length v.waiting))

-- Why it waits: all has gone, or the line has no room; and nothing more has come, or nothing more is read, or too much
-- waits. So the line tells when it is to go on.
abbrev pub WaitsFor : ℕ → View → Type 0
WaitsFor limit v = (IsDone v ⊎ (v.line.full ≡ true)) × TakesNoMore limit v

-- what waits is at most the limit, and a reply more
abbrev pub IsBounded : ℕ → View → Type 0
IsBounded limit v = length v.waiting ≤ limit + 16777220

-- why no more is taken in
abbrev pub StopsFor : ℕ → Stop → View → Type 0
StopsFor limit stop.Dry v = v.line.dry ≡ true
StopsFor limit stop.Full v = limit < length v.waiting
StopsFor limit stop.Over v = is_open v.stage ≡ false
StopsFor limit stop.Spent v = Unit {0}

-- why no more was taken in, of which this holds still when something was written since
abbrev pub HasStopped : Stop → View → Type 0
HasStopped stop.Dry v = v.line.dry ≡ true
HasStopped stop.Full v = Unit {0}
HasStopped stop.Over v = is_open v.stage ≡ false
HasStopped stop.Spent v = Unit {0}

-- the line has said what it had said, and has room as it had
abbrev pub SaysNothing : View → View → Type 0
SaysNothing v w = (w.line.line.said ≡ v.line.line.said) × (w.line.full ≡ v.line.full)

-- what a turn leaves of a connection: it waits for its line, or could go on at once, and isn't over; or it is over
abbrev pub IsLeft : ℕ → View → After → Type 0
IsLeft limit v Waits = (IsOver v → ⊥) × WaitsFor limit v
IsLeft limit v Again = IsOver v → ⊥
IsLeft limit v Over = IsOver v
