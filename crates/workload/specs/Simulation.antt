-- What a script makes of a run, and what its transcript tells.
use Rattle.std.specs.Prelude.{◌≡◌, ℕ, Bool, true, false, not, List, [], ◌∷◌, ◌++◌, length, map, filter, drop, Option, Some, None, option_map, option_to_list, Result, Ok, Err, Contains}
use Rattle.logical_time.specs.declared.fault.Fault.{Fault}
use Rattle.logical_time.specs.declared.fault.Fault.TheVariants.{ClockSpent, Script as NoScript}
use Rattle.column_family.specs.History.{History}
use Rattle.slice.specs.declared.read.Read.{Read}
use Rattle.slice.specs.declared.read.AnsweredRow.{AnsweredRow}
use Rattle.table.specs.Meaning.{meaning}
use Rattle.messages.specs.declared.op.Op.TheVariants as op
use Rattle.messages.specs.declared.outcome.Outcome.{Outcome}
use Rattle.messages.specs.declared.outcome.Outcome.TheVariants as outcome
use Rattle.messages.specs.Topology.{TopologyValue}
use Rattle.world.specs.declared.run_event.RunEvent.{RunEvent}
use Rattle.world.specs.declared.run_event.RunEvent.TheVariants.{Submit, Deliver, Collect}
use Rattle.world.specs.declared.completed.Completed.{Completed}
use Rattle.world.specs.Run.{Run, opening, step, continued, run}
use Rattle.world.specs.Refusals.{Refusal, Refused, NotSent, NoSuchActor, refusal_of}
use Rattle.world.specs.Histories.{IsHistory}
use Rattle.drains.specs.Drain.{deliveries}
use Rattle.workload.specs.declared.script.ScriptEvent.{ScriptEvent}
use Rattle.workload.specs.declared.script.ScriptEvent.TheVariants as script
use Rattle.workload.specs.declared.script.Script.{Script}
use Rattle.workload.specs.declared.transcript.Entry.{Entry}
use Rattle.workload.specs.declared.transcript.Entry.TheVariants as entry

-- ## The run of a script

-- the events of a run that an event of a script stands for: a drain for its deliveries, any other for itself
abbrev pub spelled : TopologyValue → Run → ScriptEvent → List RunEvent
spelled top w (script.Submit session o) = Submit session o ∷ []
spelled top w (script.Deliver number) = Deliver number ∷ []
spelled top w (script.Collect shard time) = Collect shard time ∷ []
spelled top w script.Drain = deliveries top 1000000 w

-- those of several events, one after the other
abbrev pub all_spelled : TopologyValue → Run → List ScriptEvent → List RunEvent
all_spelled top w [] = []
all_spelled top w (x ∷ xs) = spelled top w x ++ all_spelled top (continued top w (spelled top w x)) xs

-- the events of a script
abbrev pub events_in : TopologyValue → List ScriptEvent → List RunEvent
events_in top events = all_spelled top (opening top) events

abbrev pub events_of : Script → List RunEvent
events_of s = events_in s.topology s.events

-- the run of a script. Events that are refused aren't in it
abbrev pub run_of : Script → Run
run_of s = run s.topology (events_of s)

-- ## What is told

abbrev pub entry_by : ℕ → ℕ → Outcome → Entry
entry_by node number (outcome.Wrote commit stamp) = entry.Wrote node number commit stamp
entry_by node number (outcome.Read effective answer) = entry.Read node number effective answer
entry_by node number outcome.Collected = entry.Collected node number
entry_by node number (outcome.Moved dc floor) = entry.Moved node number dc floor

-- an operation that ended, as an entry
abbrev pub entry_of : Completed → Entry
entry_of c = entry_by c.node c.number c.outcome

-- what ended between two moments of a run
abbrev pub ended_between : Run → Run → List Entry
ended_between w v = map entry_of (drop (length w.transcript) v.transcript)

-- a refused submission is told, unless the session's clock is spent
abbrev pub submission_refused : ℕ → Fault → Result (List Entry) Fault
submission_refused node ClockSpent = Err ClockSpent
submission_refused node e = Ok (entry.Refused node e ∷ [])

-- any other refusal ends the script: of a message that was not sent, and of a node that is no such actor, with `Script`
abbrev pub refused_as : RunEvent → Refusal → Result (List Entry) Fault
refused_as (Submit node o) (Refused e) = submission_refused node e
refused_as (Deliver k) (Refused e) = Err e
refused_as (Collect node time) (Refused e) = Err e
refused_as x NotSent = Err NoScript
refused_as x NoSuchActor = Err NoScript

abbrev pub told_if : Option Refusal → Run → RunEvent → Run → Result (List Entry) Fault
told_if None w x v = Ok (ended_between w v)
told_if (Some r) w x v = refused_as x r

-- what is told of an event, or the fault that ends the script there
abbrev pub told_of : TopologyValue → Run → RunEvent → Result (List Entry) Fault
told_of top w x = told_if (refusal_of top w x) w x (step top w x)

-- both, one after the other
abbrev pub then_told : Result (List Entry) Fault → Result (List Entry) Fault → Result (List Entry) Fault
then_told (Ok es) (Ok fs) = Ok (es ++ fs)
then_told (Ok es) (Err e) = Err e
then_told (Err e) r = Err e

-- what is told of events in order
abbrev pub told : TopologyValue → Run → List RunEvent → Result (List Entry) Fault
told top w [] = Ok []
told top w (x ∷ xs) = then_told (told_of top w x) (told top (step top w x) xs)

-- the entries of a script, or the fault that ends it
abbrev pub simulated_in : TopologyValue → List ScriptEvent → Result (List Entry) Fault
simulated_in top events = told top (opening top) (events_in top events)

abbrev pub simulated : Script → Result (List Entry) Fault
simulated s = simulated_in s.topology s.events

-- ## What a transcript shows

abbrev pub is_refusal : Entry → Bool
is_refusal (entry.Wrote node number commit stamp) = false
is_refusal (entry.Read node number effective answer) = false
is_refusal (entry.Collected node number) = false
is_refusal (entry.Moved node number dc floor) = false
is_refusal (entry.Refused node fault) = true

abbrev pub is_outcome : Entry → Bool
is_outcome e = not (is_refusal e)

-- an event with why it is refused, if it is
abbrev pub with_refusal : TopologyValue → Run → RunEvent → Option (RunEvent × Refusal)
with_refusal top w x = option_map (λ r. (x, r)) (refusal_of top w x)

-- the events that aren't in the run, since they are refused, in order
abbrev pub left_out : TopologyValue → Run → List RunEvent → List (RunEvent × Refusal)
left_out top w [] = []
left_out top w (x ∷ xs) = option_to_list (with_refusal top w x) ++ left_out top (step top w x) xs

-- the entry of a submission that its session refused
abbrev pub refusal_entry : RunEvent × Refusal → Option Entry
refusal_entry (Submit node o, Refused e) = Some (entry.Refused node e)
refusal_entry (x, r) = None

-- the answer is that of a read of this node and number, and is the meaning of its request on the history of its home, the data
-- centre where it was submitted, in whatever order, at the effective time
pub record ShowsOneTable (top : TopologyValue) (w : Run) (node number time : ℕ) (answer : List AnsweredRow) : Type 0 where
  pub read : Read
  pub home : ℕ
  pub completed : Contains w.transcript (record { node = node; number = number; home = home; op = op.Read read; outcome = outcome.Read time answer })
  pub table : (h : History) → IsHistory top w home h → answer ≡ meaning read h time

-- The entries are the transcript of the script.
pub record IsTranscriptOf (s : Script) (entries : List Entry) : Type 0 where
  -- they stand in order of completion or refusal
  pub told : simulated s ≡ Ok entries
  -- the outcomes among them are those of the run, each once
  pub outcomes : filter is_outcome entries ≡ map entry_of (run_of s).transcript
  -- the others are one for each event that isn't in the run, and that is a submission that its session refused
  pub refusals : map (λ e. Some e) (filter is_refusal entries) ≡ map refusal_entry (left_out s.topology (opening s.topology) (events_of s))
  -- each answer of a read shows the one table of its home
  pub reads : (node number time : ℕ) (answer : List AnsweredRow) → Contains entries (entry.Read node number time answer)
      → ShowsOneTable s.topology (run_of s) node number time answer
