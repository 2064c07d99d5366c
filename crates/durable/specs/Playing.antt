-- What the entries of a log make of a world, and what becomes of its answers when it is made again.
use Rattle.std.specs.Prelude.{◌≡◌, ℕ, List, [], ◌∷◌, Option, Some, None}
use Rattle.messages.specs.Topology.{TopologyValue, session_node}
use Rattle.messages.specs.declared.op.Op.{Op}
use Rattle.wire.specs.Replies.{Reply}
use Rattle.world.specs.declared.run_event.RunEvent.{RunEvent}
use Rattle.world.specs.declared.run_event.RunEvent.TheVariants.{Submit, Deliver, Collect}
use Rattle.world.specs.Run.{Run, step, run, opening}
use Rattle.world.specs.Journals.{IsBeginning}
use Rattle.world.specs.Lookups.{first_unhandled}
use Rattle.service.specs.Sessions.{SessionReplies}
use Rattle.ledger.specs.declared.entry.Entry.{Entry}
use Rattle.ledger.specs.declared.entry.Entry.TheVariants.{Request, Rested}

-- the event that an entry is: a submission, or a collection up to the shard's own clock
abbrev pub event_of : TopologyValue → Run → Entry → RunEvent
event_of top w (Request index op) = Submit (session_node top index) op
event_of top w (Rested shard) = Collect shard (w.shards shard).clock

-- what comes next, and the entries behind it: the first message that was not handled, or else the first entry
abbrev pub next_of : TopologyValue → Run → Option ℕ → List Entry → Option (RunEvent × List Entry)
next_of top w (Some k) es = Some (Deliver k, es)
next_of top w None [] = None
next_of top w None (e ∷ es) = Some (event_of top w e, es)

-- The entries lead from this run to these events: each time comes what is next, until all entries came.
abbrev pub Plays : TopologyValue → Run → List RunEvent → List Entry → Type 0
Plays top w [] es = es ≡ []
Plays top w (x ∷ xs) es = (rest : List Entry) × (next_of top w (first_unhandled w) es ≡ Some (x, rest)) × Plays top (step top w x) xs rest

-- the entries lead from the beginning to these events
abbrev pub IsLed : TopologyValue → List RunEvent → List Entry → Type 0
IsLed top events es = Plays top (opening top) events es

-- What happened before is a beginning of what happened since, and each reply that was given before keeps its meaning in the
-- world that there is now.
pub record Outlives (top : TopologyValue) (before after : List RunEvent) : Type 0 where
  pub events : IsBeginning before after
  pub answers : (place : ℕ) (from to : List RunEvent) (op : Op) (answer : Reply) → IsBeginning to before → SessionReplies top (run top before) place from op answer to → SessionReplies top (run top after) place from op answer to
