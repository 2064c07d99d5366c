-- The sessions of a world, as what the connections at places ask: each asks as the session of its place's index.
use Rattle.std.specs.Prelude.{◌≡◌, ℕ, ◌<◌, ◌≤◌, List, length, Err}
use Rattle.logical_time.specs.declared.fault.Fault.TheVariants.{Busy}
use Rattle.messages.specs.declared.op.Op.{Op}
use Rattle.messages.specs.Topology.{TopologyValue, session_node}
use Rattle.wire.specs.Replies.{Reply}
use Rattle.readiness.specs.Exchanges.{Entry, LogChain}
use Rattle.world.specs.declared.run_event.RunEvent.{RunEvent}
use Rattle.world.specs.Run.{Run}
use Rattle.world.specs.World.{WorldValue, run_of}
use Rattle.service.specs.declared.sessions.WorldSessions.{WorldSessions}
use Rattle.service.specs.Port.{Asks}
use Rattle.service.specs.Meaning.{Replies}

-- the sessions of a world, as their steps see them: under which name they hold the world, and the world
pub record SessionsValue : Type 0 where
  pub name : ℕ
  pub world : WorldValue

abbrev pub seen_sessions : {W : Type 0} → (W → WorldValue) → WorldSessions W → SessionsValue
seen_sessions seen p = record { name = p.world.ghost_name; world = seen p.world.now }

-- a step of the port: its world stays, and the request is answered on that world; past the last session it is refused
pub record IsSessionStep (place : ℕ) (old : SessionsValue) (op : Op) (answer : Reply) (new : SessionsValue) : Type 0 where
  pub same_world : new.name ≡ old.name
  pub topology : new.world.top ≡ old.world.top
  pub asks : place < length old.world.top.homes → Asks old.world.top (session_node old.world.top place) old.world.events op answer new.world.events
  pub otherwise : length old.world.top.homes ≤ place → (answer ≡ Err Busy) × (new.world ≡ old.world)

-- A step of the connection at a place, where `left` is the run after all of them: its session's request is answered,
-- and an outcome has its meaning in `left`; at a place past the last session it is refused.
pub record SessionReplies (top : TopologyValue) (left : Run) (place : ℕ) (before : List RunEvent) (op : Op) (answer : Reply) (after : List RunEvent) : Type 0 where
  pub replies : place < length top.homes → Replies top (session_node top place) left before op answer after
  pub otherwise : length top.homes ≤ place → (answer ≡ Err Busy) × (after ≡ before)

-- All that happened between two worlds is requests of the connections at places, one after the other, each answered by
-- its session, and each outcome has its meaning in the later world.
abbrev pub AreAnswered : WorldValue → WorldValue → Type 0
AreAnswered old new = (log : List Entry) × LogChain (SessionReplies old.top (run_of new)) old.events log new.events
