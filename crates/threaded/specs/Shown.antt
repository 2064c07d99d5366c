-- When what seats show of their actors matches on each link, and what a run tells of it.
use Rattle.std.specs.Prelude.{◌≡◌, ℕ, ◌<◌, Some, Contains}
use Rattle.messages.specs.declared.envelope.Envelope.{Envelope}
use Rattle.messages.specs.declared.event.ActorEvent.TheVariants.{Handle}
use Rattle.messages.specs.Topology.{TopologyValue, node_count}
use Rattle.messages.specs.Actors.{Replayed, replay_of}
use Rattle.actors.specs.Journals.{receipts_from, sends_to, IsBeginning}
use Rattle.actors.specs.Shown.{Shown, CameAlong}
use Rattle.threaded.specs.Machines.{StaysApart, CameFrom}

-- machines came along with what is shown of an actor
abbrev pub DidCome : TopologyValue → ℕ → Shown → Type 0
DidCome top node s = CameAlong CameFrom top node s

-- on each link the receipts are a beginning of what the sender shows
abbrev pub DoShownMatch : TopologyValue → (ℕ → Shown) → Type 0
DoShownMatch top shown =
    (from to : ℕ) → from < node_count top → to < node_count top
    → IsBeginning (receipts_from from (shown to).journal) (sends_to to (shown from).sent)

-- what is handled is from an actor
abbrev pub HaveSenders : TopologyValue → (ℕ → Shown) → Type 0
HaveSenders top shown = (node : ℕ) (e : Envelope) → node < node_count top → Contains (shown node).journal (Handle e) → e.from < node_count top

-- ## What a run tells of what is shown

-- stamps stay apart along the journal, whose replay sends what is shown, in order
pub record IsTold (top : TopologyValue) (node : ℕ) (s : Shown) : Type 0 where
  pub apart : StaysApart top node s.journal
  pub replay : Replayed
  pub replays : replay_of top node s.journal ≡ Some replay
  pub sends : s.sent ≡ replay.sent
