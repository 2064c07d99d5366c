-- Local answers: what is settled in one data centre once its own actors handled what they sent each other, whatever became of
-- the messages between data centres.
use Rattle.std.specs.Prelude.{◌≡◌, ℕ, true, List, [], Some, ◌⊎◌, Contains}
use Rattle.messages.specs.declared.envelope.Envelope.{Envelope}
use Rattle.messages.specs.declared.event.ActorEvent.{ActorEvent}
use Rattle.messages.specs.declared.event.ActorEvent.TheVariants.{Handle}
use Rattle.messages.specs.declared.op.Op.{Op}
use Rattle.messages.specs.declared.op.Op.TheVariants as op
use Rattle.messages.specs.Topology.{TopologyValue, dc_of, is_shard, home_of}
use Rattle.messages.specs.Actors.{sent_by}
use Rattle.messages.specs.Session.{Open, Idle, Writing, FirstRound, SecondRound, Moving}
use Rattle.world.specs.Run.{Run, Submission, Completed}
use Rattle.world.specs.Quiet.{IsQuietAmong}
use Rattle.world.specs.Settled.{IsOutcomeOf}

-- ## Among whom

abbrev pub IsShardOf : TopologyValue → ℕ → ℕ → Type 0
IsShardOf top dc node = (is_shard top node ≡ true) × (dc_of top node ≡ dc)

-- the actors of a data centre: its shards, and the sessions that were opened in it
abbrev pub IsActorOf : TopologyValue → ℕ → ℕ → Type 0
IsActorOf top dc node = IsShardOf top dc node ⊎ (home_of top node ≡ Some dc)

-- each message that was sent between two actors of the data centre was handled
abbrev pub IsLocallyQuiet : TopologyValue → ℕ → Run → Type 0
IsLocallyQuiet top dc w = IsQuietAmong (IsActorOf top dc) w

-- by their journals: each envelope that one of them sent to one of them was handled there
abbrev pub AreHandledHere : TopologyValue → ℕ → (ℕ → List ActorEvent) → Type 0
AreHandledHere top dc journals =
    (e : Envelope) → IsActorOf top dc e.from → IsActorOf top dc e.to → Contains (sent_by top e.from (journals e.from)) e
    → Contains (journals e.to) (Handle e)

-- this session, and the shards of the data centre where it is at home now
abbrev pub IsAtHomeOf : TopologyValue → Run → ℕ → ℕ → Type 0
IsAtHomeOf top w session node = (node ≡ session) ⊎ IsShardOf top (w.sessions session).home node

-- each message that was sent between the session and the shards of its home, or between these, was handled
abbrev pub IsServed : TopologyValue → Run → ℕ → Type 0
IsServed top w session = IsQuietAmong (IsAtHomeOf top w session) w

-- ## What is settled

-- no batch and no read is open; a move may be
abbrev pub MovesAtMost : Open → Type 0
MovesAtMost Idle = Unit {0}
MovesAtMost (Writing coordinator) = ⊥
MovesAtMost (FirstRound read heard) = ⊥
MovesAtMost (SecondRound read time first heard) = ⊥
MovesAtMost (Moving dc left floor) = Unit {0}

-- the operation is a batch or a read
abbrev pub IsLocal : Op → Type 0
IsLocal (op.Batch batch) = Unit {0}
IsLocal (op.Read read) = Unit {0}
IsLocal (op.Move dc) = ⊥

-- the session has no batch and no read open, and each that it submitted has its outcome
pub record AllAnswered (w : Run) (session : ℕ) : Type 0 where
  pub current : MovesAtMost (w.sessions session).current
  pub outcomes : (s : Submission) → Contains w.submitted s → s.session ≡ session → IsLocal s.op → (c : Completed) × IsOutcomeOf w s c

-- What is settled in a data centre: each session that was opened there, and is at home there, is answered; each batch and each read
-- that a session of it submitted while it was at home there has its outcome; and no read waits on a shard there, whoever asked.
pub record AnswersLocally (top : TopologyValue) (w : Run) (dc : ℕ) : Type 0 where
  pub sessions : (session : ℕ) → home_of top session ≡ Some dc → (w.sessions session).home ≡ dc → AllAnswered w session
  pub outcomes : (s : Submission) → Contains w.submitted s → home_of top s.session ≡ Some dc → s.home ≡ dc → IsLocal s.op
      → (c : Completed) × IsOutcomeOf w s c
  pub waiting : (node : ℕ) → IsShardOf top dc node → (w.shards node).waiting ≡ []
