-- How the state of a run grows: what is kept of shards, sessions, submissions and completed operations at each event.
use Rattle.std.specs.Prelude.{◌≡◌, ℕ, ◌<◌, ◌≤◌, ◌⊎◌, Contains}
use Rattle.slice.specs.declared.read.Read.{Read}
use Rattle.store.specs.declared.part.Applied.{Applied}
use Rattle.messages.specs.Topology.{TopologyValue, shard_of}
use Rattle.messages.specs.Shard.{ShardState, PreparedPart, Decision}
use Rattle.messages.specs.Session.{SessionState, Open, Idle, Writing, FirstRound, SecondRound, Moving}
use Rattle.messages.specs.Submitting.{share_of}
use Rattle.messages.specs.Rounds.{late_keys}
use Rattle.world.specs.Run.{Run, Submission, Completed}

-- ## Shards

-- a part that is prepared anew: above the clock before, and the first of its transaction
pub record NewPrepared (a : ShardState) (p : PreparedPart) : Type 0 where
  pub above : a.clock < p.time
  pub unprepared : (g : PreparedPart) → Contains a.prepared g → g.txn ≡ p.txn → ⊥

-- a decision that is new: above the clock before, and the first of its transaction
pub record NewDecision (a : ShardState) (d : Decision) : Type 0 where
  pub above : a.clock < d.commit
  pub undecided : (e : Decision) → Contains a.decided e → e.txn ≡ d.txn → ⊥

pub record ShardGrows (a b : ShardState) : Type 0 where
  pub clock : a.clock ≤ b.clock
  pub prepared : (p : PreparedPart) → Contains a.prepared p → Contains b.prepared p
  pub prepared_new : (p : PreparedPart) → Contains b.prepared p → Contains a.prepared p ⊎ NewPrepared a p
  pub decided : (d : Decision) → Contains a.decided d → Contains b.decided d
  pub decided_new : (d : Decision) → Contains b.decided d → Contains a.decided d ⊎ NewDecision a d
  pub applied : (v : Applied) → Contains a.applied v → Contains b.applied v

-- ## Sessions

-- in its first round the open read asked this of the shard
abbrev pub FirstAsked : TopologyValue → Open → ℕ → Read → Type 0
FirstAsked top (FirstRound read heard) node asked = asked ≡ share_of top read (shard_of top node)
FirstAsked top Idle node asked = Unit {0}
FirstAsked top (Writing coordinator) node asked = Unit {0}
FirstAsked top (SecondRound read time first heard) node asked = Unit {0}
FirstAsked top (Moving dc left floor) node asked = Unit {0}

-- the session asked this of the shard in the first round of its operation of this number
pub record AskedNow (top : TopologyValue) (a : SessionState) (m node : ℕ) (asked : Read) : Type 0 where
  pub number : m ≤ a.count
  pub round : m ≡ a.count → FirstAsked top a.current node asked

-- in its second round the open read has this time, and asked this of the shard; none is in its first round
abbrev pub SecondAsked : Open → ℕ → ℕ → Read → Type 0
SecondAsked (SecondRound read effective first heard) time node asked =
    (effective ≡ time) × (asked ≡ record read { keys = late_keys effective first node })
SecondAsked (FirstRound read heard) time node asked = ⊥
SecondAsked Idle time node asked = Unit {0}
SecondAsked (Writing coordinator) time node asked = Unit {0}
SecondAsked (Moving dc left floor) time node asked = Unit {0}

-- the session asked this of the shard in the second round of its operation of this number, at this time
pub record AskedAt (a : SessionState) (m time node : ℕ) (asked : Read) : Type 0 where
  pub number : m ≤ a.count
  pub round : m ≡ a.count → SecondAsked a.current time node asked

pub record SessionGrows (top : TopologyValue) (a b : SessionState) : Type 0 where
  pub clock : a.clock ≤ b.clock
  pub count : a.count ≤ b.count
  pub asked_now : (number node : ℕ) (asked : Read) → AskedNow top a number node asked → AskedNow top b number node asked
  pub asked_at : (number time node : ℕ) (asked : Read) → AskedAt a number time node asked → AskedAt b number time node asked

-- ## Runs

pub record Grows (top : TopologyValue) (w x : Run) : Type 0 where
  pub shards : (node : ℕ) → ShardGrows (w.shards node) (x.shards node)
  pub sessions : (node : ℕ) → SessionGrows top (w.sessions node) (x.sessions node)
  pub submitted : (b : Submission) → Contains w.submitted b → Contains x.submitted b
  pub transcript : (c : Completed) → Contains w.transcript c → Contains x.transcript c
