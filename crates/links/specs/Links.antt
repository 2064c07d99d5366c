-- Rings between actors: the two ends of one, and which pairs of actors have one.
use Rattle.std.specs.Prelude.{ℕ, ◌==◌, Bool, true, ◌||◌, if◌then◌else◌, List, filter}
use Rattle.std.specs.List.{range_with_len}
use Rattle.messages.specs.declared.envelope.Envelope.{Envelope}
use denote.RawPtr.{Ptr}
use Rattle.std.specs.declared.alloc.Global.{Global}
use Rattle.rtrb.specs.Shared.{Names}
use Rattle.messages.specs.Topology.{TopologyValue, is_shard, dc_of, shard_of, node_count}

-- Which ring it is, by all that `rtrb`'s `IsPair` compares of two ends: where its counts and its places lie, its capacity with
-- the names of its two views, and whose memory it is.
pub record RingName : Type 0 where
  pub words : Ptr
  pub slots : Ptr
  pub names : Names
  pub heap : Global

-- the sender's end: the actor to which it leads, which ring it is an end of, all that went into the ring, oldest first, and how
-- many places are known to be free
pub record OutLinkValue : Type 0 where
  pub to : ℕ
  pub ring : RingName
  pub sent : List Envelope
  pub free : ℕ

-- the receiver's end: the actors from which and to which it leads, which ring it is an end of, all that was taken from the ring,
-- oldest first, and how many envelopes are known to be in it
pub record InLinkValue : Type 0 where
  pub from : ℕ
  pub to : ℕ
  pub ring : RingName
  pub received : List Envelope
  pub known : ℕ

-- an envelope with the addresses of a link
abbrev pub readdressed : ℕ → ℕ → Envelope → Envelope
readdressed from to e = record { from = from; to = to; time = e.time; body = e.body }

-- the shards are in one data centre, or are the same shard of two
abbrev pub are_near : TopologyValue → ℕ → ℕ → Bool
are_near top a b = (dc_of top a == dc_of top b) || (shard_of top a == shard_of top b)

-- Which actors may exchange envelopes: an actor with itself, the shards of one data centre with each other, the same shard
-- of two data centres, and a session with every shard, since it may move to any data centre.
abbrev pub may_exchange : TopologyValue → ℕ → ℕ → Bool
may_exchange top a b = (a == b) || (if is_shard top a then (if is_shard top b then are_near top a b else true) else is_shard top b)

-- the actors to which an actor may send, by their nodes
abbrev pub reached_from : TopologyValue → ℕ → List ℕ
reached_from top node = filter (λ to. may_exchange top node to) (range_with_len 0 (node_count top))

-- the actors from which it may receive, by their nodes
abbrev pub reaching : TopologyValue → ℕ → List ℕ
reaching top node = filter (λ from. may_exchange top from node) (range_with_len 0 (node_count top))
