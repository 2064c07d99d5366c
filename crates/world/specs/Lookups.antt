-- What can be looked up in a run: for whom messages are, which was not handled yet, what a data centre's history is by its
-- submissions, and what a shard has not finished.
use Rattle.std.specs.Prelude.{◌≡◌, ℕ, ◌<◌, true, ◌==◌, not, [], length, map, find, filter_map, Option, Some, None, option_map, option_and_then, Contains, ◌⊎◌, ◌↔◌}
use Rattle.std.specs.List.{list_any, range_with_len}
use Rattle.std.specs.List.Sorted.{IsStrictlySortedBy}
use Rattle.logical_time.specs.Stamps.{txn_cmp}
use Rattle.column_family.specs.declared.batch.Committed.{Committed}
use Rattle.column_family.specs.History.{History}
use Rattle.column_family.specs.Normal.{committed}
use Rattle.txn_state.specs.declared.part.WritePart.{WritePart}
use Rattle.planner.specs.Plan.{coordinator_of}
use Rattle.messages.specs.declared.envelope.Envelope.{Envelope}
use Rattle.messages.specs.Topology.{TopologyValue, is_shard, is_session, shard_node}
use Rattle.messages.specs.Shard.{ShardState}
use Rattle.messages.specs.Known.{decision_of}
use Rattle.shard.specs.Unfinished.{parts_unapplied, unfinished_of}
use Rattle.world.specs.Run.{Run, Submission}
use Rattle.world.specs.Histories.{batch_in, IsHistory}
use Rattle.world.specs.Entries.{named_by}
use Rattle.world.specs.Quiet.{handled, IsQuiet}
use Rattle.world.specs.Settled.{IsClear}

-- ## Messages

-- each message is for a shard or a session that there is
abbrev pub MessagesAreForActors : TopologyValue → Run → Type 0
MessagesAreForActors top w = (e : Envelope) → Contains w.sent e → (is_shard top e.to ≡ true) ⊎ (is_session top e.to ≡ true)

-- the number of the first message that was sent and that no event delivered
abbrev pub first_unhandled : Run → Option ℕ
first_unhandled w = find (λ k. not (list_any (λ j. j == k) (handled w))) (range_with_len 0 (length w.sent))

-- the message of this number was sent and not handled, and each before it was handled
pub record IsFirstUnhandled (w : Run) (k : ℕ) : Type 0 where
  pub sent : k < length w.sent
  pub unhandled : Contains (handled w) k → ⊥
  pub before : (j : ℕ) → j < k → Contains (handled w) j

-- it is found where there is one, and there is none exactly in a quiet run
pub record FindsUnhandled (w : Run) : Type 0 where
  pub found : (k : ℕ) → first_unhandled w ≡ Some k → IsFirstUnhandled w k
  pub none : (first_unhandled w ≡ None) ↔ IsQuiet w

-- ## Histories

-- what the coordinator of a submitted batch in the data centre tells of it when it is asked: its entry, once it is decided
abbrev pub entry_asked : TopologyValue → Run → ℕ → Submission → Option Committed
entry_asked top w dc s =
    option_and_then
    (λ batch.
    option_map (λ d. committed batch d.stamp d.commit)
    (decision_of (named_by s) (w.shards (shard_node top dc (coordinator_of top.shards batch)))))
    (batch_in s.op)

-- the entries that one gets by asking for each submission, in the order of submission
abbrev pub history_asked : TopologyValue → Run → ℕ → History
history_asked top w dc = filter_map (entry_asked top w dc) w.submitted

-- they are the history of the data centre
abbrev pub HistoriesAreAsked : TopologyValue → Run → Type 0
HistoriesAreAsked top w = (dc : ℕ) → IsHistory top w dc (history_asked top w dc)

-- ## Shards

-- what is unfinished on the shard are the parts that it holds and hasn't applied, in order of transaction number, one for
-- each; nothing where the shard keeps nothing waiting
pub record TellsUnfinished (top : TopologyValue) (w : Run) (node : ℕ) (a : ShardState) : Type 0 where
  pub parts : (p : WritePart) → Contains (unfinished_of top node a) p ↔ Contains (parts_unapplied top node a) p
  pub order : IsStrictlySortedBy txn_cmp (map (λ p. p.writer.txn) (unfinished_of top node a))
  pub clear : IsClear w node a → unfinished_of top node a ≡ []

-- so of each shard
abbrev pub ShardsTellUnfinished : TopologyValue → Run → Type 0
ShardsTellUnfinished top w = (node : ℕ) → TellsUnfinished top w node (w.shards node)
