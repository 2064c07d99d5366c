-- The stamps that messages name.
use Rattle.std.specs.Prelude.{◌≡◌, ℕ, List, filter_map, Option, Some, None, Contains}
use Rattle.messages.specs.declared.body.Body.{Body}
use Rattle.messages.specs.declared.body.Body.TheVariants as body
use Rattle.messages.specs.declared.envelope.Envelope.{Envelope}
use Rattle.messages.specs.Shard.{Decision}
use Rattle.messages.specs.Honest.{StampedTxn}
use Rattle.world.specs.Run.{Run}

-- the transaction whose stamp a body names, with that stamp: what tells of a decision does, and what replicates
abbrev pub stamp_named : Body → Option StampedTxn
stamp_named (body.Commit t commit stamp) = Some (record { txn = t; stamp = stamp })
stamp_named (body.At t commit stamp) = Some (record { txn = t; stamp = stamp })
stamp_named (body.Done t commit stamp) = Some (record { txn = t; stamp = stamp })
stamp_named (body.ReplBegin cohorts t rows stamp dependencies) = Some (record { txn = t; stamp = stamp })
stamp_named (body.ReplPart t rows stamp coordinator) = Some (record { txn = t; stamp = stamp })
stamp_named other = None

-- all stamps that these envelopes name
abbrev pub stamps_named : List Envelope → List StampedTxn
stamps_named es = filter_map (λ e. stamp_named e.body) es

-- Whatever messages of the run name stamps: each is that of a decision, two transactions have two, and a transaction has
-- one.
pub record StampsAreNamed (w : Run) : Type 0 where
  pub decided : (x : StampedTxn) → Contains (stamps_named w.sent) x
      → (node : ℕ) × (d : Decision) × Contains (w.shards node).decided d × (d.txn ≡ x.txn) × (d.stamp ≡ x.stamp)
  pub apart : (x y : StampedTxn) → Contains (stamps_named w.sent) x → Contains (stamps_named w.sent) y → x.stamp ≡ y.stamp → x.txn ≡ y.txn
  pub one : (x y : StampedTxn) → Contains (stamps_named w.sent) x → Contains (stamps_named w.sent) y → x.txn ≡ y.txn → x.stamp ≡ y.stamp
