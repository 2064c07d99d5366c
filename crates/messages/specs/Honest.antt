-- What the envelopes to one shard say, and when they are honest.
use Rattle.std.specs.Prelude.{◌≡◌, ℕ, ◌<◌, ◌≤◌, List, [], ◌++◌, map, filter_map, Option, Some, None, Contains}
use Rattle.logical_time.specs.Stamps.{StampValue, TxnValue}
use Rattle.column_family.specs.declared.batch.Change.{Change}
use Rattle.column_family.specs.Normal.{IsNormal}
use Rattle.slice.specs.declared.read.Read.{Read}
use Rattle.messages.specs.declared.body.Body.{Body}
use Rattle.messages.specs.declared.body.Body.TheVariants as body
use Rattle.messages.specs.declared.envelope.Envelope.{Envelope}
use Rattle.messages.specs.Shard.{ShardState, PreparedPart}

-- ## What envelopes say

-- a commit time and a stamp that an envelope of this time names for a transaction
pub record ToldCommit : Type 0 where
  pub txn : TxnValue
  pub commit : ℕ
  pub stamp : StampValue
  pub time : ℕ

abbrev pub told_in : ℕ → Body → Option ToldCommit
told_in time (body.Commit t commit stamp) = Some (record { txn = t; commit = commit; stamp = stamp; time = time })
told_in time (body.At t commit stamp) = Some (record { txn = t; commit = commit; stamp = stamp; time = time })
told_in time other = None

-- what Commit and At tell among these envelopes
abbrev pub all_told : List Envelope → List ToldCommit
all_told es = filter_map (λ e. told_in e.time e.body) es

-- the part that Begin, Prepare, ReplBegin and ReplPart carry; none in others
abbrev pub part_in : Body → List Change
part_in (body.Begin t rows cohorts dependencies) = rows
part_in (body.Prepare t rows coordinator) = rows
part_in (body.ReplBegin cohorts t rows stamp dependencies) = rows
part_in (body.ReplPart t rows stamp coordinator) = rows
part_in other = []

-- a transaction and its stamp
pub record StampedTxn : Type 0 where
  pub txn : TxnValue
  pub stamp : StampValue

-- the stamps that a shard was told with these envelopes, and those that it gave itself
abbrev pub stamps_met : ShardState → List Envelope → List StampedTxn
stamps_met a es =
    map (λ x. record { txn = x.txn; stamp = x.stamp }) (all_told es) ++ map (λ d. record { txn = d.txn; stamp = d.stamp }) a.decided

-- Envelopes to a shard are honest, where this is the shard after them: what they say of a transaction agrees, with each
-- other and with what the shard itself did.
pub record IsHonest (a : ShardState) (es : List Envelope) : Type 0 where
  -- all Commit and At of a transaction name the same commit time and the same stamp
  pub commit : (x y : ToldCommit) → Contains (all_told es) x → Contains (all_told es) y → x.txn ≡ y.txn → x.commit ≡ y.commit
  pub stamp : (x y : ToldCommit) → Contains (all_told es) x → Contains (all_told es) y → x.txn ≡ y.txn → x.stamp ≡ y.stamp
  -- that commit time is above the prepare time that this shard gave the transaction
  pub prepared : (x : ToldCommit) (p : PreparedPart) → Contains (all_told es) x → Contains a.prepared p → p.txn ≡ x.txn → p.time < x.commit
  -- and not above the envelope's time
  pub told : (x : ToldCommit) → Contains (all_told es) x → x.commit ≤ x.time
  -- no NotBy of the transaction names a time at or above it
  pub excluded : (x : ToldCommit) (e : Envelope) (time : ℕ) → Contains (all_told es) x → Contains es e → e.body ≡ body.NotBy x.txn time → time < x.commit
  -- two transactions have two stamps
  pub stamps : (x y : StampedTxn) → Contains (stamps_met a es) x → Contains (stamps_met a es) y → x.stamp ≡ y.stamp → x.txn ≡ y.txn
  -- a ReadAt names a time not above its envelope's
  pub read : (e : Envelope) (number time : ℕ) (r : Read) → Contains es e → e.body ≡ body.ReadAt number time r → time ≤ e.time
  -- each part is in normal form
  pub parts : (e : Envelope) → Contains es e → IsNormal (part_in e.body)
