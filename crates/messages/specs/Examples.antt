-- Worked examples: reads of two rows that lie on two shards.
use Rattle.std.specs.Prelude.{ℕ, List, [], ◌∷◌}
use Rattle.slice.specs.declared.predicate.Predicate.TheVariants.{Names}
use Rattle.slice.specs.declared.read.Read.{Read}
use Rattle.messages.specs.declared.rows_now.RowNow.{RowNow}
use Rattle.messages.specs.declared.body.Body.TheVariants as body
use Rattle.messages.specs.declared.op.Op.TheVariants as op
use Rattle.messages.specs.declared.envelope.Envelope.{Envelope}
use Rattle.messages.specs.Topology.{TopologyValue}
use Rattle.messages.specs.Words.{envelope}
use Rattle.messages.specs.Session.{SessionStep, new_session}
use Rattle.messages.specs.Submitting.{begun}
use Rattle.messages.specs.SessionEvents.{heard}

-- one data centre of two shards, with a session, which is node 2. The family is f
abbrev pub two_shards : TopologyValue
two_shards = record { dcs = 1; shards = 2; schema = (102 ∷ []) ∷ []; homes = 0 ∷ [] }

-- the key b, which is on shard 0
abbrev pub key_b : List ℕ
key_b = 98 ∷ []

-- the key a, which is on shard 1
abbrev pub key_a : List ℕ
key_a = 97 ∷ []

-- a read of the column x of these rows
abbrev pub read_of : List (List ℕ) → Read
read_of keys = record { family = 102 ∷ []; keys = keys; predicate = Names ((120 ∷ []) ∷ []) }

-- an empty row that is valid between these times
abbrev pub row_between : List ℕ → ℕ → ℕ → RowNow
row_between key evt lvt = record { key = key; columns = []; writers = []; evt = evt; lvt = lvt }

-- a new session submits a read of these keys
abbrev pub asks : List (List ℕ) → SessionStep
asks keys = begun two_shards 2 1 (new_session 0) (op.Read (read_of keys))

-- a session with this floor reads b and a, and hears that b is valid from 3 to 4
abbrev pub hears_b : ℕ → SessionStep
hears_b floor =
    heard two_shards 2 5 (record (asks (key_b ∷ key_a ∷ [])).state { floor = floor }) 0 (body.PartNow 1 (row_between key_b 3 4 ∷ []))

-- then it hears that a is valid from 0 to 2
abbrev pub hears_both : ℕ → SessionStep
hears_both floor = heard two_shards 2 6 (hears_b floor).state 1 (body.PartNow 1 (row_between key_a 0 2 ∷ []))

-- the first round's question for these keys, to this shard
abbrev pub asked : ℕ → List (List ℕ) → Envelope
asked shard keys = envelope 2 shard 1 (body.Read 1 (read_of keys))

-- the second round's question for these keys at a time, to this shard
abbrev pub asked_at : ℕ → ℕ → List (List ℕ) → Envelope
asked_at shard time keys = envelope 2 shard 6 (body.ReadAt 1 time (read_of keys))
