-- What an accepted operation makes of what a session keeps.
use Rattle.std.specs.Prelude.{ℕ, ◌+◌, List, [], ◌∷◌, map, Option, None}
use Rattle.logical_time.specs.declared.fault.Fault.{Fault}
use Rattle.logical_time.specs.Stamps.{WriterValue}
use Rattle.messages.specs.declared.op.Op.{Op}
use Rattle.messages.specs.declared.op.Op.TheVariants as op
use Rattle.messages.specs.declared.body.Body.TheVariants as body
use Rattle.messages.specs.declared.envelope.Envelope.{Envelope}
use Rattle.messages.specs.Words.{envelope}
use Rattle.messages.specs.Submitting.{home_node, begin_of, prepare_of, share_of, check_of, submit_fault}
use Rattle.messages.specs.Rounds.{asked_nodes}
use Rattle.planner.specs.Plan.{coordinator_of, cohorts_of, shards_asked}
use Rattle.client.specs.declared.kept.SessionKept.{SessionKept}
use Rattle.client.specs.declared.current.Current.{Current}
use Rattle.client.specs.declared.current.Current.TheVariants.{Write, First, Move}
use Rattle.client.specs.Home.{HomeValue}
use Rattle.client.specs.Steps.{moved}
use Rattle.client.specs.State.{dependencies_of, state_of, topology_of}

-- why an operation is refused before the clock is looked at, if it is
abbrev pub fault_of : SessionKept → Op → Option Fault
fault_of k o = submit_fault (topology_of k) (state_of k) o

-- the writers of the last read are put among the dependencies, in order
abbrev pub settled : SessionKept → SessionKept
settled k = record k { dependencies = dependencies_of k }

-- an operation is accepted at a time, and is then open
abbrev pub opens : SessionKept → ℕ → Current → SessionKept
opens k n current = record k { clock = n; count = k.count + 1; added = []; current = current; untaken = None }

-- a move is accepted, by what it asks for: without dependencies it ends at once
abbrev pub leaves : List WriterValue → SessionKept → ℕ → HomeValue → SessionKept
leaves [] k n home = moved n (record k { count = k.count + 1; added = [] }) home 0
leaves (w ∷ ws) k n home = opens k n (Move home (record { left = w ∷ ws; floor = 0 }))

-- what an accepted operation makes of what is kept
abbrev pub accepted : SessionKept → ℕ → Op → SessionKept
accepted k n (op.Batch batch) = opens (settled k) n (Write (coordinator_of k.home.shards batch))
accepted k n (op.Read read) =
    opens (settled k) n (First (record { read = read; floor = k.floor; asked = asked_nodes (topology_of k) (state_of k) read; heard = [] }))
accepted k n (op.Move dc) = leaves (dependencies_of k) (settled k) n (record k.home { dc = dc })

-- what is sent
abbrev pub posted : SessionKept → ℕ → Op → List Envelope
posted k n (op.Batch batch) =
    begin_of (topology_of k) k.node n (state_of k) batch ∷ map (prepare_of (topology_of k) k.node n (state_of k) batch) (cohorts_of k.home.shards batch)
posted k n (op.Read read) =
    map (λ s. envelope k.node (home_node (topology_of k) (state_of k) s) n (body.Read (k.count + 1) (share_of (topology_of k) read s))) (shards_asked k.home.shards read.keys)
posted k n (op.Move dc) = map (check_of (topology_of k) k.node n (state_of k) dc) (dependencies_of k)
