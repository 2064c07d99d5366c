-- What a session keeps, as a state of the machine.
use Rattle.std.specs.Prelude.{ℕ, List, [], ◌++◌, Option, Some, None}
use Rattle.logical_time.specs.Stamps.{WriterValue}
use Rattle.messages.specs.declared.outcome.Outcome.{Outcome}
use Rattle.messages.specs.Topology.{TopologyValue}
use Rattle.messages.specs.Words.{in_writer_order}
use Rattle.messages.specs.Session.{SessionState, Finished}
use Rattle.client.specs.declared.kept.SessionKept.{SessionKept}
use Rattle.client.specs.Current.{open_of}

-- what the next write depends on
abbrev pub dependencies_of : SessionKept → List WriterValue
dependencies_of k = in_writer_order (k.dependencies ++ k.added)

abbrev pub finished_of : Option (ℕ × Outcome) → Option Finished
finished_of None = None
finished_of (Some p) = Some (record { number = p.0; outcome = p.1 })

-- the state of the machine that is kept
abbrev pub state_of : SessionKept → SessionState
state_of k =
    record {
      clock = k.clock;
      count = k.count;
      home = k.home.dc;
      floor = k.floor;
      dependencies = dependencies_of k;
      current = open_of k.current;
      untaken = finished_of k.untaken;
    }

-- what is kept of the topology
abbrev pub topology_of : SessionKept → TopologyValue
topology_of k = record { dcs = k.home.dcs; shards = k.home.shards; schema = k.schema; homes = [] }
