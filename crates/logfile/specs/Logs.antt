-- What a file tells that begins as a log.
use Rattle.std.specs.Prelude.{◌≡◌, false, ℕ, Bool, Option, List, ◌++◌, length, drop}
use Rattle.messages.specs.Topology.{TopologyValue}
use Rattle.world.specs.declared.run_event.RunEvent.{RunEvent}
use Rattle.world.specs.Quiet.{IsQuiet}
use Rattle.world.specs.World.{run_of}
use Rattle.records.specs.Records.{recovered, IsUndamaged}
use Rattle.keeper.specs.Log.{IsAsBefore}
use Rattle.ledger.specs.Heads.{head_of}
use Rattle.ledger.specs.declared.entry.Entry.{Entry}
use Rattle.durable.specs.Playing.{IsLed, Outlives}
use Rattle.durable.specs.Logged.{Tell}
use Rattle.durable.specs.Settled.{DurableValue, Holds, IsSettled}

-- a file begins with the head of a store of this topology, whose records are made with this secret
abbrev pub BeginsWith : ℕ → TopologyValue → List ℕ → Type 0
BeginsWith secret top file = (rest : List ℕ) × (file ≡ head_of secret top ++ rest)

-- what stands behind that head
abbrev pub behind : ℕ → TopologyValue → List ℕ → List ℕ
behind secret top file = drop (length (head_of secret top)) file

-- The records behind a file's head tell these entries, and none that was synced is damaged.
pub record IsLogOf (file : List ℕ) (secret : ℕ) (top : TopologyValue) (entries : List Entry) : Type 0 where
  pub begins : BeginsWith secret top file
  pub tell : Tell entries (recovered secret 0 0 (behind secret top file))
  pub undamaged : IsUndamaged secret (behind secret top file)

-- what led to any events that the file held comes first in these, and each reply that was given then keeps its meaning
abbrev pub Keeps : List ℕ → ℕ → TopologyValue → List RunEvent → Type 0
Keeps file secret top events = (before : List RunEvent) → Holds top secret before (behind secret top file) → Outlives top before events

-- A world came back from a file that holds the log of a store of this topology: what its records tell led to all that happened;
-- all of it is on the disk for good, and the disk works; whatever the file held keeps the meaning that it had; and a crash meanwhile left
-- a file of the same records.
pub record ComesBack {D : Type 0} (seen : D → Option (List ℕ)) (may_leave : D → List ℕ → Type 0) (failed : D → Bool) (left_since : D → ℕ → List ℕ → Type 0) (file : List ℕ) (top : TopologyValue) (d : DurableValue D) : Type 0 where
  pub topology : d.world.top ≡ top
  pub entries : List Entry
  pub log : IsLogOf file d.log.secret top entries
  pub led : IsLed top d.world.events entries
  pub found : d.found ≡ length entries
  pub quiet : IsQuiet (run_of d.world)
  pub settled : IsSettled seen may_leave failed top d.log.secret d.log.disk d.world.events
  pub works : failed d.log.disk ≡ false
  pub keeps : Keeps file d.log.secret top d.world.events
  pub meanwhile : (c : List ℕ) → left_since d.log.disk 0 c → IsAsBefore d.log.secret (behind d.log.secret top file) c
