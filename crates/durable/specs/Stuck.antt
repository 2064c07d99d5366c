-- Why an entry of a log can't happen again.
use Rattle.std.specs.Prelude.{◌≡◌, ◌⊎◌, ℕ, ◌≤◌, false, List, [], ◌∷◌, ◌++◌, length}
use Rattle.logical_time.specs.declared.fault.Fault.{Fault}
use Rattle.logical_time.specs.declared.fault.Fault.TheVariants.{Busy, Memory}
use Rattle.messages.specs.Topology.{TopologyValue, is_shard, session_node}
use Rattle.world.specs.declared.run_event.RunEvent.{RunEvent}
use Rattle.world.specs.declared.run_event.RunEvent.TheVariants.{Collect}
use Rattle.world.specs.Run.{run}
use Rattle.world.specs.Refusals.{refusal_of}
use Rattle.world.specs.World.{IsRefusedAs}
use Rattle.drains.specs.Drain.{IsDrainedUntil}
use Rattle.service.specs.Port.{IsReady, IsFull, IsTurnedAway}
use Rattle.records.specs.Records.{Entry as Record, recovered}
use Rattle.keeper.specs.declared.recovery.RecoveryError.TheVariants.{Disk, Damaged}
use Rattle.ledger.specs.declared.entry.Entry.{Entry}
use Rattle.ledger.specs.declared.entry.Entry.TheVariants.{Request, Rested}
use Rattle.durable.specs.Playing.{IsLed}
use Rattle.durable.specs.Logged.{Tell, TellsNone}
use Rattle.durable.specs.Looked.{IsDamagedAt}
use Rattle.durable.specs.declared.error.OpenError.{OpenError}
use Rattle.durable.specs.declared.error.OpenError.TheVariants.{Unrecovered, Unread, Refused}

-- there is no memory, or the record of this number tells no entry
abbrev pub IsUnreadable : List Record → OpenError → Type 0
IsUnreadable records (Unrecovered e) = ⊥
IsUnreadable records (Unread n) = (before after : List Record) × (r : Record) × (records ≡ before ++ r ∷ after) × (n ≡ length before) × TellsNone r
IsUnreadable records (Refused fault) = fault ≡ Memory

-- not all that was sent can be handled: the drain is refused, or delivers as many messages as it may
abbrev pub IsUnready : TopologyValue → List RunEvent → Fault → Type 0
IsUnready top events fault = (after : List RunEvent) × (IsDrainedUntil top events after fault ⊎ IsFull top events fault after)

-- the shard's collection, when all is handled, is refused
pub record IsNotRested (top : TopologyValue) (events : List RunEvent) (shard : ℕ) (fault : Fault) : Type 0 where
  pub ready : List RunEvent
  pub is_ready : IsReady top events ready
  pub refused : IsRefusedAs (refusal_of top (run top ready) (Collect shard ((run top ready).shards shard).clock)) fault

-- Behind these events the entry can't happen: there is no such session or shard, or it is refused as any request or collection is.
abbrev pub CantHappen : TopologyValue → List RunEvent → Entry → Fault → Type 0
CantHappen top events (Request index op) fault =
    ((length top.homes ≤ index) × (fault ≡ Busy)) ⊎ ((after : List RunEvent) × IsTurnedAway top (session_node top index) op events fault after)
CantHappen top events (Rested shard) fault =
    IsUnready top events fault ⊎ (((is_shard top shard ≡ false) × (fault ≡ Busy)) ⊎ IsNotRested top events shard fault)

-- the first of these entries can't happen; or there is none, and not all can be handled
abbrev pub CantGoOn : TopologyValue → List RunEvent → List Entry → Fault → Type 0
CantGoOn top events [] fault = IsUnready top events fault
CantGoOn top events (e ∷ es) fault = CantHappen top events e fault

-- Entries led there, and then the first of these, up to one that can't happen.
pub record IsStuck (top : TopologyValue) (before entries : List Entry) (fault : Fault) : Type 0 where
  pub done : List Entry
  pub left : List Entry
  pub parts : entries ≡ done ++ left
  pub events : List RunEvent
  pub led : IsLed top events (before ++ done)
  pub why : CantGoOn top events left fault

-- Why the entries of a log can't be read from the bytes of its file: a record that was synced is damaged, one tells no entry, or
-- there is no memory.
abbrev pub CantRead : ℕ → List ℕ → OpenError → Type 0
CantRead secret bytes (Unrecovered (Disk e)) = ⊥
CantRead secret bytes (Unrecovered (Damaged at)) = IsDamagedAt secret bytes at
CantRead secret bytes (Unread n) = IsUnreadable (recovered secret 0 0 bytes) (Unread n)
CantRead secret bytes (Refused fault) = fault ≡ Memory

-- Why no world is told by the bytes of a file: for that, or an entry can't happen.
abbrev pub CantRecall : TopologyValue → ℕ → List ℕ → OpenError → Type 0
CantRecall top secret bytes (Unrecovered e) = CantRead secret bytes (Unrecovered e)
CantRecall top secret bytes (Unread n) = CantRead secret bytes (Unread n)
CantRecall top secret bytes (Refused fault) = (fault ≡ Memory) ⊎ ((entries : List Entry) × Tell entries (recovered secret 0 0 bytes) × IsStuck top [] entries fault)

-- Why a world doesn't come back from the bytes of a file: for that, or the disk is refused.
abbrev pub CantOpen : TopologyValue → ℕ → List ℕ → OpenError → Type 0
CantOpen top secret bytes (Unrecovered (Disk e)) = Unit {0}
CantOpen top secret bytes (Unrecovered (Damaged at)) = IsDamagedAt secret bytes at
CantOpen top secret bytes (Unread n) = CantRecall top secret bytes (Unread n)
CantOpen top secret bytes (Refused fault) = CantRecall top secret bytes (Refused fault)
