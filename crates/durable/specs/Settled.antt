-- What is on the disk for good, and what a crash leaves of it.
use Rattle.std.specs.Prelude.{◌≡◌, ℕ, Bool, true, false, List, ◌++◌, Option, Some, Result, Ok, IfErr, IsErr}
use Rattle.std.proofs.Common.{inl, refl, arith}
use Rattle.logical_time.specs.declared.fault.Fault.{Fault}
use Rattle.logical_time.specs.declared.fault.Fault.TheVariants.{WriteFailed}
use Rattle.messages.specs.Topology.{TopologyValue}
use Rattle.world.specs.declared.run_event.RunEvent.{RunEvent}
use Rattle.world.specs.World.{WorldValue}
use Rattle.disk.specs.Disk.{IsBeginning, Only, LeavesOnly}
use Rattle.records.specs.Records.{Entry as Record, recovered, IsHonest, IsUndamaged}
use Rattle.keeper.specs.declared.log.Log.{Log}
use Rattle.ledger.specs.declared.entry.Entry.{Entry}
use Rattle.durable.specs.Playing.{IsLed}
use Rattle.durable.specs.Logged.{Tell}

-- A file holds what led to these events: its records tell that first.
pub record Holds (top : TopologyValue) (secret : ℕ) (events : List RunEvent) (file : List ℕ) : Type 0 where
  pub entries : List Entry
  pub led : IsLed top events entries
  pub kept : List Record
  pub tell : Tell entries kept
  pub more : List Record
  pub records : recovered secret 0 0 file ≡ kept ++ more

-- A file holds nothing but what led to these events, or a beginning of that, and isn't taken for a damaged one, where nothing torn
-- passes by chance.
pub record HoldsOnly (top : TopologyValue) (secret : ℕ) (events : List RunEvent) (file : List ℕ) : Type 0 where
  pub entries : List Entry
  pub led : IsLed top events entries
  pub written : List Record
  pub tell : Tell entries written
  pub found : IsHonest secret written file → IsBeginning (recovered secret 0 0 file) written × IsUndamaged secret file

-- What led to these events is on the disk for good: whatever a crash leaves now holds it; and unless the disk failed, that is the file
-- that it shows.
pub record IsSettled {D : Type 0} (seen : D → Option (List ℕ)) (may_leave : D → List ℕ → Type 0) (failed : D → Bool) (top : TopologyValue) (secret : ℕ) (disk : D) (events : List RunEvent) : Type 0 where
  pub crash : (c : List ℕ) → may_leave disk c → Holds top secret events c
  pub shown : failed disk ≡ false → (file : List ℕ) × (seen disk ≡ Some file) × Only file (may_leave disk) × Holds top secret events file

-- a world and its log, and how many entries that had at first
pub record DurableValue (D : Type 0) : Type 0 where
  pub world : WorldValue
  pub log : Log D
  pub found : ℕ

-- what such a world keeps for good: its disk, and what the sums there are made with
abbrev pub kept_by : {D : Type 0} → DurableValue D → ℕ × D
kept_by d = (d.log.secret, d.log.disk)

-- What was settled lasts from one moment to a later one: the secret is the same, a crash at any moment between leaves a file that
-- holds it, and it is settled still.
abbrev pub Lasts : {D : Type 0} → (D → Option (List ℕ)) → (D → List ℕ → Type 0) → (D → Bool) → (D → ℕ) → (D → ℕ → List ℕ → Type 0) → ℕ × D → ℕ × D → Type 0
Lasts seen may_leave failed moment left_since old new =
    (new.0 ≡ old.0)
    × ((top : TopologyValue) (events : List RunEvent) → IsSettled seen may_leave failed top old.0 old.1 events
    → LeavesOnly moment left_since old.1 new.1 (Holds top old.0 events) × IsSettled seen may_leave failed top new.0 new.1 events)

-- The world settles: nothing happens to it, what was settled lasts, and what a crash leaves meanwhile holds nothing that wasn't asked; where it isn't
-- refused, all that happened is settled now. Once the disk has failed it is refused, and nothing is done.
pub record Settles {D : Type 0} (seen : D → Option (List ℕ)) (may_leave : D → List ℕ → Type 0) (failed : D → Bool) (moment : D → ℕ) (left_since : D → ℕ → List ℕ → Type 0) (old : DurableValue D) (went : Result (Unit {0}) Fault) (new : DurableValue D) : Type 0 where
  pub same : new.world ≡ old.world
  pub lasts : Lasts seen may_leave failed moment left_since (kept_by old) (kept_by new)
  pub only : failed old.log.disk ≡ false → LeavesOnly moment left_since old.log.disk new.log.disk (HoldsOnly old.world.top old.log.secret old.world.events)
  pub settled : went ≡ Ok tt → IsSettled seen may_leave failed new.world.top new.log.secret new.log.disk new.world.events
  pub works : went ≡ Ok tt → failed new.log.disk ≡ false
  pub dead : failed old.log.disk ≡ true → IsErr went × (new.log ≡ old.log)
  pub refused : IfErr went (λ e. e ≡ WriteFailed)

-- where nothing is written, a crash leaves what was settled
pub lasts_unwritten : {D : Type 0} (seen : D → Option (List ℕ)) (may_leave : D → List ℕ → Type 0) (failed : D → Bool) (moment : D → ℕ) (left_since : D → ℕ → List ℕ → Type 0) → ((d : D) (c : List ℕ) → left_since d (moment d) c → may_leave d c)
    → (k : ℕ × D) → Lasts seen may_leave failed moment left_since k k
lasts_unwritten seen may_leave failed moment left_since only_now k = (
  refl,
  λ top events s. (
    record {
      later = omega arith;
      each = λ c left. s.crash c (only_now k.1 c left);
      before = λ t c le left. inl left;
    },
    s,
  ),
)
