-- What is on the disk for good, and what a crash leaves of it.
use Rattle.std.specs.Prelude.{◌≡◌, ◌⊎◌, ℕ, Bool, true, false, List, ◌++◌, Option, None, Some, Result, Ok, IfErr, IsErr}
use Rattle.logical_time.specs.declared.fault.Fault.{Fault}
use Rattle.logical_time.specs.declared.fault.Fault.TheVariants.{Memory, WriteFailed}
use Rattle.disk.specs.Disk.{IsBeginning, Only, LeavesOnly}
use Rattle.records.specs.Records.{Entry as Record, recovered, IsHonest, IsUndamaged}
use Rattle.site.specs.Steps.{Step}
use Rattle.site_ledger.specs.declared.entry.Entry.{Entry}
use Rattle.durable_site.specs.declared.step_log.StepLog.{StepLog}
use Rattle.durable_site.specs.Logged.{Tell, TellSteps}

-- A file holds these steps: its records tell, before anything else, whose log it is, and then them.
pub record Holds (secret : ℕ) (whose : Entry) (all : List Step) (file : List ℕ) : Type 0 where
  pub entries : List Entry
  pub steps : TellSteps whose all entries
  pub kept : List Record
  pub tell : Tell entries kept
  pub more : List Record
  pub records : recovered secret 0 0 file ≡ kept ++ more

-- A file holds nothing but these steps, or a beginning of them, and isn't taken for a damaged one, where nothing torn passes by chance.
pub record HoldsOnly (secret : ℕ) (whose : Entry) (all : List Step) (file : List ℕ) : Type 0 where
  pub done : List Step
  pub begins : IsBeginning done all
  pub entries : List Entry
  pub steps : TellSteps whose done entries
  pub written : List Record
  pub tell : Tell entries written
  pub found : IsHonest secret written file → IsBeginning (recovered secret 0 0 file) written × IsUndamaged secret file

-- These steps are on the disk for good: whatever a crash leaves now holds them; and unless the disk failed, that is the file that it
-- shows.
pub record IsSettled {D : Type 0} (seen : D → Option (List ℕ)) (may_leave : D → List ℕ → Type 0) (failed : D → Bool) (secret : ℕ) (disk : D) (whose : Entry) (all : List Step) : Type 0 where
  pub crash : (c : List ℕ) → may_leave disk c → Holds secret whose all c
  pub shown : failed disk ≡ false → (file : List ℕ) × (seen disk ≡ Some file) × Only file (may_leave disk) × Holds secret whose all file

-- what a log keeps for good: what the sums on its disk are made with, and that disk
abbrev pub kept_by : {D : Type 0} → StepLog D → ℕ × D
kept_by l = (l.log.secret, l.log.disk)

-- What was settled lasts from one moment to a later one: the secret is the same, a crash at any moment between leaves a file that
-- holds it, and it is settled still.
abbrev pub Lasts : {D : Type 0} → (D → Option (List ℕ)) → (D → List ℕ → Type 0) → (D → Bool) → (D → ℕ) → (D → ℕ → List ℕ → Type 0) → ℕ × D → ℕ × D → Type 0
Lasts seen may_leave failed moment left_since old new =
    (new.0 ≡ old.0)
    × ((whose : Entry) (all : List Step) → IsSettled seen may_leave failed old.0 old.1 whose all
    → LeavesOnly moment left_since old.1 new.1 (Holds old.0 whose all) × IsSettled seen may_leave failed new.0 new.1 whose all)

-- What keeps these steps for good settles: what was settled lasts, and what a crash leaves meanwhile holds nothing that wasn't done;
-- where it isn't refused, all of them are settled now. Once the disk has failed it is refused, and the disk stays.
pub record Settles {D : Type 0} (seen : D → Option (List ℕ)) (may_leave : D → List ℕ → Type 0) (failed : D → Bool) (moment : D → ℕ) (left_since : D → ℕ → List ℕ → Type 0) (whose : Entry) (all : List Step) (old : ℕ × D)
    (went : Result (Unit {0}) Fault) (new : ℕ × D) : Type 0 where
  pub lasts : Lasts seen may_leave failed moment left_since old new
  pub only : failed old.1 ≡ false → LeavesOnly moment left_since old.1 new.1 (HoldsOnly old.0 whose all)
  pub settled : went ≡ Ok tt → IsSettled seen may_leave failed new.0 new.1 whose all
  pub works : went ≡ Ok tt → failed new.1 ≡ false
  pub dead : failed old.1 ≡ true → IsErr went × (new.1 ≡ old.1)
  pub refused : IfErr went (λ e. ((e ≡ WriteFailed) × (failed new.1 ≡ true)) ⊎ (e ≡ Memory))

-- so does a log, if there is one
abbrev pub SettlesLog : {D : Type 0} → (D → Option (List ℕ)) → (D → List ℕ → Type 0) → (D → Bool) → (D → ℕ) → (D → ℕ → List ℕ → Type 0) → Entry → List Step → Option (ℕ × D) → Result (Unit {0}) Fault → Option (ℕ × D) → Type 0
SettlesLog seen may_leave failed moment left_since whose all None went new = (went ≡ Ok tt) × (new ≡ None)
SettlesLog {D = D} seen may_leave failed moment left_since whose all (Some old) went new =
    (kept : ℕ × D) × (new ≡ Some kept) × Settles seen may_leave failed moment left_since whose all old went kept
