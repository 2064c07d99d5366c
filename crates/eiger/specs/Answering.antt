-- How a command line is answered.
use Rattle.std.specs.Prelude.{◌≡◌, ℕ, Bool, true, false, List, [], Option, None, Result, Ok, Err, IsSome, IsNone, ◌⊎◌, string_bytes}
use Rattle.logical_time.specs.declared.fault.Fault.{Fault}
use Rattle.program.specs.declared.input.Input.{Input}
use Rattle.program.specs.declared.output.Output.{Output}
use Rattle.program.specs.Telling.{Tells}
use Rattle.command_line.specs.declared.reading.Asked.{Asked}
use Rattle.command_line.specs.declared.reading.Asked.TheVariants.{Sim, History, Trace, Run, BySites, Audit, Explore, Serve, Node, Load, Log, Told}
use Rattle.command_line.specs.Told.{Answers}
use Rattle.workload.specs.Audited.{IsToldFor}
use Rattle.workload.specs.Performing.{IsRefused, Prints, Ends, TellsUnread}
use Rattle.recorded.specs.Performing as recorded
use Rattle.recorded.specs.Recording.{IsHistoryFor, IsUnrecorded}
use Rattle.tracing.specs.Traced.{IsTraceFor}
use Rattle.running.specs.Faults.{Brings}
use Rattle.running.specs.Performing.{IsThreadTextFor, IsThreadRefused}
use Rattle.by_sites.specs.Performing.{IsSitesTextFor, IsSitesRefused}
use Rattle.explore.specs.Exploration.{IsExplorationFor, IsUnexplored}
use Rattle.logfile.specs.Told.{IsLogTextFor, IsUntold}

-- 0, and nothing is told
pub record IsDone {E : Type 0} (status : ℕ) (told told' : Output E) : Type 0 where
  pub is_ended : status ≡ 0
  pub nothing_told : told' ≡ told

-- 1, and a fault is told
pub record HasFailed {E : Type 0} (written : E → Option (List ℕ)) (status : ℕ) (told told' : Output E) : Type 0 where
  pub is_ended : status ≡ 1
  pub fault : Fault
  pub more : Option (List ℕ)
  pub tells : Tells written fault more told told'

-- 1, and a fault is told, behind what was told of connections
pub record HasStopped {E : Type 0} (written : E → Option (List ℕ)) (status : ℕ) (told told' : Output E) : Type 0 where
  pub is_ended : status ≡ 1
  pub fault : Fault
  pub between : Output E
  pub tells : Tells written fault None between told'

-- how a server ends that serves one connection after the other, and one that serves all sessions at once
abbrev pub IsServed : {E : Type 0} → (E → Option (List ℕ)) → Bool → ℕ → Output E → Output E → Type 0
IsServed written false status told told' = IsDone status told told' ⊎ HasFailed written status told told'
IsServed written true status told told' = HasStopped written status told told'

-- a reader that was opened under this name, or why there is none
pub record IsOpened {R : Type 0} (called : List ℕ) (input : Input R) : Type 0 where
  pub name : string_bytes input.name ≡ called
  pub either : (IsSome input.reader × IsNone input.failure) ⊎ (IsNone input.reader × IsSome input.failure)

-- What a reader has left, what a writer was given, what it holds back, and what is told.
module _ {R W E : Type 0} (remaining : R → Option (List ℕ)) (contents : W → Option (List ℕ)) (held : W → List ℕ) (written : E → Option (List ℕ)) where
  -- How a task ends with what was opened under a name: with 0 where a text for what was read is written and passed on, and with 1
  -- where a fault is told.
  pub record Ran (is_text : List ℕ → List ℕ → Type 0) (is_refused : List ℕ → Fault → Type 0) (called : List ℕ) (status : ℕ) (old new : Output W) (told told' : Output E) : Type 0 where
    pub input : Input R
    pub left : Input R
    pub opened : IsOpened called input
    pub ended : (status ≡ 0) ⊎ (status ≡ 1)
    pub printed : status ≡ 0 → Prints is_text is_refused remaining contents written input old new told told'
    pub passed_on : status ≡ 0 → held new.writer ≡ []
    pub unread : IsSome input.failure → TellsUnread written status told told'
    pub failed : status ≡ 1 → Ends is_text is_refused remaining contents written input left old new told told'

  -- How an audit ends: so too, but with 3 where a read is wrong.
  pub record Judged (called : List ℕ) (status : ℕ) (old new : Output W) (told told' : Output E) : Type 0 where
    pub input : Input R
    pub left : Input R
    pub opened : IsOpened called input
    pub ended : (status ≡ 0) ⊎ ((status ≡ 1) ⊎ (status ≡ 3))
    pub good : status ≡ 0 → Prints recorded.IsGoodReport recorded.IsRefused remaining contents written input old new told told'
    pub bad : status ≡ 3 → Prints recorded.IsBadReport recorded.IsRefused remaining contents written input old new told told'
    pub passed_on : ((status ≡ 0) ⊎ (status ≡ 3)) → held new.writer ≡ []
    pub unread : IsSome input.failure → TellsUnread written status told told'
    pub failed : status ≡ 1 → Ends recorded.IsReport recorded.IsRefused remaining contents written input left old new told told'

  -- this exit status, these outputs, by a crew of threads that brings these seats
  abbrev pub IsAnswer : Brings → Result Asked Fault → ℕ → Output W → Output W → Output E → Output E → Type 0
  IsAnswer brings (Ok (Sim name audit)) status old new told told' = Ran (IsToldFor audit) IsRefused (string_bytes name) status old new told told'
  IsAnswer brings (Ok (History name)) status old new told told' = Ran IsHistoryFor IsUnrecorded (string_bytes name) status old new told told'
  IsAnswer brings (Ok (Trace name)) status old new told told' = Ran IsTraceFor IsRefused (string_bytes name) status old new told told'
  IsAnswer brings (Ok (Run name workers audit)) status old new told told' = Ran (IsThreadTextFor audit) (IsThreadRefused brings) (string_bytes name) status old new told told'
  IsAnswer brings (Ok (BySites name)) status old new told told' = Ran IsSitesTextFor IsSitesRefused (string_bytes name) status old new told told'
  IsAnswer brings (Ok (Audit name)) status old new told told' = Judged (string_bytes name) status old new told told'
  IsAnswer brings (Ok (Explore name bounds)) status old new told told' = Ran (IsExplorationFor bounds.lose) IsUnexplored (string_bytes name) status old new told told'
  IsAnswer brings (Ok (Serve s)) status old new told told' = IsServed written s.concurrent status told told'
  IsAnswer brings (Ok (Node joining)) status old new told told' = HasStopped written status told told'
  IsAnswer brings (Ok (Load loading)) status old new told told' = IsDone status told told' ⊎ HasFailed written status told told'
  IsAnswer brings (Ok (Log name history)) status old new told told' = Ran (IsLogTextFor history) (IsUntold history) (string_bytes name) status old new told told'
  IsAnswer brings (Ok (Told t)) status old new told told' = Answers contents written t status old new told told'
  IsAnswer brings (Err e) status old new told told' = (status ≡ 1) × (new ≡ old) × Tells written e None told told'
