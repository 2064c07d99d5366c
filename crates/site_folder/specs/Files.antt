-- A site that comes back from the file of a log.
use Rattle.std.specs.Prelude.{◌≡◌, false, ℕ, Bool, Option, Some, List}
use Rattle.messages.specs.Topology.{TopologyValue}
use Rattle.actors.specs.Machines.{Refuses}
use Rattle.disk.specs.Disk.{IsBeginning}
use Rattle.records.specs.Records.{recovered, IsUndamaged}
use Rattle.site.specs.Steps.{Step, steps}
use Rattle.site_ledger.specs.declared.entry.Entry.{Entry}
use Rattle.durable_site.specs.declared.identity.Identity.{Identity}
use Rattle.durable_site.specs.Logged.{whose_of}
use Rattle.durable_site.specs.Settled.{Holds, IsSettled}
use Rattle.durable_site.specs.Kept.{DurableSiteValue, is_kept}
use Rattle.durable_site.specs.Heard.{heard_from_each}
use Rattle.durable_site.specs.Met.{WereMet}
use Rattle.durable_site.specs.Stuck.{ComesBack, CantOpen, IsLeft}
use Rattle.logfile.specs.Logs.{BeginsWith, behind}
use Rattle.logfile.specs.Told.{CantReopen}
use Rattle.logfile.specs.declared.error.LogError.TheVariants as log
use Rattle.logfile.specs.declared.error.LogError.{LogError}
use Rattle.logfile.specs.declared.error.Unopened.{Unopened}
use Rattle.logfile.specs.declared.error.Unopened.TheVariants.{Folder as NoFolder, System, Log}
use Rattle.site_folder.specs.declared.error.Unreturned.{Unreturned}
use Rattle.site_folder.specs.declared.error.Unreturned.TheVariants.{Folder, Records}

-- A site came back from a file that begins as a log of its store: it did what the records behind that head tell, and nothing else, and
-- so much came from each data centre, whose sites were last met as these processes; whatever the file held is what it did first; all is
-- on the disk for good, and the disk works; no record that was synced is damaged; and a crash meanwhile left a file of the same records.
pub record HasReturned {D : Type 0} (seen : D → Option (List ℕ)) (may_leave : D → List ℕ → Type 0) (failed : D → Bool) (left_since : D → ℕ → List ℕ → Type 0) (file : List ℕ) (top : TopologyValue) (mine : Identity) (d : DurableSiteValue D) (heard : List ℕ) (met : List (Option (List ℕ))) : Type 0 where
  pub secret : ℕ
  pub begins : BeginsWith secret top file
  pub back : ComesBack top mine (recovered secret 0 0 (behind secret top file)) d.identity d.site
  pub heard_is : heard ≡ heard_from_each top.dcs (steps d.site.story)
  pub were_met : WereMet top.dcs (recovered secret 0 0 (behind secret top file)) met
  pub keeps : (whose : Entry) (all : List Step) → Holds secret whose all (behind secret top file) → (whose ≡ whose_of d.identity) × IsBeginning all (steps d.site.story)
  pub now : D
  pub is : is_kept d ≡ Some (secret, now)
  pub settled : IsSettled seen may_leave failed secret now (whose_of d.identity) (steps d.site.story)
  pub works : failed now ≡ false
  pub undamaged : IsUndamaged secret (behind secret top file)
  pub meanwhile : (c : List ℕ) → left_since now 0 c → IsLeft secret (whose_of mine) (behind secret top file) c

-- the file doesn't begin as a log of this store
abbrev pub HasNoHead : TopologyValue → List ℕ → LogError → Type 0
HasNoHead top file (log.Head e) = CantReopen top file (log.Head e)
HasNoHead top file (log.Other t) = CantReopen top file (log.Other t)
HasNoHead top file (log.Records e) = ⊥
HasNoHead top file log.Unspelled = ⊥

-- why no site comes back from a file: for that, or its records lead to none, by a disk that failed meanwhile or didn't
abbrev pub CantReturn : Refuses → List ℕ → TopologyValue → Identity → Unreturned → Type 0
CantReturn refuses file top mine (Folder (NoFolder e)) = ⊥
CantReturn refuses file top mine (Folder (System e)) = ⊥
CantReturn refuses file top mine (Folder (Log e)) = HasNoHead top file e
CantReturn refuses file top mine (Records e) = (secret : ℕ) × (failed : Bool) × BeginsWith secret top file × CantOpen refuses top mine secret (behind secret top file) failed e
