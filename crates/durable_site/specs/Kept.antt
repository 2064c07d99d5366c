-- A site whose steps are kept, if it keeps a log.
use Rattle.std.specs.Prelude.{◌≡◌, ℕ, Bool, false, List, Option, Some, IfSome, option_map}
use Rattle.disk.specs.Disk.{LeavesOnly}
use Rattle.site.specs.Sites.{SiteValue}
use Rattle.site.specs.Steps.{steps}
use Rattle.durable_site.specs.declared.identity.Identity.{Identity}
use Rattle.durable_site.specs.declared.step_log.StepLog.{StepLog}
use Rattle.durable_site.specs.Logged.{whose_of, IsLogged}
use Rattle.durable_site.specs.Settled.{IsSettled, kept_by}

-- such a site, by what clauses see of it: which process it is of, and its log, if it keeps one
pub record DurableSiteValue (D : Type 0) : Type 0 where
  pub site : SiteValue
  pub identity : Identity
  pub log : Option (StepLog D)

-- what it keeps for good
abbrev pub is_kept : {D : Type 0} → DurableSiteValue D → Option (ℕ × D)
is_kept d = option_map kept_by d.log

-- its log, if its disk hasn't failed, tells all steps of its story
abbrev pub KeepsSteps : {D : Type 0} → (D → Option (List ℕ)) → (D → List ℕ → Type 0) → (D → Bool) → DurableSiteValue D → Type 0
KeepsSteps seen may_leave failed d = IfSome d.log (λ l. failed l.log.disk ≡ false → IsLogged seen may_leave (whose_of d.identity) l (steps d.site.story))

-- The site keeps a log with this secret, on what this disk came to, and all its steps are settled; a crash meanwhile left nothing but
-- this.
pub record IsOpened {D : Type 0} (seen : D → Option (List ℕ)) (may_leave : D → List ℕ → Type 0) (failed : D → Bool) (moment : D → ℕ) (left_since : D → ℕ → List ℕ → Type 0) (secret : ℕ) (disk : D) (left : List ℕ → Type 0)
    (d : DurableSiteValue D) : Type 0 where
  pub now : D
  pub is : is_kept d ≡ Some (secret, now)
  pub settled : IsSettled seen may_leave failed secret now (whose_of d.identity) (steps d.site.story)
  pub any_moment : LeavesOnly moment left_since disk now left
  pub works : failed disk ≡ false → failed now ≡ false
