-- What a call keeps of a site and its log.
use Rattle.std.proofs.Common.{◌≡◌, ℕ, Bool, false, List, [], ◌∷◌, ◌++◌, Option, Some, Result, Ok, Err, IfOk, OnOk, OnErr, ap, sym, subst, refl}
use Rattle.std.specs.Prelude.{IfSome, option_map}
use Rattle.logical_time.specs.declared.fault.Fault.{Fault}
use Rattle.messages.specs.declared.envelope.Envelope.{Envelope}
use Rattle.site_ledger.specs.declared.entry.Entry.{Entry}
use Rattle.site.specs.Sites.{SiteValue}
use Rattle.site.specs.Steps.{Step, steps}
use Rattle.site.specs.Turns.{HasGiven}
use Rattle.durable_site.specs.declared.identity.Identity.{Identity}
use Rattle.durable_site.specs.declared.step_log.StepLog.{StepLog}
use Rattle.durable_site.specs.Logged.{whose_of, Notes, IsLogged, turns_noted, NotesToo}
use Rattle.durable_site.specs.Settled.{kept_by, Settles, SettlesLog}
use Rattle.durable_site.proofs.Calls.{given_steps}

-- a gift is no step, and where none is given the site stays
pub given_still : (old new : SiteValue) (r : Result (Option Envelope) Fault) → IfOk r (λ e. HasGiven old e new) → OnErr r (new ≡ old) → steps new.story ≡ steps old.story
given_still old new (Ok e) given same = given_steps old new e given
given_still old new (Err f) given same = ap (λ (s : SiteValue). steps s.story) same

module _ {D : Type 0} (seen : D → Option (List ℕ)) (may_leave : D → List ℕ → Type 0) (failed : D → Bool) where
  -- no step was done
  pub keeps_still : (log : Option (StepLog D)) (i : Identity) (old new : List Step) → new ≡ old → IfSome log (λ l. failed l.log.disk ≡ false → IsLogged seen may_leave (whose_of i) l old)
      → IfSome log (λ l. failed l.log.disk ≡ false → IsLogged seen may_leave (whose_of i) l new)
  keeps_still log i old new same k = subst (λ (s : List Step). IfSome log (λ l. failed l.log.disk ≡ false → IsLogged seen may_leave (whose_of i) l s)) (sym same) k

  -- there is a log, which told the steps before
  pub logged_before : (log : Option (StepLog D)) (l : StepLog D) (i : Identity) (all : List Step) → log ≡ Some l → IfSome log (λ l. failed l.log.disk ≡ false → IsLogged seen may_leave (whose_of i) l all)
      → failed l.log.disk ≡ false → IsLogged seen may_leave (whose_of i) l all
  logged_before log l i all is k = subst (λ (o : Option (StepLog D)). IfSome o (λ l. failed l.log.disk ≡ false → IsLogged seen may_leave (whose_of i) l all)) is k

-- a log that is there tells more
pub noted_some : {D : Type 0} (seen : D → Option (List ℕ)) (may_leave : D → List ℕ → Type 0) (log : Option (StepLog D)) (l new : StepLog D) (e : Entry) (went : Result (Unit {0}) Fault) → log ≡ Some l
    → OnOk went ((es : List Entry) → Notes seen may_leave l.log es → Notes seen may_leave new.log (es ++ (turns_noted l.turned ++ e ∷ []))) → OnOk went (NotesToo seen may_leave log e (Some new))
noted_some {D = D} seen may_leave log l new e (Ok u) is noted = subst (λ (o : Option (StepLog D)). NotesToo seen may_leave o e (Some new)) (sym is) (new, refl, noted)
noted_some seen may_leave log l new e (Err f) is noted = tt

-- a log that is there settles
pub settles_some : {D : Type 0} (seen : D → Option (List ℕ)) (may_leave : D → List ℕ → Type 0) (failed : D → Bool) (moment : D → ℕ) (left_since : D → ℕ → List ℕ → Type 0) (log : Option (StepLog D)) (l new : StepLog D) (whose : Entry) (all : List Step)
    (went : Result (Unit {0}) Fault) → log ≡ Some l → Settles seen may_leave failed moment left_since whose all (kept_by l) went (kept_by new)
    → SettlesLog seen may_leave failed moment left_since whose all (option_map kept_by log) went (Some (kept_by new))
settles_some {D = D} seen may_leave failed moment left_since log l new whose all went is s =
    subst (λ (o : Option (StepLog D)). SettlesLog seen may_leave failed moment left_since whose all (option_map kept_by o) went (Some (kept_by new))) (sym is) (kept_by new, refl, s)
