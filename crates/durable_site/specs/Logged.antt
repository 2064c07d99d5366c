-- The steps of a site, and its log.
use Rattle.std.specs.Prelude.{◌≡◌, ℕ, zero, suc, List, [], ◌∷◌, ◌++◌, Option, Some, None, replicate}
use Rattle.records.specs.Records.{Entry as Record}
use Rattle.keeper.specs.declared.log.Log.{Log}
use Rattle.keeper.specs.Log.{Stands, IsMark}
use Rattle.site.specs.Steps.{Step, Turned}
use Rattle.site_ledger.specs.declared.entry.Entry.{Entry}
use Rattle.site_ledger.specs.declared.entry.Entry.TheVariants.{Whose}
use Rattle.site_ledger.specs.declared.entry.Entry.TheVariants as entry
use Rattle.site_ledger.specs.Entries.{IsTextOf, IsNumbered}
use Rattle.site_ledger.specs.Steps.{steps_told}
use Rattle.durable_site.specs.declared.identity.Identity.{Identity}
use Rattle.durable_site.specs.declared.step_log.StepLog.{StepLog}

-- ## Records and entries

-- these records tell these entries, one each, whose numbers have their room
abbrev pub Tell : List Entry → List Record → Type 0
Tell [] [] = Unit {0}
Tell [] (r ∷ rs) = ⊥
Tell (e ∷ es) [] = ⊥
Tell (e ∷ es) (r ∷ rs) = IsNumbered e × IsTextOf e r.body × Tell es rs

-- The log tells these entries: by records that are kept for good, and then by those that were noted since.
pub record Notes {D : Type 0} (seen : D → Option (List ℕ)) (may_leave : D → List ℕ → Type 0) (log : Log D) (es : List Entry) : Type 0 where
  pub kept : List Record
  pub noted : List Record
  pub stands : Stands seen may_leave log kept noted
  pub tell : Tell es (kept ++ noted)

-- It tells these entries, and then this one, in the record that the mark names.
pub record NotesLast {D : Type 0} (seen : D → Option (List ℕ)) (may_leave : D → List ℕ → Type 0) (log : Log D) (mark : ℕ) (es : List Entry) (e : Entry) : Type 0 where
  pub kept : List Record
  pub noted : List Record
  pub last : Record
  pub stands : Stands seen may_leave log kept (noted ++ last ∷ [])
  pub mark_is : IsMark log mark noted
  pub tell : Tell es (kept ++ noted)
  pub numbered : IsNumbered e
  pub told : IsTextOf e last.body

-- ## Entries and steps

-- the first entry of a log: whose it is
abbrev pub whose_of : Identity → Entry
whose_of i = Whose i.dc i.incarnation i.digest

-- the entries are this first one, and then those that tell these steps
abbrev pub TellSteps : Entry → List Step → List Entry → Type 0
TellSteps whose all entries = (rest : List Entry) × (entries ≡ whose ∷ rest) × (steps_told rest ≡ all)

-- The log says whose it is, and tells these steps, but for the turns since its last entry.
pub record IsLogged {D : Type 0} (seen : D → Option (List ℕ)) (may_leave : D → List ℕ → Type 0) (whose : Entry) (l : StepLog D) (all : List Step) : Type 0 where
  pub entries : List Entry
  pub notes : Notes seen may_leave l.log entries
  pub done : List Step
  pub steps : TellSteps whose done entries
  pub turns : all ≡ done ++ replicate l.turned Turned

-- ## Entries that are no steps

-- the entry that so many turns are noted by, if there were any
abbrev pub turns_noted : ℕ → List Entry
turns_noted zero = []
turns_noted (suc n) = entry.Turned (suc n) ∷ []

-- the log, if there is one, tells one entry more, behind the turns since its last one
abbrev pub NotesToo : {D : Type 0} → (D → Option (List ℕ)) → (D → List ℕ → Type 0) → Option (StepLog D) → Entry → Option (StepLog D) → Type 0
NotesToo seen may_leave None e new = new ≡ None
NotesToo {D = D} seen may_leave (Some old) e new =
    (l : StepLog D) × (new ≡ Some l) × ((es : List Entry) → Notes seen may_leave old.log es → Notes seen may_leave l.log (es ++ (turns_noted old.turned ++ e ∷ [])))
