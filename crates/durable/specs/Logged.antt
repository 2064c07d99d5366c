-- A world and its log.
use Rattle.std.specs.Prelude.{ℕ, List, [], ◌∷◌, ◌++◌, Option}
use Rattle.messages.specs.Topology.{TopologyValue}
use Rattle.world.specs.declared.run_event.RunEvent.{RunEvent}
use Rattle.records.specs.Records.{Entry as Record}
use Rattle.keeper.specs.declared.log.Log.{Log}
use Rattle.keeper.specs.Log.{Stands, IsMark}
use Rattle.ledger.specs.declared.entry.Entry.{Entry}
use Rattle.ledger.specs.Entries.{IsTextOf, IsNumbered}
use Rattle.durable.specs.Playing.{IsLed}

-- these records tell these entries, one each, whose numbers have two bytes
abbrev pub Tell : List Entry → List Record → Type 0
Tell [] [] = Unit {0}
Tell [] (r ∷ rs) = ⊥
Tell (e ∷ es) [] = ⊥
Tell (e ∷ es) (r ∷ rs) = IsNumbered e × IsTextOf e r.body × Tell es rs

-- this record tells no entry
abbrev pub TellsNone : Record → Type 0
TellsNone r = (e : Entry) → IsTextOf e r.body → ⊥

-- The log tells these entries: by records that are kept for good, and then by those that were noted since.
pub record Notes {D : Type 0} (seen : D → Option (List ℕ)) (may_leave : D → List ℕ → Type 0) (log : Log D) (es : List Entry) : Type 0 where
  pub kept : List Record
  pub noted : List Record
  pub stands : Stands seen may_leave log kept noted
  pub tell : Tell es (kept ++ noted)

-- It tells these entries, and then this one, in the record that the mark names.
pub record NotesLast {D : Type 0} (seen : D → Option (List ℕ)) (may_leave : D → List ℕ → Type 0) (log : Log D) (mark : ℕ) (es : List Entry) (e : Entry) : Type 0 where
  pub kept : List Record
  pub noted : List Record
  pub last : Record
  pub stands : Stands seen may_leave log kept (noted ++ last ∷ [])
  pub mark_is : IsMark log mark noted
  pub tell : Tell es (kept ++ noted)
  pub numbered : IsNumbered e
  pub told : IsTextOf e last.body

-- The log tells entries that lead to these events.
pub record IsLogged {D : Type 0} (seen : D → Option (List ℕ)) (may_leave : D → List ℕ → Type 0) (top : TopologyValue) (log : Log D) (events : List RunEvent) : Type 0 where
  pub entries : List Entry
  pub notes : Notes seen may_leave log entries
  pub led : IsLed top events entries
