-- What is told of an exploration.
use Rattle.std.specs.Prelude.{◌≡◌, ℕ, ◌-◌, ◌^◌, min, Bool, List, [], length, ◌++◌, Some, codes, decimal, string_bytes}
use Rattle.std.specs.List.{All, flat_map, sum_by}
use Rattle.logical_time.specs.declared.fault.Fault.{Fault}
use Rattle.logical_time.specs.declared.fault.Fault.TheVariants.{ClockSpent, Memory, StrangerEnd, Script as NoScript}
use Rattle.audit.specs.declared.found.Audit.{Audit}
use Rattle.workload.specs.declared.script.Script.{Script}
use Rattle.workload.specs.Audited.{found_text as audit_text, IsAuditOf}
use Rattle.workload.specs.Performing.{script_in, IsTextFor, SpellsNoScript}
use Rattle.workload.specs.Simulation.{run_of}
use Rattle.explore.specs.declared.found.Found.{Found}
use Rattle.explore.specs.declared.found.Head.{Head}
use Rattle.explore.specs.declared.found.Exploration.{Exploration}
use Rattle.explore.specs.declared.searching.GaveUp.{GaveUp}
use Rattle.explore.specs.declared.searching.GaveUp.TheVariants.{Nowhere, Events, States}
use Rattle.explore.specs.Orders.{IsOrderOf}

-- ## What is written

-- `runs R transcripts T`, and the end of the line
abbrev pub runs_text : ℕ → ℕ → List ℕ
runs_text runs transcripts = codes "runs " ++ decimal runs ++ codes " transcripts " ++ decimal transcripts ++ codes "\n"

-- `states S events E ends N`, and the end of the line
abbrev pub states_text : Head → List ℕ
states_text h = codes "states " ++ decimal h.states ++ codes " events " ++ decimal h.events ++ codes " ends " ++ decimal h.ends ++ codes "\n"

-- where it gave up, if it did
abbrev pub gave_up_text : GaveUp → List ℕ
gave_up_text Nowhere = []
gave_up_text (Events most) = codes "gave up at runs of " ++ decimal most ++ codes " events\n"
gave_up_text (States most) = codes "gave up at " ++ decimal most ++ codes " states\n"

-- the lines before so many transcripts: the third is `audit reads R wrong W`
unfoldable pub head_text : ℕ → Head → List ℕ
head_text transcripts h = runs_text h.runs transcripts ++ states_text h ++ audit_text h.audited ++ gave_up_text h.gave_up

-- `transcript N runs R events L`, and the end of the line
unfoldable pub title_text : Found → List ℕ
title_text f = codes "transcript " ++ decimal f.number ++ codes " runs " ++ decimal f.runs ++ codes " events " ++ decimal f.events ++ codes "\n"

-- the line before a transcript, the transcript, and the script
abbrev pub found_text : Found → List ℕ
found_text f = title_text f ++ f.told.items ++ string_bytes f.script ++ codes "\n"

-- the lines before all others, and what was found
abbrev pub exploration_text : Exploration → List ℕ
exploration_text e = head_text (length e.found.items) e.head ++ flat_map found_text e.found.items

-- ## What it says of a script, whose messages may be lost or not

-- the text below a transcript spells an order of the script, of so many events
pub record IsBelow (lose : Bool) (script : Script) (events : ℕ) (text : List ℕ) : Type 0 where
  pub order : Script
  pub spelled : script_in text ≡ Some order
  pub is_order : IsOrderOf lose script order
  pub count : events ≡ length order.events

-- the script below a transcript is an order of the script, and `sim` writes of it what is told
abbrev pub IsShown : Bool → Script → Found → Type 0
IsShown lose script f = IsBelow lose script f.events (string_bytes f.script) × IsTextFor (string_bytes f.script) f.told.items

-- an order, and what an audit found in its run
pub record AuditedOrder : Type 0 where
  pub order : Script
  pub found : Audit

-- it is an order of the script, and the audit is that of its run
pub record IsAudited (lose : Bool) (script : Script) (a : AuditedOrder) : Type 0 where
  pub is_order : IsOrderOf lose script a.order
  pub audit : IsAuditOf a.order.topology (run_of a.order) (run_of a.order).transcript a.found

-- a count that stays below 2 ^ 64
abbrev pub capped : ℕ → ℕ
capped n = min n (2 ^ 64 - 1)

-- what the audits of so many orders of the script found together: no read is wrong
pub record AreAudited (lose : Bool) (script : Script) (count : ℕ) (found : Audit) : Type 0 where
  pub orders : List AuditedOrder
  pub all : length orders ≡ count
  pub each : All (IsAudited lose script) orders
  pub reads : found.reads ≡ capped (sum_by (λ a. a.found.reads) orders)
  pub wrong : found.wrong ≡ capped (sum_by (λ a. a.found.wrong) orders)
  pub right : found.wrong ≡ 0

-- each transcript is that of an order, and the audits that are told are those of an order for each end
abbrev pub IsExplorationOf : Bool → Script → Exploration → Type 0
IsExplorationOf lose script e = All (IsShown lose script) e.found.items × AreAudited lose script e.head.ends e.head.audited

-- the bytes spell a script, and the text tells such an exploration of it
abbrev pub IsExplorationFor : Bool → List ℕ → List ℕ → Type 0
IsExplorationFor lose bytes text =
    (script : Script) × (e : Exploration) × (script_in bytes ≡ Some script) × IsExplorationOf lose script e × (text ≡ exploration_text e)

-- ## Why there is none

-- why an exploration ends without a result
abbrev pub IsStop : Fault → Type 0
IsStop ClockSpent = Unit {0}
IsStop Memory = Unit {0}
IsStop StrangerEnd = Unit {0}
IsStop _ = ⊥

-- why there is no exploration of the bytes: they spell no script, or else it ended without a result
abbrev pub IsUnexplored : List ℕ → Fault → Type 0
IsUnexplored bytes NoScript = SpellsNoScript bytes
IsUnexplored bytes e = IsStop e
