-- The first worker who ended with a fault.
use Rattle.std.proofs.Common.{◌≡◌, ◌∙◌, ℕ, ◌+◌, ◌<◌, ◌≤◌, List, length, drop, Option, Some, None, sym, ap}
use Rattle.std.specs.Prelude.{slice_index_or}
use Rattle.std.specs.Option.{option_or}
use Rattle.logical_time.specs.declared.fault.Fault.{Fault}
use Rattle.actors.specs.declared.report.Shift.{Shift}
use Rattle.world.proofs.lists.Replacing.{item_at}
use Rattle.running.specs.Faults.{fault_at, first_fault}
use Rattle.running.proofs.ToldMore.{drop_here, drop_past}

module _ (shifts : List Shift) (place : ℕ) where
  here : (s : Shift) → place < length shifts → s ≡ slice_index_or shifts place s → first_fault (drop place shifts) ≡ option_or (fault_at s.end) (first_fault (drop (place + 1) shifts))
  here s lt at = ap first_fault (drop_here shifts place s (item_at shifts place s lt at))

  pub fault_here : (s : Shift) (f : Fault) → place < length shifts → s ≡ slice_index_or shifts place s → Some f ≡ fault_at s.end
      → first_fault shifts ≡ first_fault (drop place shifts) → first_fault shifts ≡ Some f
  fault_here s f lt at is way = way ∙ here s lt at ∙ ap (λ (o : Option Fault). option_or o (first_fault (drop (place + 1) shifts))) (sym is)

  pub fault_later : (s : Shift) → place < length shifts → s ≡ slice_index_or shifts place s → None ≡ fault_at s.end
      → first_fault shifts ≡ first_fault (drop place shifts) → first_fault shifts ≡ first_fault (drop (place + 1) shifts)
  fault_later s lt at is way = way ∙ here s lt at ∙ ap (λ (o : Option Fault). option_or o (first_fault (drop (place + 1) shifts))) (sym is)

  pub no_fault : length shifts ≤ place → first_fault shifts ≡ first_fault (drop place shifts) → first_fault shifts ≡ None
  no_fault le way = way ∙ ap first_fault (drop_past shifts place le)
