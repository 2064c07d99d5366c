use Rattle.std.proofs.Common.{◌≡◌, take}
use Rattle.std.specs.BTreeSet.{contains}
use Rattle.logical_time.specs.Stamps.{StampValue, stamp_cmp}
use Rattle.audit.specs.Laid.{IsApplied}
use Rattle.audit.proofs.Stamps.{is_stamped}
use Rattle.audit.proofs.laid.store_of.Given as goal

-- the entries so far are applied, and their stamps were seen
abbrev pub invariant-loop-entry : goal.invariant-loop-entry
invariant-loop-entry l = record {
  applied : IsApplied l.store (take l.entry-index l.entries);
  seen : (s : StampValue) → contains stamp_cmp l.seen s ≡ is_stamped (take l.entry-index l.entries) s;
}
