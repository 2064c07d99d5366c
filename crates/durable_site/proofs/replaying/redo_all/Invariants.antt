use Rattle.std.proofs.Common.{◌≡◌, ◌++◌}
use Rattle.site_ledger.specs.Steps.{steps_told}
use Rattle.durable_site.specs.Stuck.{HasRedone}
use Rattle.durable_site.proofs.replaying.redo_all.Given as goal

-- the entries so far were done again, and the others are left
abbrev pub invariant-loop-entry : goal.invariant-loop-entry
invariant-loop-entry g l = record {
  redone : HasRedone l.fn.site (steps_told l.yielded) l.site;
  parts : l.yielded ++ l.entry-iterator.rest.items ≡ l.fn.entries.items;
}
