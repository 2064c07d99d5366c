use Rattle.std.proofs.Common.{Ok, take}
use Rattle.std.specs.List.{flat_map}
use Rattle.program.specs.Outputs.{Adds}
use Rattle.workload.specs.Text.{entry_text}
use Rattle.workload.proofs.text.put_entries.Given as goal

-- what is written before the next
abbrev pub invariant-loop-entry : goal.invariant-loop-entry
invariant-loop-entry g l = Adds {T = Unit {0}} g.W.Write.contents l.fn.output l.output (Ok tt) (flat_map entry_text (take l.entry-index l.entries))
