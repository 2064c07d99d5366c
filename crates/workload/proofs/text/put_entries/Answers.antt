use Rattle.std.proofs.Common.{take}
use Rattle.std.specs.List.{flat_map}
use Rattle.workload.specs.Text.{entry_text}
use Rattle.workload.proofs.Pieces.{each_ended, each_next, joined}
use Rattle.workload.proofs.text.put_entries.Goals as goal

pub returns-in_err-put_entry : goal.returns-in_err-put_entry
returns-in_err-put_entry g c =
    each_ended g.W.Write.contents _ c.loop-entry.output _ tt _ c.from_residual.result entry_text c.args.entries.now c.loop-entry.entry-index c.entry-item.result
    c.loop-entry-test.true c.entry-item.is c.loop-entry.invariant c.from_residual.ensures.1 c.in_err-put_entry.ensures

pub loop-entry-preserved : goal.loop-entry-preserved
loop-entry-preserved g c =
    let entries = c.args.entries.now in
    let place = c.loop-entry.entry-index in
    joined g.W.Write.contents _ c.loop-entry.output _ tt _ _ (flat_map entry_text (take place entries)) (entry_text c.entry-item.result)
    (each_next entry_text entries place c.entry-item.result c.loop-entry-test.true c.entry-item.is) c.loop-entry.invariant c.in_ok-put_entry.ensures
