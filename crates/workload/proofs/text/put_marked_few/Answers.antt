use Rattle.std.proofs.Common.{arith}
use Rattle.std.proofs.lemmas.Grind.{common_steps}
use Rattle.workload.proofs.text.put_marked_few.Goals as goal

pub slice_bounds-text-end-2 : goal.slice_bounds-text-end-2
slice_bounds-text-end-2 c = grind (arith, common_steps)

pub slice_bounds-put-end : goal.slice_bounds-put-end
slice_bounds-put-end c = grind (arith, common_steps)

pub returns : goal.returns
returns c = grind (arith, common_steps)
