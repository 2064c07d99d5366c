use Rattle.std.proofs.Common.{refl}
use Rattle.workload.proofs.Refused.{cut_ends}
use Rattle.explore.specs.Exploration.{IsExplorationFor, IsUnexplored}
use Rattle.explore.proofs.performing.perform_exploration.Goals as goal

pub returns-clause-ended : goal.returns-clause-ended
returns-clause-ended g c = λ one. record {
  fault = c.in-Err-write_all.fault;
  more = c.line.result;
  cause =
      cut_ends (IsExplorationFor c.args.limits.lose) IsUnexplored g.R.Read.remaining g.W.Write.contents g.E.Write.contents c.args.input.now c.read_all.new.self c.args.output.now c.write_all.new.self c.in-Err-write_all.fault
      c.in-Ok.bytes.items c.in-Ok-explore_bytes.text.items c.in-Ok.ensures.whole (rw c.deref.ensures.value at c.in-Ok-explore_bytes.ensures.text)
      c.in-Err-write_all.ensures.failed (rw c.as_slice.ensures.value at c.in-Err-write_all.ensures.part);
  tells = c.tell-in-Err-write_all.ensures.told;
}

pub returns-in-Ok-write_all-clause-printed : goal.returns-in-Ok-write_all-clause-printed
returns-in-Ok-write_all-clause-printed g c = λ zero. record {
  bytes = c.in-Ok.bytes.items;
  text = c.in-Ok-explore_bytes.text.items;
  are_read = c.in-Ok.ensures.whole;
  text_for = rw c.deref.ensures.value at c.in-Ok-explore_bytes.ensures.text;
  is_written = rw c.as_slice.ensures.value at c.in-Ok-write_all.ensures.whole;
  nothing_told = refl;
}
