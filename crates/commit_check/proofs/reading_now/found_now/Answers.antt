use Rattle.std.proofs.Common.{rules, subst}
use Rattle.column_family.specs.declared.batch.Row.{Row}
use Rattle.store.specs.Part.{IsNewestPart}
use Rattle.pending.specs.Marks.{time_at}
use Rattle.commit_check.specs.Marked.{IsLatest}
use Rattle.commit_check.proofs.reading_now.found_now.Goals as goal

pub returns-clause-ok : goal.returns-clause-ok
returns-clause-ok c = record {
  key_is = search rules;
  newest = λ all keeps. subst (λ (r : Row). IsNewestPart all r c.args.read.now.predicate c.in_ok-part.part) c.in_ok-row.ensures (c.in_ok-part.ensures.newest all keeps);
  lvt_is = subst (λ (r : Row). IsLatest (time_at c.args.marks.now r) c.args.clock c.latest.result) c.in_ok-row.ensures c.latest.ensures;
}
