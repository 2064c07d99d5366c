use Rattle.std.proofs.Common.{rules, ◌≡◌, ◌∙◌, ap, List}
use Rattle.column_family.specs.declared.batch.Change.{Change}
use Rattle.txn_state.specs.declared.part.WritePart.{WritePart}
use Rattle.store.specs.declared.origin.Origin.{Origin}
use Rattle.store.specs.Stored.{ranges_in, ranges_written, put_all_ranges}
use Rattle.store.proofs.store.put_part.Goals as goal

pub returns-clause-put : goal.returns-clause-put
returns-clause-put c = search rules

pub returns-clause-ranges : goal.returns-clause-ranges
returns-clause-ranges c = λ r.
    let o : Origin = record { writer = c.args.prepared.part.writer; stamp = c.args.stamp; evt = c.args.commit } in
    let from : c.new-origin.result ≡ o = c.new-origin.ensures ∙ ap (λ (p : WritePart). record { writer = p.writer; stamp = c.args.stamp; evt = c.args.commit }) c.surrender-part.ensures.0 in
    let batch : c.into_vec.result.items ≡ c.args.prepared.part.batch = c.into_vec.ensures ∙ ap (λ (p : WritePart). p.batch) c.surrender-part.ensures.0 in
    c.put_changes.ensures.ranges r
    ∙ ap (λ (f : Origin). put_all_ranges (ranges_in c.args.rows.now.entries r).ranges (ranges_written f r c.into_vec.result.items)) from
    ∙ ap (λ (cs : List Change). put_all_ranges (ranges_in c.args.rows.now.entries r).ranges (ranges_written o r cs)) batch
