use Rattle.std.proofs.Common.{rules, ◌∙◌, sym, arith, take}
use Rattle.std.specs.List.{flat_map}
use Rattle.workload.specs.Text.{column_text}
use Rattle.workload.proofs.Pieces.{each_next, laid_more}
use Rattle.workload.proofs.text.lay_columns.Goals as goal

pub loop-column-preserved : goal.loop-column-preserved
loop-column-preserved c =
    let l = c.loop-column in
    let text = l.text in
    let piece = c.lay_column-end.new.text in
    let i = l.column-index in
    let all = c.args.columns.now in
    record {
      laid = laid_more text piece (flat_map column_text (take i all)) (column_text c.column-item.result) l.end c.lay_column-end.result (search rules) (search rules) l.invariant.laid (search rules)
          ∙ sym (each_next column_text all i c.column-item.result c.loop-column-test.true c.column-item.is);
      same = (search rules) ∙ l.invariant.same;
      most = omega (arith, l.invariant.most, c.lay_column-end.ensures.most);
    }
