use Rattle.std.proofs.Common.{◌≡◌, ◌≤◌, ◌*◌, length, take}
use Rattle.std.specs.List.{flat_map}
use Rattle.workload.specs.Text.{column_text}
use Rattle.workload.proofs.text.lay_columns.Given as goal

abbrev pub invariant-loop-column : goal.invariant-loop-column
invariant-loop-column l = record {
  laid : take l.end l.text ≡ flat_map column_text (take l.column-index l.columns);
  same : length l.text ≡ length l.fn.text;
  most : l.end ≤ 130 * l.column-index;
}
