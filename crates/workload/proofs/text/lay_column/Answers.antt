use Rattle.std.proofs.Common.{rules, ap, sym, arith, length, length-set, ◌*◌, ◌+◌}
use Rattle.std.specs.Prelude.{slice_set}
use Rattle.hex.specs.Hex.{encode_lower, lower_digits}
use Rattle.hex.proofs.HexLemmas.{length-encode_with}
use Rattle.workload.proofs.Pieces.{column_is, mark_first}
use Rattle.workload.proofs.text.lay_column.Goals as goal

pub returns-clause-laid : goal.returns-clause-laid
returns-clause-laid c =
    let name = c.args.name.now in
    let value = c.args.value.now in
    let middle = 1 + 2 * length name in
    let blank = slice_set c.args.text.now 0 32 in
    let left = length-encode_with lower_digits name in
    let right = length-encode_with lower_digits value in
    column_is blank c.encode_to_slice.new.output c.encode_to_slice-2.new.output (encode_lower name) (encode_lower value) middle (middle + 1 + 2 * length value)
    (search rules) (search rules) (ap (λ n. 1 + n) (sym left)) (ap (λ n. middle + 1 + n) (sym right))
    (omega (arith, length-set c.args.text.now 0 32, c.requires.room, c.requires.name, c.requires.value)) (mark_first c.args.text.now 32 (omega (arith, c.requires.room)))
