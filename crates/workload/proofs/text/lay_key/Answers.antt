use Rattle.std.proofs.Common.{rules, ap, sym, arith, length, length-set, ◌*◌, ◌+◌}
use Rattle.std.specs.Prelude.{slice_set}
use Rattle.hex.specs.Hex.{encode_lower, lower_digits}
use Rattle.hex.proofs.HexLemmas.{length-encode_with}
use Rattle.workload.proofs.Pieces.{key_is, marks_first}
use Rattle.workload.proofs.text.lay_key.Goals as goal

pub returns-clause-laid : goal.returns-clause-laid
returns-clause-laid c =
    let key = c.args.key.now in
    let one = slice_set c.args.text.now 0 32 in
    let blank = slice_set one 1 32 in
    key_is blank c.encode_to_slice.new.output (encode_lower key) (2 + 2 * length key)
    (search rules) (ap (λ n. 2 + n) (sym (length-encode_with lower_digits key)))
    (omega (arith, length-set c.args.text.now 0 32, length-set one 1 32, c.requires.room, c.requires.key)) (marks_first c.args.text.now 32 32 (omega (arith, c.requires.room)))
