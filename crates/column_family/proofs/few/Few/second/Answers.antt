use Rattle.std.proofs.Common.{rules, ◌≡◌, ◌∙◌, length, take, ap, arith}
use Rattle.column_family.specs.Heads.{second_of}
use Rattle.column_family.proofs.Heads.{rest_seven}
use Rattle.column_family.proofs.few.Few.second.Goals as goal

pub returns : goal.returns
returns c =
    let bytes = take c.self.inside.count c.self.inside.bytes in
    let padded = c.self.invariant.1 in
    let count : c.self.inside.count ≡ length bytes = search rules in
    let sum = rest_seven bytes c.self.invariant.2 in
    let whole : c.from_be_bytes.result ≡ second_of bytes = omega (arith, c.from_be_bytes.ensures, sum, count, padded 7 (omega arith), padded 8 (omega arith), padded 9 (omega arith), padded 10 (omega arith), padded 11 (omega arith), padded 12 (omega arith), padded 13 (omega arith)) in
    whole ∙ ap second_of c.self.view_is
