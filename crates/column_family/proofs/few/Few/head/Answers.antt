use Rattle.std.proofs.Common.{rules, ◌≡◌, ◌*◌, ◌+◌, ◌<◌, arith}
use Rattle.std.specs.Prelude.{get_or}
use Rattle.column_family.specs.Heads.{head_of, StartsWithBytes}
use Rattle.column_family.proofs.Heads.{head_more, byte_of}
use Rattle.column_family.proofs.few.Few.head.Goals as goal

pub returns : goal.returns
returns c =
    let bytes = c.args.self.now in
    let all : StartsWithBytes 14 bytes = search rules in
    let eight : head_of 8 bytes ≡ head_of 7 bytes * 256 + get_or bytes 7 0 = head_more 7 bytes in
    let small : get_or bytes 7 0 < 256 = byte_of 14 7 bytes all (omega arith) in
    omega (arith, c.first.ensures, eight, small)
