use Rattle.std.proofs.Common.{◌≡◌, ◌∙◌, ◌+◌, ◌*◌, ◌^◌, ◌<◌, ℕ, length, ap, subst, sym, arith}
use Rattle.std.specs.Prelude.{get_or}
use Rattle.column_family.specs.Heads.{head_of, StartsWithBytes}
use Rattle.column_family.proofs.Heads.{all_bytes, head_seven}
use Rattle.column_family.proofs.shared_bytes.many.Goals as goal

pub returns-clause-text : goal.returns-clause-text
returns-clause-text c =
    let bytes = c.args.bytes.now in
    let same = sym c.requires.all in
    let each : (i : ℕ) → get_or bytes i 0 < 256 = λ i. let fits = c.type_inv.bytes i in omega arith in
    let whole : get_or bytes 0 0 * 256 ^ 6 + c.from_be_bytes-middle.result * 256 ^ 4 + c.from_be_bytes-low.result ≡ head_of 7 bytes = omega (arith, c.from_be_bytes-middle.ensures, c.from_be_bytes-low.ensures, head_seven bytes) in
    (whole ∙ ap (head_of 7) same, subst (λ l. 14 < length l) same c.requires.long, subst (λ l. StartsWithBytes 7 l) same (all_bytes 7 bytes each))
