use Rattle.std.proofs.Common.{rules, ◌≡◌, ◌∙◌, ap, sym}
use Rattle.std.specs.Ordering.{nat_cmp, is_eq}
use Rattle.std.specs.Cmp.Lexicographic.{slice_cmp, texts_ties}
use Rattle.column_family.proofs.shared_bytes.SharedBytesPartialEq.eq.Goals as goal

pub returns-in-Few-Few : goal.returns-in-Few-Few
returns-in-Few-Few c =
    let x = c.args.self.now in
    let y = c.args.other.now in
    let by_numbers : c.is.result ≡ is_eq (slice_cmp nat_cmp x y) = search rules in
    by_numbers ∙ sym (texts_ties x y)

pub returns-in_default : goal.returns-in_default
returns-in_default c =
    let x = c.args.self.now in
    let y = c.args.other.now in
    let by_order : c.cmp.result ≡ slice_cmp nat_cmp x y = search rules in
    c.is_eq.ensures ∙ ap is_eq by_order ∙ sym (texts_ties x y)
