use Rattle.std.proofs.Common.{rules, refl, arith, length, decimal, ◌≡◌, ◌∙◌, ◌+◌, ◌++◌, ap}
use Rattle.workload.proofs.Pieces.{words_is}
use Rattle.workload.proofs.text.lay_number.Goals as goal

pub returns-clause-laid : goal.returns-clause-laid
returns-clause-laid c =
    let words = c.args.words.now in
    let digits = c.as_bytes-digits.result.now in
    let is : digits ≡ decimal c.args.number = c.as_bytes-digits.ensures.value ∙ c.format.ensures.text in
    words_is c.args.text.now c.copy_from_slice.new.self c.copy_from_slice-2.new.self words digits (length words) (length words + length digits)
    (search rules) (search rules) refl refl (omega (arith, c.requires.room, c.requires.words, c.format.ensures.short, c.as_bytes-digits.ensures.len))
    ∙ ap (λ d. words ++ d) is
