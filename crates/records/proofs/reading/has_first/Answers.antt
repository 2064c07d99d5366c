use Rattle.std.proofs.Common.{◌≡◌, ◌∙◌, ◌+◌, ◌||◌, true, false, sym, ap, drop, Bool}
use Rattle.records.specs.Records.{is_first, has_first as holds_first}
use Rattle.records.proofs.Found.{has_more, has_none}
use Rattle.records.proofs.reading.has_first.Goals as goal

pub returns-then-is_first_from : goal.returns-then-is_first_from
returns-then-is_first_from c =
    let at = c.loop-at.at in
    let rest = holds_first c.args.secret (at + 1) (drop (at + 1) c.args.bytes.now) in
    let is : is_first c.args.secret at (drop at c.args.bytes.now) ≡ true = sym c.is_first_from.ensures ∙ c.if-is_first_from.true in
    sym (has_more c.args.secret at c.args.bytes.now c.loop-at-test.true ∙ ap (λ (b : Bool). b || rest) is) ∙ c.loop-at.invariant

pub loop-at-preserved : goal.loop-at-preserved
loop-at-preserved c =
    let at = c.loop-at.at in
    let rest = holds_first c.args.secret (at + 1) (drop (at + 1) c.args.bytes.now) in
    let is : is_first c.args.secret at (drop at c.args.bytes.now) ≡ false = sym c.is_first_from.ensures ∙ c.if-is_first_from.false in
    sym (has_more c.args.secret at c.args.bytes.now c.loop-at-test.true ∙ ap (λ (b : Bool). b || rest) is) ∙ c.loop-at.invariant

pub returns : goal.returns
returns c = sym (has_none c.args.secret c.loop-at.at c.args.bytes.now c.loop-at-test.false) ∙ c.loop-at.invariant
