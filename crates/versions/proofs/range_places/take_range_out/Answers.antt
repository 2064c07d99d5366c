use Rattle.std.proofs.Common.{◌≡◌, ◌∙◌, ap, sym, ◌+◌, ◌-◌, length, arith}
use Rattle.std.specs.Prelude.{reverse}
use Rattle.versions.proofs.RangesIndexed.{removed_at_index, none_past}
use Rattle.versions.proofs.range_places.take_range_out.Goals as goal

pub returns-then-place-count-clause-left : goal.returns-then-place-count-clause-left
returns-then-place-count-clause-left c =
    let rs = c.args.ranges.now.items in
    let i = c.len-count.result - 1 - c.args.place in
    let sum : i + c.args.place + 1 ≡ length rs = omega (arith, c.len-count.ensures, c.if-place-count.true) in
    ap reverse c.remove.ensures.items ∙ sym (removed_at_index rs i c.args.place c.remove.result sum)

pub returns-else-place-count-clause-removed : goal.returns-else-place-count-clause-removed
returns-else-place-count-clause-removed c =
    sym (none_past c.args.ranges.now.items c.args.place (omega (arith, c.len-count.ensures, c.if-place-count.false))).0
