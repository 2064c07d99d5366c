use Rattle.std.proofs.Common.{◌≡◌, ◌∙◌, sym, ap, true}
use Rattle.std.specs.Prelude.{not, filter}
use Rattle.column_family.specs.Places.{Placed, is_among}
use Rattle.column_family.proofs.Removing.{left_backwards, onwards, left_step}
use Rattle.column_family.proofs.places.remove_between.Goals as goal

pub returns-then-is_before : goal.returns-then-is_before
returns-then-is_before c = left_backwards c.args.low.now c.args.high.now (sym c.is_before.ensures ∙ c.if-is_before.true) c.args.kept.now.entries

pub first_between-requires : goal.first_between-requires
first_between-requires c = onwards c.args.low.now c.args.high.now (sym c.is_before.ensures ∙ c.if-is_before.false)

pub loop-place-preserved-in_ok-place : goal.loop-place-preserved-in_ok-place
loop-place-preserved-in_ok-place c =
    let among : is_among c.args.low.now c.args.high.now c.in_ok-place.place ≡ true = ap (is_among c.args.low.now c.args.high.now) c.in_ok-place.ensures ∙ c.in-Some.ensures.some in
    ap (λ (es : Placed). filter (λ e. not (is_among c.args.low.now c.args.high.now e.0)) es) c.remove_at.ensures.entries
    ∙ (left_step (is_among c.args.low.now c.args.high.now) c.in_ok-place.place among c.loop-place.kept.entries ∙ c.loop-place.invariant)

pub loop-place-preserved-in_ok-place-2 : goal.loop-place-preserved-in_ok-place-2
loop-place-preserved-in_ok-place-2 c =
    let among : is_among c.args.low.now c.args.high.now c.in_ok-place.place ≡ true = ap (is_among c.args.low.now c.args.high.now) c.in_ok-place.ensures ∙ c.in-Some.ensures.some in
    ap (λ (es : Placed). filter (λ e. not (is_among c.args.low.now c.args.high.now e.0)) es) c.remove_at.ensures.entries
    ∙ (left_step (is_among c.args.low.now c.args.high.now) c.in_ok-place.place among c.loop-place.kept.entries ∙ c.loop-place.invariant)

pub loop-place-preserved : goal.loop-place-preserved
loop-place-preserved c =
    let among : is_among c.args.low.now c.args.high.now c.in_ok-place.place ≡ true = ap (is_among c.args.low.now c.args.high.now) c.in_ok-place.ensures ∙ c.in-Some.ensures.some in
    ap (λ (es : Placed). filter (λ e. not (is_among c.args.low.now c.args.high.now e.0)) es) c.remove_at.ensures.entries
    ∙ (left_step (is_among c.args.low.now c.args.high.now) c.in_ok-place.place among c.loop-place.kept.entries ∙ c.loop-place.invariant)
