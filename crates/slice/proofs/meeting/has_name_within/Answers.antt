use Rattle.std.proofs.Common.{◌∙◌, ap, ℕ, List}
use Rattle.std.specs.Prelude.{slice_get, is_some}
use Rattle.std.specs.Ordering.{nat_cmp}
use Rattle.std.specs.Cmp.Lexicographic.{slice_cmp}
use Rattle.slice.proofs.SetBetween.{first_some, not_over, within}
use Rattle.slice.proofs.meeting.has_name_within.Goals as goal

pub range-requires : goal.range-requires
range-requires c = not_over (slice_cmp nat_cmp c.args.low.now c.args.high.now) c.requires

pub returns : goal.returns
returns c =
    c.is_some.ensures
    ∙ (first_some c.next.result (λ x. x.now) c.range.result c.next.new.self c.next.ensures.steps
    ∙ (ap (λ (xs : List (List ℕ)). is_some (slice_get xs 0)) (c.range.ensures.between tt)
    ∙ within c.args.low.now c.args.high.now c.args.names.now.keys))
