use Rattle.std.proofs.Common.{◌∙◌, ap, ℕ, List}
use Rattle.std.specs.Prelude.{slice_get, is_some}
use Rattle.slice.proofs.SetBetween.{first_some, onwards}
use Rattle.slice.proofs.meeting.has_name_from.Goals as goal

pub returns : goal.returns
returns c =
    c.is_some.ensures
    ∙ (first_some c.next.result (λ x. x.now) c.range.result c.next.new.self c.next.ensures.steps
    ∙ (ap (λ (xs : List (List ℕ)). is_some (slice_get xs 0)) (c.range.ensures.between tt)
    ∙ onwards c.args.low.now c.args.names.now.keys))
