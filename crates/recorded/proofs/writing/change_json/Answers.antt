use Rattle.std.proofs.Common.{◌∙◌, ap}
use Rattle.serde_json.specs.Data.{string, array, item, no_items}
use Rattle.serde_json.specs.View.{view}
use Rattle.recorded.proofs.Spelled.{mutation_spelled, change_spelled}
use Rattle.recorded.proofs.writing.change_json.Goals as goal

pub returns-clause-ok : goal.returns-clause-ok
returns-clause-ok c =
    let m = view c.in_ok-mutation.mutation in
    let family = c.in_ok-family.ensures.ok ∙ ap string c.as_slice.ensures in
    let key = c.in_ok-key.ensures.ok ∙ ap string c.as_slice-2.ensures in
    change_spelled (view c.in_ok-list_of_three.field-0) m c.args.change.now
    (c.in_ok-list_of_three.ensures ∙ ap (λ x. array (item x (item (view c.in_ok-key.key) (item m no_items)))) family
    ∙ ap (λ x. array (item (string c.args.change.now.row.family) (item x (item m no_items)))) key)
    (mutation_spelled m c.args.change.now.mutation c.in_ok-mutation.ensures.ok)
