use Rattle.std.proofs.Common.{◌≡◌, ◌∙◌, rules, ap, Some, None}
use Rattle.std.specs.Prelude.{slice_get}
use Rattle.std.specs.Ordering.{nat_cmp}
use Rattle.std.specs.Cmp.Lexicographic.{slice_cmp}
use Rattle.std.specs.BTreeMap.{get}
use Rattle.std.proofs.lemmas.Result.{IfOk-weaker}
use Rattle.planner.specs.Join.{columns_for}
use Rattle.planner.proofs.Found.{row_at, columns_found, columns_missing}
use Rattle.planner.proofs.joining.columns_at.Goals as goal

pub returns-in_default-clause-exact : goal.returns-in_default-clause-exact
returns-in_default-clause-exact c =
    let found : get (slice_cmp nat_cmp) c.args.places.now c.args.key.now ≡ None = search rules in
    c.none.ensures ∙ columns_missing c.args.rows.now c.args.key.now (get (slice_cmp nat_cmp) c.args.places.now c.args.key.now) c.requires (ap (row_at c.args.rows.now) found)

pub returns-in-Some-row_at-clause-exact : goal.returns-in-Some-row_at-clause-exact
returns-in-Some-row_at-clause-exact c =
    let found : get (slice_cmp nat_cmp) c.args.places.now c.args.key.now ≡ Some c.in-Some.place.now = search rules in
    let row : slice_get c.args.rows.now c.in-Some.place.now ≡ Some c.in-Some-row_at.row.now = search rules in
    IfOk-weaker c.columns_of.result _ (λ columns. columns ≡ columns_for c.args.rows.now c.args.key.now)
    (λ columns same. same ∙ columns_found c.args.rows.now c.args.key.now (get (slice_cmp nat_cmp) c.args.places.now c.args.key.now) c.in-Some.place.now c.in-Some-row_at.row.now c.requires found row)
    c.columns_of.ensures.exact

pub returns-in-None-clause-exact : goal.returns-in-None-clause-exact
returns-in-None-clause-exact c =
    let found : get (slice_cmp nat_cmp) c.args.places.now c.args.key.now ≡ Some c.in-Some.place.now = search rules in
    let row : slice_get c.args.rows.now c.in-Some.place.now ≡ None = search rules in
    c.none-in-None.ensures ∙ columns_missing c.args.rows.now c.args.key.now (get (slice_cmp nat_cmp) c.args.places.now c.args.key.now) c.requires (ap (row_at c.args.rows.now) found ∙ row)
