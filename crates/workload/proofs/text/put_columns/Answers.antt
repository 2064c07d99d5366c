use Rattle.std.proofs.Common.{[], ◌++◌, ◌≡◌, refl, append_assoc, ◌∙◌, ap, sym, take-append-drop}
use Rattle.std.specs.List.{flat_map}
use Rattle.std.proofs.lemmas.List.Concat.{flat_map-append}
use Rattle.program.proofs.Written.{adds_nothing}
use Rattle.workload.specs.Text.{column_text}
use Rattle.workload.proofs.Pieces.{joined, ended}
use Rattle.workload.proofs.text.put_columns.Goals as goal

pub loop-rest-init : goal.loop-rest-init
loop-rest-init g c = ([], refl, adds_nothing g.W.Write.contents c.args.output.now tt c.requires)

pub loop-rest-preserved : goal.loop-rest-preserved
loop-rest-preserved g c =
    let so_far = c.loop-rest.invariant in
    let few = c.split_at.result.0.now in
    let more = c.split_at.result.1.now in
    let parts : c.loop-rest.rest.now ≡ few ++ more = rw (c.split_at.ensures.front, c.split_at.ensures.back) (sym (take-append-drop 4 c.loop-rest.rest.now)) in (
      so_far.0 ++ few,
      so_far.1 ∙ ap (λ l. so_far.0 ++ l) parts ∙ sym (append_assoc so_far.0 few more),
      joined g.W.Write.contents _ c.loop-rest.output _ tt _ (flat_map column_text (so_far.0 ++ few)) (flat_map column_text so_far.0) (flat_map column_text few) (flat_map-append column_text so_far.0 few) so_far.2 c.in_ok-put_few_columns.ensures,
    )

pub returns-in_err-put_few_columns : goal.returns-in_err-put_few_columns
returns-in_err-put_few_columns g c =
    let so_far = c.loop-rest.invariant in
    let few = c.split_at.result.0.now in
    let more = c.split_at.result.1.now in
    let parts : c.loop-rest.rest.now ≡ few ++ more = rw (c.split_at.ensures.front, c.split_at.ensures.back) (sym (take-append-drop 4 c.loop-rest.rest.now)) in
    let whole : c.args.columns.now ≡ so_far.0 ++ (few ++ more) = so_far.1 ∙ ap (λ l. so_far.0 ++ l) parts in
    joined g.W.Write.contents _ c.loop-rest.output _ tt c.from_residual.result (flat_map column_text c.args.columns.now) (flat_map column_text so_far.0) (flat_map column_text (few ++ more))
    (ap (flat_map column_text) whole ∙ flat_map-append column_text so_far.0 (few ++ more)) so_far.2
    (ended g.W.Write.contents _ _ _ c.from_residual.result (flat_map column_text (few ++ more)) (flat_map column_text few) (flat_map column_text more) (flat_map-append column_text few more) c.from_residual.ensures.1 c.in_err-put_few_columns.ensures)

pub returns : goal.returns
returns g c =
    let so_far = c.loop-rest.invariant in
    joined g.W.Write.contents _ c.loop-rest.output _ tt _ (flat_map column_text c.args.columns.now) (flat_map column_text so_far.0) (flat_map column_text c.loop-rest.rest.now)
    (ap (flat_map column_text) so_far.1 ∙ flat_map-append column_text so_far.0 c.loop-rest.rest.now) so_far.2 c.put_few_columns-2.ensures
