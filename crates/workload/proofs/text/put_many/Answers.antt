use Rattle.std.proofs.Common.{[], ◌++◌, ◌≡◌, refl, append_assoc, ◌∙◌, ap, sym, take-append-drop}
use Rattle.hex.specs.Hex.{encode_lower, encode_with, lower_digits}
use Rattle.program.proofs.Written.{adds_nothing}
use Rattle.workload.proofs.Pieces.{digits_joined, ended, encode_append}
use Rattle.workload.proofs.text.put_many.Goals as goal

pub loop-rest-init : goal.loop-rest-init
unfolding encode_with
loop-rest-init g c = ([], refl, adds_nothing g.W.Write.contents c.args.output.now tt c.requires)

pub loop-rest-preserved : goal.loop-rest-preserved
loop-rest-preserved g c =
    let so_far = c.loop-rest.invariant in
    let few = c.split_at.result.0.now in
    let more = c.split_at.result.1.now in
    let parts : c.loop-rest.rest.now ≡ few ++ more = rw (c.split_at.ensures.front, c.split_at.ensures.back) (sym (take-append-drop 64 c.loop-rest.rest.now)) in (
      so_far.0 ++ few,
      so_far.1 ∙ ap (λ l. so_far.0 ++ l) parts ∙ sym (append_assoc so_far.0 few more),
      digits_joined g.W.Write.contents _ c.loop-rest.output _ tt _ (so_far.0 ++ few) so_far.0 few refl so_far.2 c.in_ok-put_few.ensures,
    )

pub returns-in_err-put_few : goal.returns-in_err-put_few
returns-in_err-put_few g c =
    let so_far = c.loop-rest.invariant in
    let few = c.split_at.result.0.now in
    let more = c.split_at.result.1.now in
    let parts : c.loop-rest.rest.now ≡ few ++ more = rw (c.split_at.ensures.front, c.split_at.ensures.back) (sym (take-append-drop 64 c.loop-rest.rest.now)) in
    digits_joined g.W.Write.contents _ c.loop-rest.output _ tt c.from_residual.result c.args.bytes.now so_far.0 (few ++ more) (so_far.1 ∙ ap (λ l. so_far.0 ++ l) parts) so_far.2
    (ended g.W.Write.contents _ _ _ c.from_residual.result (encode_lower (few ++ more)) (encode_lower few) (encode_lower more) (encode_append lower_digits few more) c.from_residual.ensures.1 c.in_err-put_few.ensures)

pub returns : goal.returns
returns g c =
    let so_far = c.loop-rest.invariant in
    digits_joined g.W.Write.contents _ c.loop-rest.output _ tt _ c.args.bytes.now so_far.0 c.loop-rest.rest.now so_far.1 so_far.2 c.put_few-2.ensures
