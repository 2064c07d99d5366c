use Rattle.std.proofs.lemmas.Result.{err_from_is_err_and}
use Rattle.workload.proofs.text.write_transcript.Goals as goal

pub returns-in_err-put_told-clause-part : goal.returns-in_err-put_told-clause-part
returns-in_err-put_told-clause-part g c =
    let p = err_from_is_err_and c.from_residual.result c.from_residual.ensures.1 in
    rw p.1 (rw c.as_slice.ensures at c.in_err-put_told.ensures.cut.1)
