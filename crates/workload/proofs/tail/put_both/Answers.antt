use Rattle.std.proofs.Common.{refl}
use Rattle.workload.specs.Audited.{quiet_text, found_text}
use Rattle.workload.proofs.Pieces.{ended, joined}
use Rattle.workload.proofs.tail.put_both.Goals as goal

pub returns-in_err-put : goal.returns-in_err-put
returns-in_err-put g c =
    let first = quiet_text c.args.quiet in
    let second = found_text c.args.found in
    ended g.W.Write.contents _ _ _ c.from_residual.result _ first second refl c.from_residual.ensures.1 (rw (c.as_bytes.ensures.value, c.quiet_line.ensures) at c.in_err-put.ensures.adds)

pub returns : goal.returns
returns g c =
    let first = quiet_text c.args.quiet in
    let second = found_text c.args.found in
    joined g.W.Write.contents _ _ _ _ _ _ first second refl (rw (c.as_bytes.ensures.value, c.quiet_line.ensures) at c.in_ok-put.ensures.adds) c.put_found.ensures
