use Rattle.std.proofs.Common.{refl}
use Rattle.workload.specs.Audited.{tail_text}
use Rattle.workload.specs.Text.{text_of}
use Rattle.workload.proofs.Pieces.{ended, joined}
use Rattle.workload.proofs.text.put_told.Goals as goal

pub returns-in_err-put_entries : goal.returns-in_err-put_entries
returns-in_err-put_entries g c =
    ended g.W.Write.contents _ _ _ c.from_residual.result _ (text_of c.args.entries.now) (tail_text c.args.tail) refl c.from_residual.ensures.1 c.in_err-put_entries.ensures

pub returns : goal.returns
returns g c =
    joined g.W.Write.contents _ _ _ _ _ _ (text_of c.args.entries.now) (tail_text c.args.tail) refl c.in_ok-put_entries.ensures c.put_tail.ensures
