use Rattle.program.proofs.Written.{nothing_kept}
use Rattle.tracing.proofs.Grown.{all_told, part_told, if_ok, if_err}
use Rattle.tracing.proofs.telling.write_trace.Goals as goal

pub returns-in_err-put_steps-clause-part : goal.returns-in_err-put_steps-clause-part
returns-in_err-put_steps-clause-part g c =
    if_err c.from_residual.result
    (part_told g.W.Write.contents c.args.output.now c.put_steps.new.output c.put_steps.new.output c.args.traced.now.text.items c.put_steps.ensures.grown (nothing_kept _))

pub returns-clause-told : goal.returns-clause-told
returns-clause-told g c =
    if_ok c.flush.result
    (all_told g.W.Write.contents c.args.output.now c.put_steps.new.output c.flush.new.self c.args.traced.now.text.items
    (rw c.as_slice-text.ensures.value at c.in_ok-put_steps.ensures.told) c.flush.ensures.same)

pub returns-clause-part : goal.returns-clause-part
returns-clause-part g c =
    if_err c.flush.result
    (part_told g.W.Write.contents c.args.output.now c.put_steps.new.output c.flush.new.self c.args.traced.now.text.items c.put_steps.ensures.grown c.flush.ensures.same)
