use Rattle.std.proofs.Common.{drop, arith, rules, refl, Some}
use Rattle.std.proofs.lemmas.List.{take_all, length-drop}
use Rattle.std.proofs.lemmas.Result.{err_from_is_err_and}
use Rattle.logical_time.specs.declared.fault.Fault.TheVariants.{WriteFailed}
use Rattle.program.proofs.Written.{more_written, fails_after, nothing_kept}
use Rattle.program.proofs.output.Output.put.Goals as goal

pub loop-preserved : goal.loop-preserved
loop-preserved g c = record {
  within = search rules;
  sound = c.in_ok-written.ensures.sound;
  written = more_written _ _ _ c.args.bytes.now _ c.loop.written c.in_ok-written.field-0 (take_all _ (drop c.loop.written c.args.bytes.now) (simp length-drop (omega arith))) c.loop.invariant.written c.in_ok-written.ensures.some;
}

pub loop-init : goal.loop-init
loop-init c = search rules

pub returns-in_err-written-clause-adds : goal.returns-in_err-written-clause-adds
returns-in_err-written-clause-adds g c =
    let p = err_from_is_err_and c.from_residual.result c.from_residual.ensures.1 in
    rw (p.1)
    (fails_after g.W.Write.contents c.args.self.now c.write_some.new.self c.loop.self.writer _ c.args.bytes.now c.loop.written (search rules) c.loop.invariant.written c.in_err-written.ensures.none)

pub returns-clause-adds : goal.returns-clause-adds
returns-clause-adds g c =
    fails_after g.W.Write.contents c.args.self.now (record { writer = c.loop.self.writer; failure = Some c.from.result }) c.loop.self.writer WriteFailed c.args.bytes.now c.loop.written (refl, refl) c.loop.invariant.written (nothing_kept _)
