use Rattle.std.proofs.Common.{◌≡◌, ◌∙◌, ◌+◌, ◌-◌, length, drop, false, ap, sym, arith}
use Rattle.std.proofs.lemmas.List.{take_all, length-drop}
use Rattle.program.specs.Lines.{has_end}
use Rattle.tracing.proofs.Standing.{line_at, line_whole}
use Rattle.tracing.proofs.lines.first_line.Goals as goal

pub returns-then-text-end-eq10-clause-first : goal.returns-then-text-end-eq10-clause-first
returns-then-text-end-eq10-clause-first c =
    let text = c.args.text.now in
    let i = c.loop-end.end in
    rw (take_all (length text - (i + 1)) (drop (i + 1) text) (simp length-drop (omega arith))) (line_at text i c.loop-end-test.true c.loop-end.invariant c.if-text-end-eq10.true)

pub returns-then-text-gt0-clause-first : goal.returns-then-text-gt0-clause-first
returns-then-text-gt0-clause-first c =
    let text = c.args.text.now in
    let none : has_end text ≡ false = ap has_end (sym (take_all c.loop-end.end text (omega arith))) ∙ c.loop-end.invariant in
    line_whole text (omega arith) none
