use Rattle.std.proofs.lemmas.Result.{on_ok_weaker}
use Rattle.tracing.specs.Lines.{quoted}
use Rattle.tracing.proofs.Grown.{grown_by, shown_by}
use Rattle.tracing.proofs.lines.put_quoted.Goals as goal

pub returns-clause-grown : goal.returns-clause-grown
returns-clause-grown g c = λ rest before all h.
    grown_by g.W.Write.contents c.put.new.output c.put_line.new.output c.put_line.result (quoted c.args.line.now) c.put_line.ensures rest before all (c.put.ensures.grown rest before all h)

pub returns-clause-told : goal.returns-clause-told
returns-clause-told g c =
    on_ok_weaker c.put_line.result
    (λ adds text rest is before all h.
    shown_by g.W.Write.contents c.put.new.output c.put_line.new.output c.args.line.now text rest adds is before all (c.put.ensures.grown text before all h))
    c.put_line.ensures.whole
