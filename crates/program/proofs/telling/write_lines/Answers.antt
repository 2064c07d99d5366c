use Rattle.std.proofs.Common.{[], ◌∷◌, ◌++◌, append_assoc, sym, inr, rules}
use Rattle.std.specs.Io.KnownBytes.{Appends}
use Rattle.logical_time.specs.declared.fault.Fault.TheVariants.{WriteFailed}
use Rattle.program.specs.Telling.{fault_line}
use Rattle.program.proofs.Written.{part_before, written, then_appended, then_part, told_part}
use Rattle.program.proofs.telling.write_lines.Goals as goal

pub returns-in_err-write_all : goal.returns-in_err-write_all
returns-in_err-write_all g c = inr (c.in_err-write_all.ensures.failed.1, told_part c.args.fault _ _ _ (search rules))

pub returns-in_err-write_all-2 : goal.returns-in_err-write_all-2
returns-in_err-write_all-2 g c =
    let text = c.as_str.result.now in
    rw (c.in-Some.is, ← c.as_str.ensures.text)
    (inr (c.in_err-write_all-2.ensures.failed.1, then_part _ (g.E.Write.contents c.write_all.new.self.writer) _ (fault_line c.args.fault) (text ++ 10 ∷ []) (search rules) (part_before _ _ text (10 ∷ []) (search rules))))

pub returns : goal.returns
returns g c =
    let line = fault_line c.args.fault in
    let text = c.as_str.result.now in
    let start : Appends (g.E.Write.contents c.args.errors.now.writer) (g.E.Write.contents c.write_all.new.self.writer) line = search rules in
    rw (c.in-Some.is, ← c.as_str.ensures.text)
    (written c.write_all-3.result WriteFailed _ (g.E.Write.contents c.write_all-2.new.self.writer) _ (line ++ text) (10 ∷ []) _ (sym (append_assoc line text (10 ∷ [])))
    (then_appended _ (g.E.Write.contents c.write_all.new.self.writer) _ line text start (search rules)) c.write_all-3.ensures.whole c.write_all-3.ensures.part c.write_all-3.ensures.failed)
