use Rattle.std.proofs.Common.{sym, subst}
use Rattle.disk.proofs.Steps.{elapses_to, left_to, none_cut}
use Rattle.disk.specs.Disk.{Cut, Follows}
use Rattle.disk.specs.Memory.{left_of}
use Rattle.disk.specs.declared.memory.Step.{Step}
use Rattle.disk.specs.declared.memory.Step.TheVariants.{Shortened}
use Rattle.std.specs.Prelude.{List}
use Rattle.disk.proofs.memory.MemoryDisk.cut.Goals as goal

pub returns-then-fails_next-clause-crash : goal.returns-then-fails_next-clause-crash
returns-then-fails_next-clause-crash c = none_cut (left_of c.args.self.now.first.items c.args.self.now.steps.items) c.args.len

pub returns-in_err-note-clause-crash : goal.returns-in_err-note-clause-crash
returns-in_err-note-clause-crash c =
    subst (λ (z : List Step). Follows (Cut c.args.len) (left_of c.args.self.now.first.items c.args.self.now.steps.items) (left_of c.args.self.now.first.items z)) (sym c.in_err-note.ensures.err)
    (none_cut (left_of c.args.self.now.first.items c.args.self.now.steps.items) c.args.len)

pub returns-clause-crash : goal.returns-clause-crash
returns-clause-crash c = left_to c.args.self.now.first.items c.args.self.now.steps.items c.note.new.steps.items (Shortened c.args.len) c.in_ok-note.ensures.ok

pub returns-clause-time : goal.returns-clause-time
returns-clause-time c = elapses_to c.args.self.now.first.items c.args.self.now.steps.items c.note.new.steps.items (Shortened c.args.len) c.in_ok-note.ensures.ok
