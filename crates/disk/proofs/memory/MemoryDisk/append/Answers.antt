use Rattle.disk.proofs.Steps.{elapses_to, left_to}
use Rattle.disk.specs.declared.memory.Step.TheVariants.{Added}
use Rattle.disk.proofs.memory.MemoryDisk.append.Goals as goal

pub returns-in_err-extend_from_slice-clause-crash : goal.returns-in_err-extend_from_slice-clause-crash
returns-in_err-extend_from_slice-clause-crash c = left_to c.args.self.now.first.items c.args.self.now.steps.items c.note.new.steps.items Added c.in_ok-note.ensures.ok

pub returns-in_err-extend_from_slice-clause-time : goal.returns-in_err-extend_from_slice-clause-time
returns-in_err-extend_from_slice-clause-time c = elapses_to c.args.self.now.first.items c.args.self.now.steps.items c.note.new.steps.items Added c.in_ok-note.ensures.ok

pub returns-clause-crash : goal.returns-clause-crash
returns-clause-crash c = left_to c.args.self.now.first.items c.args.self.now.steps.items c.note.new.steps.items Added c.in_ok-note.ensures.ok

pub returns-clause-time : goal.returns-clause-time
returns-clause-time c = elapses_to c.args.self.now.first.items c.args.self.now.steps.items c.note.new.steps.items Added c.in_ok-note.ensures.ok
