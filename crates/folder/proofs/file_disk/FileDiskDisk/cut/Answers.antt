use Rattle.std.proofs.Common.{Some, ap}
use Rattle.disk.proofs.Steps.{none_cut}
use Rattle.folder.specs.Deeds.{Cut_to}
use Rattle.folder.specs.Left.{left_of}
use Rattle.folder.proofs.Deeds.{seen_to, left_to}
use Rattle.folder.proofs.file_disk.FileDiskDisk.cut.Goals as goal

pub returns-then-self-clause-crash : goal.returns-then-self-clause-crash
returns-then-self-clause-crash c = none_cut (left_of c.args.self.now.first.value.items c.args.self.now.past) c.args.len

pub returns-in_err-at-clause-crash : goal.returns-in_err-at-clause-crash
returns-in_err-at-clause-crash c = none_cut (left_of c.args.self.now.first.value.items c.args.self.now.past) c.args.len

pub returns-then-is_err-clause-crash : goal.returns-then-is_err-clause-crash
returns-then-is_err-clause-crash c = left_to c.args.self.now.first.value.items c.args.self.now.past c.add.new.self (Cut_to c.args.len) c.add.ensures

pub returns-clause-cut : goal.returns-clause-cut
returns-clause-cut c = ap Some (seen_to c.args.self.now.first.value.items c.args.self.now.past c.add.new.self (Cut_to c.args.len) c.add.ensures)

pub returns-clause-crash : goal.returns-clause-crash
returns-clause-crash c = left_to c.args.self.now.first.value.items c.args.self.now.past c.add.new.self (Cut_to c.args.len) c.add.ensures
