use Rattle.std.proofs.Common.{◌∙◌, ◌++◌, Some, ℕ, ap, Vec, Global}
use Rattle.folder.specs.Left.{seen_after}
use Rattle.folder.specs.Deeds.{Added}
use Rattle.folder.proofs.Deeds.{seen_to, left_to}
use Rattle.folder.proofs.file_disk.FileDiskDisk.append.Goals as goal

pub returns-then-is_err-clause-crash : goal.returns-then-is_err-clause-crash
returns-then-is_err-clause-crash c = left_to c.args.self.now.first.value.items c.args.self.now.past c.add.new.self (Added c.of.result.value.items) c.add.ensures

pub returns-clause-written : goal.returns-clause-written
returns-clause-written c =
    let file = seen_after c.args.self.now.first.value.items c.args.self.now.past in
    ap Some (seen_to c.args.self.now.first.value.items c.args.self.now.past c.add.new.self (Added c.of.result.value.items) c.add.ensures ∙ ap (λ (v : Vec ℕ Global). file ++ v.items) c.of.ensures)

pub returns-clause-crash : goal.returns-clause-crash
returns-clause-crash c = left_to c.args.self.now.first.value.items c.args.self.now.past c.add.new.self (Added c.of.result.value.items) c.add.ensures
