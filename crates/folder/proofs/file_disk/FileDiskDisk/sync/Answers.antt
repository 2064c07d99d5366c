use Rattle.std.proofs.Common.{Some, ap}
use Rattle.folder.specs.Deeds.{Synced}
use Rattle.folder.proofs.Deeds.{seen_to, left_to}
use Rattle.folder.proofs.file_disk.FileDiskDisk.sync.Goals as goal

pub returns-clause-durable : goal.returns-clause-durable
returns-clause-durable c = left_to c.args.self.now.first.value.items c.args.self.now.past c.add.new.self Synced c.add.ensures

pub returns-clause-seen : goal.returns-clause-seen
returns-clause-seen c = ap Some (seen_to c.args.self.now.first.value.items c.args.self.now.past c.add.new.self Synced c.add.ensures)
