use Rattle.std.proofs.Common.{refl}
use Rattle.keeper.proofs.Logs.{stands_back}
use Rattle.keeper.proofs.log.Log.take_back.Goals as goal

pub returns-clause-noted : goal.returns-clause-noted
returns-clause-noted g c = λ kept noted back is s.
    stands_back g.D.Disk.seen g.D.Disk.may_leave c.args.self.now
    (record { disk = c.args.self.now.disk; secret = c.args.self.now.secret; end = c.args.self.now.end; pending = c.truncate.new.self })
    c.args.mark kept noted back refl refl refl c.truncate.ensures.items is s
