use Rattle.doors.proofs.Rounds.{noted_more}
use Rattle.doors.proofs.hall.Hall.dismiss.Goals as goal

pub returns-clause-noted : goal.returns-clause-noted
returns-clause-noted g c = noted_more c.args.self.now.places.places.items c.release-gone.new.self.places.items c.args.self.now.free.items c.push.new.self.items c.args.place c.release-gone.ensures.free c.in_ok-push.ensures.items
