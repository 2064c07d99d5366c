use Rattle.doors.proofs.Rounds.{given_at, others_at, taken_at}
use Rattle.doors.proofs.Spans.{lived_come}
use Rattle.doors.proofs.hall.Hall.admit.Goals as goal

pub returns-clause-comes : goal.returns-clause-comes
returns-clause-comes g c = given_at c.args.self.now.places.places.items c.admit.new.self.places.items c.args.place c.args.line c.requires c.admit.ensures

pub returns-clause-lives : goal.returns-clause-lives
returns-clause-lives g c = lived_come g.L.ReadyLine.seen c.args.self.now.places.places.items c.admit.new.self.places.items c.args.place c.args.line c.requires c.admit.ensures

pub returns-clause-taken : goal.returns-clause-taken
returns-clause-taken g c = taken_at c.args.self.now.places.places.items c.admit.new.self.places.items c.args.place c.args.line c.requires c.admit.ensures

pub returns-clause-others : goal.returns-clause-others
returns-clause-others g c = others_at c.args.self.now.places.places.items c.admit.new.self.places.items c.args.place c.args.line c.admit.ensures
