use Rattle.std.proofs.Common.{ap}
use Rattle.readiness.specs.declared.places.Places.{Places}
use Rattle.doors.proofs.Rounds.{closed_at, closed_same, same_on, freed_on, noted_more}
use Rattle.doors.proofs.Spans.{left_same, left_at}
use Rattle.doors.proofs.hall.Hall.free_at.Goals as goal

pub returns-in_default-clause-leaves : goal.returns-in_default-clause-leaves
returns-in_default-clause-leaves g c = closed_same g.L.ReadyLine.seen c.args.self.now.places.places.items c.release_over.new.self.places.items (ap (λ (p : Places g.row.L.Denot). p.places.items) c.in_default.ensures.none)

pub returns-in_default-clause-left : goal.returns-in_default-clause-left
returns-in_default-clause-left g c = left_same g.L.ReadyLine.seen c.args.self.now.places.places.items c.release_over.new.self.places.items (ap (λ (p : Places g.row.L.Denot). p.places.items) c.in_default.ensures.none)

pub returns-in_default-clause-away : goal.returns-in_default-clause-away
returns-in_default-clause-away g c = same_on g.L.ReadyLine.seen c.args.self.now.places.places.items c.release_over.new.self.places.items c.args.place (ap (λ (p : Places g.row.L.Denot). p.places.items) c.in_default.ensures.none) c.in_default.ensures.stays

pub returns-in_err-push-clause-leaves : goal.returns-in_err-push-clause-leaves
returns-in_err-push-clause-leaves g c = closed_at g.L.ReadyLine.seen c.args.self.now.places.places.items c.release_over.new.self.places.items c.args.place c.in-Some.connection c.in-Some.ensures.some.0 c.in-Some.ensures.some.1 c.in-Some.ensures.free

pub returns-in_err-push-clause-left : goal.returns-in_err-push-clause-left
returns-in_err-push-clause-left g c = left_at g.L.ReadyLine.seen c.args.self.now.places.places.items c.release_over.new.self.places.items c.args.place c.in-Some.connection c.in-Some.ensures.some.0 c.in-Some.ensures.some.1 c.in-Some.ensures.free

pub returns-in_err-push-clause-away : goal.returns-in_err-push-clause-away
returns-in_err-push-clause-away g c = freed_on g.L.ReadyLine.seen c.args.self.now.places.places.items c.release_over.new.self.places.items c.args.place c.in-Some.connection c.in-Some.ensures.some.0 c.in-Some.ensures.free

pub returns-clause-leaves : goal.returns-clause-leaves
returns-clause-leaves g c = closed_at g.L.ReadyLine.seen c.args.self.now.places.places.items c.release_over.new.self.places.items c.args.place c.in-Some.connection c.in-Some.ensures.some.0 c.in-Some.ensures.some.1 c.in-Some.ensures.free

pub returns-clause-left : goal.returns-clause-left
returns-clause-left g c = left_at g.L.ReadyLine.seen c.args.self.now.places.places.items c.release_over.new.self.places.items c.args.place c.in-Some.connection c.in-Some.ensures.some.0 c.in-Some.ensures.some.1 c.in-Some.ensures.free

pub returns-clause-away : goal.returns-clause-away
returns-clause-away g c = freed_on g.L.ReadyLine.seen c.args.self.now.places.places.items c.release_over.new.self.places.items c.args.place c.in-Some.connection c.in-Some.ensures.some.0 c.in-Some.ensures.free

pub returns-clause-noted : goal.returns-clause-noted
returns-clause-noted g c = noted_more c.args.self.now.places.places.items c.release_over.new.self.places.items c.args.self.now.free.items c.push.new.self.items c.args.place c.in-Some.ensures.free c.in_ok-push.ensures.items
