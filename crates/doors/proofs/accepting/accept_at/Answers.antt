use Rattle.std.proofs.Common.{ap, refl}
use Rattle.readiness.specs.declared.places.Places.{Places}
use Rattle.doors.proofs.Rounds.{given_same}
use Rattle.doors.proofs.Spans.{come_none, come_no_one, come_one}
use Rattle.doors.proofs.accepting.accept_at.Goals as goal

pub returns-then-not-more-clause-comes : goal.returns-then-not-more-clause-comes
returns-then-not-more-clause-comes g c = given_same c.args.hall.now.places.places.items c.args.hall.now.places.places.items refl

pub returns-then-not-more-clause-come : goal.returns-then-not-more-clause-come
returns-then-not-more-clause-come g c = come_none g.L.ReadyLine.seen g.D.Doorway.steps c.args.door.now c.args.hall.now.places.places.items

pub returns-in-Line-clause-come : goal.returns-in-Line-clause-come
returns-in-Line-clause-come g c = come_one g.L.ReadyLine.seen g.D.Doorway.steps c.args.door.now c.accept.new.self c.args.hall.now.places.places.items c.admit.new.self.places.places.items c.args.place c.in-Line.line c.in-Line.ensures.step c.admit.ensures.lives

pub returns-in-Nobody-clause-comes : goal.returns-in-Nobody-clause-comes
returns-in-Nobody-clause-comes g c = given_same c.args.hall.now.places.places.items c.args.hall.now.places.places.items refl

pub returns-in-Nobody-clause-come : goal.returns-in-Nobody-clause-come
returns-in-Nobody-clause-come g c = come_no_one g.L.ReadyLine.seen g.D.Doorway.steps c.args.door.now c.accept.new.self c.args.hall.now.places.places.items c.args.hall.now.places.places.items c.in-Nobody.ensures.step refl

pub returns-in-Failed-clause-comes : goal.returns-in-Failed-clause-comes
returns-in-Failed-clause-comes g c = given_same c.args.hall.now.places.places.items c.args.hall.now.places.places.items refl

pub returns-in-Failed-clause-come : goal.returns-in-Failed-clause-come
returns-in-Failed-clause-come g c = come_no_one g.L.ReadyLine.seen g.D.Doorway.steps c.args.door.now c.accept.new.self c.args.hall.now.places.places.items c.args.hall.now.places.places.items c.in-Failed.ensures.step refl

pub returns-in_ok-lose-in-Lost-clause-comes : goal.returns-in_ok-lose-in-Lost-clause-comes
returns-in_ok-lose-in-Lost-clause-comes g c = given_same c.args.hall.now.places.places.items c.lose.new.self.places.places.items (ap (λ (p : Places g.row.L.Denot). p.places.items) c.lose.ensures.0)

pub returns-in_ok-lose-in-Lost-clause-come : goal.returns-in_ok-lose-in-Lost-clause-come
returns-in_ok-lose-in-Lost-clause-come g c =
    come_no_one g.L.ReadyLine.seen g.D.Doorway.steps c.args.door.now c.accept.new.self c.args.hall.now.places.places.items c.lose.new.self.places.places.items c.in-Lost.ensures.step (ap (λ (p : Places g.row.L.Denot). p.places.items) c.lose.ensures.0)

pub returns-in_err-lose-in-Lost-clause-comes : goal.returns-in_err-lose-in-Lost-clause-comes
returns-in_err-lose-in-Lost-clause-comes g c = given_same c.args.hall.now.places.places.items c.lose.new.self.places.places.items (ap (λ (p : Places g.row.L.Denot). p.places.items) c.lose.ensures.0)

pub returns-in_err-lose-in-Lost-clause-come : goal.returns-in_err-lose-in-Lost-clause-come
returns-in_err-lose-in-Lost-clause-come g c =
    come_no_one g.L.ReadyLine.seen g.D.Doorway.steps c.args.door.now c.accept.new.self c.args.hall.now.places.places.items c.lose.new.self.places.places.items c.in-Lost.ensures.step (ap (λ (p : Places g.row.L.Denot). p.places.items) c.lose.ensures.0)
