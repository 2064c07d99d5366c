use Rattle.std.proofs.Common.{◌∙◌}
use Rattle.doors.proofs.Rounds.{only_at}
use Rattle.doors.proofs.Spans.{come_none}
use Rattle.doors.proofs.accepting.accept_one.Goals as goal

pub returns-in_default-clause-come : goal.returns-in_default-clause-come
returns-in_default-clause-come g c = come_none g.L.ReadyLine.seen g.D.Doorway.steps c.args.door.now c.args.hall.now.places.places.items

pub returns-then-not-is_free-clause-come : goal.returns-then-not-is_free-clause-come
returns-then-not-is_free-clause-come g c = come_none g.L.ReadyLine.seen g.D.Doorway.steps c.args.door.now c.args.hall.now.places.places.items

pub returns-in_err-push-clause-come : goal.returns-in_err-push-clause-come
returns-in_err-push-clause-come g c = come_none g.L.ReadyLine.seen g.D.Doorway.steps c.args.door.now c.args.hall.now.places.places.items

pub returns-in_err-accept_at-clause-told : goal.returns-in_err-accept_at-clause-told
returns-in_err-accept_at-clause-told g c =
    only_at c.args.hall.now.fresh.items c.accept_at.new.hall.fresh.items c.in-Some.place c.args.hall.now.places.places.items c.accept_at.new.hall.places.places.items
    (c.accept_at.ensures.fresh ∙ c.in_ok-push.ensures.items) c.accept_at.ensures.others

pub returns-then-branch-clause-told : goal.returns-then-branch-clause-told
returns-then-branch-clause-told g c =
    only_at c.args.hall.now.fresh.items c.accept_at.new.hall.fresh.items c.in-Some.place c.args.hall.now.places.places.items c.accept_at.new.hall.places.places.items
    (c.accept_at.ensures.fresh ∙ c.in_ok-push.ensures.items) c.accept_at.ensures.others

pub returns-clause-told : goal.returns-clause-told
returns-clause-told g c =
    only_at c.args.hall.now.fresh.items c.accept_at.new.hall.fresh.items c.in-Some.place c.args.hall.now.places.places.items c.accept_at.new.hall.places.places.items
    (c.accept_at.ensures.fresh ∙ c.in_ok-push.ensures.items) c.accept_at.ensures.others
