use Rattle.std.proofs.Common.{refl}
use Rattle.doors.proofs.Rounds.{given_same, given_more, only_none, only_more}
use Rattle.doors.proofs.Spans.{come_none, come_more}
use Rattle.doors.proofs.accepting.accept_all.Goals as goal

pub loop-init : goal.loop-init
loop-init g c = record {
  comes = given_same c.args.hall.now.places.places.items c.args.hall.now.places.places.items refl;
  come = come_none g.L.ReadyLine.seen g.D.Doorway.steps c.args.door.now c.args.hall.now.places.places.items;
  told = only_none c.args.hall.now.fresh.items c.args.hall.now.places.places.items;
  noted = λ h. h;
  known = λ h. h;
}

pub loop-preserved : goal.loop-preserved
loop-preserved g c =
    let old = c.args.hall.now.places.places.items in
    let mid = c.loop.hall.places.places.items in
    let new = c.accept_one.new.hall.places.places.items in
    record {
      comes = given_more old mid new c.loop.invariant.comes c.accept_one.ensures.comes;
      come = come_more g.L.ReadyLine.seen g.D.Doorway.steps c.args.door.now old c.loop.door mid c.accept_one.new.door new c.loop.invariant.come c.accept_one.ensures.come;
      told = only_more c.loop.hall.fresh.items c.accept_one.new.hall.fresh.items old mid new c.loop.invariant.told c.accept_one.ensures.told c.accept_one.ensures.kept;
      noted = λ h. c.in_ok-accept_one.ensures.noted (c.loop.invariant.noted h);
      known = λ h. c.accept_one.ensures.known (c.loop.invariant.known h);
    }

pub returns-in_err-accept_one-clause-comes : goal.returns-in_err-accept_one-clause-comes
returns-in_err-accept_one-clause-comes g c = given_more c.args.hall.now.places.places.items c.loop.hall.places.places.items c.accept_one.new.hall.places.places.items c.loop.invariant.comes c.accept_one.ensures.comes

pub returns-in_err-accept_one-clause-come : goal.returns-in_err-accept_one-clause-come
returns-in_err-accept_one-clause-come g c =
    come_more g.L.ReadyLine.seen g.D.Doorway.steps c.args.door.now c.args.hall.now.places.places.items c.loop.door c.loop.hall.places.places.items c.accept_one.new.door c.accept_one.new.hall.places.places.items c.loop.invariant.come c.accept_one.ensures.come

pub returns-in_err-accept_one-clause-known : goal.returns-in_err-accept_one-clause-known
returns-in_err-accept_one-clause-known g c h = c.accept_one.ensures.known (c.loop.invariant.known h)

pub returns-clause-comes : goal.returns-clause-comes
returns-clause-comes g c = given_more c.args.hall.now.places.places.items c.loop.hall.places.places.items c.accept_one.new.hall.places.places.items c.loop.invariant.comes c.accept_one.ensures.comes

pub returns-clause-come : goal.returns-clause-come
returns-clause-come g c =
    come_more g.L.ReadyLine.seen g.D.Doorway.steps c.args.door.now c.args.hall.now.places.places.items c.loop.door c.loop.hall.places.places.items c.accept_one.new.door c.accept_one.new.hall.places.places.items c.loop.invariant.come c.accept_one.ensures.come

pub returns-clause-noted : goal.returns-clause-noted
returns-clause-noted g c h = c.in_ok-accept_one.ensures.noted (c.loop.invariant.noted h)

pub returns-clause-known : goal.returns-clause-known
returns-clause-known g c h = c.accept_one.ensures.known (c.loop.invariant.known h)

pub returns-clause-why : goal.returns-clause-why
returns-clause-why g c noted known = c.in_ok-accept_one.ensures.why c.if-branch.false (c.loop.invariant.noted noted) (c.loop.invariant.known known)

pub returns-in_err-accept_one-clause-told : goal.returns-in_err-accept_one-clause-told
returns-in_err-accept_one-clause-told g c = only_more c.loop.hall.fresh.items c.accept_one.new.hall.fresh.items c.args.hall.now.places.places.items c.loop.hall.places.places.items c.accept_one.new.hall.places.places.items c.loop.invariant.told c.accept_one.ensures.told c.accept_one.ensures.kept

pub returns-clause-told : goal.returns-clause-told
returns-clause-told g c = only_more c.loop.hall.fresh.items c.accept_one.new.hall.fresh.items c.args.hall.now.places.places.items c.loop.hall.places.places.items c.accept_one.new.hall.places.places.items c.loop.invariant.told c.accept_one.ensures.told c.accept_one.ensures.kept
