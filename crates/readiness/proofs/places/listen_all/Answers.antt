use Rattle.std.proofs.Common.{◌∙◌, ℕ, List, get_or, refl, subst}
use Rattle.std.proofs.lemmas.List.{take_more, take_all}
use Rattle.readiness.specs.Places.{AreHeard}
use Rattle.readiness.proofs.Positions.{turns-none, turns-more}
use Rattle.readiness.proofs.Silent.{silent-none, silent-then}
use Rattle.readiness.proofs.Halves.{heard-none, heard-more}
use Rattle.readiness.proofs.places.listen_all.Goals as goal

pub loop-place-init : goal.loop-place-init
loop-place-init g c = record {
  turned = turns-none g.L.ReadyLine.seen g.P.SharedPort.steps c.args.places.now.places.items (g.P.SharedPort.seen c.args.port.now);
  heard = heard-none g.L.ReadyLine.seen c.args.places.now.places.items;
  silent = silent-none g.L.ReadyLine.seen c.args.places.now.places.items;
  bounded = λ h. h;
  keeps_none = refl;
}

pub loop-place-preserved : goal.loop-place-preserved
loop-place-preserved g c =
    let i = c.loop-place.place-index in
    let place = get_or c.args.ready.now i 0 in
    record {
      turned = turns-more g.L.ReadyLine.seen g.P.SharedPort.steps place c.args.places.now.places.items (g.P.SharedPort.seen c.args.port.now) c.loop-place.places.places.items (g.P.SharedPort.seen c.loop-place.port) c.listen_at.new.places.places.items (g.P.SharedPort.seen c.listen_at.new.port) c.loop-place.invariant.turned c.listen_at.ensures.turned;
      heard = heard-more g.L.ReadyLine.seen c.args.ready.now i place c.args.places.now.places.items c.loop-place.places.places.items c.listen_at.new.places.places.items (take_more c.args.ready.now i 0 c.loop-place-test.true) c.loop-place.invariant.heard c.listen_at.ensures.stops c.listen_at.ensures.others;
      silent = silent-then g.L.ReadyLine.seen c.args.places.now.places.items c.loop-place.places.places.items c.listen_at.new.places.places.items c.loop-place.invariant.silent c.listen_at.ensures.silent;
      bounded = λ h. c.listen_at.ensures.bounded (c.loop-place.invariant.bounded h);
      keeps_none = c.listen_at.ensures.keeps_none ∙ c.loop-place.invariant.keeps_none;
    }

pub returns-clause-heard : goal.returns-clause-heard
returns-clause-heard g c =
    let all = take_all c.loop-place.place-index c.args.ready.now c.loop-place-test.false in
    subst (λ (t : List ℕ). AreHeard g.L.ReadyLine.seen t c.args.places.now.places.items c.loop-place.places.places.items) all c.loop-place.invariant.heard
