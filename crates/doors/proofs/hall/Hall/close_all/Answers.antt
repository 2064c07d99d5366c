use Rattle.std.proofs.Common.{ℕ, List, get_or, subst}
use Rattle.std.specs.Prelude.{slice_get}
use Rattle.std.specs.List.{Contains}
use Rattle.std.proofs.lemmas.List.{take_more, take_all}
use Rattle.doors.specs.Rounds.{GoesOn}
use Rattle.doors.proofs.Rounds.{closed_none, closed_more, away_none, away_more}
use Rattle.doors.proofs.Spans.{left_none, left_more}
use Rattle.doors.proofs.hall.Hall.close_all.Goals as goal

pub loop-place-init : goal.loop-place-init
loop-place-init g c = record {
  leaves = closed_none g.L.ReadyLine.seen c.args.self.now.places.places.items;
  left = left_none g.L.ReadyLine.seen c.args.self.now.places.places.items;
  away = away_none g.L.ReadyLine.seen c.args.self.now.places.places.items;
  noted = λ h. h;
}

pub loop-place-preserved : goal.loop-place-preserved
loop-place-preserved g c =
    let i = c.loop-place.place-index in
    let place = get_or c.args.over.now i 0 in
    let seen = g.L.ReadyLine.seen in
    let old = c.args.self.now.places.places.items in
    let mid = c.loop-place.self.places.places.items in
    let new = c.close_at.new.self.places.places.items in
    record {
      leaves = closed_more seen old mid new c.loop-place.invariant.leaves c.close_at.ensures.leaves;
      left = left_more seen old mid new c.loop-place.invariant.left c.close_at.ensures.left;
      away = away_more seen c.args.over.now i place mid new (take_more c.args.over.now i 0 c.loop-place-test.true) c.loop-place.invariant.away c.close_at.ensures.leaves c.in_ok-close_at.ensures.away;
      noted = λ h. c.in_ok-close_at.ensures.noted (c.loop-place.invariant.noted h);
    }

pub returns-in_err-close_at-clause-leaves : goal.returns-in_err-close_at-clause-leaves
returns-in_err-close_at-clause-leaves g c = closed_more g.L.ReadyLine.seen c.args.self.now.places.places.items c.loop-place.self.places.places.items c.close_at.new.self.places.places.items c.loop-place.invariant.leaves c.close_at.ensures.leaves

pub returns-in_err-close_at-clause-left : goal.returns-in_err-close_at-clause-left
returns-in_err-close_at-clause-left g c = left_more g.L.ReadyLine.seen c.args.self.now.places.places.items c.loop-place.self.places.places.items c.close_at.new.self.places.places.items c.loop-place.invariant.left c.close_at.ensures.left

pub returns-clause-away : goal.returns-clause-away
returns-clause-away g c =
    let all = take_all c.loop-place.place-index c.args.over.now c.loop-place-test.false in
    subst (λ (t : List ℕ). (k : ℕ) → Contains t k → GoesOn g.L.ReadyLine.seen (slice_get c.loop-place.self.places.places.items k)) all c.loop-place.invariant.away
