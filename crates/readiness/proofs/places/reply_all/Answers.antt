use Rattle.std.proofs.Common.{ℕ, List, get_or, subst, refl}
use Rattle.std.proofs.lemmas.List.{take_more, take_all}
use Rattle.readiness.specs.declared.connection.TheConstants.{LIMIT}
use Rattle.readiness.specs.Places.{AreTold}
use Rattle.readiness.proofs.Halves.{written-same, written-then, stopped-more, told-none, told-more, comes_next}
use Rattle.readiness.proofs.places.reply_all.Goals as goal

pub loop-place-init : goal.loop-place-init
loop-place-init g c = record {
  written = written-same g.L.ReadyLine.seen c.args.places.now.places.items c.args.places.now.places.items refl;
  stopped = λ h. h;
  told = λ h. told-none LIMIT g.L.ReadyLine.seen c.args.again.now.items c.args.over.now.items c.args.places.now.places.items;
  bounded = λ h. h;
}

pub loop-place-preserved : goal.loop-place-preserved
loop-place-preserved g c =
    let i = c.loop-place.place-index in
    let place = get_or c.args.ready.now i 0 in
    let old = c.args.places.now.places.items in
    let mid = c.loop-place.places.places.items in
    let new = c.reply_at-left.new.places.places.items in
    let next = take_more c.args.ready.now i 0 c.loop-place-test.true in
    record {
      written = written-then g.L.ReadyLine.seen old mid new c.loop-place.invariant.written c.reply_at-left.ensures.written;
      stopped = λ h. stopped-more g.L.ReadyLine.seen c.args.ready.now place mid new (c.loop-place.invariant.stopped h) c.reply_at-left.ensures.stays c.reply_at-left.ensures.others;
      told = λ h. told-more LIMIT g.L.ReadyLine.seen c.args.ready.now i place c.loop-place.again.items c.tell.new.again.items c.loop-place.over.items c.tell.new.over.items old mid new c.reply_at-left.result
          next (c.loop-place.invariant.told h) (c.reply_at-left.ensures.left (c.loop-place.invariant.stopped h place (comes_next c.args.ready.now i place next))) c.reply_at-left.ensures.others c.tell.ensures.again_kept c.tell.ensures.over_kept c.in_ok-tell.ensures.again_told c.in_ok-tell.ensures.over_told;
      bounded = λ h. c.reply_at-left.ensures.bounded (c.loop-place.invariant.bounded h);
    }

pub returns-in_err-tell-clause-written : goal.returns-in_err-tell-clause-written
returns-in_err-tell-clause-written g c = written-then g.L.ReadyLine.seen c.args.places.now.places.items c.loop-place.places.places.items c.reply_at-left.new.places.places.items c.loop-place.invariant.written c.reply_at-left.ensures.written

pub returns-clause-told : goal.returns-clause-told
returns-clause-told g c h =
    let all = take_all c.loop-place.place-index c.args.ready.now c.loop-place-test.false in
    subst (λ (t : List ℕ). AreTold LIMIT g.L.ReadyLine.seen t c.loop-place.again.items c.loop-place.over.items c.args.places.now.places.items c.loop-place.places.places.items) all (c.loop-place.invariant.told h)
