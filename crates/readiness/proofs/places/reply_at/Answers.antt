use Rattle.std.proofs.Common.{◌≡◌, ◌∙◌, length, refl, sym, rules}
use Rattle.readiness.specs.declared.connection.TheConstants.{LIMIT}
use Rattle.readiness.specs.Kept.{view}
use Rattle.readiness.proofs.Positions.{none_at, bounded_turned, bounded_same}
use Rattle.readiness.proofs.Halves.{stopped_at, left_at, had_stopped, written-same, written-at, shrunk_bounded}
use Rattle.readiness.proofs.places.reply_at.Goals as goal

pub returns-then-place-len-clause-written : goal.returns-then-place-len-clause-written
returns-then-place-len-clause-written g c = written-same g.L.ReadyLine.seen c.args.places.now.places.items c.args.places.now.places.items refl

pub returns-in_default-clause-written : goal.returns-in_default-clause-written
returns-in_default-clause-written g c =
    let n : c.len.result ≡ length c.args.places.now.places.items = search rules in
    written-same g.L.ReadyLine.seen c.args.places.now.places.items _
    (none_at c.args.places.now.places.items c.args.place c.len.result c.index_mut.result.now c.take.new.self n c.if-place-len.false c.index_mut.ensures.value (sym c.take.ensures.value ∙ c.in_default.is) c.take.ensures.after)

pub returns-in_default-clause-bounded : goal.returns-in_default-clause-bounded
returns-in_default-clause-bounded g c =
    let n : c.len.result ≡ length c.args.places.now.places.items = search rules in
    bounded_same LIMIT g.L.ReadyLine.seen c.args.places.now.places.items _
    (none_at c.args.places.now.places.items c.args.place c.len.result c.index_mut.result.now c.take.new.self n c.if-place-len.false c.index_mut.ensures.value (sym c.take.ensures.value ∙ c.in_default.is) c.take.ensures.after)

pub returns-clause-written : goal.returns-clause-written
returns-clause-written g c =
    let n : c.len.result ≡ length c.args.places.now.places.items = search rules in
    written-at g.L.ReadyLine.seen c.args.places.now.places.items c.args.place c.len.result c.index_mut.result.now c.take.new.self c.in-Some.standing c.reply-left.new.connection
    n c.if-place-len.false c.index_mut.ensures.value (sym c.take.ensures.value ∙ c.in-Some.is) c.reply-left.ensures.keeps

pub returns-clause-bounded : goal.returns-clause-bounded
returns-clause-bounded g c =
    let n : c.len.result ≡ length c.args.places.now.places.items = search rules in
    bounded_turned LIMIT g.L.ReadyLine.seen c.args.places.now.places.items c.args.place c.len.result c.index_mut.result.now c.take.new.self c.in-Some.standing c.reply-left.new.connection
    n c.if-place-len.false c.index_mut.ensures.value (sym c.take.ensures.value ∙ c.in-Some.is) (shrunk_bounded LIMIT (view g.L.ReadyLine.seen c.in-Some.standing) (view g.L.ReadyLine.seen c.reply-left.new.connection) c.reply-left.ensures.shrinks)

pub returns-clause-stays : goal.returns-clause-stays
returns-clause-stays g c stopped =
    let n : c.len.result ≡ length c.args.places.now.places.items = search rules in
    stopped_at g.L.ReadyLine.seen c.args.places.now.places.items c.args.place c.len.result c.take.new.self c.reply-left.new.connection n c.if-place-len.false
    (c.reply-left.ensures.stays (had_stopped g.L.ReadyLine.seen c.args.places.now.places.items c.args.place c.len.result c.index_mut.result.now c.in-Some.standing n c.if-place-len.false c.index_mut.ensures.value (sym c.take.ensures.value ∙ c.in-Some.is) stopped))

pub returns-clause-left : goal.returns-clause-left
returns-clause-left g c stopped =
    let n : c.len.result ≡ length c.args.places.now.places.items = search rules in
    left_at LIMIT g.L.ReadyLine.seen c.args.places.now.places.items c.args.place c.len.result c.take.new.self c.reply-left.new.connection c.reply-left.result n c.if-place-len.false
    (c.reply-left.ensures.left (had_stopped g.L.ReadyLine.seen c.args.places.now.places.items c.args.place c.len.result c.index_mut.result.now c.in-Some.standing n c.if-place-len.false c.index_mut.ensures.value (sym c.take.ensures.value ∙ c.in-Some.is) stopped))
