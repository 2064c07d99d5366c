use Rattle.std.proofs.Common.{◌≡◌, ◌∙◌, length, refl, sym, inl, rules}
use Rattle.readiness.specs.declared.connection.TheConstants.{LIMIT}
use Rattle.readiness.proofs.Positions.{turned_at, none_at, bounded_turned, bounded_same}
use Rattle.readiness.proofs.Silent.{silent-none, silent-same, silent-at}
use Rattle.readiness.proofs.Halves.{stopped_at}
use Rattle.readiness.proofs.places.listen_at.Goals as goal

pub returns-then-place-len-clause-silent : goal.returns-then-place-len-clause-silent
returns-then-place-len-clause-silent g c = silent-none g.L.ReadyLine.seen c.args.places.now.places.items

pub returns-in_default-clause-turned : goal.returns-in_default-clause-turned
returns-in_default-clause-turned g c =
    let n : c.len.result ≡ length c.args.places.now.places.items = search rules in
    inl (none_at c.args.places.now.places.items c.args.place c.len.result c.index_mut.result.now c.take.new.self n c.if-place-len.false c.index_mut.ensures.value (sym c.take.ensures.value ∙ c.in_default.is) c.take.ensures.after, refl)

pub returns-in_default-clause-bounded : goal.returns-in_default-clause-bounded
returns-in_default-clause-bounded g c =
    let n : c.len.result ≡ length c.args.places.now.places.items = search rules in
    bounded_same LIMIT g.L.ReadyLine.seen c.args.places.now.places.items _
    (none_at c.args.places.now.places.items c.args.place c.len.result c.index_mut.result.now c.take.new.self n c.if-place-len.false c.index_mut.ensures.value (sym c.take.ensures.value ∙ c.in_default.is) c.take.ensures.after)

pub returns-in_default-clause-silent : goal.returns-in_default-clause-silent
returns-in_default-clause-silent g c =
    let n : c.len.result ≡ length c.args.places.now.places.items = search rules in
    silent-same g.L.ReadyLine.seen c.args.places.now.places.items _
    (none_at c.args.places.now.places.items c.args.place c.len.result c.index_mut.result.now c.take.new.self n c.if-place-len.false c.index_mut.ensures.value (sym c.take.ensures.value ∙ c.in_default.is) c.take.ensures.after)

pub returns-clause-turned : goal.returns-clause-turned
returns-clause-turned g c =
    let n : c.len.result ≡ length c.args.places.now.places.items = search rules in
    turned_at g.L.ReadyLine.seen g.P.SharedPort.steps c.args.places.now.places.items c.args.place c.len.result (g.P.SharedPort.seen c.args.port.now) (g.P.SharedPort.seen c.listen.new.port) c.index_mut.result.now c.take.new.self c.in-Some.connection c.listen.new.connection
    n c.if-place-len.false c.index_mut.ensures.value (sym c.take.ensures.value ∙ c.in-Some.is) c.listen.ensures.turned

pub returns-clause-bounded : goal.returns-clause-bounded
returns-clause-bounded g c =
    let n : c.len.result ≡ length c.args.places.now.places.items = search rules in
    bounded_turned LIMIT g.L.ReadyLine.seen c.args.places.now.places.items c.args.place c.len.result c.index_mut.result.now c.take.new.self c.in-Some.connection c.listen.new.connection
    n c.if-place-len.false c.index_mut.ensures.value (sym c.take.ensures.value ∙ c.in-Some.is) c.listen.ensures.bounded

pub returns-clause-silent : goal.returns-clause-silent
returns-clause-silent g c =
    let n : c.len.result ≡ length c.args.places.now.places.items = search rules in
    silent-at g.L.ReadyLine.seen c.args.places.now.places.items c.args.place c.len.result c.index_mut.result.now c.take.new.self c.in-Some.connection c.listen.new.connection
    n c.if-place-len.false c.index_mut.ensures.value (sym c.take.ensures.value ∙ c.in-Some.is) c.listen.ensures.silent

pub returns-clause-stops : goal.returns-clause-stops
returns-clause-stops g c =
    let n : c.len.result ≡ length c.args.places.now.places.items = search rules in
    stopped_at g.L.ReadyLine.seen c.args.places.now.places.items c.args.place c.len.result c.take.new.self c.listen.new.connection n c.if-place-len.false c.listen.ensures.stops
