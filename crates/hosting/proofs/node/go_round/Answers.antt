use Rattle.std.proofs.Common.{◌∙◌, ap, sym, inl}
use Rattle.hosting.proofs.Welcoming.{rounded_ok, is_fine}
use Rattle.hosting.proofs.node.go_round.Goals as goal

pub returns-then-is_ok-clause-rounded : goal.returns-then-is_ok-clause-rounded
returns-then-is_ok-clause-rounded g c =
    let fine = is_fine c.round-went.result (sym c.is_ok.ensures.value ∙ c.if-is_ok.true) in
    let begins = c.refuse_batches.ensures ∙ ap (λ b. record c.pass.new.port { behind = b }) c.is_behind.ensures in
    inl (rounded_ok _ g.W.Ways.steps g.W.Ways.behind g.L.ReadyLine.seen g.D.Doorway.steps g.D.Doorway.nobody g.D.Doorway.announces c.args.time c.args.doors.now c.args.port.now c.args.ways.now c.args.marks.now c.pass.new.port c.pass.new.ways c.pass.new.marks
    c.round-went.new.self c.round-went.new.port c.in_ok-pass.ensures.passed c.in_ok-pass.ensures.marked c.refuse_batches.new.self begins c.round-went.ensures.spans c.round-went.result c.welcome.new.doors c.welcome.new.port fine
    c.round-went.ensures.settled c.round-went.ensures.round c.welcome.ensures.same c.welcome.ensures.left c.welcome.ensures.stays)
