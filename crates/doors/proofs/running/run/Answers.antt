use Rattle.std.proofs.Common.{subst}
use Rattle.doors.specs.Runs.{HasServed}
use Rattle.doors.proofs.Spans.{served}
use Rattle.doors.proofs.running.run.Goals as goal

pub returns : goal.returns
returns g c =
    let left = c.rounds.new.self in
    subst (λ (d : g.row.D.Denot). HasServed g.L.ReadyLine.seen g.P.SharedPort.steps g.D.Doorway.steps c.args.idle d (g.P.SharedPort.seen c.args.port.now) left.door left.hall.places.places.items (g.P.SharedPort.seen c.rounds.new.port)) c.in_ok-doors.ensures.door
    (served g.L.ReadyLine.seen g.P.SharedPort.steps g.D.Doorway.steps c.args.idle c.in_ok-doors.doors.door c.in_ok-doors.doors.hall.places.places.items (g.P.SharedPort.seen c.args.port.now) left.door left.hall.places.places.items (g.P.SharedPort.seen c.rounds.new.port) c.in_ok-doors.ensures.free c.rounds.ensures.spans)
