use Rattle.doors.proofs.Spans.{served_lines}
use Rattle.doors.proofs.running.run_lines.Goals as goal

pub returns : goal.returns
returns g c = served_lines g.P.SharedPort.steps c.args.idle c.args.door (g.P.SharedPort.seen c.args.port.now) c.in_ok-doors.doors.door c.in_ok-doors.doors.hall.places.places.items (g.P.SharedPort.seen c.run.new.port) c.in_ok-doors.ensures
