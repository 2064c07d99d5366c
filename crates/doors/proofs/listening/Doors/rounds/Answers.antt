use Rattle.std.proofs.Common.{◌∙◌, refl}
use Rattle.doors.proofs.Spans.{spans_none, spans_next}
use Rattle.doors.proofs.listening.Doors.rounds.Goals as goal

pub loop-time-init : goal.loop-time-init
loop-time-init g c = record { spans = spans_none g.L.ReadyLine.seen g.P.SharedPort.steps g.D.Doorway.steps c.args.self.now.idle c.args.self.now.door c.args.self.now.hall.places.places.items (g.P.SharedPort.seen c.args.port.now); sound = λ h. h; count = refl; borne = refl }

pub loop-time-preserved : goal.loop-time-preserved
loop-time-preserved g c = record {
  spans = spans_next g.L.ReadyLine.seen g.P.SharedPort.steps g.D.Doorway.steps c.args.self.now.idle c.args.self.now.door c.args.self.now.hall.places.places.items (g.P.SharedPort.seen c.args.port.now) c.loop-time.self.idle c.loop-time.self.door c.loop-time.self.hall.places.places.items (g.P.SharedPort.seen c.loop-time.port) c.round.new.self.door c.round.new.self.hall.places.places.items (g.P.SharedPort.seen c.round.new.port) c.loop-time.invariant.borne c.loop-time.invariant.spans c.round.ensures.spans;
  sound = λ h. c.in_ok-round.ensures.sound (c.loop-time.invariant.sound h);
  count = c.round.ensures.count ∙ c.loop-time.invariant.count;
  borne = c.round.ensures.borne ∙ c.loop-time.invariant.borne;
}

pub returns-in_err-round-clause-spans : goal.returns-in_err-round-clause-spans
returns-in_err-round-clause-spans g c = spans_next g.L.ReadyLine.seen g.P.SharedPort.steps g.D.Doorway.steps c.args.self.now.idle c.args.self.now.door c.args.self.now.hall.places.places.items (g.P.SharedPort.seen c.args.port.now) c.loop-time.self.idle c.loop-time.self.door c.loop-time.self.hall.places.places.items (g.P.SharedPort.seen c.loop-time.port) c.round.new.self.door c.round.new.self.hall.places.places.items (g.P.SharedPort.seen c.round.new.port) c.loop-time.invariant.borne c.loop-time.invariant.spans c.round.ensures.spans

pub returns-in_err-round-clause-count : goal.returns-in_err-round-clause-count
returns-in_err-round-clause-count g c = c.round.ensures.count ∙ c.loop-time.invariant.count

pub returns-in_err-round-clause-borne : goal.returns-in_err-round-clause-borne
returns-in_err-round-clause-borne g c = c.round.ensures.borne ∙ c.loop-time.invariant.borne
