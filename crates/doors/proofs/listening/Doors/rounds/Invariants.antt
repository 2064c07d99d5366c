use Rattle.std.proofs.Common.{◌≡◌, length}
use Rattle.doors.specs.Rounds.{IsSound}
use Rattle.doors.specs.Spans.{Spans}
use Rattle.doors.proofs.listening.Doors.rounds.Given as goal

abbrev pub invariant-loop-time : goal.invariant-loop-time
invariant-loop-time g l = record {
  spans : Spans g.L.ReadyLine.seen g.P.SharedPort.steps g.D.Doorway.steps l.fn.self.idle l.fn.self.door l.fn.self.hall.places.places.items (g.P.SharedPort.seen l.fn.port) l.self.door l.self.hall.places.places.items (g.P.SharedPort.seen l.port);
  sound : IsSound g.L.ReadyLine.seen g.D.Doorway.nobody l.fn.self → IsSound g.L.ReadyLine.seen g.D.Doorway.nobody l.self;
  count : length l.self.hall.places.places.items ≡ length l.fn.self.hall.places.places.items;
  borne : l.self.idle ≡ l.fn.self.idle;
}
