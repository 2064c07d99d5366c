use Rattle.std.proofs.Common.{take}
use Rattle.messages.specs.Actors.{opening_home}
use Rattle.running.specs.Asked.{asked_in}
use Rattle.running.specs.Course.{IsWithin, HasCome}
use Rattle.running.proofs.course.has_taken.Given as goal

abbrev pub invariant-loop-place : goal.invariant-loop-place
invariant-loop-place l = record {
  within : IsWithin l.seat l.course;
  come : HasCome l.script.topology (opening_home l.script.topology l.node) l.seat l.course (asked_in l.node (take l.place l.script.events));
}
