use Rattle.std.proofs.Common.{take}
use Rattle.by_sites.specs.Holds.{HasTaken}
use Rattle.by_sites.proofs.running.take_all.Given as goal

abbrev pub invariant-loop-place : goal.invariant-loop-place
invariant-loop-place l = HasTaken l.script.topology (take l.place l.script.events) l.fn.sites l.fn.told l.sites l.told
