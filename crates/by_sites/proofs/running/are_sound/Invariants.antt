use Rattle.by_sites.specs.Sites.{AreSound}
use Rattle.by_sites.proofs.running.are_sound.Given as goal

abbrev pub invariant-loop-place : goal.invariant-loop-place
invariant-loop-place l = AreSound l.place l.sites
