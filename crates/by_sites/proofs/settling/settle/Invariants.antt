use Rattle.by_sites.specs.Holds.{GoesOn}
use Rattle.by_sites.proofs.settling.settle.Given as goal

abbrev pub invariant-loop-round : goal.invariant-loop-round
invariant-loop-round l = GoesOn l.topology l.fn.sites l.fn.told l.sites l.told
