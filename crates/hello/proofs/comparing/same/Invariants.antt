use Rattle.hello.proofs.Gathered.{IsSameTo}
use Rattle.hello.proofs.comparing.same.Given as goal

abbrev pub invariant-loop-i : goal.invariant-loop-i
invariant-loop-i l = IsSameTo l.a l.b l.i l.differs
