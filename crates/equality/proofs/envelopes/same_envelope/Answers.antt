use Rattle.std.proofs.Common.{rules}
use Rattle.equality.proofs.envelopes.same_envelope.Goals as goal

pub returns-then-eq-3 : goal.returns-then-eq-3
returns-then-eq-3 c = search rules
