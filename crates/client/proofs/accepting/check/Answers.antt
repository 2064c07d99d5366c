use Rattle.std.proofs.Common.{rules}
use Rattle.client.proofs.accepting.check.Goals as goal

pub returns-then-not-is_idle : goal.returns-then-not-is_idle
returns-then-not-is_idle c = search rules
