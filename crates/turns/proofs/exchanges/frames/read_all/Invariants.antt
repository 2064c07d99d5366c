use Rattle.std.proofs.Common.{length}
use Rattle.turns.proofs.exchanges.frames.read_all.Given as goal

abbrev pub decreases-loop-op : goal.decreases-loop-op
decreases-loop-op l = length l.reader.held
