use Rattle.wire.proofs.Streams.{spelling_read}
use Rattle.wire.proofs.law.what_is_spelled_is_read.Goals as goal

pub returns : goal.returns
returns c = spelling_read
