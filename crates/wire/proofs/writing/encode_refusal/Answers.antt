use Rattle.std.proofs.Common.{rules}
use Rattle.wire.proofs.writing.encode_refusal.Goals as goal

pub returns : goal.returns
returns c = search rules
