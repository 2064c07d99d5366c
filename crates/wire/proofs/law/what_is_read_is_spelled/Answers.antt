use Rattle.wire.proofs.Streams.{read_within, read_spelled}
use Rattle.wire.proofs.law.what_is_read_is_spelled.Goals as goal

pub returns-clause-within : goal.returns-clause-within
returns-clause-within c = read_within

pub returns-clause-spelled : goal.returns-clause-spelled
returns-clause-spelled c = read_spelled
