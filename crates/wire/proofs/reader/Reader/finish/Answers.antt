use Rattle.std.proofs.Common.{rules}
use Rattle.wire.proofs.reader.Reader.finish.Goals as goal

pub returns-clause-fault : goal.returns-clause-fault
returns-clause-fault c = search rules

pub returns-clause-kept : goal.returns-clause-kept
returns-clause-kept c = search rules
