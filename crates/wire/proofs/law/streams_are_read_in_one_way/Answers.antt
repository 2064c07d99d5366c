use Rattle.wire.proofs.Streams.{one_way, reader_stopped}
use Rattle.wire.proofs.law.streams_are_read_in_one_way.Goals as goal

pub returns-clause-one_way : goal.returns-clause-one_way
returns-clause-one_way c = one_way

pub returns-clause-reader : goal.returns-clause-reader
returns-clause-reader c = reader_stopped
