use Rattle.wire.proofs.Streams.{request_apart, reply_apart}
use Rattle.wire.proofs.law.no_spelling_begins_another.Goals as goal

pub returns-clause-requests : goal.returns-clause-requests
returns-clause-requests c = request_apart

pub returns-clause-replies : goal.returns-clause-replies
returns-clause-replies c = reply_apart
