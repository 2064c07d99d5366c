use Rattle.peers.proofs.Streams.{frame_read, part_waits, long_is_seen}
use Rattle.peers.proofs.law.frames_are_read.Goals as goal

pub returns-clause-read : goal.returns-clause-read
returns-clause-read c = λ most body rest le fits. frame_read most body rest le fits

pub returns-clause-part : goal.returns-clause-part
returns-clause-part c = λ most body k le fits lt. part_waits most body k le fits lt

pub returns-clause-too_long : goal.returns-clause-too_long
returns-clause-too_long c = λ most body rest k above fits le. long_is_seen most body rest k above fits le
