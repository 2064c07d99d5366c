use Rattle.shard.proofs.worked.Refuted.{marks, exclusions, times_of_reads, stamps}
use Rattle.shard.proofs.lookalikes.shards_need_honest_envelopes.Goals as goal

pub returns-clause-marks : goal.returns-clause-marks
returns-clause-marks c = marks

pub returns-clause-exclusions : goal.returns-clause-exclusions
returns-clause-exclusions c = exclusions

pub returns-clause-times_of_reads : goal.returns-clause-times_of_reads
returns-clause-times_of_reads c = times_of_reads

pub returns-clause-stamps : goal.returns-clause-stamps
returns-clause-stamps c = stamps
