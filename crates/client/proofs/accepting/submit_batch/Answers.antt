use Rattle.std.proofs.Common.{arith}
use Rattle.client.proofs.Planned.{posted_batch}
use Rattle.client.proofs.Ascending.{cohorts_ascend}
use Rattle.client.proofs.accepting.submit_batch.Goals as goal

pub returns-clause-sends : goal.returns-clause-sends
returns-clause-sends c = grind (arith, posted_batch)

pub post_writes-requires-clause-ascend : goal.post_writes-requires-clause-ascend
post_writes-requires-clause-ascend c = cohorts_ascend c.shards.result c.args.batch.now _ c.in_ok-plan.ensures.cohorts
