use Rattle.client.proofs.Ascending.{all_below, one_more}
use Rattle.client.proofs.envelopes.shards_of.Goals as goal

pub with-cohorts-requires : goal.with-cohorts-requires
with-cohorts-requires c = all_below c.args.parts.now c.loop-part.part-index c.part-item.result c.part-item.is c.loop-part-test.true c.loop-part.cohorts c.loop-part.invariant c.requires

pub loop-part-preserved : goal.loop-part-preserved
loop-part-preserved c =
    one_more c.args.parts.now c.loop-part.part-index c.part-item.result c.part-item.is c.loop-part-test.true c.loop-part.cohorts c.loop-part.invariant _ c.with-cohorts.ensures
