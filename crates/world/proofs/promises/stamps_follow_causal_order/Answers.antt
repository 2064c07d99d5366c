use Rattle.world.proofs.promised.Laws.{stamps_follow_causes}
use Rattle.world.proofs.causal.PastsDecided.{pasts_are_decided}
use Rattle.world.proofs.promises.stamps_follow_causal_order.Goals as goal

pub returns-clause-stamps : goal.returns-clause-stamps
returns-clause-stamps c = stamps_follow_causes

pub returns-clause-there : goal.returns-clause-there
returns-clause-there c = pasts_are_decided
