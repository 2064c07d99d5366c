-- In whatever data centre a write is decided, each write before it is decided with a smaller commit time and stamp.
use Rattle.std.proofs.Common.{◌<◌, List, subst}
use Rattle.messages.specs.Topology.{TopologyValue, shard_node}
use Rattle.messages.proofs.Numbering.{dc_of_shard}
use Rattle.world.specs.Run.{RunEvent, run}
use Rattle.world.specs.Causes.{PastsAreDecided}
use Rattle.world.proofs.safety.Facts.{IsDone}
use Rattle.world.proofs.causal.CausalRuns.{every_causal}
use Rattle.world.proofs.histories.Entries.{decided_by_one}
use Rattle.world.proofs.causal.Pasts.{past_reached}
use Rattle.world.proofs.safety.Runs.{every_run}
use Rattle.world.proofs.promised.Laws.{rests, committed, done_here, stamps_follow_causes}

pub pasts_are_decided : (top : TopologyValue) (events : List RunEvent) → 0 < top.shards → PastsAreDecided top (run top events)
pasts_are_decided top events some u v dc e past has same =
    let w = run top events in
    let inv = every_run top events some in
    let r = past_reached top w some inv (every_causal top events some) (rests top some w inv) (committed top some w inv) u v past in
    let at = decided_by_one top w dc e has in
    let done : IsDone top w dc u e.commit =
    subst (λ z. IsDone top w z u e.commit) (dc_of_shard top dc at.0 at.1) (r.write (shard_node top dc at.0) e at.2 same) in
    let here = done_here top some w inv dc e.commit u done in
    record {
      decision = done.decision;
      decided = here;
      txn = done.txn;
      commit = done.commit;
      stamp = stamps_follow_causes top events some u v dc dc done.decision e past here done.txn has same;
    }
