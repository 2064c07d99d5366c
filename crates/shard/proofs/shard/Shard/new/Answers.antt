use Rattle.shard.specs.declared.kept.ShardKept.{ShardKept}
use Rattle.shard.proofs.in_code.ShardSteps.{opens}
use Rattle.shard.proofs.shard.Shard.new.Goals as goal

pub returns-clause-state : goal.returns-clause-state
returns-clause-state c =
    let k : ShardKept = record {
      alloc = c.args.alloc;
      place = c.in_ok-place.place;
      clock = c.new-2.result;
      transactions = c.new-3.result;
      notices = c.new-4.result;
      askers = c.new-5.result;
      waiting = c.new-6.result;
    } in
    let empty = c.new-3.ensures in
    opens c.args.topology.now c.args.node k c.in_ok-place.ensures.place c.new-2.ensures empty.unknown empty.keeps empty.low empty.early c.new-4.ensures c.new-5.ensures c.new-6.ensures
