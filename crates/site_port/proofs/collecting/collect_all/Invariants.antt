use Rattle.std.proofs.Common.{◌≡◌, true}
use Rattle.site_port.specs.Port.{StaysKept}
use Rattle.site_port.proofs.Collections.{AreCollected}
use Rattle.site_port.proofs.collecting.collect_all.Given as goal

-- the shards so far collected, or stayed
abbrev pub invariant-loop-shard : goal.invariant-loop-shard
invariant-loop-shard g l = record {
  collected : AreCollected l.times l.shard l.fn.site.site l.site.site l.fn.late.items l.late.items;
  sound : l.fn.site.site.sound ≡ true → l.site.site.sound ≡ true;
  kept : StaysKept l.fn.site l.site;
}
