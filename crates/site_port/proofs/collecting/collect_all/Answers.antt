use Rattle.std.proofs.Common.{◌≡◌, ◌∙◌, ◌<◌, refl, ap, subst}
use Rattle.messages.specs.Topology.{TopologyValue}
use Rattle.site_port.proofs.Staying.{stays_then}
use Rattle.std.proofs.lemmas.Result.{err_from_is_err_and}
use Rattle.site_port.proofs.Collections.{none_yet, next_shard, broken_off, sound_still}
use Rattle.site_port.proofs.collecting.collect_all.Goals as goal

pub loop-shard-init : goal.loop-shard-init
loop-shard-init g c = record { collected = none_yet c.args.times.now c.args.site.now.site c.args.late.now.items; sound = λ q. q; kept = (refl, refl) }

pub loop-shard-preserved : goal.loop-shard-preserved
loop-shard-preserved g c =
    let count : c.get-shard-end.result ≡ c.args.site.now.site.top.shards = c.get-shard-end.ensures.value ∙ (c.shards.ensures.value ∙ ap (λ (t : TopologyValue). t.shards) c.topology.ensures.value) in
    let within = subst (λ n. c.loop-shard.shard < n) count c.loop-shard-test.true in
    let went = c.in_ok-collect_one.ensures.collected in
    record {
      collected = next_shard c.args.times.now c.loop-shard.shard c.args.site.now.site c.loop-shard.site.site c.args.late.now.items c.loop-shard.late.items c.loop-shard.invariant.collected within c.collect_one.new.site.site c.collect_one.new.late.items went;
      sound = λ q. sound_still c.loop-shard.shard c.args.times.now c.loop-shard.site.site c.collect_one.new.site.site c.loop-shard.late.items c.collect_one.new.late.items went (c.loop-shard.invariant.sound q);
      kept = stays_then c.args.site.now c.loop-shard.site c.collect_one.new.site c.loop-shard.invariant.kept c.collect_one.ensures.kept;
    }

pub returns-in_err-collect_one-clause-broken : goal.returns-in_err-collect_one-clause-broken
returns-in_err-collect_one-clause-broken g c =
    let p = err_from_is_err_and c.from_residual.result c.from_residual.ensures.1 in
    let count : c.get-shard-end.result ≡ c.args.site.now.site.top.shards = c.get-shard-end.ensures.value ∙ (c.shards.ensures.value ∙ ap (λ (t : TopologyValue). t.shards) c.topology.ensures.value) in
    let within = subst (λ n. c.loop-shard.shard < n) count c.loop-shard-test.true in
    rw p.1
    (broken_off c.args.times.now c.loop-shard.shard c.args.site.now.site c.loop-shard.site.site c.args.late.now.items c.loop-shard.late.items c.loop-shard.invariant.collected within
    c.collect_one.new.site.site c.collect_one.new.late.items c.in_err-collect_one.ensures.broken c.in_err-collect_one.ensures.same)
