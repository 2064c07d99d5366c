use Rattle.std.proofs.Common.{◌≡◌, ◌∙◌, ◌+◌, ◌*◌, ◌<◌, true, ap, subst, sym}
use Rattle.messages.specs.Home.{HomeValue}
use Rattle.messages.specs.Topology.{TopologyValue, shard_node}
use Rattle.site.specs.Story.{is_here}
use Rattle.site_port.proofs.Places.{shard_here}
use Rattle.site_port.proofs.collecting.node_of.Goals as goal

pub returns-clause-here : goal.returns-clause-here
returns-clause-here g c =
    let site = c.args.site.now.site in
    let shard = c.in-Some.shard in
    let at : c.node_of.result ≡ shard_node site.top site.dc c.args.shard =
    c.node_of.ensures
    ∙ (ap (λ (h : HomeValue). h.dc * h.shards + shard) c.home-home.ensures
    ∙ (ap (λ d. d * c.topology.result.now.shards + shard) c.dc.ensures.value
    ∙ (ap (λ (t : TopologyValue). site.dc * t.shards + shard) c.topology.ensures.value ∙ ap (λ s. site.dc * site.top.shards + s) c.in-Some.ensures.1))) in
    let there = subst (λ d. d < site.top.dcs) c.dc.ensures.value c.dc.ensures.there in
    subst (λ n. is_here site.top site.dc n ≡ true) (sym at) (shard_here site.top site.dc c.args.shard there c.requires)
