use Rattle.std.proofs.Common.{rules, ◌≡◌, ◌<◌, [], ◌∷◌, ◌++◌, true, length, set, refl, sym, subst}
use Rattle.messages.specs.declared.event.ActorEvent.TheVariants as event
use Rattle.site.specs.Story.{is_here}
use Rattle.site.specs.Sites.{SiteValue}
use Rattle.site.specs.Turns.{HasDone}
use Rattle.workload.specs.declared.script.ScriptEvent.TheVariants.{Collect}
use Rattle.actors.proofs.Lists.{here}
use Rattle.by_sites.specs.Holds.{Holds}
use Rattle.by_sites.proofs.Keeping.{collected_at, then_ok, same_read}
use Rattle.by_sites.proofs.asking.collect.Goals as goal

pub returns : goal.returns
returns c =
    let top = c.args.topology.now in
    let sites = c.args.sites.now in
    let p = c.from-place.result in
    let d = c.index-sites-place-2.result in
    let n = c.collect.new.self in
    let lt : p < length sites = search rules in
    let at = here sites p d lt c.index-sites-place-2.is in
    let r = c.index-sites-place.result in
    let its_site = subst (λ (s : SiteValue). is_here s.top s.dc c.args.shard ≡ true) (same_read sites p r d lt c.index-sites-place.is c.index-sites-place-2.is) (c.if-not-has_shard.ensures.here refl) in
    let done_so = subst (λ (s : SiteValue). HasDone s c.args.shard (event.Collect c.args.time) c.in_ok-ended.ended n) (sym c.index-sites-place-2.is) c.in_ok-ended.ensures.collected in
    record {
      taken = then_ok c.note.result
          (λ is events holds. subst (λ l. Holds top (events ++ Collect c.args.shard c.args.time ∷ []) (set sites p n) l []) (sym is)
          (collected_at top events sites c.args.told.now p d n c.args.shard lt at its_site holds c.args.time c.in_ok-ended.ended done_so))
          c.note.ensures.told;
    }
