use Rattle.std.proofs.Common.{rules, ◌≡◌, ◌∙◌, ◌<◌, [], ◌∷◌, ◌++◌, true, false, length, get_or, set, sym, subst}
use Rattle.std.proofs.lemmas.Bool.{and_parts}
use Rattle.messages.specs.declared.op.Op.{Op}
use Rattle.messages.specs.Topology.{is_session}
use Rattle.messages.specs.declared.event.ActorEvent.TheVariants as event
use Rattle.site.specs.Story.{is_here}
use Rattle.site.specs.Sites.{SiteValue}
use Rattle.site.specs.Turns.{HasDone, IsRefused}
use Rattle.threaded.specs.Machines.{Refuses}
use Rattle.workload.specs.declared.script.ScriptEvent.TheVariants.{Submit}
use Rattle.actors.proofs.Lists.{here}
use Rattle.by_sites.specs.Holds.{Holds}
use Rattle.by_sites.proofs.Keeping.{submitted_at, refused_at, then_ok, same_read}
use Rattle.by_sites.proofs.asking.submit.Goals as goal

pub returns-in-Ok : goal.returns-in-Ok
returns-in-Ok c =
    let top = c.args.topology.now in
    let sites = c.args.sites.now in
    let p = c.from-place.result in
    let d = c.index-sites-place-2.result in
    let n = c.submit.new.self in
    let lt : p < length sites = search rules in
    let at = here sites p d lt c.index-sites-place-2.is in
    let r = c.index-sites-place.result in
    let g = get_or sites p r in
    let both = and_parts (is_session g.top c.args.session) (is_here g.top g.dc c.args.session) (sym c.if-not-has_session.ensures) in
    let its_site = subst (λ (s : SiteValue). is_here s.top s.dc c.args.session ≡ true) (same_read sites p r d lt c.index-sites-place.is c.index-sites-place-2.is) both.1 in
    let done_one = subst (λ (s : SiteValue). HasDone s c.args.session (event.Submit c.in_ok-copy.copy) c.in-Ok.submitted.ended n) (sym c.index-sites-place-2.is) c.in-Ok.ensures.submitted.0 in
    let done_so = subst (λ (o : Op). HasDone d c.args.session (event.Submit o) c.in-Ok.submitted.ended n) c.in_ok-copy.ensures done_one in
    record {
      taken = then_ok c.note.result
          (λ is events holds. subst (λ l. Holds top (events ++ Submit c.args.session c.args.op.now ∷ []) (set sites p n) l []) (sym is)
          (submitted_at top events sites c.args.told.now p d n c.args.session lt at its_site holds c.args.op.now c.in-Ok.submitted.ended done_so))
          c.note.ensures.told;
    }

pub returns-in-Err-2 : goal.returns-in-Err-2
returns-in-Err-2 c =
    let top = c.args.topology.now in
    let sites = c.args.sites.now in
    let p = c.from-place.result in
    let d = c.index-sites-place-2.result in
    let n = c.submit.new.self in
    let fault = c.in-Err.fault in
    let lt : p < length sites = search rules in
    let at = here sites p d lt c.index-sites-place-2.is in
    let r = c.index-sites-place.result in
    let g = get_or sites p r in
    let parts = and_parts (is_session g.top c.args.session) (is_here g.top g.dc c.args.session) (sym c.if-not-has_session.ensures) in
    let its_site = subst (λ (s : SiteValue). is_here s.top s.dc c.args.session ≡ true) (same_read sites p r d lt c.index-sites-place.is c.index-sites-place-2.is) parts.1 in
    let refused_one = subst (λ (s : SiteValue). IsRefused Refuses s c.args.session (event.Submit c.in_ok-copy.copy) fault n) (sym c.index-sites-place-2.is) c.in-Err.ensures.refused in
    let refused_so = subst (λ (o : Op). IsRefused Refuses d c.args.session (event.Submit o) fault n) c.in_ok-copy.ensures refused_one in
    record {
      taken = then_ok c.refuse.result
          (λ is events holds. subst (λ l. Holds top (events ++ Submit c.args.session c.args.op.now ∷ []) (set sites p n) l []) (sym is)
          (refused_at top events sites c.args.told.now p d n c.args.session lt at its_site holds c.args.op.now fault
          (λ ends. let yes_ = c.ends_script.ensures.1 ends in let no : true ≡ false = sym yes_ ∙ c.if-ends_script.false in absurd (cc)) refused_so))
          c.refuse.ensures.told;
    }
