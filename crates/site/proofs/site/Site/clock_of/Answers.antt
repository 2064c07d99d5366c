use Rattle.std.proofs.Common.{◌≡◌, ◌∙◌, true, slice_get, Some, ap, subst, sym}
use Rattle.site.specs.Story.{is_here}
use Rattle.site.specs.Sites.{SiteValue}
use Rattle.site.specs.Turns.{clock_in}
use Rattle.site.proofs.Doing.{at_place}
use Rattle.site.proofs.site.Site.clock_of.Goals as goal

pub returns : goal.returns
returns g c =
    let k = c.self.inside.kept in
    let here = subst (λ (v : SiteValue). is_here v.top v.dc c.args.node ≡ true) (sym c.self.view_is) c.requires in
    let there = c.self.invariant.now.all c.args.node here in
    let place = c.from.ensures ∙ c.get.ensures in
    let at = at_place k.members.items c.from.result c.index.result.now (Some there.0) (ap (λ n. slice_get k.members.items n) place ∙ there.1) c.index.ensures ∙ ap Some c.in-Some.is in
    let is = c.self.invariant.now.each c.args.node c.in-Some.member (ap (λ n. slice_get k.members.items n) (sym place) ∙ at) in
    is.1.1.clocked ∙ ap (λ (v : SiteValue). clock_in v.story c.args.node) c.self.view_is
