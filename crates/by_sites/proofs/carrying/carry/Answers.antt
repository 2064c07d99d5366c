use Rattle.std.proofs.Common.{◌≡◌, ◌∙◌, Some, refl, sym, ap, subst}
use Rattle.parcels.specs.Spelling.{spelling}
use Rattle.site.specs.Turns.{HasGiven}
use Rattle.site.specs.Sites.{SiteValue}
use Rattle.actors.proofs.Lists.{here}
use Rattle.by_sites.proofs.Keeping.{carried, none_given, read_again}
use Rattle.by_sites.proofs.carrying.carry.Goals as goal

pub returns-in_default-clause-rest : goal.returns-in_default-clause-rest
returns-in_default-clause-rest c =
    let sites = c.args.sites.now in
    let p = c.args.place in
    let d = c.index-sites-place.result in
    let at = here sites p d c.requires c.index-sites-place.is in
    let gave = subst (λ (s : SiteValue). HasGiven s c.in_ok-envelope.field-0 c.give.new.self) (sym c.index-sites-place.is) c.in_ok-envelope.ensures.given in
    λ no. none_given sites p d c.give.new.self c.in_ok-envelope.field-0 c.requires at c.in_default.is gave

pub returns-clause-on : goal.returns-clause-on
returns-clause-on c =
    let sites = c.args.sites.now in
    let p = c.args.place in
    let d = c.index-sites-place.result in
    let n = c.give.new.self in
    let e = c.in-Some.envelope in
    let at = here sites p d c.requires c.index-sites-place.is in
    let gave = subst (λ (s : SiteValue). HasGiven s c.in_ok-envelope.field-0 n) (sym c.index-sites-place.is) c.in_ok-envelope.ensures.given in
    let given_one = subst (λ o. HasGiven d o n) c.in-Some.is gave in
    let again : c.index-sites-place-2.result ≡ n = read_again sites p n c.index-sites-place-2.result c.requires c.index-sites-place-2.is in
    let from_is : c.dc-from.result ≡ n.dc = c.dc-from.ensures.value ∙ ap (λ (s : SiteValue). s.dc) (sym c.index-sites-place-2.is ∙ again) in
    let spelled : spelling e ≡ Some c.deref.result.now = c.in_ok-parcel.ensures.ok ∙ ap Some (sym c.deref.ensures.value) in
    λ entries events holds. carried c.args.topology.now events sites entries p d c.requires at holds n e c.deref.result.now _ c.bring.new.sites c.dc-from.result c.from-to.result
    c.what_is_spelled_is_read.ensures given_one refl spelled from_is c.in_ok-bring.ensures.come
