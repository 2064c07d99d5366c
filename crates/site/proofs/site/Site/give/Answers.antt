use Rattle.std.proofs.Common.{◌≡◌, ◌++◌, ◌∷◌, ap, subst}
use Rattle.site.specs.Story.{Given, departures, given}
use Rattle.site.specs.Sites.{SiteValue}
use Rattle.site.proofs.Values.{value, value_goes, keeps_sorted, keeps_given, gives_first, gave_all, none_there}
use Rattle.site.proofs.site.Site.give.Goals as goal

pub invariant_of-self-in-Some : goal.invariant_of-self-in-Some
invariant_of-self-in-Some g c =
    let s = c.self.inside in
    let k = s.kept in
    let t = c.sort.new.self in
    let f = c.sort.ensures.fixed in
    let sorted = keeps_sorted g.M.Machine.came_from g.M.Machine.untaken k.topology t.topology k.dc t.dc s.sound s.past k.members.items t.members.items k.inbox.items k.outgoing.items k.fresh.sent t.inbox.items t.outgoing.items t.fresh.sent f.0 f.1 (ap (λ v. v.items) f.2) c.self.invariant c.sort.ensures.kept in
    keeps_given g.M.Machine.came_from g.M.Machine.untaken t.topology t.dc s.sound s.past c.add_gift.new.self t.members.items t.inbox.items t.outgoing.items t.fresh.sent c.pop_front.new.self.items c.in-Some.envelope
    c.in_ok-sort.ensures.empty c.in-Some.ensures.items c.add_gift.ensures sorted

pub returns-in-Some-clause-given : goal.returns-in-Some-clause-given
returns-in-Some-clause-given g c =
    let s = c.self.inside in
    let k = s.kept in
    let t = c.sort.new.self in
    let f = c.sort.ensures.fixed in
    let sorted = keeps_sorted g.M.Machine.came_from g.M.Machine.untaken k.topology t.topology k.dc t.dc s.sound s.past k.members.items t.members.items k.inbox.items k.outgoing.items k.fresh.sent t.inbox.items t.outgoing.items t.fresh.sent f.0 f.1 (ap (λ v. v.items) f.2) c.self.invariant c.sort.ensures.kept in
    let is = value t.topology k.topology t.dc k.dc s.sound s.past c.args.self.now f.0 f.1 c.self.view_is in
    let first = gives_first g.M.Machine.came_from g.M.Machine.untaken t.topology t.dc s.past t.members.items t.inbox.items t.outgoing.items t.fresh.sent c.pop_front.new.self.items c.in-Some.envelope c.in_ok-sort.ensures.empty c.in-Some.ensures.items sorted.now in (
      c.pop_front.new.self.items,
      subst (λ (v : SiteValue). departures v.top v.dc v.story ≡ given v.story ++ c.in-Some.envelope ∷ c.pop_front.new.self.items) is first,
      value_goes t.topology t.dc s.sound s.past c.add_gift.new.self (Given c.in-Some.envelope) c.args.self.now is c.add_gift.ensures,
    )

pub returns-in-None-clause-given : goal.returns-in-None-clause-given
returns-in-None-clause-given g c =
    let s = c.self.inside in
    let k = s.kept in
    let t = c.sort.new.self in
    let f = c.sort.ensures.fixed in
    let sorted = keeps_sorted g.M.Machine.came_from g.M.Machine.untaken k.topology t.topology k.dc t.dc s.sound s.past k.members.items t.members.items k.inbox.items k.outgoing.items k.fresh.sent t.inbox.items t.outgoing.items t.fresh.sent f.0 f.1 (ap (λ v. v.items) f.2) c.self.invariant c.sort.ensures.kept in
    let is = value t.topology k.topology t.dc k.dc s.sound s.past c.args.self.now f.0 f.1 c.self.view_is in
    let all = gave_all g.M.Machine.came_from g.M.Machine.untaken t.topology t.dc s.past t.members.items t.inbox.items t.outgoing.items t.fresh.sent c.in_ok-sort.ensures.empty (none_there t.outgoing.items c.pop_front.new.self.items c.in-None.ensures.items c.pop_front.ensures.rest) sorted.now in
    (is, subst (λ (v : SiteValue). given v.story ≡ departures v.top v.dc v.story) is all)
