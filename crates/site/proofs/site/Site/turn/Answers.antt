use Rattle.std.proofs.Common.{◌≡◌, ◌∙◌, ◌++◌, [], List, true, rules, ap, sym, subst}
use Rattle.std.specs.Prelude.{option_to_list}
use Rattle.messages.specs.declared.envelope.Envelope.{Envelope}
use Rattle.messages.specs.declared.event.ActorEvent.{ActorEvent}
use Rattle.messages.specs.declared.event.ActorEvent.TheVariants.{Handle}
use Rattle.messages.specs.Actors.{envelope_of}
use Rattle.site.specs.Story.{arrivals, handled}
use Rattle.site.specs.Sites.{SiteValue}
use Rattle.site.specs.Keeping.{AreOf}
use Rattle.site.proofs.Values.{value, keeps_sorted, keeps_event, keeps_refused, handled_all, none_there, first_near, waits_first}
use Rattle.site.proofs.Told.{turned, broken, refused}
use Rattle.site.proofs.site.Site.turn.Goals as goal

pub returns-in_default-clause-turned : goal.returns-in_default-clause-turned
returns-in_default-clause-turned g c =
    let s = c.self.inside in
    let k = s.kept in
    let t = c.sort.new.self in
    let f = c.sort.ensures.fixed in
    let sorted = keeps_sorted g.M.Machine.came_from g.M.Machine.untaken k.topology t.topology k.dc t.dc s.sound s.past k.members.items t.members.items k.inbox.items k.outgoing.items k.fresh.sent t.inbox.items t.outgoing.items t.fresh.sent f.0 f.1 (ap (λ v. v.items) f.2) c.self.invariant c.sort.ensures.kept in
    let is = value t.topology k.topology t.dc k.dc s.sound s.past c.args.self.now f.0 f.1 c.self.view_is in
    let all = handled_all g.M.Machine.came_from g.M.Machine.untaken t.topology t.dc s.past t.members.items t.inbox.items t.outgoing.items t.fresh.sent c.in_ok-sort.ensures.empty (none_there t.inbox.items c.pop_front.new.self.items c.in_default.ensures.items c.pop_front.ensures.rest) sorted.now in
    (is, subst (λ (v : SiteValue). handled v.story ≡ arrivals v.top v.dc v.story) is all)

pub happen-requires-clause-here : goal.happen-requires-clause-here
happen-requires-clause-here g c =
    let s = c.self.inside in
    let k = s.kept in
    let t = c.sort.new.self in
    let f = c.sort.ensures.fixed in
    let sorted = keeps_sorted g.M.Machine.came_from g.M.Machine.untaken k.topology t.topology k.dc t.dc s.sound s.past k.members.items t.members.items k.inbox.items k.outgoing.items k.fresh.sent t.inbox.items t.outgoing.items t.fresh.sent f.0 f.1 (ap (λ v. v.items) f.2) c.self.invariant c.sort.ensures.kept in
    first_near g.M.Machine.came_from g.M.Machine.untaken t.topology t.dc s.sound s.past t.members.items t.inbox.items t.outgoing.items t.fresh.sent c.pop_front.new.self.items c.in-Some.envelope c.in_ok-sort.ensures.empty c.in-Some.ensures.items sorted

pub returns-then-not-happened-clause-refused : goal.returns-then-not-happened-clause-refused
returns-then-not-happened-clause-refused g c =
    let s = c.self.inside in
    let k = s.kept in
    let t = c.sort.new.self in
    let f = c.sort.ensures.fixed in
    let sorted = keeps_sorted g.M.Machine.came_from g.M.Machine.untaken k.topology t.topology k.dc t.dc s.sound s.past k.members.items t.members.items k.inbox.items k.outgoing.items k.fresh.sent t.inbox.items t.outgoing.items t.fresh.sent f.0 f.1 (ap (λ v. v.items) f.2) c.self.invariant c.sort.ensures.kept in
    let is = value t.topology k.topology t.dc k.dc s.sound s.past c.args.self.now f.0 f.1 c.self.view_is in
    let n = c.happen.new.self in
    let q = c.happen.ensures.queues in
    let was : s.sound ≡ true = search rules in
    let first = waits_first g.M.Machine.came_from g.M.Machine.untaken t.topology t.dc s.past t.members.items t.inbox.items t.outgoing.items t.fresh.sent c.pop_front.new.self.items c.in-Some.envelope c.in_ok-sort.ensures.empty c.in-Some.ensures.items sorted.now in
    broken n.topology t.topology n.dc t.dc s.sound s.past c.args.self.now q.0 q.1 is was c.in-Some.envelope c.pop_front.new.self.items first c.in-Ok.happened.sound c.happen.new.past n.fresh.sent c.in-Ok.happened.ended c.in-Ok.ensures.told c.in-Ok.ensures.sound g.M.Machine.refuses (search rules)

pub invariant_of-self-in-Ok : goal.invariant_of-self-in-Ok
invariant_of-self-in-Ok g c =
    let s = c.self.inside in
    let k = s.kept in
    let t = c.sort.new.self in
    let f = c.sort.ensures.fixed in
    let sorted = keeps_sorted g.M.Machine.came_from g.M.Machine.untaken k.topology t.topology k.dc t.dc s.sound s.past k.members.items t.members.items k.inbox.items k.outgoing.items k.fresh.sent t.inbox.items t.outgoing.items t.fresh.sent f.0 f.1 (ap (λ v. v.items) f.2) c.self.invariant c.sort.ensures.kept in
    let n = c.happen.new.self in
    let q = c.happen.ensures.queues in
    let was : s.sound ≡ true = search rules in
    keeps_event g.M.Machine.came_from g.M.Machine.untaken t.topology n.topology t.dc n.dc s.sound c.in-Ok.happened.sound s.past c.happen.new.past t.members.items n.members.items t.inbox.items t.outgoing.items t.fresh.sent n.inbox.items n.outgoing.items n.fresh.sent
    q.0 q.1 was sorted c.in-Ok.ensures.story c.in-Ok.ensures.goes c.in-Ok.ensures.sounds

pub invariant_of-self-in-Err : goal.invariant_of-self-in-Err
invariant_of-self-in-Err g c =
    let s = c.self.inside in
    let k = s.kept in
    let t = c.sort.new.self in
    let f = c.sort.ensures.fixed in
    let sorted = keeps_sorted g.M.Machine.came_from g.M.Machine.untaken k.topology t.topology k.dc t.dc s.sound s.past k.members.items t.members.items k.inbox.items k.outgoing.items k.fresh.sent t.inbox.items t.outgoing.items t.fresh.sent f.0 f.1 (ap (λ v. v.items) f.2) c.self.invariant c.sort.ensures.kept in
    let n = c.happen.new.self in
    let q = c.happen.ensures.queues in
    let back : c.put_back.new.inbox.items ≡ option_to_list (envelope_of (Handle c.in-Some.envelope)) ++ n.inbox.items =
    c.put_back.ensures ∙ ap (λ (x : ActorEvent). option_to_list (envelope_of x) ++ n.inbox.items) c.in-Err.ensures.back in
    let now = subst (λ (l : List Envelope). AreOf g.M.Machine.came_from g.M.Machine.untaken n.topology n.dc c.happen.new.past n.members.items l n.outgoing.items []) (sym back) c.in-Err.ensures.stays in
    keeps_refused g.M.Machine.came_from g.M.Machine.untaken t.topology n.topology t.dc n.dc s.sound s.past c.happen.new.past t.members.items n.members.items t.inbox.items t.outgoing.items t.fresh.sent c.put_back.new.inbox.items n.outgoing.items n.fresh.sent
    q.0 q.1 c.in-Err.ensures.untold sorted
    (subst (λ (l : List Envelope). AreOf g.M.Machine.came_from g.M.Machine.untaken n.topology n.dc c.happen.new.past n.members.items c.put_back.new.inbox.items n.outgoing.items l) (sym c.in-Err.ensures.unsent) now) c.in-Err.ensures.still

pub returns-else-not-happened-clause-turned : goal.returns-else-not-happened-clause-turned
returns-else-not-happened-clause-turned g c =
    let s = c.self.inside in
    let k = s.kept in
    let t = c.sort.new.self in
    let f = c.sort.ensures.fixed in
    let sorted = keeps_sorted g.M.Machine.came_from g.M.Machine.untaken k.topology t.topology k.dc t.dc s.sound s.past k.members.items t.members.items k.inbox.items k.outgoing.items k.fresh.sent t.inbox.items t.outgoing.items t.fresh.sent f.0 f.1 (ap (λ v. v.items) f.2) c.self.invariant c.sort.ensures.kept in
    let is = value t.topology k.topology t.dc k.dc s.sound s.past c.args.self.now f.0 f.1 c.self.view_is in
    let n = c.happen.new.self in
    let q = c.happen.ensures.queues in
    let was : s.sound ≡ true = search rules in
    let first = waits_first g.M.Machine.came_from g.M.Machine.untaken t.topology t.dc s.past t.members.items t.inbox.items t.outgoing.items t.fresh.sent c.pop_front.new.self.items c.in-Some.envelope c.in_ok-sort.ensures.empty c.in-Some.ensures.items sorted.now in
    turned n.topology t.topology n.dc t.dc s.sound s.past c.args.self.now q.0 q.1 is was c.in-Some.envelope c.pop_front.new.self.items first c.in-Ok.happened.sound c.happen.new.past n.fresh.sent c.in-Ok.happened.ended c.in-Ok.ensures.told c.in-Ok.ensures.sound c.turn_of.result c.turn_of.ensures (search rules)

pub returns-in-Err-clause-refused : goal.returns-in-Err-clause-refused
returns-in-Err-clause-refused g c =
    let s = c.self.inside in
    let k = s.kept in
    let t = c.sort.new.self in
    let f = c.sort.ensures.fixed in
    let sorted = keeps_sorted g.M.Machine.came_from g.M.Machine.untaken k.topology t.topology k.dc t.dc s.sound s.past k.members.items t.members.items k.inbox.items k.outgoing.items k.fresh.sent t.inbox.items t.outgoing.items t.fresh.sent f.0 f.1 (ap (λ v. v.items) f.2) c.self.invariant c.sort.ensures.kept in
    let is = value t.topology k.topology t.dc k.dc s.sound s.past c.args.self.now f.0 f.1 c.self.view_is in
    let n = c.happen.new.self in
    let q = c.happen.ensures.queues in
    let was : s.sound ≡ true = search rules in
    let first = waits_first g.M.Machine.came_from g.M.Machine.untaken t.topology t.dc s.past t.members.items t.inbox.items t.outgoing.items t.fresh.sent c.pop_front.new.self.items c.in-Some.envelope c.in_ok-sort.ensures.empty c.in-Some.ensures.items sorted.now in
    refused n.topology t.topology n.dc t.dc s.sound s.past c.args.self.now q.0 q.1 is was c.in-Some.envelope c.pop_front.new.self.items first g.M.Machine.refuses c.happen.new.past c.in-Err.fault c.in-Err.ensures.untold c.in-Err.ensures.refused
