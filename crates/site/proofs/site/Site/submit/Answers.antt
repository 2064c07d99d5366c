use Rattle.std.proofs.Common.{◌≡◌, true, List, rules, ap, sym, subst}
use Rattle.messages.specs.declared.envelope.Envelope.{Envelope}
use Rattle.site.specs.Keeping.{AreOf}
use Rattle.site.proofs.Values.{keeps_sorted, keeps_event, keeps_refused}
use Rattle.site.proofs.site.Site.submit.Goals as goal

pub invariant_of-self-in-Ok : goal.invariant_of-self-in-Ok
invariant_of-self-in-Ok g c =
    let s = c.self.inside in
    let k = s.kept in
    let t = c.sort.new.self in
    let f = c.sort.ensures.fixed in
    let sorted = keeps_sorted g.M.Machine.came_from g.M.Machine.untaken k.topology t.topology k.dc t.dc s.sound s.past k.members.items t.members.items k.inbox.items k.outgoing.items k.fresh.sent t.inbox.items t.outgoing.items t.fresh.sent f.0 f.1 (ap (λ v. v.items) f.2) c.self.invariant c.sort.ensures.kept in
    let n = c.happen.new.self in
    let was : s.sound ≡ true = search rules in
    keeps_event g.M.Machine.came_from g.M.Machine.untaken t.topology n.topology t.dc n.dc s.sound c.in-Ok.happened.sound s.past c.happen.new.past t.members.items n.members.items t.inbox.items t.outgoing.items t.fresh.sent n.inbox.items n.outgoing.items n.fresh.sent
    c.happen.ensures.queues.0 c.happen.ensures.queues.1 was sorted c.in-Ok.ensures.story c.in-Ok.ensures.goes c.in-Ok.ensures.sounds

pub invariant_of-self-in-Err : goal.invariant_of-self-in-Err
invariant_of-self-in-Err g c =
    let s = c.self.inside in
    let k = s.kept in
    let t = c.sort.new.self in
    let f = c.sort.ensures.fixed in
    let sorted = keeps_sorted g.M.Machine.came_from g.M.Machine.untaken k.topology t.topology k.dc t.dc s.sound s.past k.members.items t.members.items k.inbox.items k.outgoing.items k.fresh.sent t.inbox.items t.outgoing.items t.fresh.sent f.0 f.1 (ap (λ v. v.items) f.2) c.self.invariant c.sort.ensures.kept in
    let n = c.happen.new.self in
    keeps_refused g.M.Machine.came_from g.M.Machine.untaken t.topology n.topology t.dc n.dc s.sound s.past c.happen.new.past t.members.items n.members.items t.inbox.items t.outgoing.items t.fresh.sent n.inbox.items n.outgoing.items n.fresh.sent
    c.happen.ensures.queues.0 c.happen.ensures.queues.1 c.in-Err.ensures.untold sorted
    (subst (λ (l : List Envelope). AreOf g.M.Machine.came_from g.M.Machine.untaken n.topology n.dc c.happen.new.past n.members.items n.inbox.items n.outgoing.items l) (sym c.in-Err.ensures.unsent) c.in-Err.ensures.stays) c.in-Err.ensures.still
