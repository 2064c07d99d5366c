use Rattle.std.proofs.Common.{◌≡◌, ◌∙◌, ◌++◌, ◌∷◌, [], List, true, ap, sym, subst}
use Rattle.messages.specs.declared.envelope.Envelope.{Envelope}
use Rattle.site.specs.Story.{may_come}
use Rattle.site.specs.Keeping.{Keeps}
use Rattle.site.proofs.Values.{keeps_sorted, keeps_heard, ok_of}
use Rattle.site.proofs.site.Site.hear.Goals as goal

pub invariant_of-self : goal.invariant_of-self
invariant_of-self g c =
    let s = c.self.inside in
    let k = s.kept in
    let t = c.sort.new.self in
    let f = c.sort.ensures.fixed in
    let sorted = keeps_sorted g.M.Machine.came_from g.M.Machine.untaken k.topology t.topology k.dc t.dc s.sound s.past k.members.items t.members.items k.inbox.items k.outgoing.items k.fresh.sent t.inbox.items t.outgoing.items t.fresh.sent f.0 f.1 (ap (λ v. v.items) f.2) c.self.invariant c.sort.ensures.kept in
    sorted

pub invariant_of-self-then-is_err-2 : goal.invariant_of-self-then-is_err-2
invariant_of-self-then-is_err-2 g c =
    let s = c.self.inside in
    let k = s.kept in
    let t = c.sort.new.self in
    let f = c.sort.ensures.fixed in
    let sorted = keeps_sorted g.M.Machine.came_from g.M.Machine.untaken k.topology t.topology k.dc t.dc s.sound s.past k.members.items t.members.items k.inbox.items k.outgoing.items k.fresh.sent t.inbox.items t.outgoing.items t.fresh.sent f.0 f.1 (ap (λ v. v.items) f.2) c.self.invariant c.sort.ensures.kept in
    subst (λ (l : List Envelope). Keeps g.M.Machine.came_from g.M.Machine.untaken t.topology t.dc s.sound s.past t.members.items l t.outgoing.items t.fresh.sent) (sym c.reserve.ensures.items) sorted

pub invariant_of-self-2 : goal.invariant_of-self-2
invariant_of-self-2 g c =
    let s = c.self.inside in
    let k = s.kept in
    let t = c.sort.new.self in
    let f = c.sort.ensures.fixed in
    let sorted = keeps_sorted g.M.Machine.came_from g.M.Machine.untaken k.topology t.topology k.dc t.dc s.sound s.past k.members.items t.members.items k.inbox.items k.outgoing.items k.fresh.sent t.inbox.items t.outgoing.items t.fresh.sent f.0 f.1 (ap (λ v. v.items) f.2) c.self.invariant c.sort.ensures.kept in
    let may : may_come t.topology t.dc c.args.from c.args.envelope ≡ true = rw (f.0, f.1) (sym c.if-not-may_come.ensures) in
    keeps_heard g.M.Machine.came_from g.M.Machine.untaken t.topology t.dc s.sound s.past c.add_receipt.new.self t.members.items t.inbox.items t.outgoing.items t.fresh.sent c.push_back_reserved.new.self.items c.args.from c.args.envelope
    (ok_of c.sort.result (sym c.if-is_err.ensures.value) c.sort.ensures.empty) (c.push_back_reserved.ensures.items ∙ ap (λ (l : List Envelope). l ++ c.args.envelope ∷ []) c.reserve.ensures.items) c.add_receipt.ensures may sorted
