use Rattle.std.proofs.Common.{rules, ◌∙◌, ap, subst, sym}
use Rattle.store.specs.Keeps.{AreApart}
use Rattle.store.specs.declared.part.Applied.{Applied}
use Rattle.messages.specs.Commits.{dep_oks}
use Rattle.shard.specs.Coming.{applied_of, with_applied}
use Rattle.shard.specs.Deciding.{ballot_in}
use Rattle.shard.proofs.in_code.Decisions.{told_is}
use Rattle.shard.proofs.deciding.tell.Goals as goal

pub returns-clause-ok : goal.returns-clause-ok
returns-clause-ok c = λ top me a r undecided apart.
    let x_is = c.own_part-coming.ensures top me r.place in
    let oks = c.in_ok-oks.ensures.ok a.askers (r.askers c.args.deciding.now.txn undecided) ∙ ap (λ m. dep_oks m c.args.time c.args.deciding.now.txn a.askers) (c.node.ensures.place top me r.place) in
    let freed = c.in_ok-freed.ensures.ok top me a r (subst (λ (x : Applied). AreApart (with_applied a x).applied) (sym x_is) apart) in
    told_is top me c.args.time a (ballot_in c.args.deciding.now) (applied_of c.own_part-coming.result) c.in_ok-envelopes.envelopes.items c.in_ok-oks.oks.items c.in_ok-freed.freed.items c.append-2.new.self.items x_is
    (c.in_ok-envelopes.ensures.envelopes top me r.place) oks freed (search rules)
