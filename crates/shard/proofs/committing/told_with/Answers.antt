use Rattle.std.proofs.Common.{rules, ◌≡◌, ◌∙◌, ap, subst, sym}
use Rattle.logical_time.specs.Stamps.{WriterValue}
use Rattle.store.specs.Keeps.{AreApart}
use Rattle.store.specs.declared.part.Applied.{Applied}
use Rattle.messages.specs.Shard.{Role}
use Rattle.messages.specs.Commits.{applied_part, repl_parts}
use Rattle.shard.specs.Coming.{applied_of, with_applied}
use Rattle.shard.proofs.in_code.Applying.{application_sends}
use Rattle.shard.proofs.committing.told_with.Goals as goal

pub returns-clause-ok : goal.returns-clause-ok
returns-clause-ok c = λ top me a r apart.
    let p = c.args.part.now in
    let w = c.writer-writer.ensures in
    let rows = c.rows.ensures in
    let more = c.rows-2.ensures in
    let x = applied_of (record { writer = c.writer-writer.result; batch = c.rows-2.result; commit = c.args.commit; stamp = c.args.stamp }) in
    let x_is : x ≡ applied_part p.txn p.coordinator p.rows c.args.commit c.args.stamp = cc in
    let es = c.in_ok-envelopes.ensures.envelopes top me p r.place (sym (ap (λ (v : WriterValue). v.txn) w)) (sym rows) (sym (ap (λ (v : WriterValue). v.shard) w))
    ∙ ap (λ (o : Role). repl_parts o top me c.args.time p c.args.stamp) c.origin.ensures in
    let freed = c.in_ok-freed.ensures.ok top me a r (subst (λ (y : Applied). AreApart (with_applied a y).applied) (sym x_is) apart) in
    application_sends top me c.args.time a p c.args.commit c.args.stamp x c.in_ok-envelopes.envelopes.items c.in_ok-freed.freed.items c.append.new.self.items x_is es freed (search rules)
