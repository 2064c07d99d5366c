use Rattle.std.proofs.Common.{rules, ◌≡◌, ◌∙◌, subst, sym}
use Rattle.messages.specs.Reads.{at_time}
use Rattle.store.specs.Stored as in_store
use Rattle.store.specs.Keeps.{Keeps}
use Rattle.store.proofs.seen.Assembled.{if_ok}
use Rattle.commit_check.specs.declared.cause.Cause.TheVariants as cause
use Rattle.shard.specs.Coming.{applied_of, with_applied}
use Rattle.shard.proofs.in_code.ComingAnswers.{freed_are}
use Rattle.shard.proofs.coming.answers_with.Goals as goal

pub returns-clause-ok : goal.returns-clause-ok
returns-clause-ok c = λ top me a r apart.
    let next = with_applied a (applied_of c.args.coming.now) in
    let keeps = subst (λ (s : in_store.StoreValue). Keeps s a.applied) (sym c.store.ensures) r.store in
    let low = subst (λ (s : in_store.StoreValue). a.low ≡ s.low) (sym c.store.ensures) r.low in
    if_ok c.freed_answers.result (λ x e. e ∙ freed_are me c.node.result c.args.time next c.args.coming.now.writer.txn c.txn.result cause.Applied c.args.kept.now.waiting a.waiting (c.node.ensures.place top me r.place) (search rules) r.waiting)
    (c.freed_answers.ensures.ok (at_time next) (λ time read x answered. answered a keeps low apart))
