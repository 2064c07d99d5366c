use Rattle.std.proofs.Common.{rules, arith, ◌≡◌, ◌≤◌, ◌∙◌, sym, ap, ◌++◌, ◌∷◌, [], ◌+◌, take}
use Rattle.std.proofs.lemmas.Grind.{common_steps}
use Rattle.std.proofs.lemmas.List.{take_more}
use Rattle.replicator.proofs.near.post_dep_checks.Goals as goal

pub loop-writer-preserved : goal.loop-writer-preserved
loop-writer-preserved c =
    let i = c.loop-writer.writer-index in
    let ws = c.args.dependencies.now in
    let x = c.writer-item.result in
    let posted : c.post.new.self.sent ≡ c.loop-writer.outbox.sent ++ c.envelope_near-check.result ∷ [] = search rules in
    let took : c.loop-writer.outbox.room ≤ c.post.new.self.room + 1 = search rules in
    let longer : take (i + 1) ws ≡ take i ws ++ x ∷ [] = take_more ws i x (omega arith) ∙ ap (λ y. take i ws ++ y ∷ []) (sym c.writer-item.is) in
    record {
      sent = λ top me is. grind (arith, common_steps, posted, longer, c.loop-writer.invariant.sent top me is, c.envelope_near-check.ensures top me is);
      room = omega (arith, took);
    }

pub returns-clause-sent : goal.returns-clause-sent
returns-clause-sent c = λ top me r is same_txn same_dependencies. grind (arith, common_steps, c.loop-writer.invariant.sent top me is, same_txn, same_dependencies)
