use Rattle.std.proofs.Common.{rules, ◌≡◌, ◌∙◌, ◌+◌, sym, ap, subst, take, ◌++◌, [], ◌∷◌, List, Contains, ◌↔◌}
use Rattle.std.proofs.lemmas.List.{take_more, take_all}
use Rattle.column_family.specs.declared.batch.Row.{Row}
use Rattle.pending.specs.Marked.{IsMarkedBelow}
use Rattle.pending.proofs.BelowRows.{below_more}
use Rattle.pending.proofs.rows.below_each.Goals as goal

pub loop-row-preserved : goal.loop-row-preserved
loop-row-preserved c = λ t.
    let ms = c.args.rows.now.entries in
    let so_far = take c.loop-row.row-index c.args.asked.now in
    let more : take (c.loop-row.row-index + 1) c.args.asked.now ≡ so_far ++ c.row-item.result ∷ [] =
    take_more c.args.asked.now c.loop-row.row-index c.row-item.result c.loop-row-test.true ∙ ap (λ (r : Row). so_far ++ r ∷ []) (sym c.row-item.is) in
    let items : c.append.new.self.items ≡ c.loop-row.txns.items ++ c.in_ok-more.more.items = search rules in
    rw (items, more) (below_more ms so_far c.row-item.result c.args.time c.loop-row.txns.items c.in_ok-more.more.items c.loop-row.invariant c.in_ok-more.ensures.ok t)

pub returns-clause-ok : goal.returns-clause-ok
returns-clause-ok c = λ t.
    let all = take_all c.loop-row.row-index c.args.asked.now (search rules) in
    subst (λ (rows : List Row). Contains c.loop-row.txns.items t ↔ IsMarkedBelow c.args.rows.now.entries rows c.args.time t) all (c.loop-row.invariant t)
