use Rattle.std.proofs.Common.{rules}
use Rattle.std.proofs.Common.{◌≤◌, sym, subst, arith}
use Rattle.std.proofs.lemmas.Bool.Decides.{nat_tests}
use Rattle.store.specs.Stored.{StoreValue}
use Rattle.store.specs.Keeps.{Keeps}
use Rattle.store.proofs.applied.Collected.{keeps_collected}
use Rattle.store.proofs.store.Store.collect.Goals as goal

pub returns-clause-keeps : goal.returns-clause-keeps
returns-clause-keeps c = λ all keeps.
    let old : StoreValue = record { rows = c.self.inside.rows.entries; low = c.self.inside.low; listing = c.self.inside.crowded.room } in
    let new : StoreValue = record { rows = c.collect_crowded.new.rows.entries; low = c.max-self-inside.result; listing = c.collect_crowded.new.crowded.room } in
    let raised : c.self.inside.low ≤ c.max-self-inside.result = grind (arith, nat_tests, c.max-self-inside.ensures) in
    keeps_collected old new all raised (c.collect_crowded.ensures.kept c.self.invariant) (c.collect_crowded.ensures.ranges c.self.invariant) (subst (λ (k : StoreValue). Keeps k all) (sym c.self.view_is) keeps)

pub returns-clause-low : goal.returns-clause-low
returns-clause-low c = search rules
