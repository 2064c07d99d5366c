use Rattle.std.proofs.Common.{rules, ◌≡◌, ◌∙◌, ap, refl, List, ℕ, [], ◌∷◌}
use Rattle.std.specs.declared.cmp.Ordering.TheVariants.{Greater}
use Rattle.store.specs.Stored.{name_cmp}
use Rattle.store.proofs.seen.Gatherings.{no_items}
use Rattle.store.proofs.gathering.turned.Goals as goal

pub returns-in-None-Greater : goal.returns-in-None-Greater
returns-in-None-Greater c =
    let above : name_cmp c.in_ok-second.second.now c.in_ok-first.first.now ≡ Greater = search rules in
    let none : c.in_ok-first.others.now ≡ [] = no_items c.in_ok-first.others.now c.in-None-Greater.ensures.cases in
    let rest : c.in_ok-second.rest.now ≡ c.in_ok-first.first.now ∷ c.in_ok-first.others.now = search rules in
    let names : c.args.names.now ≡ c.in_ok-second.second.now ∷ c.in_ok-second.rest.now = search rules in
    let two : c.args.names.now ≡ c.in_ok-second.second.now ∷ c.in_ok-first.first.now ∷ [] =
    names ∙ ap (λ (ns : List (List ℕ)). c.in_ok-second.second.now ∷ ns) (rest ∙ ap (λ (ns : List (List ℕ)). c.in_ok-first.first.now ∷ ns) none) in
    (two, rw two (rw above refl))
