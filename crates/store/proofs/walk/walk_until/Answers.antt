use Rattle.std.proofs.Common.{rules, ◌≡◌, ◌∙◌, ap, sym, ◌++◌, ◌∷◌, map, ℕ, List}
use Rattle.std.specs.Option.{option_copied}
use Rattle.slice.specs.Slice.{walked}
use Rattle.versions.specs.Chain.{Held}
use Rattle.store.specs.Sight.{named}
use Rattle.store.specs.Walk.{seen_until}
use Rattle.store.proofs.walk.walk_until.Goals as goal

pub loop-wanted-preserved : goal.loop-wanted-preserved
loop-wanted-preserved c =
    let rest = walked c.args.reversed c.next_of.new.columns in
    let next : walked c.args.reversed c.loop-wanted.rest ≡ (c.in-Some.name.now, c.in-Some.chain.now) ∷ rest = search rules in
    c.in_ok-wanted-in-Some.ensures rest
    ∙ ap (λ (es : List (List ℕ × Held)). map named c.loop-wanted.walk.items ++ seen_until (option_copied c.args.deletion) c.loop-wanted.wanted es) (sym next)
    ∙ c.loop-wanted.invariant
