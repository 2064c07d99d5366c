use Rattle.std.proofs.Common.{rules, ◌≡◌, ◌∙◌, ap, sym, ℕ, List}
use Rattle.versions.specs.Chain.{Held}
use Rattle.store.specs.Stored.{name_cmp, nothing_held}
use Rattle.store.specs.Sight.{seen_entry}
use Rattle.store.proofs.lists.Maps.{found, exact_name}
use Rattle.store.proofs.sight.seen_named.Goals as goal

pub returns : goal.returns
returns c =
    let f = found name_cmp nothing_held c.args.columns.now c.args.name.now c.in_ok-name.chain.now (search rules) in
    let same : c.args.name.now ≡ c.in_ok-name.name.now = exact_name c.args.name.now c.in_ok-name.name.now (search rules) in
    c.seen_column.ensures ∙ ap (λ (h : Held). seen_entry c.args.moment.now (c.in_ok-name.name.now, h)) c.as_chain.ensures ∙ ap (λ (n : List ℕ). seen_entry c.args.moment.now (n, c.in_ok-name.chain.now)) (sym same) ∙ ap (λ (h : Held). seen_entry c.args.moment.now (c.args.name.now, h)) (sym f)
