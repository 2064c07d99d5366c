use Rattle.std.proofs.Common.{rules, ◌≡◌, ◌∙◌, ap, subst, ◌∷◌, filter_map, Some}
use Rattle.std.specs.List.{cons_option}
use Rattle.std.specs.Option.{option_copied}
use Rattle.store.specs.Gathering.{IsLeft}
use Rattle.store.specs.Sight.{named, seen_entry}
use Rattle.store.proofs.gathering.gather_all.Goals as goal

pub loop-name-init : goal.loop-name-init
loop-name-init c =
    let items : c.into_iter-name-iterator.result ≡ c.args.columns.now.entries = search rules in
    rw items (c.in_ok-found.ensures (filter_map (seen_entry c.args.moment.now) c.args.columns.now.entries))

pub loop-name-preserved-in-Continue-branch-2 : goal.loop-name-preserved-in-Continue-branch-2
loop-name-preserved-in-Continue-branch-2 c =
    let f = seen_entry c.args.moment.now in
    let one = named c.in-Some-seen_column.one in
    let steps : c.loop-name.name-iterator ≡ (c.in-Some.name.now, c.in-Some.chain.now) ∷ c.next.new.self = search rules in
    let sees : f (c.in-Some.name.now, c.in-Some.chain.now) ≡ Some one = search rules in
    let front : filter_map f c.loop-name.name-iterator ≡ one ∷ filter_map f c.next.new.self = ap (filter_map f) steps ∙ ap (λ o. cons_option o (filter_map f c.next.new.self)) sees in
    c.in_ok-add.ensures.ok (filter_map f c.next.new.self) (filter_map f c.args.columns.now.entries)
    (subst (λ ls. IsLeft (option_copied c.args.deletion) ls (filter_map f c.args.columns.now.entries) c.loop-name.found) front c.loop-name.invariant)
