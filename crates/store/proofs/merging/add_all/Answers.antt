use Rattle.std.proofs.Common.{rules, ◌≡◌, ◌∙◌, ◌+◌, sym, ap, take, ◌++◌, [], ◌∷◌, List, map}
use Rattle.std.proofs.lemmas.List.{take_more, take_all, map-append, append_assoc}
use Rattle.store.specs.declared.sight.Seen.{Seen}
use Rattle.store.specs.Sight.{named}
use Rattle.store.proofs.merging.add_all.Goals as goal

pub loop-one-preserved : goal.loop-one-preserved
loop-one-preserved c =
    let so_far = take c.loop-one.one-index c.args.more.now in
    let x = c.one-item.result in
    let more : take (c.loop-one.one-index + 1) c.args.more.now ≡ so_far ++ x ∷ [] =
    take_more c.args.more.now c.loop-one.one-index x c.loop-one-test.true ∙ ap (λ (y : Seen). so_far ++ y ∷ []) (sym c.one-item.is) in
    let items : c.push.new.self.items ≡ c.loop-one.all.items ++ x ∷ [] = search rules in
    ap (map named) items
    ∙ map-append named c.loop-one.all.items (x ∷ [])
    ∙ ap (λ ss. ss ++ named x ∷ []) c.loop-one.invariant
    ∙ append_assoc (map named c.args.all.now.items) (map named so_far) (named x ∷ [])
    ∙ ap (λ ss. map named c.args.all.now.items ++ ss) (sym (ap (map named) more ∙ map-append named so_far (x ∷ [])))

pub returns : goal.returns
returns c =
    c.loop-one.invariant
    ∙ ap (λ (ss : List Seen). map named c.args.all.now.items ++ map named ss) (take_all c.loop-one.one-index c.args.more.now (search rules))
