use Rattle.std.proofs.Common.{rules, ◌≡◌, ◌∙◌, sym, ap, map, drop, ◌++◌, [], ◌∷◌, ◌⊎◌, inl, inr, List, arith}
use Rattle.std.proofs.lemmas.List.{drop_all, take_rest, append_assoc}
use Rattle.store.specs.declared.sight.Seen.{Seen}
use Rattle.store.specs.Sight.{named, merged}
use Rattle.store.proofs.laid_over.MergeSteps.{first_taken, used_up}
use Rattle.store.proofs.merging.merged.Goals as goal
use Rattle.store.proofs.merging.merged.Goals.{then-loop-i-test+else-j-others, else-loop-i-test}

pub loop-i-preserved : goal.loop-i-preserved
loop-i-preserved c =
    let x = c.index-ones-i.result in
    let y = c.index-others-j.result in
    let z = c.first_of-from_ones.result.0 in
    let pushed : c.push.new.self.items ≡ c.loop-i.all.items ++ z ∷ [] = search rules in
    record {
      ones = omega arith;
      others = omega arith;
      all = first_taken c.args.ones.now c.loop-i.i x c.args.others.now c.loop-i.j y z c.first_of-from_ones.result.1 c.first_of-from_ones.result.2 c.loop-i.all.items c.push.new.self.items (merged (map named c.args.ones.now) (map named c.args.others.now))
          c.loop-i-test.true c.index-ones-i.is c.if-j-others.true c.index-others-j.is c.first_of-from_ones.ensures.first pushed c.loop-i.invariant.all;
    }

pub returns : goal.returns
returns c =
    let xs = map named (drop c.loop-i.i c.args.ones.now) in
    let ys = map named (drop c.loop-i.j c.args.others.now) in
    let first : map named c.add_all.new.all.items ≡ map named c.loop-i.all.items ++ xs =
    c.in_ok-add_all.ensures ∙ ap (λ (ss : List Seen). map named c.loop-i.all.items ++ map named ss) (take_rest c.args.ones.now c.loop-i.i) in
    let second : map named c.add_all-2.new.all.items ≡ map named c.add_all.new.all.items ++ ys =
    c.in_ok-add_all-2.ensures ∙ ap (λ (ss : List Seen). map named c.add_all.new.all.items ++ map named ss) (take_rest c.args.others.now c.loop-i.j) in
    let used : (xs ≡ []) ⊎ (ys ≡ []) =
    elim c.loop-i-test.branch [
      | then-loop-i-test+else-j-others w ↦ inr (ap (map named) (drop_all c.loop-i.j c.args.others.now (omega arith)))
      | else-loop-i-test w ↦ inl (ap (map named) (drop_all c.loop-i.i c.args.ones.now (omega arith)))
    ] in
    second
    ∙ ap (λ zs. zs ++ ys) first
    ∙ append_assoc (map named c.loop-i.all.items) xs ys
    ∙ ap (λ zs. map named c.loop-i.all.items ++ zs) (sym (used_up xs ys used))
    ∙ c.loop-i.invariant.all
