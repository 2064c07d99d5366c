use Rattle.std.proofs.Common.{rules, ◌≡◌, true, false, [], ◌∷◌, ◌++◌, ap, ◌∙◌}
use Rattle.std.specs.List.{list_any}
use Rattle.std.specs.Str.{bytes_eq}
use Rattle.table.proofs.EachOnce.{each_once_old, each_once_new}
use Rattle.table.proofs.answering.each_of_few.Goals as goal
use Rattle.table.proofs.answering.each_of_few.Goals.{then-not-contains+in_ok-clone+in_ok-push, else-not-contains}

pub loop-key-preserved : goal.loop-key-preserved
loop-key-preserved c =
    let key = c.key-item.result in
    let keys = c.args.keys.now in
    let index = c.loop-key.key-index in
    let once = c.loop-key.once.items in
    elim c.if-not-contains.branch [
      | then-not-contains+in_ok-clone+in_ok-push w ↦
          let absent : list_any (λ z. bytes_eq z key) once ≡ false = search rules in
          let copied : w.in_ok-clone.field-0 ≡ key = search rules in
          let pushed : c.if-not-contains.once.items ≡ once ++ w.in_ok-clone.field-0 ∷ [] = ap (λ v. v.items) w.once-is ∙ w.in_ok-push.ensures.items in
          each_once_new keys once c.if-not-contains.once.items index key w.in_ok-clone.field-0 c.loop-key-test.true c.key-item.is absent c.loop-key.invariant copied pushed
      | else-not-contains w ↦
          let present : list_any (λ z. bytes_eq z key) once ≡ true = search rules in
          let kept : c.if-not-contains.once.items ≡ once = ap (λ v. v.items) w.once-is in
          each_once_old keys once c.if-not-contains.once.items index key c.loop-key-test.true c.key-item.is present c.loop-key.invariant kept
    ]
