use Rattle.std.proofs.Common.{rules, ◌≡◌, true, false, [], ◌∷◌, ◌++◌, ap, ◌∙◌, sym, refl}
use Rattle.std.specs.Ordering.{nat_cmp}
use Rattle.std.specs.Cmp.Lexicographic.{slice_cmp}
use Rattle.std.specs.BTreeSet.{contains}
use Rattle.table.proofs.EachOnce.{each_once_old, each_once_new, seen_more, seen_same}
use Rattle.table.proofs.answering.each_of_many.Goals as goal
use Rattle.table.proofs.answering.each_of_many.Goals.{then-branch+in_ok-clone-2+in_ok-push, else-branch}

pub loop-key-preserved : goal.loop-key-preserved
loop-key-preserved c =
    let key = c.key-item.result in
    let keys = c.args.keys.now in
    let index = c.loop-key.key-index in
    let once = c.loop-key.once.items in
    let inv = c.loop-key.invariant in
    let copied : c.in_ok-clone.field-0 ≡ key = search rules in
    elim c.if-branch.branch [
      | then-branch+in_ok-clone-2+in_ok-push w ↦
          let absent : contains (slice_cmp nat_cmp) c.loop-key.seen key ≡ false = search rules in
          let copied_again : w.in_ok-clone-2.field-0 ≡ key = search rules in
          let pushed : c.if-branch.once.items ≡ once ++ w.in_ok-clone-2.field-0 ∷ [] = ap (λ v. v.items) w.once-is ∙ w.in_ok-push.ensures.items in
          record {
            taken = each_once_new keys once c.if-branch.once.items index key w.in_ok-clone-2.field-0 c.loop-key-test.true c.key-item.is (sym (inv.seen key) ∙ absent) inv.taken copied_again pushed;
            seen = λ k.
                seen_more once c.if-branch.once.items c.in_ok-clone.field-0 w.in_ok-clone-2.field-0 k
                (contains (slice_cmp nat_cmp) c.loop-key.seen k) (contains (slice_cmp nat_cmp) c.insert.new.self k) (contains (slice_cmp nat_cmp) c.insert.new.self k)
                refl (c.in_ok-insert.ensures.updates.0 k) (copied ∙ sym copied_again) pushed (inv.seen k);
          }
      | else-branch w ↦
          let present : contains (slice_cmp nat_cmp) c.loop-key.seen key ≡ true = search rules in
          let kept : c.if-branch.once.items ≡ once = ap (λ v. v.items) w.once-is in
          let same : c.insert.new.self.keys ≡ c.loop-key.seen.keys = search rules in
          record {
            taken = each_once_old keys once c.if-branch.once.items index key c.loop-key-test.true c.key-item.is (sym (inv.seen key) ∙ present) inv.taken kept;
            seen = λ k.
                seen_same once c.if-branch.once.items k (contains (slice_cmp nat_cmp) c.loop-key.seen k) (contains (slice_cmp nat_cmp) c.insert.new.self k)
                (ap (λ ks. contains (slice_cmp nat_cmp) (record { keys = ks }) k) same) kept (inv.seen k);
          }
    ]
