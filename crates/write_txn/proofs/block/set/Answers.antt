use Rattle.std.proofs.Common.{rules, ◌≡◌, ◌≢◌, ◌∙◌, ◌<◌, ◌≤◌, ap, sym, subst, length, Some, arith}
use Rattle.std.proofs.lemmas.Bool.Decides.{nat_tests}
use Rattle.std.proofs.lemmas.Option.{slice_get-get_or, slice_get_past}
use Rattle.write_txn.specs.Statuses.{slot_number, IsSplitAt}
use Rattle.write_txn.proofs.Slots.{replaced_by, unchanged, none_at, none_past}
use Rattle.write_txn.proofs.block.set.Goals.{else-place-len-via-then-place-len+else-number, else-place-len-via-else-place-len}
use Rattle.write_txn.proofs.block.set.Goals as goal

pub returns-then-number-clause-set : goal.returns-then-number-clause-set
returns-then-number-clause-set c =
    let split = subst (IsSplitAt c.args.number c.count_below-place.result) c.as_slice.ensures.value c.count_below-place.ensures.split in
    let lt : c.count_below-place.result < length c.args.slots.now.items = search rules in
    let at = slice_get-get_or c.args.slots.now.items c.count_below-place.result c.index.result.now lt ∙ ap Some (sym c.index.ensures) in
    let own : slot_number c.index.result.now ≡ c.args.number = grind (arith, nat_tests, c.number.ensures, c.if-number.true) in
    replaced_by c.args.slots.now.items c.count_below-place.result c.new.result c.index.result.now c.args.number c.args.status c.new.ensures.number c.new.ensures.status split at own

pub returns-else-place-len-clause-set : goal.returns-else-place-len-clause-set
returns-else-place-len-clause-set c =
    let split = subst (IsSplitAt c.args.number c.count_below-place.result) c.as_slice.ensures.value c.count_below-place.ensures.split in
    elim c.else-place-len.branch [
      | else-place-len-via-then-place-len+else-number w ↦
          let lt : c.count_below-place.result < length c.args.slots.now.items = search rules in
          let at = slice_get-get_or c.args.slots.now.items c.count_below-place.result w.index.result.now lt ∙ ap Some (sym w.index.ensures) in
          let other : slot_number w.index.result.now ≢ c.args.number = λ e. grind (arith, nat_tests, w.number.ensures, w.if-number.false, e) in
          unchanged c.args.slots.now.items c.args.number c.args.status (none_at c.args.slots.now.items c.count_below-place.result c.args.number w.index.result.now c.requires split at other)
      | else-place-len-via-else-place-len w ↦
          let le : length c.args.slots.now.items ≤ c.count_below-place.result = search rules in
          unchanged c.args.slots.now.items c.args.number c.args.status (none_past c.args.slots.now.items c.count_below-place.result c.args.number split (slice_get_past c.args.slots.now.items c.count_below-place.result le))
    ]
