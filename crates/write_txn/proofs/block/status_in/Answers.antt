use Rattle.std.proofs.Common.{◌≡◌, ◌≢◌, ◌∙◌, ap, sym, Some, None, arith}
use Rattle.std.specs.Prelude.{slice_get}
use Rattle.std.proofs.lemmas.Bool.Decides.{nat_tests}
use Rattle.std.proofs.lemmas.Grind.{elements}
use Rattle.write_txn.specs.Statuses.{slot_number}
use Rattle.write_txn.proofs.Slots.{found_at, none_at, none_past}
use Rattle.write_txn.proofs.block.status_in.Goals.{in_default-via-in-Some+else-number, in_default-via-in_default}
use Rattle.write_txn.proofs.block.status_in.Goals as goal

pub returns-in-Some : goal.returns-in-Some
returns-in-Some c =
    let at : slice_get c.args.slots.now c.count_below.result ≡ Some c.in-Some.slot.now = grind (arith, elements, c.in-Some.ensures.lookup) in
    let own : slot_number c.in-Some.slot.now ≡ c.args.number = grind (arith, nat_tests, c.number.ensures, c.if-number.true) in
    ap Some c.status.ensures
    ∙ sym (found_at c.args.slots.now c.count_below.result c.args.number c.in-Some.slot.now c.count_below.ensures.split.before at own)

pub returns-in_default : goal.returns-in_default
returns-in_default c = elim c.in_default.branch [
  | in_default-via-in-Some+else-number w ↦
      let at : slice_get c.args.slots.now c.count_below.result ≡ Some w.in-Some.slot.now = grind (arith, elements, w.in-Some.ensures.lookup) in
      let other : slot_number w.in-Some.slot.now ≢ c.args.number = λ e. grind (arith, nat_tests, w.number.ensures, w.if-number.false, e) in
      sym (none_at c.args.slots.now c.count_below.result c.args.number w.in-Some.slot.now c.requires c.count_below.ensures.split at other)
  | in_default-via-in_default w ↦
      let past : slice_get c.args.slots.now c.count_below.result ≡ None = grind (arith, elements, w.in_default.ensures.lookup) in
      sym (none_past c.args.slots.now c.count_below.result c.args.number c.count_below.ensures.split past)
]
