use Rattle.std.proofs.Common.{rules, ◌≡◌, ◌∙◌, ◌≤◌, subst, length}
use Rattle.std.specs.Prelude.{insert}
use Rattle.write_txn.specs.Statuses.{IsSplitAt}
use Rattle.write_txn.proofs.Slots.{inserted_by, inserted_order}
use Rattle.write_txn.proofs.block.add.Goals as goal

pub returns-clause-order : goal.returns-clause-order
returns-clause-order c =
    let split = subst (IsSplitAt c.args.number c.count_below-place.result) (c.as_slice.ensures.value ∙ c.make_room.ensures.same) c.count_below-place.ensures.split in
    let is : c.insert.new.self.items ≡ insert c.args.slots.now.items c.count_below-place.result c.new.result = search rules in
    let le : c.count_below-place.result ≤ length c.args.slots.now.items = search rules in
    inserted_order c.args.slots.now.items c.insert.new.self.items c.count_below-place.result c.new.result c.args.number c.new.ensures.number is le split c.requires

pub returns-clause-ok : goal.returns-clause-ok
returns-clause-ok c =
    let split = subst (IsSplitAt c.args.number c.count_below-place.result) (c.as_slice.ensures.value ∙ c.make_room.ensures.same) c.count_below-place.ensures.split in
    let is : c.insert.new.self.items ≡ insert c.args.slots.now.items c.count_below-place.result c.new.result = search rules in
    let le : c.count_below-place.result ≤ length c.args.slots.now.items = search rules in
    inserted_by c.args.slots.now.items c.insert.new.self.items c.count_below-place.result c.new.result c.args.number c.args.status c.new.ensures.number c.new.ensures.status is le split
