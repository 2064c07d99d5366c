use Rattle.std.proofs.Common.{◌≡◌, ◌≤◌, ◌++◌, true, take, length}
use Rattle.std.specs.List.{flat_map, list_all}
use Rattle.wire.specs.Fields.{longest}
use Rattle.wire.proofs.writing.put_items.Given as goal

abbrev pub invariant-loop-item : goal.invariant-loop-item
invariant-loop-item g l = record {
  fits : list_all g.T.Item.fits (take l.item-index l.items) ≡ true;
  text : l.out.items ≡ l.fn.out.items ++ flat_map g.T.Item.bytes (take l.item-index l.items);
  short : length (flat_map g.T.Item.bytes (take l.item-index l.items)) ≤ longest;
}
