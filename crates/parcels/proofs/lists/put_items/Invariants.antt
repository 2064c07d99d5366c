use Rattle.std.proofs.Common.{◌≡◌, ◌++◌, true, take}
use Rattle.std.specs.List.{flat_map, list_all}
use Rattle.parcels.proofs.lists.put_items.Given as goal

abbrev pub invariant-loop-item : goal.invariant-loop-item
invariant-loop-item g l = record {
  fits : list_all g.T.Piece.fits (take l.item-index l.items) ≡ true;
  text : l.out.items ≡ l.fn.out.items ++ flat_map g.T.Piece.bytes (take l.item-index l.items);
}
