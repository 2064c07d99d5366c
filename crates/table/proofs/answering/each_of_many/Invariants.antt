use Rattle.std.proofs.Common.{◌≡◌, take, List, ℕ}
use Rattle.std.specs.List.{list_any}
use Rattle.std.specs.Str.{bytes_eq}
use Rattle.std.specs.Ordering.{nat_cmp}
use Rattle.std.specs.Cmp.Lexicographic.{slice_cmp}
use Rattle.std.specs.BTreeSet.{contains}
use Rattle.table.specs.Meaning.{each_once}
use Rattle.table.proofs.answering.each_of_many.Given as goal

-- the keys that were taken are those that were seen
abbrev pub invariant-loop-key : goal.invariant-loop-key
invariant-loop-key l = record {
  taken : l.once.items ≡ each_once (take l.key-index l.keys);
  seen : (k : List ℕ) → contains (slice_cmp nat_cmp) l.seen k ≡ list_any (λ y. bytes_eq y k) l.once.items;
}
