use Rattle.std.proofs.Common.{◌≡◌}
use Rattle.std.specs.Prelude.{not, filter}
use Rattle.std.specs.BTreeMap.{btree_map_len}
use Rattle.column_family.specs.Places.{is_among}
use Rattle.column_family.proofs.places.remove_between.Given as goal

-- what is kept elsewhere stays
abbrev pub invariant-loop-place : goal.invariant-loop-place
invariant-loop-place l = filter (λ e. not (is_among l.low l.high e.0)) l.kept.entries ≡ filter (λ e. not (is_among l.low l.high e.0)) l.initial.kept.entries

abbrev pub decreases-loop-place : goal.decreases-loop-place
decreases-loop-place l = btree_map_len l.kept
