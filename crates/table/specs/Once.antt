-- Keys taken once each from a list.
use Rattle.std.specs.Prelude.{ℕ, Bool, true, not, ◌&&◌, List, [], ◌∷◌}
use Rattle.std.specs.List.{list_any}
use Rattle.std.specs.Str.{bytes_eq}
use Rattle.table.specs.declared.answering.Once.{Once}
use Rattle.table.specs.declared.answering.Once.TheVariants.{Listed, Taken}

-- the keys, as they were listed or as they were taken
abbrev pub keys_once : Once → List (List ℕ)
keys_once (Listed keys) = keys.now
keys_once (Taken keys) = keys.items

-- whether no key is listed twice
abbrev pub do_differ : List (List ℕ) → Bool
do_differ [] = true
do_differ (k ∷ ks) = not (list_any (λ j. bytes_eq j k) ks) && do_differ ks
