-- What a read gathers as it comes from column to column.
use Rattle.std.specs.Prelude.{◌≡◌, max, List, ◌++◌, map, filter_map, Option, option_map, option_to_list}
use Rattle.logical_time.specs.Stamps.{WriterValue}
use Rattle.versions.specs.declared.version.Version.{Version}
use Rattle.store.specs.declared.gathering.Gathered.{Gathered}
use Rattle.store.specs.Part.{greatest_of}
use Rattle.store.specs.Sight.{NamedVersion, HaveSameWriters, evt_of_sight, live_of, uncovered_writer}

-- the writers that were gathered
abbrev pub writers_gathered : Gathered → List WriterValue
writers_gathered g = option_to_list g.first ++ g.more.items

-- what the deletion and all columns give is what was gathered with what the columns that are left give
pub record IsLeft (d : Option Version) (left all : List NamedVersion) (g : Gathered) : Type 0 where
  pub columns : g.columns.items ++ filter_map (live_of d) left ≡ filter_map (live_of d) all
  pub writers : HaveSameWriters (writers_gathered g ++ filter_map (uncovered_writer d) left) (filter_map (uncovered_writer d) all ++ option_to_list (option_map (λ v. v.what.writer) d))
  pub evt : max g.evt (greatest_of (map (λ s. s.1.evt) left)) ≡ evt_of_sight d all
