use Rattle.std.proofs.Common.{◌≡◌, ◌∙◌, sym, subst, refl, [], ◌∷◌, ◌++◌, ◌+◌, filter_map, take}
use Rattle.std.specs.Option.{option_copied}
use Rattle.std.proofs.lemmas.List.{take_all}
use Rattle.slice.proofs.FilterMap.{filter_map_kept, filter_map_left}
use Rattle.store.specs.declared.sight.Seen.{Seen}
use Rattle.store.specs.Sight.{HaveSameWriters, named, uncovered_writer}
use Rattle.store.proofs.seen.Gathered.{all_there, one_added, then_same}
use Rattle.store.proofs.reading.column_writers.Goals.{in-Some+in_ok-add_noted, in_default}
use Rattle.store.proofs.reading.column_writers.Goals as goal

pub loop-one-init : goal.loop-one-init
loop-one-init c = subst (λ ws. HaveSameWriters ws []) (sym c.new-writers.ensures.items) (all_there [])

pub loop-one-preserved : goal.loop-one-preserved
loop-one-preserved c =
    let f = λ (s : Seen). uncovered_writer (option_copied c.args.deletion) (named s) in
    let xs = c.args.seen.now in
    let i = c.loop-one.one-index in
    let x = c.one-item.result in
    let olds = c.loop-one.writers.items in
    elim c.match-writer_of.branch [
      | in-Some+in_ok-add_noted w ↦
          let one = w.in-Some.writer in
          let more : filter_map f (take i xs) ++ one ∷ [] ≡ filter_map f (take (i + 1) xs) =
          filter_map_kept f xs [] (filter_map f (take i xs)) i x one c.loop-one-test.true c.one-item.is (sym c.writer_of.ensures ∙ w.in-Some.is) refl in
          rw w.writers-is (then_same w.add_noted.new.writers.items (olds ++ one ∷ []) (filter_map f (take (i + 1) xs)) w.in_ok-add_noted.ensures
          (subst (HaveSameWriters (olds ++ one ∷ [])) more (one_added olds (filter_map f (take i xs)) one c.loop-one.invariant)))
      | in_default w ↦
          let left : filter_map f (take i xs) ≡ filter_map f (take (i + 1) xs) =
          filter_map_left f xs [] (filter_map f (take i xs)) i x c.loop-one-test.true c.one-item.is (sym c.writer_of.ensures ∙ w.in_default.is) refl in
          rw w.writers-is (subst (HaveSameWriters olds) left c.loop-one.invariant)
    ]

pub returns : goal.returns
returns c =
    subst (λ ss. HaveSameWriters c.loop-one.writers.items (filter_map (λ s. uncovered_writer (option_copied c.args.deletion) (named s)) ss))
    (take_all c.loop-one.one-index c.args.seen.now c.loop-one-test.false) c.loop-one.invariant
