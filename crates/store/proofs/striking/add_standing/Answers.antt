use Rattle.std.proofs.Common.{rules, ◌≡◌, ◌∙◌, ◌+◌, ◌++◌, [], ◌∷◌, suc, ap, sym, not, ◌&&◌, map, take, List, Some, None, arith, ℕ}
use Rattle.std.specs.Prelude.{slice_get}
use Rattle.std.specs.Option.{option_copied}
use Rattle.std.proofs.lemmas.List.{append_assoc}
use Rattle.versions.specs.declared.range.RangeDeletion.{RangeDeletion}
use Rattle.versions.specs.Ranges.{is_under}
use Rattle.store.specs.Struck.{is_range_seen, ranged, standing}
use Rattle.store.proofs.seen.Strikes.{standing_more, one_there}
use Rattle.store.proofs.striking.add_standing.Goals as goal
use Rattle.store.proofs.striking.add_standing.Goals.{in-Some+in_ok-add_one, in_default}

pub loop-place-preserved : goal.loop-place-preserved
loop-place-preserved c =
    let m = c.args.moment.now in
    let d = option_copied c.args.deletion in
    let xs = c.args.ranges.now.ranges in
    let i = c.loop-place.place in
    let first = map ranged c.args.found.now.items in
    let next : i + 1 ≡ suc i = omega arith in
    elim c.match-get.branch [
      | in-Some+in_ok-add_one w ↦
          (let x = w.in-Some.range.now in
          let there : slice_get xs i ≡ Some x = sym c.get.ensures ∙ ap option_copied w.in-Some.is in
          let more : standing m d (take (i + 1) xs) ≡ standing m d (take i xs) ++ standing m d (x ∷ []) =
          ap (λ (n : ℕ). standing m d (take n xs)) next ∙ standing_more (λ y. is_range_seen m y && not (is_under d y)) xs i x there in
          rw w.found-is (w.in_ok-add_one.ensures
          ∙ ap (λ (ys : List RangeDeletion). ys ++ standing m d (x ∷ [])) c.loop-place.invariant
          ∙ append_assoc first (standing m d (take i xs)) (standing m d (x ∷ []))
          ∙ ap (λ (ys : List RangeDeletion). first ++ ys) (sym more)))
      | in_default w ↦
          (let none : slice_get xs i ≡ None = search rules in
          absurd (one_there xs i none (search (rules, arith))))
    ]
