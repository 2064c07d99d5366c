-- Deletions of ranges that a batch leaves, change by change.
use Rattle.std.proofs.Common.{◌≡◌, ◌∙◌, sym, ap, subst, refl, ℕ, ◌+◌, ◌≤◌, ◌<◌, inl, inr, Bool, true, false, ◌&&◌, List, [], ◌∷◌, ◌++◌, length, Option, Some, None, arith}
use Rattle.std.specs.Prelude.{Contains, ◌⊎◌, ◌↔◌, if◌then◌else◌, filter, filter_map, option_to_list}
use Rattle.std.specs.List.{list_any, cons_option}
use Rattle.std.proofs.lemmas.List.Folds.{list_any-append}
use Rattle.std.proofs.lemmas.List.Elements.{filter-append, filter_map-append}
use Rattle.column_family.specs.declared.batch.Row.{Row}
use Rattle.column_family.specs.declared.batch.Change.{Change}
use Rattle.column_family.specs.declared.batch.Mutation.{Mutation}
use Rattle.column_family.specs.declared.batch.Mutation.TheVariants.{Insert, DeleteColumn, DeleteRow, DeleteRange}
use Rattle.column_family.specs.Location.{is_same_row, deletes_range}
use Rattle.column_family.specs.Normal.{ranges_of}
use Rattle.column_family.proofs.Kept.{one_row}
use Rattle.column_family.proofs.Options.{by_cases, both_hold, both_true, either_true}
use Rattle.versions.specs.declared.range.RangeDeletion.{RangeDeletion}
use Rattle.versions.specs.Ranges.{put_range}
use Rattle.versions.proofs.RangesHeld.{held_after_put}
use Rattle.store.specs.declared.origin.Origin.{Origin}
use Rattle.store.specs.Stored.{Chains, no_row, ranges_in, range_left, ranges_written, put_all_ranges, HasRoomForRanges}
use Rattle.store.proofs.lists.Lists.{none_in_empty, contains_first, contains_rest, first_or_rest, kept, kept_only, given, given_only}
use Rattle.store.proofs.newest.Passing.{own_row}

pub no_room_there : 0 < no_row.ranges.room → ⊥
no_room_there lt = omega (arith, lt)

-- ---- what changes leave
-- the deletion of a range that these ends make
abbrev pub range_of : Origin → List ℕ → List ℕ → RangeDeletion
range_of o s f = record { stamp = o.stamp; evt = o.evt; start = s; finish = f; writer = o.writer }

-- the deletion of a range of the row is one that these changes leave
abbrev pub IsRangeWritten : Origin → Row → List Change → RangeDeletion → Type 0
IsRangeWritten o r changes x =
    Contains changes (record { row = r; mutation = DeleteRange x.start x.finish }) × (x.stamp ≡ o.stamp) × (x.evt ≡ o.evt) × (x.writer ≡ o.writer)

abbrev IsFrom : Origin → Mutation → RangeDeletion → Type 0
IsFrom o m x = (m ≡ DeleteRange x.start x.finish) × (x.stamp ≡ o.stamp) × (x.evt ≡ o.evt) × (x.writer ≡ o.writer)

made_of : (o : Origin) (s f : List ℕ) (x : RangeDeletion) → range_of o s f ≡ x → IsFrom o (DeleteRange s f) x
made_of o s f x e = (
  ap (λ (y : RangeDeletion). DeleteRange y.start y.finish) e,
  ap (λ (y : RangeDeletion). y.stamp) (sym e),
  ap (λ (y : RangeDeletion). y.evt) (sym e),
  ap (λ (y : RangeDeletion). y.writer) (sym e),
)

left_is : (o : Origin) (m : Mutation) (x : RangeDeletion) → range_left o m ≡ Some x → IsFrom o m x
left_is o (Insert n v) x is = absurd (cc)
left_is o (DeleteColumn n) x is = absurd (cc)
left_is o DeleteRow x is = absurd (cc)
left_is o (DeleteRange s f) x is = let e : range_of o s f ≡ x = cc in made_of o s f x e

same_range : (o : Origin) (x : RangeDeletion) → x.stamp ≡ o.stamp → x.evt ≡ o.evt → x.writer ≡ o.writer → range_of o x.start x.finish ≡ x
same_range o x stamp evt writer i = record { stamp = sym stamp i; evt = sym evt i; start = x.start; finish = x.finish; writer = sym writer i }

is_left : (o : Origin) (x : RangeDeletion) → x.stamp ≡ o.stamp → x.evt ≡ o.evt → x.writer ≡ o.writer → range_left o (DeleteRange x.start x.finish) ≡ Some x
is_left o x stamp evt writer = ap (λ (y : RangeDeletion). Some y) (same_range o x stamp evt writer)

-- a mutation that deletes no range leaves none
none_left : (o : Origin) (m : Mutation) → deletes_range m ≡ false → range_left o m ≡ None
none_left o (Insert n v) e = refl
none_left o (DeleteColumn n) e = refl
none_left o DeleteRow e = refl
none_left o (DeleteRange s f) e = absurd (cc)

-- what the changes leave in the row, as a list and as what is among them
written_is : (o : Origin) (r : Row) (changes : List Change) (x : RangeDeletion) → Contains (ranges_written o r changes) x → IsRangeWritten o r changes x
written_is o r changes x has =
    let g = given_only (λ (c : Change). range_left o c.mutation) (filter (λ (c : Change). is_same_row r c.row) changes) x has in
    let k = kept_only (λ (c : Change). is_same_row r c.row) changes g.0 g.1 in
    let l = left_is o g.0.mutation x g.2 in
    let same : g.0 ≡ record { row = r; mutation = DeleteRange x.start x.finish } =
    ap (λ (q : Row). record { row = q; mutation = g.0.mutation }) (sym (one_row r g.0.row k.1)) ∙ ap (λ (m : Mutation). record { row = r; mutation = m }) l.0 in
    (subst (Contains changes) same k.0, l.1, l.2, l.3)

is_written : (o : Origin) (r : Row) (changes : List Change) (x : RangeDeletion) → IsRangeWritten o r changes x → Contains (ranges_written o r changes) x
is_written o r changes x w =
    let c : Change = record { row = r; mutation = DeleteRange x.start x.finish } in
    given (λ (d : Change). range_left o d.mutation) (filter (λ (d : Change). is_same_row r d.row) changes) c x
    (kept (λ (d : Change). is_same_row r d.row) changes c w.0 (own_row r)) (is_left o x w.1 w.2 w.3)

-- ---- what is held once they are put
held_after_all : (xs vs : List RangeDeletion) (x : RangeDeletion) → Contains (put_all_ranges xs vs) x ↔ (Contains xs x ⊎ Contains vs x)
held_after_all xs [] x = (λ has. inl has, λ either. elim either [ inl old ↦ old | inr none ↦ absurd (none_in_empty x none) ])
held_after_all xs (v ∷ vs) x =
    let rest = held_after_all (put_range xs v) vs x in
    let one = held_after_put xs (put_range xs v) v refl x in (
      λ has. elim (rest.0 has) [
        | inl held ↦ elim (one.0 held) [ inl old ↦ inl old | inr new ↦ inr (subst (Contains (v ∷ vs)) (sym new) (contains_first v vs)) ]
        | inr later ↦ inr (contains_rest v x vs later)
      ],
      λ either. elim either [
        | inl old ↦ rest.1 (inl (one.1 (inl old)))
        | inr new ↦ elim (first_or_rest v x vs new) [ inl here ↦ rest.1 (inl (one.1 (inr (sym here)))) | inr there ↦ rest.1 (inr there) ]
      ],
    )

-- what the changes leave is held beside what was
pub put_held : (o : Origin) (r : Row) (changes : List Change) (olds news : List RangeDeletion) (x : RangeDeletion) → news ≡ put_all_ranges olds (ranges_written o r changes)
    → Contains news x ↔ (Contains olds x ⊎ IsRangeWritten o r changes x)
put_held o r changes olds news x is =
    let all = held_after_all olds (ranges_written o r changes) x in (
      λ has. elim (all.0 (subst (λ (zs : List RangeDeletion). Contains zs x) is has)) [ inl old ↦ inl old | inr new ↦ inr (written_is o r changes x new) ],
      λ either. subst (λ (zs : List RangeDeletion). Contains zs x) (sym is)
          (elim either [ inl old ↦ all.1 (inl old) | inr new ↦ all.1 (inr (is_written o r changes x new)) ]),
    )

-- put to nothing, it alone is held
pub left_held : (o : Origin) (r : Row) (changes : List Change) (held : List RangeDeletion) (x : RangeDeletion) → held ≡ put_all_ranges [] (ranges_written o r changes)
    → Contains held x ↔ IsRangeWritten o r changes x
left_held o r changes held x is =
    let all = put_held o r changes [] held x is in (
      λ has. elim (all.0 has) [ inl none ↦ absurd (none_in_empty x none) | inr new ↦ new ],
      λ new. all.1 (inr new),
    )

-- ---- change by change
put_all_after : (xs vs ws : List RangeDeletion) → put_all_ranges xs (vs ++ ws) ≡ put_all_ranges (put_all_ranges xs vs) ws
put_all_after xs [] ws = refl
put_all_after xs (v ∷ vs) ws = put_all_after (put_range xs v) vs ws

written_after : (o : Origin) (r : Row) (cs ds : List Change) → ranges_written o r (cs ++ ds) ≡ ranges_written o r cs ++ ranges_written o r ds
written_after o r cs ds =
    ap (filter_map (λ (c : Change). range_left o c.mutation)) (filter-append (λ (c : Change). is_same_row r c.row) cs ds)
    ∙ filter_map-append (λ (c : Change). range_left o c.mutation) (filter (λ (c : Change). is_same_row r c.row) cs) (filter (λ (c : Change). is_same_row r c.row) ds)

put_of_both : (o : Origin) (r : Row) (cs ds : List Change) (xs : List RangeDeletion)
    → put_all_ranges (put_all_ranges xs (ranges_written o r cs)) (ranges_written o r ds) ≡ put_all_ranges xs (ranges_written o r (cs ++ ds))
put_of_both o r cs ds xs = sym (ap (put_all_ranges xs) (written_after o r cs ds) ∙ put_all_after xs (ranges_written o r cs) (ranges_written o r ds))

-- what is left to put, after the first
pub rest_put : (o : Origin) (r : Row) (c : Change) (cs : List Change) (olds news : List RangeDeletion) → news ≡ put_all_ranges olds (ranges_written o r (c ∷ []))
    → put_all_ranges news (ranges_written o r cs) ≡ put_all_ranges olds (ranges_written o r (c ∷ cs))
rest_put o r c cs olds news is = ap (λ (xs : List RangeDeletion). put_all_ranges xs (ranges_written o r cs)) is ∙ put_of_both o r (c ∷ []) cs olds

-- a deletion of a range is put into its row
pub range_put : (o : Origin) (r row : Row) (s f : List ℕ) (xs ys : List RangeDeletion) → ys ≡ (if is_same_row r row then put_range xs (range_of o s f) else xs)
    → ys ≡ put_all_ranges xs (ranges_written o r (record { row = row; mutation = DeleteRange s f } ∷ []))
range_put o r row s f xs ys is = is ∙ by_cases (is_same_row r row) (λ own. rw own refl) (λ other. rw other refl)

pub no_range_put : (o : Origin) (r : Row) (c : Change) (xs ys : List RangeDeletion) → deletes_range c.mutation ≡ false → ys ≡ xs → ys ≡ put_all_ranges xs (ranges_written o r (c ∷ []))
no_range_put o r c xs ys other is = is ∙ by_cases (is_same_row r c.row) (λ own. rw (own, none_left o c.mutation other) refl) (λ apart. rw apart refl)

-- ---- what is left of one row
-- what a mutation of the row leaves is put
pub left_put : (o : Origin) (m : Mutation) (s f : List ℕ) (xs ys : List RangeDeletion) → m ≡ DeleteRange s f → ys ≡ put_range xs (range_of o s f)
    → ys ≡ put_all_ranges xs (option_to_list (range_left o m))
left_put o m s f xs ys is put = put ∙ ap (λ (n : Mutation). put_all_ranges xs (option_to_list (range_left o n))) (sym is)

pub none_put : (o : Origin) (m : Mutation) (xs ys : List RangeDeletion) → deletes_range m ≡ false → ys ≡ xs → ys ≡ put_all_ranges xs (option_to_list (range_left o m))
none_put o m xs ys other is = is ∙ rw (none_left o m other) refl

one_of : (x : Option RangeDeletion) → option_to_list x ≡ cons_option x []
one_of None = refl
one_of (Some x) = refl

-- a change of the row
pub own_ranges : (o : Origin) (r : Row) (cs : List Change) (c : Change) (held new : List RangeDeletion) → is_same_row r c.row ≡ true → held ≡ put_all_ranges [] (ranges_written o r cs)
    → new ≡ put_all_ranges held (option_to_list (range_left o c.mutation)) → new ≡ put_all_ranges [] (ranges_written o r (cs ++ c ∷ []))
own_ranges o r cs c held new own so_far put =
    let last : option_to_list (range_left o c.mutation) ≡ ranges_written o r (c ∷ []) = rw own (one_of (range_left o c.mutation)) in
    put
    ∙ ap (put_all_ranges held) last
    ∙ ap (λ (xs : List RangeDeletion). put_all_ranges xs (ranges_written o r (c ∷ []))) so_far
    ∙ put_of_both o r cs (c ∷ []) []

-- a change of another row
pub other_ranges : (o : Origin) (r : Row) (cs : List Change) (c : Change) (held : List RangeDeletion) → is_same_row r c.row ≡ false → held ≡ put_all_ranges [] (ranges_written o r cs)
    → held ≡ put_all_ranges [] (ranges_written o r (cs ++ c ∷ []))
other_ranges o r cs c held other so_far =
    let none : ranges_written o r (c ∷ []) ≡ [] = rw other refl in
    so_far ∙ ap (put_all_ranges (put_all_ranges [] (ranges_written o r cs))) (sym none) ∙ put_of_both o r cs (c ∷ []) []

-- ---- room
-- whether it is a deletion of a range of the row
abbrev pub is_range_of : Row → Change → Bool
is_range_of r c = is_same_row r c.row && deletes_range c.mutation

pub count_first : (r : Row) (c : Change) (cs : List Change) → length (ranges_of r (c ∷ cs)) ≡ length (ranges_of r (c ∷ [])) + length (ranges_of r cs)
count_first r c cs = by_cases (is_range_of r c) (λ yes. rw yes (omega arith)) (λ no. rw no (omega arith))

pub counts_own : (c : Change) (cs : List Change) → deletes_range c.mutation ≡ true → 0 < length (ranges_of c.row (c ∷ cs))
counts_own c cs is = let own : is_range_of c.row c ≡ true = both_hold (is_same_row c.row c.row) (deletes_range c.mutation) (own_row c.row) is in rw own (omega arith)

pub count_of_range : (r row : Row) (s f : List ℕ) → length (ranges_of r (record { row = row; mutation = DeleteRange s f } ∷ [])) ≡ (if is_same_row r row then 1 else 0)
count_of_range r row s f = by_cases (is_same_row r row) (λ yes. rw yes refl) (λ no. rw no refl)

-- a row without one among the changes has none to count
pub none_counted : (r : Row) (cs : List Change) → list_any (is_range_of r) cs ≡ false → length (ranges_of r cs) ≡ 0
none_counted r [] e = refl
none_counted r (c ∷ cs) e =
    by_cases (is_range_of r c)
    (λ yes. let no = rw yes at e in absurd (cc))
    (λ no. rw no (none_counted r cs (rw no at e)))

-- the room that is made change by change
pub range_done : (old new : List (Row × Chains)) (changes so_far : List Change) (c : Change)
    → ((r : Row) → list_any (is_range_of r) so_far ≡ true → length (ranges_of r changes) ≤ (ranges_in old r).room)
    → ((r : Row) → (ranges_in old r).room ≤ (ranges_in new r).room)
    → (deletes_range c.mutation ≡ true → length (ranges_of c.row changes) ≤ (ranges_in new c.row).room)
    → (r : Row) → list_any (is_range_of r) (so_far ++ c ∷ []) ≡ true → length (ranges_of r changes) ≤ (ranges_in new r).room
range_done old new changes so_far c done grows here r any = elim (either_true (list_any (is_range_of r) so_far) (list_any (is_range_of r) (c ∷ [])) (sym (list_any-append (is_range_of r) so_far (c ∷ [])) ∙ any)) [
  | inl before ↦ (let first = done r before in let more = grows r in omega (arith, first, more))
  | inr last ↦ elim (either_true (is_range_of r c) false last) [
    | inl own ↦
        (let b = both_true (is_same_row r c.row) (deletes_range c.mutation) own in
        subst (λ (k : Row). length (ranges_of k changes) ≤ (ranges_in new k).room) (sym (one_row r c.row b.0)) (here b.1))
    | inr never ↦ absurd (cc)
  ]
]

pub room_for_all : (rows : List (Row × Chains)) (changes : List Change) → ((r : Row) → list_any (is_range_of r) changes ≡ true → length (ranges_of r changes) ≤ (ranges_in rows r).room) → HasRoomForRanges rows changes
room_for_all rows changes done r =
    by_cases (list_any (is_range_of r) changes)
    (λ yes. done r yes)
    (λ no. let none = none_counted r changes no in omega (arith, none))

-- one change more is counted
pub counted_more : (r : Row) (cs : List Change) (c : Change) → length (ranges_of r (cs ++ c ∷ [])) ≡ length (ranges_of r cs) + (if is_range_of r c then 1 else 0)
counted_more r [] c = by_cases (is_range_of r c) (λ yes. rw yes refl) (λ no. rw no refl)
counted_more r (d ∷ cs) c =
    let rest = counted_more r cs c in
    by_cases (is_range_of r d) (λ yes. rw yes (omega (arith, rest))) (λ no. rw no rest)
