-- A part gathered column by column is what is seen of the row.
use Rattle.std.proofs.Common.{◌≡◌, ◌∙◌, ap, sym, subst, refl, ℕ, ◌<◌, max, nat_lt, true, false, List, [], ◌∷◌, ◌++◌, length, map, filter_map, Option, Some, None, option_map, inl, inr, append-nil, arith, Result, Ok, Err, IfOk, OnOk}
use Rattle.std.proofs.lemmas.Bool.Decides.{nat_tests}
use Rattle.std.proofs.lemmas.List.{append_assoc, take_all}
use Rattle.std.proofs.lemmas.List.Elements.{Contains-append_cases, Contains-append_left, Contains-append_right}
use Rattle.std.specs.Prelude.{Contains, option_to_list}
use Rattle.std.specs.List.{cons_option}
use Rattle.std.specs.List.Sorted.{IsStrictlySortedBy}
use Rattle.logical_time.specs.Stamps.{WriterValue, writer_cmp}
use Rattle.slice.specs.declared.column.Column.{Column}
use Rattle.slice.specs.declared.predicate.Predicate.{Predicate}
use Rattle.slice.specs.declared.predicate.Predicate.TheVariants.{Range}
use Rattle.slice.specs.Rests.{is_within}
use Rattle.slice.specs.Slice.{first_of_walk}
use Rattle.slice.proofs.Selected.{cut_of_asked}
use Rattle.versions.specs.declared.version.Version.{Version}
use Rattle.store.specs.declared.gathering.Gathered.{Gathered}
use Rattle.store.specs.declared.part.Part.{Part}
use Rattle.store.specs.Gathering.{IsLeft, writers_gathered}
use Rattle.store.specs.declared.sight.Moment.{Moment}
use Rattle.store.specs.Stored.{Chains, name_cmp}
use Rattle.store.specs.Part.{greatest_of}
use Rattle.store.specs.Sight.{Sight, NamedVersion, AreSeen, HaveSameWriters, IsMadeOf, IsPartSeen, evt_or_0, is_covered, live_of, seen_entry, sight_of, uncovered_writer, writer_of}
use Rattle.store.proofs.seen.Assembled.{live_asked, not_more}
use Rattle.store.proofs.seen.Gathered.{then_same, within_only}
use Rattle.store.proofs.seen.Sights.{entries_seen}
use Rattle.store.proofs.seen.WalkedParts.{all_of, asks_all}

-- ---- writers, however they stand
swapped : (xs ys : List WriterValue) → HaveSameWriters (xs ++ ys) (ys ++ xs)
swapped xs ys = λ w. (turned w xs ys, turned w ys xs)
  where
    turned : (w : WriterValue) (us vs : List WriterValue) → Contains (us ++ vs) w → Contains (vs ++ us) w
    turned w us vs has = elim (Contains-append_cases us vs w has) [
      | inl one ↦ Contains-append_right vs us w one
      | inr other ↦ Contains-append_left vs us w other
    ]

pub other_way : (xs ys : List WriterValue) → HaveSameWriters xs ys → HaveSameWriters ys xs
other_way xs ys same = λ w. ((same w).1, (same w).0)

-- at the end or at the beginning
pub at_either_end : (w : WriterValue) (ws : List WriterValue) → HaveSameWriters (ws ++ w ∷ []) (w ∷ ws)
at_either_end w ws = swapped ws (w ∷ [])

-- with others behind
then_others : (xs ys zs : List WriterValue) → HaveSameWriters xs ys → HaveSameWriters (xs ++ zs) (ys ++ zs)
then_others xs ys zs same = λ w. (moved w xs ys (same w).0, moved w ys xs (same w).1)
  where
    moved : (w : WriterValue) (us vs : List WriterValue) → (Contains us w → Contains vs w) → Contains (us ++ zs) w → Contains (vs ++ zs) w
    moved w us vs moves has = elim (Contains-append_cases us zs w has) [
      | inl own ↦ Contains-append_left vs zs w (moves own)
      | inr other ↦ Contains-append_right vs zs w other
    ]

-- what holds of a call that succeeds and is enough for another fact
pub on_ok : {T E : Type 0} {P Q : Type 0} (result : Result T E) → (P → Q) → OnOk result P → OnOk result Q
on_ok (Ok x) f h = f h
on_ok (Err e) f h = tt

-- what four facts of what a call gives are enough for
pub each_field : {T E : Type 0} {A B C D Q : T → Type 0} (result : Result T E) → ((x : T) → A x → B x → C x → D x → Q x)
    → IfOk result A → IfOk result B → IfOk result C → IfOk result D → IfOk result Q
each_field (Ok x) f a b c d = f x a b c d
each_field (Err e) f a b c d = tt

pub no_items : {X : Type 0} (xs : List X) → length xs ≡ 0 → xs ≡ []
no_items [] e = refl
no_items (x ∷ xs) e = absurd (omega (arith, e))

-- ---- column by column
in_front : {X : Type 0} (o : Option X) (xs : List X) → option_to_list o ++ xs ≡ cons_option o xs
in_front None xs = refl
in_front (Some x) xs = refl

-- what is given by one and then by those that are left
one_then : {X : Type 0} (xs ys rest : List X) (o : Option X) → ys ≡ xs ++ option_to_list o → ys ++ rest ≡ xs ++ cons_option o rest
one_then xs ys rest o e = ap (λ zs. zs ++ rest) e ∙ append_assoc xs (option_to_list o) rest ∙ ap (λ zs. xs ++ zs) (in_front o rest)

-- before the first column
pub none_gathered : (d : Option Version) (all : List NamedVersion) (g : Gathered) → g.columns.items ≡ [] → g.first ≡ option_map (λ v. v.what.writer) d → g.more.items ≡ []
    → g.evt ≡ evt_or_0 d → IsLeft d all all g
none_gathered d all g columns first more evt =
    let us = filter_map (uncovered_writer d) all in
    let own = option_to_list (option_map (λ (v : Version). v.what.writer) d) in
    let is : writers_gathered g ≡ own = ap (λ ws. option_to_list g.first ++ ws) more ∙ append-nil (option_to_list g.first) ∙ ap (λ (o : Option WriterValue). option_to_list o) first in
    record {
      columns = ap (λ cs. cs ++ filter_map (live_of d) all) columns;
      writers = subst (λ ws. HaveSameWriters (ws ++ us) (us ++ own)) (sym is) (swapped own us);
      evt = ap (λ t. max t (greatest_of (map (λ (s : NamedVersion). s.1.evt) all))) evt;
    }

max_of_three : (a b c : ℕ) → max (max a b) c ≡ max a (max b c)
max_of_three a b c = omega arith

-- a column is gathered
pub one_gathered : (d : Option Version) (s : NamedVersion) (left all : List NamedVersion) (g h : Gathered) → h.columns.items ≡ g.columns.items ++ option_to_list (live_of d s)
    → HaveSameWriters (writers_gathered h) (writers_gathered g ++ option_to_list (uncovered_writer d s)) → h.evt ≡ max g.evt s.1.evt → IsLeft d (s ∷ left) all g → IsLeft d left all h
one_gathered d s left all g h columns writers evt is =
    let us = filter_map (uncovered_writer d) left in
    let o = uncovered_writer d s in
    let t = greatest_of (map (λ (x : NamedVersion). x.1.evt) left) in
    record {
      columns = one_then g.columns.items h.columns.items (filter_map (live_of d) left) (live_of d s) columns ∙ is.columns;
      writers = then_same (writers_gathered h ++ us) (writers_gathered g ++ cons_option o us) (filter_map (uncovered_writer d) all ++ option_to_list (option_map (λ (v : Version). v.what.writer) d))
          (subst (HaveSameWriters (writers_gathered h ++ us)) (one_then (writers_gathered g) (writers_gathered g ++ option_to_list o) us o refl)
          (then_others (writers_gathered h) (writers_gathered g ++ option_to_list o) us writers))
          is.writers;
      evt = ap (λ n. max n t) evt ∙ max_of_three g.evt s.1.evt t ∙ is.evt;
    }

-- ---- the part
all_uncovered : (p : Predicate) (columns : List Column) (d : Option Version) → ((n : List ℕ) → is_within p columns n ≡ true) → (seen : List NamedVersion)
    → filter_map (uncovered_writer d) seen ≡ filter_map (writer_of p columns d) seen
all_uncovered p columns d within [] = refl
all_uncovered p columns d within (s ∷ seen) =
    let one : uncovered_writer d s ≡ writer_of p columns d s = rw (within s.0) (within_only true (is_covered d s.1) s.1.what.writer) in
    ap (λ o. cons_option o (filter_map (uncovered_writer d) seen)) one ∙ ap (cons_option (writer_of p columns d s)) (all_uncovered p columns d within seen)

-- of what was gathered from all columns that are seen, where none of the live ones is cut off
pub gathered_part : (f : Sight) (p : Predicate) (part : Part) (d : Option Version) (seen : List NamedVersion) (g : Gathered) → AreSeen f p seen → d ≡ f None → IsLeft d [] seen g
    → part.columns ≡ g.columns.items → HaveSameWriters part.writers (writers_gathered g) → IsStrictlySortedBy writer_cmp part.writers → part.evt ≡ g.evt
    → first_of_walk p (filter_map (live_of d) seen) ≡ filter_map (live_of d) seen → ((n : List ℕ) → is_within p part.columns n ≡ true) → IsPartSeen f p part
gathered_part f p part d seen g are_seen deletion left columns writers in_order evt whole within =
    let live = filter_map (live_of d) seen in
    let rest = option_to_list (option_map (λ (v : Version). v.what.writer) d) in
    let shows : part.columns ≡ live = columns ∙ sym (append-nil g.columns.items) ∙ left.columns in
    let gathered : HaveSameWriters (writers_gathered g) (filter_map (uncovered_writer d) seen ++ rest) =
    subst (λ ws. HaveSameWriters ws (filter_map (uncovered_writer d) seen ++ rest)) (append-nil (writers_gathered g)) left.writers in
    let made : IsMadeOf d seen p part = record {
      columns = shows ∙ sym whole ∙ cut_of_asked p live (live_asked p d seen (λ n v has. (are_seen.sound n v has).0));
      writers = then_same part.writers (writers_gathered g) (filter_map (writer_of p part.columns d) seen ++ rest) writers
          (subst (λ ws. HaveSameWriters (writers_gathered g) (ws ++ rest)) (all_uncovered p part.columns d within seen) gathered);
      in_order = in_order;
      evt = evt ∙ until_none g.evt ∙ left.evt;
    } in
    record {
      seen = seen;
      are_seen = are_seen;
      made = subst (λ (o : Option Version). IsMadeOf o seen p part) deletion made;
    }
  where
    until_none : (n : ℕ) → n ≡ max n 0
    until_none n = omega arith

-- of all columns, where fewer are there than are asked for
pub whole_part : (m : Moment) (row : Chains) (n : ℕ) (part : Part) (d : Option Version) (g : Gathered) → IsStrictlySortedBy name_cmp (map (λ e. e.0) row.columns) → length row.columns < n
    → d ≡ sight_of m row None → IsLeft d [] (filter_map (seen_entry m) row.columns) g → part.columns ≡ g.columns.items → HaveSameWriters part.writers (writers_gathered g)
    → IsStrictlySortedBy writer_cmp part.writers → part.evt ≡ g.evt → IsPartSeen (sight_of m row) (Range [] [] false n) part
whole_part m row n part d g sorted less deletion left columns writers in_order evt =
    let p = Range [] [] false n in
    let seen = filter_map (seen_entry m) row.columns in
    let live = filter_map (live_of d) seen in
    let few = not_more (live_of d) seen in
    let fewer = not_more (seen_entry m) row.columns in
    let shows : length part.columns ≡ length live = ap length (columns ∙ sym (append-nil g.columns.items) ∙ left.columns) in
    let short : nat_lt (length part.columns) n ≡ true = grind (arith, nat_tests, few, fewer, less, shows) in
    gathered_part (sight_of m row) p part d seen g
    (entries_seen m row p (λ k. true) seen (asks_all false n) sorted (sym (ap (filter_map (seen_entry m)) (all_of row.columns))))
    deletion left columns writers in_order evt
    (take_all n live (omega (arith, few, fewer, less)))
    (λ k. rw short refl)
