-- In a list of parts that stand apart, what touches a column last is the column's newest change, or a newer deletion of its row or
-- of a range that has it.
use Rattle.std.proofs.Common.{◌≡◌, ◌∙◌, sym, ap, refl, ℕ, ◌<◌, suc, zero, inl, inr, Bool, true, false, ◌&&◌, ◌||◌, List, [], ◌∷◌, Option, Some, None, option_map, arith}
use Rattle.std.specs.Prelude.{if◌then◌else◌, ◌⊎◌}
use Rattle.std.specs.List.{AllByRecursion}
use Rattle.std.specs.Option.{option_or}
use Rattle.std.proofs.lemmas.List.Elements.{recursion_from_All}
use Rattle.column_family.specs.declared.batch.Row.{Row}
use Rattle.column_family.specs.declared.batch.Change.{Change}
use Rattle.column_family.specs.declared.batch.Committed.{Committed}
use Rattle.column_family.specs.declared.batch.Mutation.{Mutation}
use Rattle.column_family.specs.declared.batch.Mutation.TheVariants.{Insert, DeleteColumn, DeleteRow, DeleteRange}
use Rattle.column_family.specs.Location.{Location, is_same_row, touches, touches_name, changes_name, deletes_row, ranges_over, strikes, is_column_change}
use Rattle.column_family.specs.History.{Stamped, newer_of, newest, newest_of, last_of, stamped}
use Rattle.column_family.specs.Normal.{changes_before, StandsBefore, IsInOrderOf}
use Rattle.column_family.proofs.Kept.{one_row}
use Rattle.column_family.proofs.Options.{by_cases, both_true, or_none}
use Rattle.column_family.proofs.Joins.{newer_of_assoc}
use Rattle.store.specs.declared.part.Applied.{Applied}
use Rattle.store.specs.Part.{committed_of, history_of}
use Rattle.store.specs.Keeps.{AreApart}
use Rattle.store.proofs.newest.Newer.{not_older_itself, newer_of_swap}
use Rattle.store.proofs.newest.Apart.{apart_newest}

-- ---- one batch
-- a change stands before another of the batch
abbrev pub Precedes : List Change → Change → Change → Type 0
Precedes batch c d = (changes_before batch c.row < changes_before batch d.row) ⊎ ((c.row ≡ d.row) × StandsBefore c.mutation d.mutation)

pub after_first : (batch : List Change) (c : Change) (cs : List Change) → IsInOrderOf batch (c ∷ cs) → AllByRecursion (Precedes batch c) cs
after_first batch c cs h = recursion_from_All (Precedes batch c) cs (λ k d lt. h zero (suc k) d (omega arith) (omega (arith, lt)))

pub rest_in_order : (batch : List Change) (c : Change) (cs : List Change) → IsInOrderOf batch (c ∷ cs) → IsInOrderOf batch cs
rest_in_order batch c cs h = λ i j d lt below. h (suc i) (suc j) d (omega (arith, lt)) (omega (arith, below))

-- within a row the mutations stand in order
pub in_row : (batch : List Change) (r : Row) (c d : Change) → is_same_row r c.row ≡ true → is_same_row r d.row ≡ true → Precedes batch c d → StandsBefore c.mutation d.mutation
in_row batch r c d p q (inl lt) =
    let same : changes_before batch c.row ≡ changes_before batch d.row = ap (changes_before batch) (sym (one_row r c.row p) ∙ one_row r d.row q) in
    absurd (omega (arith, lt, same))
in_row batch r c d p q (inr h) = h.1

pub none_last : (q : Change → Bool) (cs : List Change) → AllByRecursion (λ d. q d ≡ false) cs → last_of q cs ≡ None
none_last q [] h = refl
none_last q (c ∷ cs) h = rw h.0 (sym (or_none (last_of q cs)) ∙ none_last q cs h.1)

pub each_weaker : (P Q : Change → Type 0) → ((c : Change) → P c → Q c) → (cs : List Change) → AllByRecursion P cs → AllByRecursion Q cs
each_weaker P Q f [] h = tt
each_weaker P Q f (c ∷ cs) h = (f c h.0, each_weaker P Q f cs h.1)

not_before_strike : (m k : Mutation) (n : List ℕ) → changes_name m n ≡ true → (deletes_row k || ranges_over k n) ≡ true → StandsBefore m k → ⊥
not_before_strike (Insert a v) DeleteRow n p q h = h
not_before_strike (Insert a v) (DeleteRange b c) n p q h = h
not_before_strike (Insert a v) (Insert b w) n p q h = cc
not_before_strike (Insert a v) (DeleteColumn b) n p q h = cc
not_before_strike (DeleteColumn a) DeleteRow n p q h = h
not_before_strike (DeleteColumn a) (DeleteRange b c) n p q h = h
not_before_strike (DeleteColumn a) (Insert b w) n p q h = cc
not_before_strike (DeleteColumn a) (DeleteColumn b) n p q h = cc
not_before_strike DeleteRow k n p q h = cc
not_before_strike (DeleteRange a b) k n p q h = cc

-- no deletion of the row or of a range that has a column stands after a change of that column
no_strike : (batch : List Change) (l : Location) (c : Change) → is_column_change l c ≡ true → (d : Change) → Precedes batch c d → strikes l d ≡ false
no_strike batch l c is d before =
    let b = both_true (is_same_row l.row c.row) (changes_name c.mutation l.name) is in
    by_cases (strikes l d)
    (λ t.
    let e = both_true (is_same_row l.row d.row) (deletes_row d.mutation || ranges_over d.mutation l.name) t in
    absurd (not_before_strike c.mutation d.mutation l.name b.1 e.1 (in_row batch l.row c d b.0 e.0 before)))
    (λ f. f)

neither_more : (t c d : Option Mutation) → t ≡ option_or c d → option_or t None ≡ option_or (option_or c None) (option_or d None)
neither_more t None d e = sym (or_none t) ∙ e ∙ or_none d
neither_more t (Some m) d e = sym (or_none t) ∙ e

change_more : (t c d : Option Mutation) (m : Mutation) → t ≡ option_or c d → d ≡ None → option_or t (Some m) ≡ option_or (option_or c (Some m)) (option_or d None)
change_more t None d m e none = ap (λ (o : Option Mutation). option_or o (Some m)) (e ∙ none)
change_more t (Some k) d m e none = ap (λ (o : Option Mutation). option_or o (Some m)) e

deletion_more : (t c d : Option Mutation) (m : Mutation) → t ≡ option_or c d → option_or t (Some m) ≡ option_or (option_or c None) (option_or d (Some m))
deletion_more t None d m e = ap (λ (o : Option Mutation). option_or o (Some m)) e
deletion_more t (Some k) d m e = ap (λ (o : Option Mutation). option_or o (Some m)) e

one_more : (n : List ℕ) (t c d : Option Mutation) (b : Bool) (m : Mutation) → t ≡ option_or c d → ((b && changes_name m n) ≡ true → d ≡ None)
    → option_or t (if b && touches_name m n then Some m else None)
    ≡ option_or (option_or c (if b && changes_name m n then Some m else None)) (option_or d (if b && (deletes_row m || ranges_over m n) then Some m else None))
one_more n t c d false m e none = neither_more t c d e
one_more n t c d true DeleteRow e none = deletion_more t c d DeleteRow e
one_more n t c d true (DeleteRange a z) e none =
    by_cases (ranges_over (DeleteRange a z) n)
    (λ y. rw y (deletion_more t c d (DeleteRange a z) e))
    (λ f. rw f (neither_more t c d e))
one_more n t c d true (Insert a v) e none =
    by_cases (changes_name (Insert a v) n)
    (λ y. rw y (change_more t c d (Insert a v) e (none y)))
    (λ f. rw f (neither_more t c d e))
one_more n t c d true (DeleteColumn a) e none =
    by_cases (changes_name (DeleteColumn a) n)
    (λ y. rw y (change_more t c d (DeleteColumn a) e (none y)))
    (λ f. rw f (neither_more t c d e))

last_touch : (batch : List Change) (l : Location) (cs : List Change) → IsInOrderOf batch cs
    → last_of (touches l) cs ≡ option_or (last_of (is_column_change l) cs) (last_of (strikes l) cs)
last_touch batch l [] h = refl
last_touch batch l (c ∷ cs) h =
    one_more l.name (last_of (touches l) cs) (last_of (is_column_change l) cs) (last_of (strikes l) cs) (is_same_row l.row c.row) c.mutation
    (last_touch batch l cs (rest_in_order batch c cs h))
    (λ is. none_last (strikes l) cs (each_weaker (Precedes batch c) (λ d. strikes l d ≡ false) (no_strike batch l c is) cs (after_first batch c cs h)))

-- ---- all parts
both_stamped : (c : Committed) (a b : Option Mutation) → option_map (stamped c) (option_or a b) ≡ newer_of (option_map (stamped c) a) (option_map (stamped c) b)
both_stamped c None b = refl
both_stamped c (Some m) None = refl
both_stamped c (Some m) (Some k) = rw (not_older_itself c.stamp) refl

crossed : (c : Committed) (x : Option Stamped) (o : Option Mutation) (y z : Option Stamped) → newer_of (option_map (stamped c) o) y ≡ newer_of y (option_map (stamped c) o)
    → newer_of (newer_of x (option_map (stamped c) o)) (newer_of y z) ≡ newer_of (newer_of x y) (newer_of (option_map (stamped c) o) z)
crossed c x o y z swap =
    let d = option_map (stamped c) o in
    newer_of_assoc x d (newer_of y z)
    ∙ ap (newer_of x) (sym (newer_of_assoc d y z) ∙ ap (λ (e : Option Stamped). newer_of e z) swap ∙ newer_of_assoc y d z)
    ∙ sym (newer_of_assoc x y (newer_of d z))

pub newest_touch : (applied : List Applied) → AreApart applied → (l : Location)
    → newest (history_of applied) l ≡ newer_of (newest_of (is_column_change l) (history_of applied)) (newest_of (strikes l) (history_of applied))
newest_touch [] apart l = refl
newest_touch (a ∷ rest) apart l =
    let c = committed_of a in
    let x = last_of (is_column_change l) a.part.batch in
    let y = last_of (strikes l) a.part.batch in
    let rests = newest_of (is_column_change l) (history_of rest) in
    let struck = newest_of (strikes l) (history_of rest) in
    ap (λ (o : Option Mutation). newer_of (option_map (stamped c) o) (newest (history_of rest) l)) (last_touch a.part.batch l a.part.batch apart.0)
    ∙ ap (λ (o : Option Stamped). newer_of o (newest (history_of rest) l)) (both_stamped c x y)
    ∙ ap (newer_of (newer_of (option_map (stamped c) x) (option_map (stamped c) y))) (newest_touch rest apart.2 l)
    ∙ crossed c (option_map (stamped c) x) y rests struck (newer_of_swap c y rests (apart_newest a.stamp (is_column_change l) rest apart.1))
