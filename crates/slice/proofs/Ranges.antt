-- Ranges of names meet exactly where some name lies in both_true.
use Rattle.std.proofs.Common.{◌≡◌, ◌∙◌, ℕ, ap, sym, refl, Bool, true, false, ◌&&◌, ◌||◌, List, [], ◌∷◌, length, ◌-◌, Option, Some, None, if◌then◌else◌, ◌↔◌}
use Rattle.std.specs.Prelude.{nat_lt, slice_get}
use Rattle.std.specs.declared.cmp.Ordering.{Ordering}
use Rattle.std.specs.declared.cmp.Ordering.TheVariants.{Less, Equal, Greater}
use Rattle.std.specs.Ordering.{nat_cmp, is_le, ordering_reverse}
use Rattle.std.specs.Option.{option_map_or}
use Rattle.std.specs.List.{list_any}
use Rattle.std.specs.Str.{bytes_eq}
use Rattle.std.specs.Cmp.Lexicographic.{slice_cmp}
use Rattle.std.proofs.lemmas.Cmp.{nat_list_cmp_total, tied_itself}
use Rattle.std.proofs.lemmas.Map.Lookups.{exact_bytes}
use Rattle.std.proofs.lemmas.Slice.Eq.{bytes_eq-Decides}
use Rattle.column_family.proofs.Options.{by_cases, both_true, both_hold}
use Rattle.slice.specs.declared.column.Column.{Column}
use Rattle.slice.specs.declared.predicate.Predicate.{Predicate}
use Rattle.slice.specs.declared.predicate.Predicate.TheVariants.{Names, Range}
use Rattle.slice.specs.Slice.{name_le, is_open, is_between, is_in_walk, is_asked}
use Rattle.slice.specs.Rests.{is_within, SomeLookedAt}
use Rattle.slice.specs.Meeting.{later_low, earlier_high, has_names, do_meet, comes_to, low_end, high_end, meets, asks_between, SomeAsked}

-- ---- the order of names
le_by : (a b c : List ℕ) (o u : Ordering) → slice_cmp nat_cmp a b ≡ o → slice_cmp nat_cmp b c ≡ u → is_le o ≡ true → is_le u ≡ true → is_le (slice_cmp nat_cmp a c) ≡ true
le_by a b c Less Less p q e f = ap is_le (nat_list_cmp_total.trans a b c p q)
le_by a b c Less Equal p q e f = ap (λ (z : List ℕ). is_le (slice_cmp nat_cmp a z)) (sym (exact_bytes b c q)) ∙ ap is_le p
le_by a b c Equal u p q e f = ap (λ (z : List ℕ). is_le (slice_cmp nat_cmp z c)) (exact_bytes a b p) ∙ ap is_le q ∙ f
le_by a b c Greater u p q e f = absurd (cc)
le_by a b c Less Greater p q e f = absurd (cc)

-- a name that isn't above another isn't above what that one isn't above
pub le_through : (a b c : List ℕ) → name_le a b ≡ true → name_le b c ≡ true → name_le a c ≡ true
le_through a b c e f = le_by a b c (slice_cmp nat_cmp a b) (slice_cmp nat_cmp b c) refl refl e f

turned : (o : Ordering) → is_le o ≡ false → is_le (ordering_reverse o) ≡ true
turned Less h = absurd (cc)
turned Equal h = absurd (cc)
turned Greater h = refl

-- of two names one isn't above the other
le_or : (a b : List ℕ) → name_le a b ≡ false → name_le b a ≡ true
le_or a b h = ap is_le (nat_list_cmp_total.antisymm b a) ∙ turned (slice_cmp nat_cmp a b) h

le_itself : (a : List ℕ) → name_le a a ≡ true
le_itself a = ap is_le (tied_itself nat_list_cmp_total a)

le_first : (a : List ℕ) → name_le [] a ≡ true
le_first [] = refl
le_first (x ∷ xs) = refl

-- ---- ends
-- a name is at or above a lower end
at_low : (low name : List ℕ) → (is_open low || name_le low name) ≡ name_le low name
at_low [] name = sym (le_first name)
at_low (x ∷ xs) name = refl

implied : (a b : Bool) → (a ≡ true → b ≡ true) → (b ≡ true → a ≡ true) → a ≡ b
implied true b f g = sym (f refl)
implied false true f g = g refl
implied false false f g = refl

-- a name is at or above both_true lower ends where it is at or above the greater
above_both : (a b name : List ℕ) → name_le (later_low a b) name ≡ (name_le a name && name_le b name)
above_both a b name =
    by_cases (name_le a b)
    (λ le. rw le (implied (name_le b name) (name_le a name && name_le b name) (λ h. both_hold (name_le a name) (name_le b name) (le_through a b name le h) h) (λ h. (both_true (name_le a name) (name_le b name) h).1)))
    (λ gt. rw gt (implied (name_le a name) (name_le a name && name_le b name) (λ h. both_hold (name_le a name) (name_le b name) h (le_through b a name (le_or a b gt) h)) (λ h. (both_true (name_le a name) (name_le b name) h).0)))

-- whether a name is at or below an upper end
abbrev pub is_up_to : List ℕ → List ℕ → Bool
is_up_to name high = is_open high || name_le name high

with_true : (b : Bool) → b ≡ (b && true)
with_true true = refl
with_true false = refl

below_both : (a b name : List ℕ) → is_up_to name (earlier_high a b) ≡ (is_up_to name a && is_up_to name b)
below_both [] b name = refl
below_both (x ∷ xs) [] name = with_true (name_le name (x ∷ xs))
below_both (x ∷ xs) (y ∷ ys) name =
    by_cases (name_le (x ∷ xs) (y ∷ ys))
    (λ le. rw le (implied (name_le name (x ∷ xs)) (name_le name (x ∷ xs) && name_le name (y ∷ ys)) (λ h. both_hold (name_le name (x ∷ xs)) (name_le name (y ∷ ys)) h (le_through name (x ∷ xs) (y ∷ ys) h le)) (λ h. (both_true (name_le name (x ∷ xs)) (name_le name (y ∷ ys)) h).0)))
    (λ gt. rw gt (implied (name_le name (y ∷ ys)) (name_le name (x ∷ xs) && name_le name (y ∷ ys)) (λ h. both_hold (name_le name (x ∷ xs)) (name_le name (y ∷ ys)) (le_through name (y ∷ ys) (x ∷ xs) h (le_or (x ∷ xs) (y ∷ ys) gt)) h) (λ h. (both_true (name_le name (x ∷ xs)) (name_le name (y ∷ ys)) h).1)))

pub by_ends : (low high name : List ℕ) → is_between low high name ≡ (name_le low name && is_up_to name high)
by_ends low high name = ap (λ (b : Bool). b && is_up_to name high) (at_low low name)

crossed : (a b c d : Bool) → ((a && b) && (c && d)) ≡ ((a && c) && (b && d))
crossed true true c d = refl
crossed true false true d = refl
crossed true false false d = refl
crossed false b c d = refl

-- what lies between both_true pairs of ends lies between the greater lower and the lesser upper end
between_both : (low high low' high' name : List ℕ) → is_between (later_low low low') (earlier_high high high') name ≡ (is_between low high name && is_between low' high' name)
between_both low high low' high' name =
    by_ends (later_low low low') (earlier_high high high') name
    ∙ (ap (λ (b : Bool). b && is_up_to name (earlier_high high high')) (above_both low low' name)
    ∙ (ap (λ (b : Bool). (name_le low name && name_le low' name) && b) (below_both high high' name)
    ∙ (crossed (name_le low name) (name_le low' name) (is_up_to name high) (is_up_to name high')
    ∙ (ap (λ (b : Bool). b && (name_le low' name && is_up_to name high')) (sym (by_ends low high name))
    ∙ ap (λ (b : Bool). is_between low high name && b) (sym (by_ends low' high' name))))))

up_through : (low high name : List ℕ) → name_le low name ≡ true → is_up_to name high ≡ true → has_names low high ≡ true
up_through low [] name h k = refl
up_through low (y ∷ ys) name h k = le_through low name (y ∷ ys) h k

ends_of : (low high name : List ℕ) → is_between low high name ≡ true → (name_le low name ≡ true) × (is_up_to name high ≡ true)
ends_of low high name h = both_true (name_le low name) (is_up_to name high) (sym (by_ends low high name) ∙ h)

-- the lower of two ends lies between them, if some name does
first_between : (low high : List ℕ) → has_names low high ≡ true → is_between low high low ≡ true
first_between low high h = by_ends low high low ∙ both_hold (name_le low low) (is_up_to low high) (le_itself low) h

names_between : (low high name : List ℕ) → is_between low high name ≡ true → has_names low high ≡ true
names_between low high name h = let e = ends_of low high name h in up_through low high name e.0 e.1

-- two ranges of names meet exactly where some name lies in both_true
pub some_in_both : (low high low' high' : List ℕ) → (do_meet low high low' high' ≡ true) ↔ ((name : List ℕ) × (is_between low high name ≡ true) × (is_between low' high' name ≡ true))
some_in_both low high low' high' = (
  λ h.
      let name = later_low low low' in
      let e = both_true (is_between low high name) (is_between low' high' name) (sym (between_both low high low' high' name) ∙ first_between name (earlier_high high high') h) in
      (name, e.0, e.1),
  λ f. names_between (later_low low low') (earlier_high high high') f.0 (between_both low high low' high' f.0 ∙ both_hold (is_between low high f.0) (is_between low' high' f.0) f.1 f.2),
)

-- ---- a walk that ended at a column
abbrev is_come_to : Bool → List ℕ → List ℕ → Bool
is_come_to reversed last name = if reversed then name_le last name else name_le name last

to_come : (reversed : Bool) (low high last : List ℕ) → comes_to reversed low high last ≡ true → (name : List ℕ) × (is_between low high name ≡ true) × (is_come_to reversed last name ≡ true)
to_come true low high last h =
    let name = later_low low last in
    let e = ends_of name high name (first_between name high h) in
    let l = both_true (name_le low name) (name_le last name) (sym (above_both low last name) ∙ e.0) in
    (name, by_ends low high name ∙ both_hold (name_le low name) (is_up_to name high) l.0 e.1, l.1)
to_come false low high last h = let e = both_true (has_names low high) (name_le low last) h in (low, first_between low high e.0, e.1)

came_to : (reversed : Bool) (low high last name : List ℕ) → is_between low high name ≡ true → is_come_to reversed last name ≡ true → comes_to reversed low high last ≡ true
came_to true low high last name h k =
    let e = ends_of low high name h in
    up_through (later_low low last) high name (above_both low last name ∙ both_hold (name_le low name) (name_le last name) e.0 k) e.1
came_to false low high last name h k =
    let e = ends_of low high name h in
    both_hold (has_names low high) (name_le low last) (names_between low high name h) (le_through low name last e.0 k)

-- whether a walk that wasn't cut short by its count, or else ended at a column, came to the name
abbrev has_come : Bool → Bool → Option Column → List ℕ → Bool
has_come reversed whole last name = whole || option_map_or (λ c. is_come_to reversed c.name name) last false

abbrev comes : Bool → Bool → Option Column → List ℕ → List ℕ → Bool
comes reversed whole last low high = if whole then has_names low high else option_map_or (λ c. comes_to reversed low high c.name) last false

some_come : (reversed whole : Bool) (last : Option Column) (low high : List ℕ) → comes reversed whole last low high ≡ true → (name : List ℕ) × (is_between low high name ≡ true) × (has_come reversed whole last name ≡ true)
some_come reversed true last low high h = (low, first_between low high h, refl)
some_come reversed false None low high h = absurd (cc)
some_come reversed false (Some c) low high h = to_come reversed low high c.name h

come_some : (reversed whole : Bool) (last : Option Column) (low high name : List ℕ) → is_between low high name ≡ true → has_come reversed whole last name ≡ true → comes reversed whole last low high ≡ true
come_some reversed true last low high name h k = names_between low high name h
come_some reversed false None low high name h k = absurd (cc)
come_some reversed false (Some c) low high name h k = came_to reversed low high c.name name h k

-- ---- what a read looked at
in_walk : (start finish : List ℕ) (reversed : Bool) (name : List ℕ) → is_in_walk start finish reversed name ≡ is_between (low_end start finish reversed) (high_end start finish reversed) name
in_walk start finish true name = refl
in_walk start finish false name = refl

either : (a b : Bool) → b ≡ true → (a || b) ≡ true
either true b h = refl
either false b h = h

listed_between : (names : List (List ℕ)) (low high : List ℕ) → list_any (λ n. is_between low high n) names ≡ true → (name : List ℕ) × (list_any (λ n. bytes_eq n name) names ≡ true) × (is_between low high name ≡ true)
listed_between [] low high h = absurd (cc)
listed_between (n ∷ ns) low high h = go (λ g. listed_between ns low high g) (is_between low high n) refl h
  where
    go : (list_any (λ m. is_between low high m) ns ≡ true → (name : List ℕ) × (list_any (λ m. bytes_eq m name) ns ≡ true) × (is_between low high name ≡ true))
        → (b : Bool) → is_between low high n ≡ b → (b || list_any (λ m. is_between low high m) ns) ≡ true
        → (name : List ℕ) × (list_any (λ m. bytes_eq m name) (n ∷ ns) ≡ true) × (is_between low high name ≡ true)
    go ih true e g = let itself : bytes_eq n n ≡ true = (bytes_eq-Decides n n).1 refl in (n, rw itself refl, e)
    go ih false e g = let f = ih g in (f.0, either (bytes_eq n f.0) (list_any (λ m. bytes_eq m f.0) ns) f.1, f.2)

between_listed : (names : List (List ℕ)) (low high name : List ℕ) → list_any (λ n. bytes_eq n name) names ≡ true → is_between low high name ≡ true → list_any (λ n. is_between low high n) names ≡ true
between_listed [] low high name h k = absurd (cc)
between_listed (n ∷ ns) low high name h k = go (λ g. between_listed ns low high name g k) (bytes_eq n name) refl h
  where
    go : (list_any (λ m. bytes_eq m name) ns ≡ true → list_any (λ m. is_between low high m) ns ≡ true) → (b : Bool) → bytes_eq n name ≡ b → (b || list_any (λ m. bytes_eq m name) ns) ≡ true
        → list_any (λ m. is_between low high m) (n ∷ ns) ≡ true
    go ih true e g = let here : is_between low high n ≡ true = ap (is_between low high) ((bytes_eq-Decides n name).0 e) ∙ k in rw here refl
    go ih false e g = either (is_between low high n) (list_any (λ m. is_between low high m) ns) (ih g)

meets_some : (p : Predicate) (columns : List Column) (low high : List ℕ) → meets p columns low high ≡ true → SomeLookedAt p columns low high
meets_some (Names names) columns low high h =
    let f = listed_between names low high h in
    (f.0, both_hold (list_any (λ n. bytes_eq n f.0) names) true f.1 refl, f.2)
meets_some (Range start finish reversed count) columns low high h =
    let f = some_come reversed (nat_lt (length columns) count) (slice_get columns (length columns - 1)) (later_low (low_end start finish reversed) low) (earlier_high (high_end start finish reversed) high) h in
    let e = both_true (is_between (low_end start finish reversed) (high_end start finish reversed) f.0) (is_between low high f.0) (sym (between_both (low_end start finish reversed) (high_end start finish reversed) low high f.0) ∙ f.1) in
    (f.0, both_hold (is_asked (Range start finish reversed count) f.0) (is_within (Range start finish reversed count) columns f.0) (in_walk start finish reversed f.0 ∙ e.0) f.2, e.1)

some_meets : (p : Predicate) (columns : List Column) (low high : List ℕ) → SomeLookedAt p columns low high → meets p columns low high ≡ true
some_meets (Names names) columns low high f = between_listed names low high f.0 (both_true (list_any (λ n. bytes_eq n f.0) names) true f.1).0 f.2
some_meets (Range start finish reversed count) columns low high f =
    let e = both_true (is_asked (Range start finish reversed count) f.0) (is_within (Range start finish reversed count) columns f.0) f.1 in
    come_some reversed (nat_lt (length columns) count) (slice_get columns (length columns - 1)) (later_low (low_end start finish reversed) low) (earlier_high (high_end start finish reversed) high) f.0
    (between_both (low_end start finish reversed) (high_end start finish reversed) low high f.0 ∙ both_hold (is_between (low_end start finish reversed) (high_end start finish reversed) f.0) (is_between low high f.0) (sym (in_walk start finish reversed f.0) ∙ e.0) f.2)
    e.1

-- a read meets a range exactly where it looked at some column of it
pub meets_exactly : (p : Predicate) (columns : List Column) (low high : List ℕ) → (meets p columns low high ≡ true) ↔ SomeLookedAt p columns low high
meets_exactly p columns low high = (meets_some p columns low high, some_meets p columns low high)

asks_some : (p : Predicate) (low high : List ℕ) → asks_between p low high ≡ true → SomeAsked p low high
asks_some (Names names) low high h = listed_between names low high h
asks_some (Range start finish reversed count) low high h =
    let f = (some_in_both (low_end start finish reversed) (high_end start finish reversed) low high).0 h in
    (f.0, in_walk start finish reversed f.0 ∙ f.1, f.2)

some_asked : (p : Predicate) (low high : List ℕ) → SomeAsked p low high → asks_between p low high ≡ true
some_asked (Names names) low high f = between_listed names low high f.0 f.1 f.2
some_asked (Range start finish reversed count) low high f = (some_in_both (low_end start finish reversed) (high_end start finish reversed) low high).1 (f.0, sym (in_walk start finish reversed f.0) ∙ f.1, f.2)

-- a predicate asks between two ends exactly where it asks for some column there
pub asks_exactly : (p : Predicate) (low high : List ℕ) → (asks_between p low high ≡ true) ↔ SomeAsked p low high
asks_exactly p low high = (asks_some p low high, some_asked p low high)
