-- Marks of the rows that changes touch, one after the other.
use Rattle.std.proofs.Common.{◌≡◌, ◌∙◌, sym, ap, subst, refl, ℕ, Bool, true, false, ◌&&◌, ◌||◌, List, [], ◌∷◌, Option, None}
use Rattle.std.specs.Prelude.{if◌then◌else◌}
use Rattle.std.specs.Ordering.{is_eq}
use Rattle.logical_time.specs.Stamps.{TxnValue, txn_cmp}
use Rattle.column_family.specs.declared.batch.Row.{Row}
use Rattle.column_family.specs.declared.batch.Change.{Change}
use Rattle.column_family.specs.Location.{is_same_row}
use Rattle.column_family.proofs.Firsts.{row_test}
use Rattle.column_family.proofs.Kept.{one_row}
use Rattle.pending.specs.Marks.{MarkList, time_at, is_same_mark}
use Rattle.pending.specs.Marked.{touches, AreCleared}

marked_as : (here same later : Bool) (new old : Option ℕ) → (if same && later then new else (if here && same then new else old)) ≡ (if same && (here || later) then new else old)
marked_as true true true new old = refl
marked_as true true false new old = refl
marked_as true false later new old = refl
marked_as false true true new old = refl
marked_as false true false new old = refl
marked_as false false later new old = refl

repeated_as : (here later : Bool) → (here ≡ true → later ≡ true) → later ≡ (here || later)
repeated_as true later h = h refl
repeated_as false later h = refl

-- once the marks of the transaction on the rows of the rest are these too, those on the rows of all changes are
abbrev pub WillBe : MarkList → MarkList → List Change → List Change → TxnValue → Option ℕ → Type 0
WillBe old now rest changes u new =
    (r : Row) (t : TxnValue) → (if is_eq (txn_cmp u t) && touches rest r then new else time_at now r t) ≡ (if is_eq (txn_cmp u t) && touches changes r then new else time_at old r t)

none_left : (same : Bool) (new now : Option ℕ) → now ≡ (if same && false then new else now)
none_left true new now = refl
none_left false new now = refl

pub all_are : (old now : MarkList) (changes : List Change) (u : TxnValue) (new : Option ℕ) → WillBe old now [] changes u new
    → (r : Row) (t : TxnValue) → time_at now r t ≡ (if is_eq (txn_cmp u t) && touches changes r then new else time_at old r t)
all_are old now changes u new w r t = none_left (is_eq (txn_cmp u t)) new (time_at now r t) ∙ w r t

-- the next row is done
pub one_is : (old mid now : MarkList) (c : Change) (rest changes : List Change) (u : TxnValue) (new : Option ℕ) → WillBe old mid (c ∷ rest) changes u new
    → ((r : Row) (t : TxnValue) → time_at now r t ≡ (if is_same_mark c.row u r t then new else time_at mid r t))
    → WillBe old now rest changes u new
one_is old mid now c rest changes u new m one r t =
    let same = is_eq (txn_cmp u t) in
    ap (λ (o : Option ℕ). if same && touches rest r then new else o) (one r t)
    ∙ ap (λ (b : Bool). if same && touches rest r then new else (if b && same then new else time_at mid r t)) (row_test c.row r)
    ∙ marked_as (is_same_row r c.row) same (touches rest r) new (time_at mid r t)
    ∙ m r t

-- the next row is done later
pub is_later : (old mid : MarkList) (c : Change) (rest changes : List Change) (u : TxnValue) (new : Option ℕ) → touches rest c.row ≡ true → WillBe old mid (c ∷ rest) changes u new → WillBe old mid rest changes u new
is_later old mid c rest changes u new later m r t =
    let here : is_same_row r c.row ≡ true → touches rest r ≡ true = λ h. subst (λ (s : Row). touches rest s ≡ true) (sym (one_row r c.row h)) later in
    ap (λ (b : Bool). if is_eq (txn_cmp u t) && b then new else time_at mid r t) (repeated_as (is_same_row r c.row) (touches rest r) here)
    ∙ m r t

-- whoever touches the rest touches all
abbrev pub AreAmong : List Change → List Change → Type 0
AreAmong rest changes = (r : Row) → touches rest r ≡ true → touches changes r ≡ true

either : (a b : Bool) → b ≡ true → (a || b) ≡ true
either true b h = refl
either false b h = h

pub still_among : (c : Change) (rest changes : List Change) → AreAmong (c ∷ rest) changes → AreAmong rest changes
still_among c rest changes among r h = among r (either (is_same_row r c.row) (touches rest r) h)

cleared_as : (same later all : Bool) (new mid old : Option ℕ) → (later ≡ true → all ≡ true) → (if same && later then new else mid) ≡ (if same && all then new else old) → (if same && all then None else mid) ≡ (if same && all then None else old)
cleared_as true later true new mid old among h = refl
cleared_as true true false new mid old among h = let no = among refl in absurd (cc)
cleared_as true false false new mid old among h = h
cleared_as false later all new mid old among h = h

-- what was marked so far is cleared again
pub cleared_marked : (old mid now : MarkList) (rest changes : List Change) (u : TxnValue) (new : Option ℕ) → AreAmong rest changes → WillBe old mid rest changes u new → AreCleared mid now changes u → AreCleared old now changes u
cleared_marked old mid now rest changes u new among m cleared r t =
    cleared r t ∙ cleared_as (is_eq (txn_cmp u t)) (touches rest r) (touches changes r) new (time_at mid r t) (time_at old r t) (among r) (m r t)
