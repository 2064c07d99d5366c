-- Shapes of JSON values.
use Rattle.std.specs.Prelude.{ℕ, suc, ◌==◌, nat_le, nat_lt, List, [], ◌∷◌, length, Bool, false, Option, Some, None, option_map, option_and_then, is_some, if◌then◌else◌}
use Rattle.serde_json.specs.Data.{Data, Items, no_items, item, Members, no_members, member}
use Rattle.serde_json.specs.Find.{as_number, as_u64, as_str, as_array, as_object, get, at}

abbrev pub if_below : ℕ → ℕ → Option ℕ
if_below end n = if nat_lt n end then Some n else None

-- a whole number from 0 to 2^64 - 1, written without a sign, a fraction and an exponent
abbrev pub whole_of : Data → Option ℕ
whole_of d = option_and_then as_u64 (as_number d)

-- a whole number below an end
abbrev pub whole_below : ℕ → Data → Option ℕ
whole_below end d = option_and_then (if_below end) (whole_of d)

abbrev pub members_len : Members → ℕ
members_len no_members = 0
members_len (member k d ms) = suc (members_len ms)

-- the items of a list
abbrev pub data_of : Items → List Data
data_of no_items = []
data_of (item d ds) = d ∷ data_of ds

abbrev pub is_same : ℕ → Option ℕ → Bool
is_same n None = false
is_same n (Some m) = m == n

-- whether it is an object of this many members
abbrev pub has_members : ℕ → Data → Bool
has_members n d = is_same n (option_map members_len (as_object d))

abbrev pub items_len : Items → ℕ
items_len ds = length (data_of ds)

-- whether it is a list of this many items
abbrev pub has_items : ℕ → Data → Bool
has_items n d = is_same n (option_map items_len (as_array d))

-- 1 where it is an object with this member, and else 0
abbrev pub members_named : List ℕ → Data → ℕ
members_named name d = if is_some (get name d) then 1 else 0

-- what the item at a place stands for
abbrev pub part_at : {A : Type 0} → (Data → Option A) → ℕ → Data → Option A
part_at f i d = option_and_then f (at i d)

-- what the member of a name stands for
abbrev pub member_by : {A : Type 0} → (Data → Option A) → List ℕ → Data → Option A
member_by f name d = option_and_then f (get name d)

abbrev pub text_at : ℕ → Data → Option (List ℕ)
text_at = part_at as_str

-- what each item of a list stands for, in order
abbrev pub all_by : {A : Type 0} → (Data → Option A) → List Data → Option (List A)
all_by f [] = Some []
all_by f (d ∷ ds) = option_and_then (λ x. option_map (λ xs. x ∷ xs) (all_by f ds)) (f d)

-- what the items of a list stand for
abbrev pub list_by : {A : Type 0} → (Data → Option A) → Data → Option (List A)
list_by f d = option_and_then (λ ds. all_by f (data_of ds)) (as_array d)

-- the same of at most this many items
abbrev pub all_within : {A : Type 0} → (Data → Option A) → ℕ → List Data → Option (List A)
all_within f most ds = if nat_le (length ds) most then all_by f ds else None

abbrev pub list_within : {A : Type 0} → (Data → Option A) → ℕ → Data → Option (List A)
list_within f most d = option_and_then (λ ds. all_within f most (data_of ds)) (as_array d)
