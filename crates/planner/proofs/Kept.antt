-- The items of a shard, by the shards of all.
use Rattle.std.proofs.Common.{◌≡◌, ◌∙◌, ap, sym, subst, refl, Bool, true, false, cond, ℕ, ◌+◌, ◌<◌, List, [], ◌∷◌, map, length, get_or, drop, sum, eq-eqb, arith}
use Rattle.std.specs.Prelude.{◌==◌, ◌||◌, ◌&&◌, not}
use Rattle.std.specs.List.{Contains, filter, list_any, range_with_len}
use Rattle.std.proofs.lemmas.List.{drop_more}
use Rattle.std.proofs.lemmas.Nat.{mod_below}
use Rattle.column_family.specs.declared.batch.Change.{Change}
use Rattle.table.specs.Meaning.{each_once}
use Rattle.planner.specs.declared.batches.ShardPart.{ShardPart}
use Rattle.planner.specs.Homes.{home_of, kept_of}
use Rattle.planner.specs.Partition.{shard_of}
use Rattle.planner.specs.Plan.{is_on, keys_for, part_for, is_touched}
use Rattle.planner.specs.Planned.{part_on}
use Rattle.planner.proofs.Asked.{each_once_any}
use Rattle.planner.proofs.Members.{contains_head, contains_tail, contains_filter, contains_any, contains_below, none_in}

-- they are those that a test of the shard keeps of items with a home
pub kept_filter : {X : Type 0} (home : X → ℕ) (s : ℕ) (xs : List X) → kept_of s (map home xs) xs ≡ filter (λ x. home x == s) xs
kept_filter home s [] = refl
kept_filter home s (x ∷ xs) = ap (λ ys. cond (home x == s) (x ∷ ys) ys) (kept_filter home s xs)

-- and there is one where an item passes the test
pub home_any : {X : Type 0} (home : X → ℕ) (s : ℕ) (xs : List X) → list_any (λ h. h == s) (map home xs) ≡ list_any (λ x. home x == s) xs
home_any home s [] = refl
home_any home s (x ∷ xs) = ap (λ b. (home x == s) || b) (home_any home s xs)

-- a test that each item passes keeps all
all_kept : {X : Type 0} (p : X → Bool) (xs : List X) → ((x : X) → Contains xs x → p x ≡ true) → filter p xs ≡ xs
all_kept p [] h = refl
all_kept p (x ∷ xs) h = rw (h x (contains_head x xs)) (ap (λ ys. x ∷ ys) (all_kept p xs (λ y has. h y (contains_tail x xs y has))))

-- ---- a loop that goes on by one item
kept_next : {X : Type 0} (s : ℕ) (hs : List ℕ) (xs : List X) (i : ℕ) (d : X) → i < length hs → length hs ≡ length xs
    → kept_of s (drop i hs) (drop i xs) ≡ cond (get_or hs i 0 == s) (get_or xs i d ∷ kept_of s (drop (i + 1) hs) (drop (i + 1) xs)) (kept_of s (drop (i + 1) hs) (drop (i + 1) xs))
kept_next s hs xs i d lt same =
    let lt' : i < length xs = omega (arith, lt, same) in
    rw (drop_more hs i 0 lt, drop_more xs i d lt') refl

-- there is an item below the length
some_item : {X : Type 0} (xs : List X) (i : ℕ) → i < length xs → X
some_item [] i lt = absurd (omega (arith, lt))
some_item (x ∷ xs) i lt = x

pub kept_yes : {X : Type 0} (s : ℕ) (hs : List ℕ) (xs : List X) (i : ℕ) (d : X) → i < length hs → length hs ≡ length xs → (get_or hs i 0 == s) ≡ true
    → kept_of s (drop i hs) (drop i xs) ≡ get_or xs i d ∷ kept_of s (drop (i + 1) hs) (drop (i + 1) xs)
kept_yes s hs xs i d lt same e = kept_next s hs xs i d lt same ∙ rw e refl

pub kept_no : {X : Type 0} (s : ℕ) (hs : List ℕ) (xs : List X) (i : ℕ) → i < length hs → length hs ≡ length xs → (get_or hs i 0 == s) ≡ false
    → kept_of s (drop i hs) (drop i xs) ≡ kept_of s (drop (i + 1) hs) (drop (i + 1) xs)
kept_no s hs xs i lt same e =
    let there = some_item xs i (omega (arith, lt, same)) in
    kept_next s hs xs i there lt same ∙ rw e refl

-- ---- the changes of a batch
pub kept_part : (shards s : ℕ) (changes part : List Change) (homes : List ℕ) → homes ≡ map (home_of shards) changes → part ≡ kept_of s homes changes → part ≡ part_for shards changes s
kept_part shards s changes part homes is_home is = is ∙ ap (λ hs. kept_of s hs changes) is_home ∙ kept_filter (home_of shards) s changes

pub home_touched : (shards s : ℕ) (changes : List Change) (homes : List ℕ) → homes ≡ map (home_of shards) changes → list_any (λ h. h == s) homes ≡ is_touched shards changes s
home_touched shards s changes homes is_home = ap (list_any (λ h. h == s)) is_home ∙ home_any (home_of shards) s changes

-- where no other shard is touched, the part of a shard has all
whole_part : (shards k : ℕ) (changes : List Change) → 0 < shards → filter (λ s. not (s == k) && is_touched shards changes s) (range_with_len 0 shards) ≡ [] → part_for shards changes k ≡ changes
whole_part shards k changes some none = all_kept (λ c. is_on shards k c.row.key) changes (λ c has. at c has)
  where
    at : (c : Change) → Contains changes c → is_on shards k c.row.key ≡ true
    at c has = go (shard_of shards c.row.key == k) refl
      where
        touched : is_touched shards changes (shard_of shards c.row.key) ≡ true
        touched = contains_any (λ d. is_on shards (shard_of shards c.row.key) d.row.key) changes c has (eq-eqb (shard_of shards c.row.key) (shard_of shards c.row.key) refl)

        go : (b : Bool) → (shard_of shards c.row.key == k) ≡ b → (shard_of shards c.row.key == k) ≡ true
        go true e = e
        go false e =
            let s = shard_of shards c.row.key in
            let t = touched in
            let there = contains_filter (λ s. not (s == k) && is_touched shards changes s) (range_with_len 0 shards) s (contains_below shards s (mod_below (sum c.row.key) shards some)) (rw (e, t) refl) in
            absurd (none_in s (subst (λ ss. Contains ss s) none there))

-- what is mapped to nothing is nothing
no_parts : {X Y : Type 0} (f : X → Y) (xs : List X) → length (map f xs) ≡ 0 → xs ≡ []
no_parts f [] e = refl
no_parts f (x ∷ xs) e = absurd (omega (arith, e))

-- the same by the parts of the other shards
pub alone_part : (shards k : ℕ) (changes kept : List Change) (parts : List ShardPart) → 0 < shards → changes ≡ kept
    → parts ≡ map (part_on shards changes) (filter (λ s. not (s == k) && is_touched shards changes s) (range_with_len 0 shards)) → length parts ≡ 0 → part_for shards kept k ≡ kept
alone_part shards k changes kept parts some same is none =
    ap (λ cs. part_for shards cs k) (sym same)
    ∙ whole_part shards k changes some (no_parts (part_on shards changes) (filter (λ s. not (s == k) && is_touched shards changes s) (range_with_len 0 shards)) (ap length (sym is) ∙ none))
    ∙ same

-- ---- the keys of a read
pub kept_keys : (shards s : ℕ) (keys once own : List (List ℕ)) (homes : List ℕ) → once ≡ each_once keys → homes ≡ map (shard_of shards) once
    → own ≡ kept_of s homes once → own ≡ keys_for shards keys s
kept_keys shards s keys once own homes is_once is_home is_own =
    is_own ∙ ap (λ hs. kept_of s hs once) is_home ∙ kept_filter (shard_of shards) s once ∙ ap (filter (is_on shards s)) is_once

pub home_asked : (shards s : ℕ) (keys once : List (List ℕ)) (homes : List ℕ) → once ≡ each_once keys → homes ≡ map (shard_of shards) once
    → list_any (λ h. h == s) homes ≡ list_any (is_on shards s) keys
home_asked shards s keys once homes is_once is_home =
    ap (list_any (λ h. h == s)) is_home ∙ home_any (shard_of shards) s once ∙ ap (list_any (is_on shards s)) is_once ∙ each_once_any (is_on shards s) keys
