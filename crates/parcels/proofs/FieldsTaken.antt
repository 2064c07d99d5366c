-- Fields that are read are spelled by the bytes that they took, however many these are.
use Rattle.std.proofs.Common.{◌≡◌, ℕ, zero, suc, ◌^◌, ◌<◌, ◌≤◌, Bool, true, false, cond, ltb, ◌&&◌, ◌==◌, List, [], ◌∷◌, ◌++◌, length, take, drop, Result, Ok, Err, refl, sym, ap, subst, ◌∙◌, append_assoc, arith, inl, inr}
use Rattle.std.specs.Prelude.{nat_lt}
use Rattle.std.specs.List.{flat_map, list_all}
use Rattle.std.proofs.lemmas.Bool.{ltb-false, lt-ltb, eqb-true, and_from}
use Rattle.std.proofs.lemmas.List.{take-append-drop, length-take}
use Rattle.std.proofs.lemmas.List.Concat.{flat_map-cons}
use Rattle.std.proofs.lemmas.Nat.{be_bytes_8}
use Rattle.byteorder.specs.Endian.{big_number, big_bytes}
use Rattle.byteorder.specs.Numbers.{big_from-lt}
use Rattle.logical_time.specs.declared.fault.Fault.{Fault}
use Rattle.logical_time.specs.declared.fault.Fault.TheVariants.{BadCount, Truncated}
use Rattle.column_family.specs.declared.batch.Mutation.TheVariants.{Insert, DeleteColumn, DeleteRow, DeleteRange}
use Rattle.slice.specs.declared.predicate.Predicate.TheVariants.{Names, Range}
use Rattle.messages.specs.declared.rows_at.AtTime.{AtTime}
use Rattle.messages.specs.declared.rows_at.AtTime.TheVariants.{Collected, Rows}
use Rattle.messages.specs.CohortBits.{shards_in}
use Rattle.messages.specs.CohortLaws.{bits_back}
use Rattle.wire.specs.Fields.{sized, is_sized, counted}
use Rattle.wire.specs.Requests.{mutation, fits_mutation, change, fits_change, flag, predicate}
use Rattle.wire.specs.Replies.{column, fits_column}
use Rattle.wire.specs.Reading.{◌>>=◌, number_at, cut_at, sized_at, list_at, count_at, counted_at, insertion_at, deletion_at, range_deletion_at, mutation_at, change_at, flag_at, names_at, range_at, predicate_at}
use Rattle.wire.proofs.Steps.{IsBytes, IsBytes-drop, bind_ok, guard_ok, done, ok_is, chosen}
use Rattle.wire.proofs.FieldsTaken.{IsWide, wide1, wide2, wide4, number_front}
use Rattle.parcels.specs.Spelling.{is_listed, number, fits_number, time, fits_time, node, fits_node, shard, fits_shard, txn, fits_txn, stamp, fits_stamp, writer, fits_writer, cohorts, fits_cohorts, asked, row_now, fits_row_now, row_at, fits_row_at, at_time, fits_at_time}
use Rattle.parcels.specs.Reading.{time_at, shard_at, txn_at, stamp_at, writer_at, cohorts_at, asked_at, column_at, row_now_at, row_at_at, rows_at_at, at_time_at}
use Rattle.parcels.proofs.Listed.{lists_names, lists_asked}
use Rattle.parcels.proofs.FieldsAgain.{cohorts_fit}

-- ## Steps

-- bytes are a text, which fits, and the rest
pub record Took (bytes text : List ℕ) (fit : Bool) (rest : List ℕ) : Type 0 where
  pub parts : bytes ≡ text ++ rest
  pub fits : fit ≡ true
  pub small : IsBytes rest

-- each value that is read is spelled by the bytes that it took, and fits
abbrev pub AllTook : {A : Type 0} → (List ℕ → Result (A × List ℕ) Fault) → (A → List ℕ) → (A → Bool) → Type 0
AllTook {A = A} read_at spell fit = (bytes : List ℕ) (x : A × List ℕ) → IsBytes bytes → read_at bytes ≡ Ok x → Took bytes (spell x.0) (fit x.0) x.1

-- the same of values behind their kind
abbrev pub KindTook : {A : Type 0} → ℕ → (List ℕ → Result (A × List ℕ) Fault) → (A → List ℕ) → (A → Bool) → Type 0
KindTook {A = A} kind read_at spell fit = (rest : List ℕ) (x : A × List ℕ) → IsBytes rest → read_at rest ≡ Ok x → Took (kind ∷ rest) (spell x.0) (fit x.0) x.1

-- a step that found no fault: what follows of what it read, of what that took, and of how it goes on
pub step : {A B C : Type 0} {read_at : List ℕ → Result (A × List ℕ) Fault} (spell : A → List ℕ) (fit : A → Bool) → AllTook read_at spell fit → (bytes : List ℕ) (f : A × List ℕ → Result B Fault) (y : B) → IsBytes bytes → (read_at bytes >>= f) ≡ Ok y
    → ((x : A × List ℕ) → Took bytes (spell x.0) (fit x.0) x.1 → f x ≡ Ok y → C) → C
step {read_at = read_at} spell fit takes bytes f y small e goes_on =
    let a = bind_ok (read_at bytes) f y e in
    goes_on a.0 (takes bytes a.0 small a.1) a.2

pub then : {a x b y c : List ℕ} {p q : Bool} → Took a x p b → Took b y q c → Took a (x ++ y) (p && q) c
then {x = x} {y = y} {c = c} {p = p} {q = q} s t = record {
  parts = s.parts ∙ ap (λ (r : List ℕ). x ++ r) t.parts ∙ sym (append_assoc x y c);
  fits = and_from p q s.fits t.fits;
  small = t.small;
}

pub behind : (k : ℕ) {a x b : List ℕ} {p : Bool} → Took a x p b → Took (k ∷ a) (k ∷ x) p b
behind k s = record { parts = ap (λ (r : List ℕ). k ∷ r) s.parts; fits = s.fits; small = s.small }

-- what was read is what was made
is_made : {A : Type 0} (spell : A → List ℕ) (fit : A → Bool) (bytes : List ℕ) (y x : A × List ℕ) → y ≡ x → Took bytes (spell y.0) (fit y.0) y.1 → Took bytes (spell x.0) (fit x.0) x.1
is_made {A = A} spell fit bytes y x e took = subst (λ (z : A × List ℕ). Took bytes (spell z.0) (fit z.0) z.1) e took

pub made : {A : Type 0} (spell : A → List ℕ) (fit : A → Bool) (bytes : List ℕ) (y x : A × List ℕ) → done y ≡ done x → Took bytes (spell y.0) (fit y.0) y.1 → Took bytes (spell x.0) (fit x.0) x.1
made spell fit bytes y x e took = is_made spell fit bytes y x (ok_is y x e) took

-- which kind it is, and what was read then
pub kind_is : {A C : Type 0} (k n : ℕ) (here there y : Result A Fault) → cond (k == n) here there ≡ y → (k ≡ n → here ≡ y → C) → (there ≡ y → C) → C
kind_is k n here there y e this others =
    elim (chosen (k == n) here there y e) [
      | inl h ↦ this (eqb-true k n h.0) h.1
      | inr g ↦ others g.1
    ]

pub rest_small : (b : ℕ) (bytes : List ℕ) → IsBytes (b ∷ bytes) → IsBytes bytes
rest_small b bytes small i = small (suc i)

-- ## Numbers and texts

wide8 : IsWide 8
wide8 bytes len small = be_bytes_8 bytes (big_number 8 bytes) len small (omega arith)

abbrev fits_wide : ℕ → ℕ → Bool
fits_wide w n = nat_lt n (256 ^ w)

number_takes : (w : ℕ) → IsWide w → AllTook (number_at w) (big_bytes w) (fits_wide w)
number_takes w wide bytes x small e =
    let g = guard_ok (ltb (length bytes) w) Truncated (big_number w bytes, drop w bytes) x e in
    is_made (big_bytes w) (fits_wide w) bytes (big_number w bytes, drop w bytes) x g.1 (record {
      parts = number_front w wide bytes small (ltb-false _ _ g.0);
      fits = lt-ltb _ _ (big_from-lt 0 w bytes small);
      small = IsBytes-drop w bytes small;
    })

sized_takes : (w : ℕ) → IsWide w → AllTook (sized_at w) (sized w) (is_sized w)
unfolding sized_at
sized_takes w wide bytes x small e =
    step (big_bytes w) (fits_wide w) (number_takes w wide) bytes (λ n. cut_at n.0 n.1) x small e (λ n t e1.
    let g = guard_ok (ltb (length n.1) n.0) Truncated (take n.0 n.1, drop n.0 n.1) x e1 in
    let long : n.0 ≤ length n.1 = ltb-false _ _ g.0 in
    let len : length (take n.0 n.1) ≡ n.0 = omega (arith, length-take n.0 n.1) in
    let second : Took n.1 (take n.0 n.1) true (drop n.0 n.1) = record { parts = sym (take-append-drop n.0 n.1); fits = refl; small = IsBytes-drop n.0 n.1 t.small } in
    let both = then t second in
    is_made (sized w) (is_sized w) bytes (take n.0 n.1, drop n.0 n.1) x g.1 (record {
      parts = subst (λ (k : ℕ). bytes ≡ (big_bytes w k ++ take n.0 n.1) ++ drop n.0 n.1) (sym len) both.parts;
      fits = subst (λ (k : ℕ). fits_wide w k ≡ true) (sym len) t.fits;
      small = both.small;
    }))

pub number8_takes : AllTook (number_at 8) number fits_number
unfolding number fits_number
number8_takes bytes x small e = number_takes 8 wide8 bytes x small e

pub node_takes : AllTook (number_at 2) node fits_node
unfolding node fits_node
node_takes bytes x small e = number_takes 2 wide2 bytes x small e

pub time_takes : AllTook time_at time fits_time
unfolding time_at time fits_time
time_takes bytes x small e =
    let a = bind_ok (number_at 8 bytes) _ x e in
    let t = number_takes 8 wide8 bytes a.0 small a.1 in
    elim (chosen (nat_lt a.0.0 (2 ^ 48)) _ _ _ a.2) [
      | inl h ↦ made time fits_time bytes a.0 x h.1 (record { parts = t.parts; fits = h.0; small = t.small })
      | inr n ↦ absurd cc
    ]

pub shard_takes : AllTook shard_at shard fits_shard
unfolding shard_at shard fits_shard
shard_takes [] x small e = absurd cc
shard_takes (s ∷ rest) x small e =
    elim (chosen (nat_lt s 8) _ _ _ e) [
      | inl h ↦ made shard fits_shard (s ∷ rest) (s, rest) x h.1 (record { parts = refl; fits = h.0; small = rest_small s rest small })
      | inr n ↦ absurd cc
    ]

pub txn_takes : AllTook txn_at txn fits_txn
unfolding txn_at txn fits_txn
txn_takes bytes x small e =
    step node fits_node node_takes bytes _ x small e (λ a s e1.
    step number fits_number number8_takes a.1 _ x s.small e1 (λ b t e2.
    made txn fits_txn bytes (record { session = a.0; number = b.0 }, b.1) x e2 (then s t)))

pub stamp_takes : AllTook stamp_at stamp fits_stamp
unfolding stamp_at stamp fits_stamp
stamp_takes bytes x small e =
    step time fits_time time_takes bytes _ x small e (λ a s e1.
    step node fits_node node_takes a.1 _ x s.small e1 (λ b t e2.
    made stamp fits_stamp bytes (record { time = a.0; node = b.0 }, b.1) x e2 (then s t)))

pub writer_takes : AllTook writer_at writer fits_writer
unfolding writer_at writer fits_writer
writer_takes bytes x small e =
    step txn fits_txn txn_takes bytes _ x small e (λ a s e1.
    step shard fits_shard shard_takes a.1 _ x s.small e1 (λ b t e2.
    made writer fits_writer bytes (record { txn = a.0; shard = b.0 }, b.1) x e2 (then s t)))

pub cohorts_take : AllTook cohorts_at cohorts fits_cohorts
unfolding cohorts_at cohorts
cohorts_take [] x small e = absurd cc
cohorts_take (bits ∷ rest) x small e =
    let lt : bits < 256 = small 0 in
    let back = bits_back bits lt in
    made cohorts fits_cohorts (bits ∷ rest) (shards_in bits, rest) x e (record { parts = rw back refl; fits = cohorts_fit bits (shards_in bits) lt (sym back) refl; small = rest_small bits rest small })

-- ## Lists

list_takes : {A : Type 0} (read_at : List ℕ → Result (A × List ℕ) Fault) (spell : A → List ℕ) (fit : A → Bool) → AllTook read_at spell fit → (n : ℕ) (bytes : List ℕ) (x : List A × List ℕ) → IsBytes bytes → list_at read_at n bytes ≡ Ok x
    → Took bytes (flat_map spell x.0) (list_all fit x.0) x.1 × (length x.0 ≡ n)
unfolding list_at
list_takes {A = A} read_at spell fit one zero bytes x small e =
    subst (λ (y : List A × List ℕ). Took bytes (flat_map spell y.0) (list_all fit y.0) y.1 × (length y.0 ≡ 0)) (ok_is ([], bytes) x e) (record { parts = refl; fits = refl; small = small }, refl)
list_takes {A = A} read_at spell fit one (suc n) bytes x small e =
    let a = bind_ok (read_at bytes) (λ first. list_at read_at n first.1 >>= λ others. Ok (first.0 ∷ others.0, others.1)) x e in
    let b = bind_ok (list_at read_at n a.0.1) (λ others. Ok (a.0.0 ∷ others.0, others.1)) x a.2 in
    let first = one bytes a.0 small a.1 in
    let second = list_takes read_at spell fit one n a.0.1 b.0 first.small b.1 in
    let made : List A × List ℕ = (a.0.0 ∷ b.0.0, b.0.1) in
    subst (λ (y : List A × List ℕ). Took bytes (flat_map spell y.0) (list_all fit y.0) y.1 × (length y.0 ≡ suc n)) {x = made} (ok_is made x b.2) (rw flat_map-cons (then first second.0), ap suc second.1)

count_takes : AllTook count_at (big_bytes 4) (fits_wide 4)
count_takes bytes x small e =
    step (big_bytes 4) (fits_wide 4) (number_takes 4 wide4) bytes (λ n. cond (ltb (length n.1) n.0) (Err BadCount) (Ok n)) x small e (λ n t e1.
    is_made (big_bytes 4) (fits_wide 4) bytes n x (guard_ok (ltb (length n.1) n.0) BadCount n x e1).1 t)

counted_takes : {A : Type 0} (read_at : List ℕ → Result (A × List ℕ) Fault) (spell : A → List ℕ) (fit : A → Bool) → AllTook read_at spell fit → AllTook (counted_at read_at) (counted spell) (is_listed fit)
unfolding counted_at
counted_takes read_at spell fit one bytes x small e =
    step (big_bytes 4) (fits_wide 4) count_takes bytes (λ n. list_at read_at n.0 n.1) x small e (λ n t e1.
    let l = list_takes read_at spell fit one n.0 n.1 x t.small e1 in
    subst (λ (k : ℕ). Took bytes (big_bytes 4 k ++ flat_map spell x.0) (fits_wide 4 k && list_all fit x.0) x.1) (sym l.1) (then t l.0))

pub writers_take : AllTook (counted_at writer_at) (counted writer) (is_listed fits_writer)
writers_take = counted_takes writer_at writer fits_writer writer_takes

-- ## Changes, and what is asked

insertion_takes : KindTook 0 insertion_at mutation fits_mutation
unfolding insertion_at
insertion_takes rest x small e =
    step (sized 2) (is_sized 2) (sized_takes 2 wide2) rest _ x small e (λ a s e1.
    step (sized 4) (is_sized 4) (sized_takes 4 wide4) a.1 _ x s.small e1 (λ b t e2.
    made mutation fits_mutation (0 ∷ rest) (Insert a.0 b.0, b.1) x e2 (behind 0 (then s t))))

deletion_takes : KindTook 1 deletion_at mutation fits_mutation
unfolding deletion_at
deletion_takes rest x small e =
    step (sized 2) (is_sized 2) (sized_takes 2 wide2) rest _ x small e (λ a s e1.
    made mutation fits_mutation (1 ∷ rest) (DeleteColumn a.0, a.1) x e1 (behind 1 s))

range_deletion_takes : KindTook 3 range_deletion_at mutation fits_mutation
unfolding range_deletion_at
range_deletion_takes rest x small e =
    step (sized 2) (is_sized 2) (sized_takes 2 wide2) rest _ x small e (λ a s e1.
    step (sized 2) (is_sized 2) (sized_takes 2 wide2) a.1 _ x s.small e1 (λ b t e2.
    made mutation fits_mutation (3 ∷ rest) (DeleteRange a.0 b.0, b.1) x e2 (behind 3 (then s t))))

mutation_takes : AllTook mutation_at mutation fits_mutation
unfolding mutation_at
mutation_takes [] x small e = absurd cc
mutation_takes (k ∷ rest) x small e =
    let tail = rest_small k rest small in
    kind_is k 0 _ _ _ e (λ is h. rw is (insertion_takes rest x tail h)) (λ e0.
    kind_is k 1 _ _ _ e0 (λ is h. rw is (deletion_takes rest x tail h)) (λ e1.
    kind_is k 2 _ _ _ e1 (λ is h. rw is (made mutation fits_mutation (2 ∷ rest) (DeleteRow, rest) x h (record { parts = refl; fits = refl; small = tail }))) (λ e2.
    kind_is k 3 _ _ _ e2 (λ is h. rw is (range_deletion_takes rest x tail h)) (λ e3.
    absurd cc))))

change_takes : AllTook change_at change fits_change
unfolding change_at
change_takes bytes x small e =
    step (sized 1) (is_sized 1) (sized_takes 1 wide1) bytes _ x small e (λ a s e1.
    step (sized 2) (is_sized 2) (sized_takes 2 wide2) a.1 _ x s.small e1 (λ b t e2.
    step mutation fits_mutation mutation_takes b.1 _ x t.small e2 (λ c u e3.
    made change fits_change bytes (record { row = record { family = a.0; key = b.0 }; mutation = c.0 }, c.1) x e3 (then s (then t u)))))

pub rows_take : AllTook (counted_at change_at) (counted change) (is_listed fits_change)
rows_take = counted_takes change_at change fits_change change_takes

abbrev flag_text : Bool → List ℕ
flag_text b = flag b ∷ []

abbrev any_flag : Bool → Bool
any_flag b = true

flag_takes : AllTook flag_at flag_text any_flag
unfolding flag_at
flag_takes [] x small e = absurd cc
flag_takes (k ∷ rest) x small e =
    let tail = rest_small k rest small in
    kind_is k 0 _ _ _ e (λ is h. rw is (made flag_text any_flag (0 ∷ rest) (false, rest) x h (record { parts = refl; fits = refl; small = tail }))) (λ e0.
    kind_is k 1 _ _ _ e0 (λ is h. rw is (made flag_text any_flag (1 ∷ rest) (true, rest) x h (record { parts = refl; fits = refl; small = tail }))) (λ e1.
    absurd cc))

texts_take : AllTook (counted_at (sized_at 2)) (counted (sized 2)) (is_listed (is_sized 2))
texts_take = counted_takes (sized_at 2) (sized 2) (is_sized 2) (sized_takes 2 wide2)

names_take : KindTook 0 names_at predicate lists_names
unfolding names_at
names_take rest x small e =
    step (counted (sized 2)) (is_listed (is_sized 2)) texts_take rest _ x small e (λ a s e1.
    made predicate lists_names (0 ∷ rest) (Names a.0, a.1) x e1 (behind 0 s))

range_takes : KindTook 1 range_at predicate lists_names
unfolding range_at
range_takes rest x small e =
    step (sized 2) (is_sized 2) (sized_takes 2 wide2) rest _ x small e (λ a s e1.
    step (sized 2) (is_sized 2) (sized_takes 2 wide2) a.1 _ x s.small e1 (λ b t e2.
    step flag_text any_flag flag_takes b.1 _ x t.small e2 (λ c u e3.
    step (big_bytes 4) (fits_wide 4) (number_takes 4 wide4) c.1 _ x u.small e3 (λ d v e4.
    made predicate lists_names (1 ∷ rest) (Range a.0 b.0 c.0 d.0, d.1) x e4 (behind 1 (then s (then t (then u v))))))))

predicate_takes : AllTook predicate_at predicate lists_names
unfolding predicate_at
predicate_takes [] x small e = absurd cc
predicate_takes (k ∷ rest) x small e =
    let tail = rest_small k rest small in
    kind_is k 0 _ _ _ e (λ is h. rw is (names_take rest x tail h)) (λ e0.
    kind_is k 1 _ _ _ e0 (λ is h. rw is (range_takes rest x tail h)) (λ e1.
    absurd cc))

pub asked_takes : AllTook asked_at asked lists_asked
unfolding asked_at asked lists_asked
asked_takes bytes x small e =
    step (sized 1) (is_sized 1) (sized_takes 1 wide1) bytes _ x small e (λ a s e1.
    step (counted (sized 2)) (is_listed (is_sized 2)) texts_take a.1 _ x s.small e1 (λ b t e2.
    step predicate lists_names predicate_takes b.1 _ x t.small e2 (λ c u e3.
    made asked lists_asked bytes (record { family = a.0; keys = b.0; predicate = c.0 }, c.1) x e3 (then s (then t u)))))

-- ## Rows

column_takes : AllTook column_at column fits_column
unfolding column_at
column_takes bytes x small e =
    step (sized 2) (is_sized 2) (sized_takes 2 wide2) bytes _ x small e (λ a s e1.
    step (sized 4) (is_sized 4) (sized_takes 4 wide4) a.1 _ x s.small e1 (λ b t e2.
    made column fits_column bytes (record { name = a.0; value = b.0 }, b.1) x e2 (then s t)))

columns_take : AllTook (counted_at column_at) (counted column) (is_listed fits_column)
columns_take = counted_takes column_at column fits_column column_takes

row_now_takes : AllTook row_now_at row_now fits_row_now
unfolding row_now_at row_now fits_row_now
row_now_takes bytes x small e =
    step (sized 2) (is_sized 2) (sized_takes 2 wide2) bytes _ x small e (λ a s e1.
    step (counted column) (is_listed fits_column) columns_take a.1 _ x s.small e1 (λ b t e2.
    step (counted writer) (is_listed fits_writer) writers_take b.1 _ x t.small e2 (λ c u e3.
    step time fits_time time_takes c.1 _ x u.small e3 (λ d v e4.
    step time fits_time time_takes d.1 _ x v.small e4 (λ g w e5.
    made row_now fits_row_now bytes (record { key = a.0; columns = b.0; writers = c.0; evt = d.0; lvt = g.0 }, g.1) x e5 (then s (then t (then u (then v w)))))))))

row_at_takes : AllTook row_at_at row_at fits_row_at
unfolding row_at_at row_at fits_row_at
row_at_takes bytes x small e =
    step (sized 2) (is_sized 2) (sized_takes 2 wide2) bytes _ x small e (λ a s e1.
    step (counted column) (is_listed fits_column) columns_take a.1 _ x s.small e1 (λ b t e2.
    step (counted writer) (is_listed fits_writer) writers_take b.1 _ x t.small e2 (λ c u e3.
    made row_at fits_row_at bytes (record { key = a.0; columns = b.0; writers = c.0 }, c.1) x e3 (then s (then t u)))))

pub rows_now_take : AllTook (counted_at row_now_at) (counted row_now) (is_listed fits_row_now)
rows_now_take = counted_takes row_now_at row_now fits_row_now row_now_takes

rows_at_take : (rest : List ℕ) (x : AtTime × List ℕ) → IsBytes rest → rows_at_at rest ≡ Ok x → Took (1 ∷ rest) (at_time x.0) (fits_at_time x.0) x.1
unfolding rows_at_at
rows_at_take rest x small e =
    step (counted row_at) (is_listed fits_row_at) (counted_takes row_at_at row_at fits_row_at row_at_takes) rest _ x small e (λ a s e1.
    made at_time fits_at_time (1 ∷ rest) (Rows a.0, a.1) x e1 (behind 1 s))

pub at_time_takes : AllTook at_time_at at_time fits_at_time
unfolding at_time_at
at_time_takes [] x small e = absurd cc
at_time_takes (k ∷ rest) x small e =
    let tail = rest_small k rest small in
    kind_is k 0 _ _ _ e (λ is h. rw is (made at_time fits_at_time (0 ∷ rest) (Collected, rest) x h (record { parts = refl; fits = refl; small = tail }))) (λ e0.
    kind_is k 1 _ _ _ e0 (λ is h. rw is (rows_at_take rest x tail h)) (λ e1.
    absurd cc))
