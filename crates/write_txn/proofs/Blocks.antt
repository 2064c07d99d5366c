-- What is known of each transaction once the slots of one block were changed.
use Rattle.std.proofs.Common.{◌≡◌, ◌∙◌, ap, sym, subst, refl, cond, ℕ, ◌/◌, ◌%◌, Bool, true, false, ◌==◌, List, [], Option, Some, None, arith}
use Rattle.std.specs.Prelude.{if◌then◌else◌, unwrap_or, option_map}
use Rattle.std.specs.Ordering.{is_eq}
use Rattle.std.specs.Map.{lookup}
use Rattle.std.proofs.lemmas.Bool.{eq-eqb, ne_eqb}
use Rattle.std.proofs.lemmas.Bool.Decides.{nat_tests}
use Rattle.logical_time.specs.Stamps.{TxnValue, txn_cmp}
use Rattle.column_family.proofs.Options.{by_cases}
use Rattle.write_txn.specs.declared.status.Status.{Status}
use Rattle.write_txn.specs.declared.slot.Slot.{Slot}
use Rattle.write_txn.specs.Statuses.{StatusList, block_of, is_same_block, slots_of, status_among}
use Rattle.write_txn.specs.Ledger.{status_in}
use Rattle.write_txn.specs.Places.{status_set}
use Rattle.write_txn.proofs.Txns.{by_txn, equal_txn}

same_session : (a b : TxnValue) → is_same_block a b ≡ true → a.session ≡ b.session
same_session a b e = grind (arith, nat_tests)

same_number : (a b : TxnValue) → is_same_block a b ≡ true → a.number ≡ b.number
same_number a b e = grind (arith, nat_tests)

itself : (a : TxnValue) → is_same_block a a ≡ true
itself a = grind (arith, nat_tests)

-- what is the same block is
same_block : (a b : TxnValue) → is_same_block a b ≡ true → a ≡ b
same_block a b e =
    let s = same_session a b e in
    let n = same_number a b e in
    λ i. record { session = s i; number = n i }

whole : (m n : ℕ) → m / 256 ≡ n / 256 → m % 256 ≡ n % 256 → m ≡ n
whole m n d r = omega (arith, d, r)

-- two of one block are the same transaction where their numbers within it are
same_within : (t u : TxnValue) → is_same_block (block_of t) (block_of u) ≡ true → is_eq (txn_cmp t u) ≡ (t.number % 256 == u.number % 256)
same_within t u e =
    by_txn t u
    (λ same equal. equal ∙ sym (eq-eqb (t.number % 256) (u.number % 256) (ap (λ (v : TxnValue). v.number % 256) same)))
    (λ other. other ∙ sym (ne_eqb (t.number % 256) (u.number % 256) (λ r. absurd (
    let s = same_session (block_of t) (block_of u) e in
    let n = whole t.number u.number (same_number (block_of t) (block_of u) e) r in
    let same : t ≡ u = λ i. record { session = s i; number = n i } in
    let equal = equal_txn t u same in
    let no : true ≡ false = sym equal ∙ other in
    cc))))

-- and those of two blocks aren't the same
apart : (t u : TxnValue) → is_same_block (block_of t) (block_of u) ≡ false → is_eq (txn_cmp t u) ≡ false
apart t u e =
    by_txn t u
    (λ same equal. absurd (
    let yes = subst (λ (v : TxnValue). is_same_block (block_of t) (block_of v) ≡ true) same (itself (block_of t)) in
    let no : true ≡ false = sym yes ∙ e in
    cc))
    (λ other. other)

-- the slots of a transaction's block were replaced, and those of no other block: what is found for each transaction
pub replaced_in : (bs cs : StatusList) (t k : TxnValue) (ss : List Slot) (f : Option Status → Option Status) → k ≡ block_of t
    → ((b : TxnValue) → lookup (is_same_block b) cs ≡ cond (is_same_block k b) (Some ss) (lookup (is_same_block b) bs))
    → ((n : ℕ) → status_among ss n ≡ (if t.number % 256 == n then f (status_among (slots_of bs t) n) else status_among (slots_of bs t) n))
    → (u : TxnValue) → status_in cs u ≡ (if is_eq (txn_cmp t u) then f (status_in bs u) else status_in bs u)
unfolding status_in
replaced_in bs cs t k ss f own updates each u =
    by_cases (is_same_block (block_of t) (block_of u))
    (λ yes.
    let here : is_same_block k (block_of u) ≡ true = ap (λ (b : TxnValue). is_same_block b (block_of u)) own ∙ yes in
    let now : slots_of cs u ≡ ss = ap (λ (o : Option (List Slot)). unwrap_or o []) (updates (block_of u) ∙ ap (λ (b : Bool). cond b (Some ss) (lookup (is_same_block (block_of u)) bs)) here) in
    let was : slots_of bs t ≡ slots_of bs u = ap (λ (b : TxnValue). unwrap_or (lookup (is_same_block b) bs) []) (same_block (block_of t) (block_of u) yes) in
    ap (λ (xs : List Slot). status_among xs (u.number % 256)) now
    ∙ each (u.number % 256)
    ∙ ap (λ (xs : List Slot). if t.number % 256 == u.number % 256 then f (status_among xs (u.number % 256)) else status_among xs (u.number % 256)) was
    ∙ ap (λ (b : Bool). if b then f (status_among (slots_of bs u) (u.number % 256)) else status_among (slots_of bs u) (u.number % 256)) (sym (same_within t u yes)))
    (λ no.
    let there : is_same_block k (block_of u) ≡ false = ap (λ (b : TxnValue). is_same_block b (block_of u)) own ∙ no in
    let same : slots_of cs u ≡ slots_of bs u = ap (λ (o : Option (List Slot)). unwrap_or o []) (updates (block_of u) ∙ ap (λ (b : Bool). cond b (Some ss) (lookup (is_same_block (block_of u)) bs)) there) in
    let other = apart t u no in
    ap (λ (xs : List Slot). status_among xs (u.number % 256)) same
    ∙ ap (λ (b : Bool). if b then f (status_among (slots_of bs u) (u.number % 256)) else status_among (slots_of bs u) (u.number % 256)) (sym other))

-- the same, by what the block's slots were
pub replaced_at : (bs cs : StatusList) (t k : TxnValue) (was ss : List Slot) (m : ℕ) (f : Option Status → Option Status) → k ≡ block_of t → m ≡ t.number % 256 → slots_of bs t ≡ was
    → ((b : TxnValue) → lookup (is_same_block b) cs ≡ cond (is_same_block k b) (Some ss) (lookup (is_same_block b) bs))
    → ((n : ℕ) → status_among ss n ≡ (if m == n then f (status_among was n) else status_among was n))
    → (u : TxnValue) → status_in cs u ≡ (if is_eq (txn_cmp t u) then f (status_in bs u) else status_in bs u)
replaced_at bs cs t k was ss m f own at slots updates each u =
    replaced_in bs cs t k ss f own updates
    (λ n.
    each n
    ∙ ap (λ (l : ℕ). if l == n then f (status_among was n) else status_among was n) at
    ∙ ap (λ (xs : List Slot). if t.number % 256 == n then f (status_among xs n) else status_among xs n) (sym slots))
    u

-- the slots of a block were put back as they were
pub same_in : (bs cs : StatusList) (t k : TxnValue) (ss : List Slot) → k ≡ block_of t → slots_of bs t ≡ ss
    → ((b : TxnValue) → lookup (is_same_block b) cs ≡ cond (is_same_block k b) (Some ss) (lookup (is_same_block b) bs))
    → (u : TxnValue) → status_in cs u ≡ status_in bs u
same_in bs cs t k ss own slots updates u =
    replaced_at bs cs t k ss ss (t.number % 256) (λ o. o) own refl slots updates (λ n. sym (either (t.number % 256 == n) (status_among ss n))) u
    ∙ either (is_eq (txn_cmp t u)) (status_in bs u)
  where
    either : (b : Bool) (o : Option Status) → (if b then o else o) ≡ o
    either true o = refl
    either false o = refl

-- ## Found

-- the slots of a block that is found
pub slots_are : (bs : StatusList) (t k : TxnValue) (ss : List Slot) → k ≡ block_of t → lookup (is_same_block k) bs ≡ Some ss → slots_of bs t ≡ ss
slots_are bs t k ss own has =
    ap (λ (o : Option (List Slot)). unwrap_or o []) (ap (λ (b : TxnValue). lookup (is_same_block b) bs) (sym own) ∙ has)

pub found_in : (bs : StatusList) (t k : TxnValue) (n : ℕ) (ss : List Slot) → k ≡ block_of t → n ≡ t.number % 256 → lookup (is_same_block k) bs ≡ Some ss → status_among ss n ≡ status_in bs t
unfolding status_in
found_in bs t k n ss own at has =
    ap (status_among ss) at ∙ ap (λ (xs : List Slot). status_among xs (t.number % 256)) (sym (slots_are bs t k ss own has))

pub none_in : (bs : StatusList) (t k : TxnValue) → k ≡ block_of t → lookup (is_same_block k) bs ≡ None → ◌≡◌ {A = Option Status} None (status_in bs t)
unfolding status_in
none_in bs t k own none =
    ap (λ (o : Option (List Slot)). status_among (unwrap_or o []) (t.number % 256)) (sym none ∙ ap (λ (b : TxnValue). lookup (is_same_block b) bs) own)

-- where a block isn't found nothing is set
pub none_set : (bs : StatusList) (t k : TxnValue) (s : Status) → k ≡ block_of t → lookup (is_same_block k) bs ≡ None → (u : TxnValue) → status_in bs u ≡ status_set t s u (status_in bs u)
none_set bs t k s own none u =
    by_txn {P = status_in bs u ≡ status_set t s u (status_in bs u)} t u
    (λ same equal. let is : status_in bs u ≡ None = sym (none_in bs t k own none ∙ ap (status_in bs) same) in rw equal (is ∙ ap (option_map (λ _. s)) (sym is)))
    (λ other. rw other refl)
