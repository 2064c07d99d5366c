-- The faults of frames have the numbers 30 to 34.
use Rattle.std.proofs.Common.{◌≡◌, ℕ, zero, suc, ◌+◌, Bool, true, false, cond, ltb, ◌==◌, List, [], ◌∷◌, length, take, drop, Result, Ok, Err, refl, subst, arith, inl, inr}
use Rattle.byteorder.specs.Endian.{big_number}
use Rattle.logical_time.specs.declared.fault.Fault.{Fault}
use Rattle.logical_time.specs.declared.fault.Fault.TheVariants.{Oversize, UnknownTag, BadCount, TrailingBytes, Truncated}
use Rattle.column_family.specs.declared.batch.Change.{Change}
use Rattle.column_family.specs.declared.batch.Mutation.TheVariants.{Insert, DeleteColumn, DeleteRow, DeleteRange}
use Rattle.slice.specs.declared.predicate.Predicate.TheVariants.{Names, Range}
use Rattle.messages.specs.declared.op.Op.{Op}
use Rattle.messages.specs.declared.op.Op.TheVariants.{Batch, Read, Move}
use Rattle.wire.specs.Fields.{longest}
use Rattle.wire.specs.Reading.{◌>>=◌, number_at, cut_at, sized_at, list_at, count_at, counted_at, insertion_at, deletion_at, range_deletion_at, mutation_at, change_at, flag_at, names_at, range_at, predicate_at, batch_at, read_at, move_at, request_at, whole_of, body_at}
use Rattle.wire.specs.Frames.{waits, faulty, front_with, front_of, IsFrameFault}
use Rattle.wire.proofs.Steps.{chosen}

abbrev failed : (A : Type 0) → Fault → Result A Fault
failed A d = Err d

-- a reader that is refused only so
abbrev AllFault : {A : Type 0} → (List ℕ → Result A Fault) → Type 0
AllFault read_at = (bytes : List ℕ) (f : Fault) → read_at bytes ≡ Err f → IsFrameFault f

err_is : (A : Type 0) (d f : Fault) → IsFrameFault d → failed A d ≡ failed A f → IsFrameFault f
err_is A d f h e = subst IsFrameFault (let same : d ≡ f = cc in same) h

bind_fault : {A B : Type 0} (r : Result A Fault) (g : A → Result B Fault) (f : Fault) → ((d : Fault) → r ≡ Err d → IsFrameFault d) → ((x : A) → g x ≡ Err f → IsFrameFault f) → (r >>= g) ≡ Err f → IsFrameFault f
bind_fault {A = A} {B = B} (Ok x) g f first second e = second x e
bind_fault {A = A} {B = B} (Err d) g f first second e = err_is B d f (first d refl) e

guard_fault : (A : Type 0) (b : Bool) (d : Fault) (x : A) (f : Fault) → IsFrameFault d → cond b (Err d) (Ok x) ≡ Err f → IsFrameFault f
guard_fault A true d x f h e = err_is A d f h e
guard_fault A false d x f h e = absurd cc

no_fault : (A : Type 0) (x : A) (f : Fault) → Ok x ≡ failed A f → IsFrameFault f
no_fault A x f e = absurd cc

truncated : IsFrameFault Truncated
truncated = (omega arith, omega arith)

unknown_tag : IsFrameFault UnknownTag
unknown_tag = (omega arith, omega arith)

number_fault : (w : ℕ) → AllFault (number_at w)
number_fault w bytes f e = guard_fault _ (ltb (length bytes) w) Truncated (big_number w bytes, drop w bytes) f truncated e

cut_fault : (n : ℕ) → AllFault (cut_at n)
cut_fault n bytes f e = guard_fault _ (ltb (length bytes) n) Truncated (take n bytes, drop n bytes) f truncated e

sized_fault : (w : ℕ) → AllFault (sized_at w)
unfolding sized_at
sized_fault w bytes f e = bind_fault (number_at w bytes) (λ n. cut_at n.0 n.1) f (number_fault w bytes) (λ n. cut_fault n.0 n.1 f) e

list_fault : {A : Type 0} (item_at : List ℕ → Result (A × List ℕ) Fault) → AllFault item_at → (n : ℕ) → AllFault (list_at item_at n)
unfolding list_at
list_fault {A = A} item_at one zero bytes f e = no_fault _ ([], bytes) f e
list_fault {A = A} item_at one (suc n) bytes f e =
    bind_fault (item_at bytes) (λ first. list_at item_at n first.1 >>= λ others. Ok (first.0 ∷ others.0, others.1)) f (one bytes)
    (λ first. bind_fault (list_at item_at n first.1) (λ others. Ok (first.0 ∷ others.0, others.1)) f (list_fault item_at one n first.1) (λ others. no_fault _ (first.0 ∷ others.0, others.1) f)) e

count_fault : AllFault count_at
count_fault bytes f e = bind_fault (number_at 4 bytes) (λ n. cond (ltb (length n.1) n.0) (Err BadCount) (Ok n)) f (number_fault 4 bytes) (λ n. guard_fault _ (ltb (length n.1) n.0) BadCount n f (omega arith, omega arith)) e

counted_fault : {A : Type 0} (item_at : List ℕ → Result (A × List ℕ) Fault) → AllFault item_at → AllFault (counted_at item_at)
unfolding counted_at
counted_fault item_at one bytes f e = bind_fault (count_at bytes) (λ n. list_at item_at n.0 n.1) f (count_fault bytes) (λ n. list_fault item_at one n.0 n.1 f) e

insertion_fault : AllFault insertion_at
unfolding insertion_at
insertion_fault bytes f e =
    bind_fault (sized_at 2 bytes) (λ name. sized_at 4 name.1 >>= λ value. Ok (Insert name.0 value.0, value.1)) f (sized_fault 2 bytes)
    (λ name. bind_fault (sized_at 4 name.1) (λ value. Ok (Insert name.0 value.0, value.1)) f (sized_fault 4 name.1) (λ value. no_fault _ (Insert name.0 value.0, value.1) f)) e

deletion_fault : AllFault deletion_at
unfolding deletion_at
deletion_fault bytes f e = bind_fault (sized_at 2 bytes) (λ name. Ok (DeleteColumn name.0, name.1)) f (sized_fault 2 bytes) (λ name. no_fault _ (DeleteColumn name.0, name.1) f) e

range_deletion_fault : AllFault range_deletion_at
unfolding range_deletion_at
range_deletion_fault bytes f e =
    bind_fault (sized_at 2 bytes) (λ start. sized_at 2 start.1 >>= λ finish. Ok (DeleteRange start.0 finish.0, finish.1)) f (sized_fault 2 bytes)
    (λ start. bind_fault (sized_at 2 start.1) (λ finish. Ok (DeleteRange start.0 finish.0, finish.1)) f (sized_fault 2 start.1) (λ finish. no_fault _ (DeleteRange start.0 finish.0, finish.1) f)) e

mutation_fault : AllFault mutation_at
unfolding mutation_at
mutation_fault [] f e = err_is _ Truncated f truncated e
mutation_fault (k ∷ rest) f e =
    elim (chosen (k == 0) _ _ _ e) [
      | inl a ↦ insertion_fault rest f a.1
      | inr b ↦ elim (chosen (k == 1) _ _ _ b.1) [
        | inl a ↦ deletion_fault rest f a.1
        | inr c ↦ elim (chosen (k == 2) _ _ _ c.1) [
          | inl a ↦ no_fault _ (DeleteRow, rest) f a.1
          | inr d ↦ elim (chosen (k == 3) _ _ _ d.1) [
            | inl a ↦ range_deletion_fault rest f a.1
            | inr none ↦ err_is _ UnknownTag f unknown_tag none.1
          ]
        ]
      ]
    ]

change_fault : AllFault change_at
unfolding change_at
change_fault bytes f e =
    bind_fault (sized_at 1 bytes) (λ family. sized_at 2 family.1 >>= λ key. mutation_at key.1 >>= λ m. Ok (record { row = record { family = family.0; key = key.0 }; mutation = m.0 }, m.1)) f (sized_fault 1 bytes)
    (λ family. bind_fault (sized_at 2 family.1) (λ key. mutation_at key.1 >>= λ m. Ok (record { row = record { family = family.0; key = key.0 }; mutation = m.0 }, m.1)) f (sized_fault 2 family.1)
    (λ key. bind_fault (mutation_at key.1) (λ m. Ok (record { row = record { family = family.0; key = key.0 }; mutation = m.0 }, m.1)) f (mutation_fault key.1)
    (λ m. no_fault (Change × List ℕ) (record { row = record { family = family.0; key = key.0 }; mutation = m.0 }, m.1) f))) e

flag_fault : AllFault flag_at
unfolding flag_at
flag_fault [] f e = err_is _ Truncated f truncated e
flag_fault (b ∷ rest) f e =
    elim (chosen (b == 0) _ _ _ e) [
      | inl a ↦ no_fault _ (false, rest) f a.1
      | inr c ↦ elim (chosen (b == 1) _ _ _ c.1) [
        | inl a ↦ no_fault _ (true, rest) f a.1
        | inr none ↦ err_is _ UnknownTag f unknown_tag none.1
      ]
    ]

names_fault : AllFault names_at
unfolding names_at
names_fault bytes f e = bind_fault (counted_at (sized_at 2) bytes) (λ names. Ok (Names names.0, names.1)) f (counted_fault (sized_at 2) (sized_fault 2) bytes) (λ names. no_fault _ (Names names.0, names.1) f) e

range_fault : AllFault range_at
unfolding range_at
range_fault bytes f e =
    bind_fault (sized_at 2 bytes) (λ start. sized_at 2 start.1 >>= λ finish. flag_at finish.1 >>= λ reversed. number_at 4 reversed.1 >>= λ count. Ok (Range start.0 finish.0 reversed.0 count.0, count.1)) f (sized_fault 2 bytes)
    (λ start. bind_fault (sized_at 2 start.1) (λ finish. flag_at finish.1 >>= λ reversed. number_at 4 reversed.1 >>= λ count. Ok (Range start.0 finish.0 reversed.0 count.0, count.1)) f (sized_fault 2 start.1)
    (λ finish. bind_fault (flag_at finish.1) (λ reversed. number_at 4 reversed.1 >>= λ count. Ok (Range start.0 finish.0 reversed.0 count.0, count.1)) f (flag_fault finish.1)
    (λ reversed. bind_fault (number_at 4 reversed.1) (λ count. Ok (Range start.0 finish.0 reversed.0 count.0, count.1)) f (number_fault 4 reversed.1)
    (λ count. no_fault _ (Range start.0 finish.0 reversed.0 count.0, count.1) f)))) e

predicate_fault : AllFault predicate_at
unfolding predicate_at
predicate_fault [] f e = err_is _ Truncated f truncated e
predicate_fault (k ∷ rest) f e =
    elim (chosen (k == 0) _ _ _ e) [
      | inl a ↦ names_fault rest f a.1
      | inr b ↦ elim (chosen (k == 1) _ _ _ b.1) [
        | inl a ↦ range_fault rest f a.1
        | inr none ↦ err_is _ UnknownTag f unknown_tag none.1
      ]
    ]

batch_fault : AllFault batch_at
unfolding batch_at
batch_fault bytes f e = bind_fault (counted_at change_at bytes) (λ changes. Ok (Batch changes.0, changes.1)) f (counted_fault change_at change_fault bytes) (λ changes. no_fault _ (Batch changes.0, changes.1) f) e

read_fault : AllFault read_at
unfolding read_at
read_fault bytes f e =
    bind_fault (sized_at 1 bytes) (λ family. counted_at (sized_at 2) family.1 >>= λ keys. predicate_at keys.1 >>= λ p. Ok (Read (record { family = family.0; keys = keys.0; predicate = p.0 }), p.1)) f (sized_fault 1 bytes)
    (λ family. bind_fault (counted_at (sized_at 2) family.1) (λ keys. predicate_at keys.1 >>= λ p. Ok (Read (record { family = family.0; keys = keys.0; predicate = p.0 }), p.1)) f (counted_fault (sized_at 2) (sized_fault 2) family.1)
    (λ keys. bind_fault (predicate_at keys.1) (λ p. Ok (Read (record { family = family.0; keys = keys.0; predicate = p.0 }), p.1)) f (predicate_fault keys.1)
    (λ p. no_fault (Op × List ℕ) (Read (record { family = family.0; keys = keys.0; predicate = p.0 }), p.1) f))) e

move_fault : AllFault move_at
unfolding move_at
move_fault [] f e = err_is _ Truncated f truncated e
move_fault (dc ∷ rest) f e = no_fault _ (Move dc, rest) f e

request_fault : AllFault request_at
unfolding request_at
request_fault [] f e = err_is _ Truncated f truncated e
request_fault (k ∷ rest) f e =
    elim (chosen (k == 1) _ _ _ e) [
      | inl a ↦ batch_fault rest f a.1
      | inr b ↦ elim (chosen (k == 2) _ _ _ b.1) [
        | inl a ↦ read_fault rest f a.1
        | inr c ↦ elim (chosen (k == 3) _ _ _ c.1) [
          | inl a ↦ move_fault rest f a.1
          | inr none ↦ err_is _ UnknownTag f unknown_tag none.1
        ]
      ]
    ]

whole_fault : {A : Type 0} (x : A × List ℕ) (f : Fault) → whole_of x ≡ Err f → IsFrameFault f
whole_fault {A = A} (x, []) f e = no_fault A x f e
whole_fault {A = A} (x, b ∷ bs) f e = err_is A TrailingBytes f (omega arith, omega arith) e

body_fault : AllFault body_at
unfolding body_at
body_fault bytes f e = bind_fault (request_at bytes) (λ x. whole_of x) f (request_fault bytes) (λ x. whole_fault x f) e

front_with_fault : (used : ℕ) (r : Result Op Fault) (f : Fault) → ((d : Fault) → r ≡ Err d → IsFrameFault d) → front_with used r ≡ faulty f → IsFrameFault f
front_with_fault used (Ok op) f h e = absurd cc
front_with_fault used (Err d) f h e = subst IsFrameFault (let same : d ≡ f = cc in same) (h d refl)

faulty_is : (d f : Fault) → IsFrameFault d → faulty d ≡ faulty f → IsFrameFault f
faulty_is d f h e = subst IsFrameFault (let same : d ≡ f = cc in same) h

-- what is faulty has one of the faults of frames
pub front_fault : (bytes : List ℕ) (f : Fault) → front_of bytes ≡ faulty f → IsFrameFault f
unfolding front_of
front_fault bytes f e =
    let n = big_number 4 bytes in
    elim (chosen (ltb (length bytes) 4) _ _ _ e) [
      | inl short ↦ let bad : waits ≡ faulty f = short.1 in absurd cc
      | inr long ↦ elim (chosen (ltb longest n) _ _ _ long.1) [
        | inl large ↦ faulty_is Oversize f (omega arith, omega arith) large.1
        | inr fine ↦ elim (chosen (ltb (length bytes) (4 + n)) _ _ _ fine.1) [
          | inl part ↦ let bad : waits ≡ faulty f = part.1 in absurd cc
          | inr all ↦ front_with_fault (4 + n) (body_at (take n (drop 4 bytes))) f (body_fault (take n (drop 4 bytes))) all.1
        ]
      ]
    ]
