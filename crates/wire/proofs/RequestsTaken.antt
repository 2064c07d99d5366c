-- A request that is read is spelled by the bytes that it took.
use Rattle.std.proofs.Common.{◌≡◌, ℕ, Bool, ltb, ◌^◌, ◌&&◌, true, false, ◌==◌, List, [], ◌∷◌, ◌++◌, Ok, refl, subst, ◌∙◌, inl, inr}
use Rattle.std.proofs.lemmas.Bool.{eqb-true, lt-ltb, and_from}
use Rattle.std.proofs.lemmas.List.{append-nil}
use Rattle.byteorder.specs.Endian.{big_bytes}
use Rattle.column_family.specs.declared.batch.Change.{Change}
use Rattle.column_family.specs.declared.batch.Mutation.{Mutation}
use Rattle.column_family.specs.declared.batch.Mutation.TheVariants.{Insert, DeleteColumn, DeleteRow, DeleteRange}
use Rattle.slice.specs.declared.predicate.Predicate.{Predicate}
use Rattle.slice.specs.declared.predicate.Predicate.TheVariants.{Names, Range}
use Rattle.messages.specs.declared.op.Op.{Op}
use Rattle.messages.specs.declared.op.Op.TheVariants.{Batch, Read, Move}
use Rattle.wire.specs.Fields.{sized, is_sized, counted, is_counted}
use Rattle.wire.specs.Requests.{mutation, fits_mutation, change, fits_change, flag, predicate, fits_predicate, request, fits_request}
use Rattle.wire.specs.Reading.{◌>>=◌, number_at, sized_at, counted_at, insertion_at, deletion_at, range_deletion_at, mutation_at, change_at, flag_at, names_at, range_at, predicate_at, batch_at, read_at, move_at, request_at, whole_of, body_at}
use Rattle.wire.proofs.Steps.{IsBody, IsBody-rest, bind_ok, ok_is, chosen, ended_ok, Takes, Takes-then, Takes-kind, AllTake, KindTakes}
use Rattle.wire.proofs.FieldsTaken.{wide1, wide2, wide4, number_takes, sized_takes, counted_take}

insertion_takes : KindTakes 0 insertion_at mutation fits_mutation
unfolding insertion_at
insertion_takes rest x fits e =
    let a = bind_ok (sized_at 2 rest) (λ name. sized_at 4 name.1 >>= λ value. Ok (Insert name.0 value.0, value.1)) x e in
    let b = bind_ok (sized_at 4 a.0.1) (λ value. Ok (Insert a.0.0 value.0, value.1)) x a.2 in
    let t = sized_takes 2 wide2 rest a.0 fits a.1 in
    let u = sized_takes 4 wide4 a.0.1 b.0 t.0.rest_fits b.1 in
    let both = Takes-then rest (sized 2 a.0.0) a.0.1 (sized 4 b.0.0) b.0.1 t.0 u.0 in
    subst (λ (y : Mutation × List ℕ). Takes (0 ∷ rest) (mutation y.0) y.1 × (fits_mutation y.0 ≡ true)) {x = (Insert a.0.0 b.0.0, b.0.1)} (ok_is (Insert a.0.0 b.0.0, b.0.1) x b.2) (Takes-kind 0 rest (sized 2 a.0.0 ++ sized 4 b.0.0) b.0.1 both, and_from (is_sized 2 a.0.0) (is_sized 4 b.0.0) t.1 u.1)

deletion_takes : KindTakes 1 deletion_at mutation fits_mutation
unfolding deletion_at
deletion_takes rest x fits e =
    let a = bind_ok (sized_at 2 rest) (λ name. Ok (DeleteColumn name.0, name.1)) x e in
    let t = sized_takes 2 wide2 rest a.0 fits a.1 in
    subst (λ (y : Mutation × List ℕ). Takes (1 ∷ rest) (mutation y.0) y.1 × (fits_mutation y.0 ≡ true)) {x = (DeleteColumn a.0.0, a.0.1)} (ok_is (DeleteColumn a.0.0, a.0.1) x a.2) (Takes-kind 1 rest _ a.0.1 t.0, t.1)

range_deletion_takes : KindTakes 3 range_deletion_at mutation fits_mutation
unfolding range_deletion_at
range_deletion_takes rest x fits e =
    let a = bind_ok (sized_at 2 rest) (λ start. sized_at 2 start.1 >>= λ finish. Ok (DeleteRange start.0 finish.0, finish.1)) x e in
    let b = bind_ok (sized_at 2 a.0.1) (λ finish. Ok (DeleteRange a.0.0 finish.0, finish.1)) x a.2 in
    let t = sized_takes 2 wide2 rest a.0 fits a.1 in
    let u = sized_takes 2 wide2 a.0.1 b.0 t.0.rest_fits b.1 in
    let both = Takes-then rest (sized 2 a.0.0) a.0.1 (sized 2 b.0.0) b.0.1 t.0 u.0 in
    subst (λ (y : Mutation × List ℕ). Takes (3 ∷ rest) (mutation y.0) y.1 × (fits_mutation y.0 ≡ true)) {x = (DeleteRange a.0.0 b.0.0, b.0.1)} (ok_is (DeleteRange a.0.0 b.0.0, b.0.1) x b.2) (Takes-kind 3 rest (sized 2 a.0.0 ++ sized 2 b.0.0) b.0.1 both, and_from (is_sized 2 a.0.0) (is_sized 2 b.0.0) t.1 u.1)

row_deletion_takes : (rest : List ℕ) (x : Mutation × List ℕ) → IsBody rest → (DeleteRow, rest) ≡ x → Takes (2 ∷ rest) (mutation x.0) x.1 × (fits_mutation x.0 ≡ true)
row_deletion_takes rest x fits e =
    subst (λ (y : Mutation × List ℕ). Takes (2 ∷ rest) (mutation y.0) y.1 × (fits_mutation y.0 ≡ true)) e (record { parts = refl; rest_fits = fits }, refl)

mutation_takes : AllTake mutation_at mutation fits_mutation
unfolding mutation_at
mutation_takes [] x fits e = absurd cc
mutation_takes (k ∷ rest) x fits e =
    let tail = IsBody-rest k rest fits in
    elim (chosen (k == 0) _ _ _ e) [
      | inl a ↦ let is : k ≡ 0 = eqb-true k 0 a.0 in rw is (insertion_takes rest x tail a.1)
      | inr b ↦ elim (chosen (k == 1) _ _ _ b.1) [
        | inl a ↦ let is : k ≡ 1 = eqb-true k 1 a.0 in rw is (deletion_takes rest x tail a.1)
        | inr c ↦ elim (chosen (k == 2) _ _ _ c.1) [
          | inl a ↦ let is : k ≡ 2 = eqb-true k 2 a.0 in rw is (row_deletion_takes rest x tail (ok_is (DeleteRow, rest) x a.1))
          | inr d ↦ elim (chosen (k == 3) _ _ _ d.1) [
            | inl a ↦ let is : k ≡ 3 = eqb-true k 3 a.0 in rw is (range_deletion_takes rest x tail a.1)
            | inr none ↦ absurd cc
          ]
        ]
      ]
    ]

change_takes : AllTake change_at change fits_change
unfolding change_at
change_takes bytes x fits e =
    let a = bind_ok (sized_at 1 bytes) (λ family. sized_at 2 family.1 >>= λ key. mutation_at key.1 >>= λ m. Ok (record { row = record { family = family.0; key = key.0 }; mutation = m.0 }, m.1)) x e in
    let b = bind_ok (sized_at 2 a.0.1) (λ key. mutation_at key.1 >>= λ m. Ok (record { row = record { family = a.0.0; key = key.0 }; mutation = m.0 }, m.1)) x a.2 in
    let c = bind_ok (mutation_at b.0.1) (λ m. Ok (record { row = record { family = a.0.0; key = b.0.0 }; mutation = m.0 }, m.1)) x b.2 in
    let t = sized_takes 1 wide1 bytes a.0 fits a.1 in
    let u = sized_takes 2 wide2 a.0.1 b.0 t.0.rest_fits b.1 in
    let v = mutation_takes b.0.1 c.0 u.0.rest_fits c.1 in
    let last = Takes-then a.0.1 (sized 2 b.0.0) b.0.1 (mutation c.0.0) c.0.1 u.0 v.0 in
    let all = Takes-then bytes (sized 1 a.0.0) a.0.1 (sized 2 b.0.0 ++ mutation c.0.0) c.0.1 t.0 last in
    let made : Change × List ℕ = (record { row = record { family = a.0.0; key = b.0.0 }; mutation = c.0.0 }, c.0.1) in
    subst (λ (y : Change × List ℕ). Takes bytes (change y.0) y.1 × (fits_change y.0 ≡ true)) {x = made} (ok_is made x c.2) (all, and_from (is_sized 1 a.0.0) (is_sized 2 b.0.0 && fits_mutation c.0.0) t.1 (and_from (is_sized 2 b.0.0) (fits_mutation c.0.0) u.1 v.1))

flag_takes : (bytes : List ℕ) (x : Bool × List ℕ) → IsBody bytes → flag_at bytes ≡ Ok x → Takes bytes (flag x.0 ∷ []) x.1
unfolding flag_at
flag_takes [] x fits e = absurd cc
flag_takes (b ∷ rest) x fits e =
    let tail = IsBody-rest b rest fits in
    elim (chosen (b == 0) _ _ _ e) [
      | inl a ↦ let is : b ≡ 0 = eqb-true b 0 a.0 in rw is (subst (λ (y : Bool × List ℕ). Takes (0 ∷ rest) (flag y.0 ∷ []) y.1) {x = (false, rest)} (ok_is (false, rest) x a.1) (record { parts = refl; rest_fits = tail }))
      | inr c ↦ elim (chosen (b == 1) _ _ _ c.1) [
        | inl a ↦ let is : b ≡ 1 = eqb-true b 1 a.0 in rw is (subst (λ (y : Bool × List ℕ). Takes (1 ∷ rest) (flag y.0 ∷ []) y.1) {x = (true, rest)} (ok_is (true, rest) x a.1) (record { parts = refl; rest_fits = tail }))
        | inr none ↦ absurd cc
      ]
    ]

names_take : KindTakes 0 names_at predicate fits_predicate
unfolding names_at
names_take rest x fits e =
    let a = bind_ok (counted_at (sized_at 2) rest) (λ names. Ok (Names names.0, names.1)) x e in
    let t = counted_take (sized_at 2) (sized 2) (is_sized 2) (sized_takes 2 wide2) rest a.0 fits a.1 in
    subst (λ (y : Predicate × List ℕ). Takes (0 ∷ rest) (predicate y.0) y.1 × (fits_predicate y.0 ≡ true)) {x = (Names a.0.0, a.0.1)} (ok_is (Names a.0.0, a.0.1) x a.2) (Takes-kind 0 rest _ a.0.1 t.0, t.1)

range_takes : KindTakes 1 range_at predicate fits_predicate
unfolding range_at
range_takes rest x fits e =
    let a = bind_ok (sized_at 2 rest) (λ start. sized_at 2 start.1 >>= λ finish. flag_at finish.1 >>= λ reversed. number_at 4 reversed.1 >>= λ count. Ok (Range start.0 finish.0 reversed.0 count.0, count.1)) x e in
    let b = bind_ok (sized_at 2 a.0.1) (λ finish. flag_at finish.1 >>= λ reversed. number_at 4 reversed.1 >>= λ count. Ok (Range a.0.0 finish.0 reversed.0 count.0, count.1)) x a.2 in
    let c = bind_ok (flag_at b.0.1) (λ reversed. number_at 4 reversed.1 >>= λ count. Ok (Range a.0.0 b.0.0 reversed.0 count.0, count.1)) x b.2 in
    let d = bind_ok (number_at 4 c.0.1) (λ count. Ok (Range a.0.0 b.0.0 c.0.0 count.0, count.1)) x c.2 in
    let t = sized_takes 2 wide2 rest a.0 fits a.1 in
    let u = sized_takes 2 wide2 a.0.1 b.0 t.0.rest_fits b.1 in
    let v = flag_takes b.0.1 c.0 u.0.rest_fits c.1 in
    let w = number_takes 4 wide4 c.0.1 d.0 v.rest_fits d.1 in
    let last = Takes-then b.0.1 (flag c.0.0 ∷ []) c.0.1 (big_bytes 4 d.0.0) d.0.1 v w.0 in
    let ends = Takes-then a.0.1 (sized 2 b.0.0) b.0.1 (flag c.0.0 ∷ big_bytes 4 d.0.0) d.0.1 u.0 last in
    let all = Takes-then rest (sized 2 a.0.0) a.0.1 (sized 2 b.0.0 ++ (flag c.0.0 ∷ big_bytes 4 d.0.0)) d.0.1 t.0 ends in
    subst (λ (y : Predicate × List ℕ). Takes (1 ∷ rest) (predicate y.0) y.1 × (fits_predicate y.0 ≡ true)) {x = (Range a.0.0 b.0.0 c.0.0 d.0.0, d.0.1)} (ok_is (Range a.0.0 b.0.0 c.0.0 d.0.0, d.0.1) x d.2)
    (Takes-kind 1 rest (sized 2 a.0.0 ++ (sized 2 b.0.0 ++ (flag c.0.0 ∷ big_bytes 4 d.0.0))) d.0.1 all, and_from (is_sized 2 a.0.0) (is_sized 2 b.0.0 && ltb d.0.0 (256 ^ 4)) t.1 (and_from (is_sized 2 b.0.0) (ltb d.0.0 (256 ^ 4)) u.1 (lt-ltb d.0.0 (256 ^ 4) w.1)))

predicate_takes : AllTake predicate_at predicate fits_predicate
unfolding predicate_at
predicate_takes [] x fits e = absurd cc
predicate_takes (k ∷ rest) x fits e =
    let tail = IsBody-rest k rest fits in
    elim (chosen (k == 0) _ _ _ e) [
      | inl a ↦ let is : k ≡ 0 = eqb-true k 0 a.0 in rw is (names_take rest x tail a.1)
      | inr b ↦ elim (chosen (k == 1) _ _ _ b.1) [
        | inl a ↦ let is : k ≡ 1 = eqb-true k 1 a.0 in rw is (range_takes rest x tail a.1)
        | inr none ↦ absurd cc
      ]
    ]

batch_takes : KindTakes 1 batch_at request fits_request
unfolding batch_at
batch_takes rest x fits e =
    let a = bind_ok (counted_at change_at rest) (λ changes. Ok (Batch changes.0, changes.1)) x e in
    let t = counted_take change_at change fits_change change_takes rest a.0 fits a.1 in
    subst (λ (y : Op × List ℕ). Takes (1 ∷ rest) (request y.0) y.1 × (fits_request y.0 ≡ true)) {x = (Batch a.0.0, a.0.1)} (ok_is (Batch a.0.0, a.0.1) x a.2) (Takes-kind 1 rest _ a.0.1 t.0, t.1)

read_takes : KindTakes 2 read_at request fits_request
unfolding read_at
read_takes rest x fits e =
    let a = bind_ok (sized_at 1 rest) (λ family. counted_at (sized_at 2) family.1 >>= λ keys. predicate_at keys.1 >>= λ p. Ok (Read (record { family = family.0; keys = keys.0; predicate = p.0 }), p.1)) x e in
    let b = bind_ok (counted_at (sized_at 2) a.0.1) (λ keys. predicate_at keys.1 >>= λ p. Ok (Read (record { family = a.0.0; keys = keys.0; predicate = p.0 }), p.1)) x a.2 in
    let c = bind_ok (predicate_at b.0.1) (λ p. Ok (Read (record { family = a.0.0; keys = b.0.0; predicate = p.0 }), p.1)) x b.2 in
    let t = sized_takes 1 wide1 rest a.0 fits a.1 in
    let u = counted_take (sized_at 2) (sized 2) (is_sized 2) (sized_takes 2 wide2) a.0.1 b.0 t.0.rest_fits b.1 in
    let v = predicate_takes b.0.1 c.0 u.0.rest_fits c.1 in
    let last = Takes-then a.0.1 (counted (sized 2) b.0.0) b.0.1 (predicate c.0.0) c.0.1 u.0 v.0 in
    let all = Takes-then rest (sized 1 a.0.0) a.0.1 (counted (sized 2) b.0.0 ++ predicate c.0.0) c.0.1 t.0 last in
    let made : Op × List ℕ = (Read (record { family = a.0.0; keys = b.0.0; predicate = c.0.0 }), c.0.1) in
    subst (λ (y : Op × List ℕ). Takes (2 ∷ rest) (request y.0) y.1 × (fits_request y.0 ≡ true)) {x = made} (ok_is made x c.2) (Takes-kind 2 rest (sized 1 a.0.0 ++ (counted (sized 2) b.0.0 ++ predicate c.0.0)) c.0.1 all, and_from (is_sized 1 a.0.0) (is_counted (is_sized 2) (sized 2) b.0.0 && fits_predicate c.0.0) t.1 (and_from (is_counted (is_sized 2) (sized 2) b.0.0) (fits_predicate c.0.0) u.1 v.1))

move_takes : KindTakes 3 move_at request fits_request
unfolding move_at
move_takes [] x fits e = absurd cc
move_takes (dc ∷ rest) x fits e =
    subst (λ (y : Op × List ℕ). Takes (3 ∷ dc ∷ rest) (request y.0) y.1 × (fits_request y.0 ≡ true)) {x = (Move dc, rest)} (ok_is (Move dc, rest) x e)
    (record { parts = refl; rest_fits = IsBody-rest dc rest fits }, lt-ltb dc 256 (fits.small 0))

request_takes : AllTake request_at request fits_request
unfolding request_at
request_takes [] x fits e = absurd cc
request_takes (k ∷ rest) x fits e =
    let tail = IsBody-rest k rest fits in
    elim (chosen (k == 1) _ _ _ e) [
      | inl a ↦ let is : k ≡ 1 = eqb-true k 1 a.0 in rw is (batch_takes rest x tail a.1)
      | inr b ↦ elim (chosen (k == 2) _ _ _ b.1) [
        | inl a ↦ let is : k ≡ 2 = eqb-true k 2 a.0 in rw is (read_takes rest x tail a.1)
        | inr c ↦ elim (chosen (k == 3) _ _ _ c.1) [
          | inl a ↦ let is : k ≡ 3 = eqb-true k 3 a.0 in rw is (move_takes rest x tail a.1)
          | inr none ↦ absurd cc
        ]
      ]
    ]

-- a body that is read is the body of its request
pub body_takes : (bytes : List ℕ) (op : Op) → IsBody bytes → body_at bytes ≡ Ok op → (bytes ≡ request op) × (fits_request op ≡ true)
unfolding body_at
body_takes bytes op fits e =
    let a = bind_ok (request_at bytes) (λ x. whole_of x) op e in
    let t = request_takes bytes a.0 fits a.1 in
    let d = ended_ok a.0.0 a.0.1 op a.2 in
    let parts : bytes ≡ request a.0.0 = t.0.parts ∙ rw d.1 (append-nil _) in
    subst (λ (o : Op). (bytes ≡ request o) × (fits_request o ≡ true)) d.0 (parts, t.1)
