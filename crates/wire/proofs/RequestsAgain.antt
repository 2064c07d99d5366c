-- A request that is spelled is read again.
use Rattle.std.proofs.Common.{◌≡◌, ℕ, ◌+◌, ◌^◌, ◌<◌, ◌≤◌, Bool, true, false, ltb, ◌&&◌, List, [], ◌∷◌, ◌++◌, length, take, drop, Ok, refl, sym, ap, ◌∙◌, append_assoc, arith}
use Rattle.std.proofs.lemmas.Bool.{ltb-true, leb-true, and_parts}
use Rattle.std.proofs.lemmas.List.{append-nil, length-append, take_at, drop_at}
use Rattle.byteorder.specs.Endian.{big_number, big_bytes}
use Rattle.byteorder.specs.Numbers.{length-bytes_high_first, big_number-reads_back}
use Rattle.column_family.specs.declared.batch.Change.{Change}
use Rattle.column_family.specs.declared.batch.Mutation.TheVariants.{Insert, DeleteColumn, DeleteRow, DeleteRange}
use Rattle.slice.specs.declared.predicate.Predicate.{Predicate}
use Rattle.slice.specs.declared.predicate.Predicate.TheVariants.{Names, Range}
use Rattle.messages.specs.declared.op.Op.{Op}
use Rattle.messages.specs.declared.op.Op.TheVariants.{Batch, Read, Move}
use Rattle.wire.specs.Fields.{sized, is_sized, counted, is_counted, longest, frame}
use Rattle.wire.specs.Requests.{mutation, fits_mutation, change, fits_change, flag, predicate, fits_predicate, request, fits_request, is_spelled}
use Rattle.wire.specs.Reading.{sized_at, counted_at, insertion_at, deletion_at, range_deletion_at, mutation_at, change_at, flag_at, names_at, range_at, predicate_at, batch_at, read_at, move_at, request_at, body_at}
use Rattle.wire.specs.Frames.{whole, front_of}
use Rattle.wire.proofs.Steps.{AllAgain}
use Rattle.wire.proofs.FieldsAgain.{number_again, sized_again, counted_again}
use Rattle.wire.proofs.Fronts.{front_is_body}

-- two fields, and what follows them
two : (a b rest : List ℕ) → (a ++ b) ++ rest ≡ a ++ (b ++ rest)
two a b rest = append_assoc a b rest

-- three fields, and what follows them
three : (a b c rest : List ℕ) → (a ++ (b ++ c)) ++ rest ≡ a ++ (b ++ (c ++ rest))
three a b c rest = append_assoc a (b ++ c) rest ∙ ap (λ (t : List ℕ). a ++ t) (append_assoc b c rest)

insertion_again : (name value rest : List ℕ) → is_sized 2 name ≡ true → is_sized 4 value ≡ true → insertion_at ((sized 2 name ++ sized 4 value) ++ rest) ≡ Ok (Insert name value, rest)
unfolding insertion_at
insertion_again name value rest a b = rw (two (sized 2 name) (sized 4 value) rest, sized_again 2 name (sized 4 value ++ rest) a, sized_again 4 value rest b) refl

deletion_again : (name rest : List ℕ) → is_sized 2 name ≡ true → deletion_at (sized 2 name ++ rest) ≡ Ok (DeleteColumn name, rest)
unfolding deletion_at
deletion_again name rest a = rw (sized_again 2 name rest a) refl

range_deletion_again : (start finish rest : List ℕ) → is_sized 2 start ≡ true → is_sized 2 finish ≡ true → range_deletion_at ((sized 2 start ++ sized 2 finish) ++ rest) ≡ Ok (DeleteRange start finish, rest)
unfolding range_deletion_at
range_deletion_again start finish rest a b = rw (two (sized 2 start) (sized 2 finish) rest, sized_again 2 start (sized 2 finish ++ rest) a, sized_again 2 finish rest b) refl

mutation_again : AllAgain mutation_at mutation fits_mutation
unfolding mutation_at
mutation_again (Insert name value) rest fits = let p = and_parts (is_sized 2 name) (is_sized 4 value) fits in insertion_again name value rest p.0 p.1
mutation_again (DeleteColumn name) rest fits = deletion_again name rest fits
mutation_again DeleteRow rest fits = refl
mutation_again (DeleteRange start finish) rest fits = let p = and_parts (is_sized 2 start) (is_sized 2 finish) fits in range_deletion_again start finish rest p.0 p.1

pub change_again : AllAgain change_at change fits_change
unfolding change_at
change_again c rest fits =
    let p = and_parts (is_sized 1 c.row.family) (is_sized 2 c.row.key && fits_mutation c.mutation) fits in
    let q = and_parts (is_sized 2 c.row.key) (fits_mutation c.mutation) p.1 in
    rw (three (sized 1 c.row.family) (sized 2 c.row.key) (mutation c.mutation) rest, sized_again 1 c.row.family (sized 2 c.row.key ++ (mutation c.mutation ++ rest)) p.0, sized_again 2 c.row.key (mutation c.mutation ++ rest) q.0, mutation_again c.mutation rest q.1) refl

pub change_takes_some : (c : Change) → 1 ≤ length (change c)
change_takes_some c = omega (arith, length-append (sized 1 c.row.family) (sized 2 c.row.key ++ mutation c.mutation), length-append (big_bytes 1 (length c.row.family)) c.row.family)

pub text_takes_some : (t : List ℕ) → 1 ≤ length (sized 2 t)
text_takes_some t = omega (arith, length-append (big_bytes 2 (length t)) t)

pub texts_again : AllAgain (counted_at (sized_at 2)) (counted (sized 2)) (is_counted (is_sized 2) (sized 2))
texts_again = counted_again (sized_at 2) (sized 2) (is_sized 2) text_takes_some (sized_again 2)

flag_again : (b : Bool) (rest : List ℕ) → flag_at (flag b ∷ rest) ≡ Ok (b, rest)
unfolding flag_at
flag_again false rest = refl
flag_again true rest = refl

names_again : (names : List (List ℕ)) (rest : List ℕ) → is_counted (is_sized 2) (sized 2) names ≡ true → names_at (counted (sized 2) names ++ rest) ≡ Ok (Names names, rest)
unfolding names_at
names_again names rest fits = rw (texts_again names rest fits) refl

range_again : (start finish : List ℕ) (reversed : Bool) (count : ℕ) (rest : List ℕ) → is_sized 2 start ≡ true → is_sized 2 finish ≡ true → count < 256 ^ 4
    → range_at ((sized 2 start ++ (sized 2 finish ++ (flag reversed ∷ big_bytes 4 count))) ++ rest) ≡ Ok (Range start finish reversed count, rest)
unfolding range_at
range_again start finish reversed count rest a b lt =
    let tail = flag reversed ∷ (big_bytes 4 count ++ rest) in
    rw (three (sized 2 start) (sized 2 finish) (flag reversed ∷ big_bytes 4 count) rest, sized_again 2 start (sized 2 finish ++ tail) a, sized_again 2 finish tail b, flag_again reversed (big_bytes 4 count ++ rest), number_again 4 count rest lt) refl

pub predicate_again : AllAgain predicate_at predicate fits_predicate
unfolding predicate_at
predicate_again (Names names) rest fits = names_again names rest fits
predicate_again (Range start finish reversed count) rest fits =
    let p = and_parts (is_sized 2 start) (is_sized 2 finish && ltb count (256 ^ 4)) fits in
    let q = and_parts (is_sized 2 finish) (ltb count (256 ^ 4)) p.1 in
    range_again start finish reversed count rest p.0 q.0 (ltb-true _ _ q.1)

batch_again : (changes : List Change) (rest : List ℕ) → is_counted fits_change change changes ≡ true → batch_at (counted change changes ++ rest) ≡ Ok (Batch changes, rest)
unfolding batch_at
batch_again changes rest fits = rw (counted_again change_at change fits_change change_takes_some change_again changes rest fits) refl

read_again : (family : List ℕ) (keys : List (List ℕ)) (p : Predicate) (rest : List ℕ) → is_sized 1 family ≡ true → is_counted (is_sized 2) (sized 2) keys ≡ true → fits_predicate p ≡ true
    → read_at ((sized 1 family ++ (counted (sized 2) keys ++ predicate p)) ++ rest) ≡ Ok (Read (record { family = family; keys = keys; predicate = p }), rest)
unfolding read_at
read_again family keys p rest a b c =
    rw (three (sized 1 family) (counted (sized 2) keys) (predicate p) rest, sized_again 1 family (counted (sized 2) keys ++ (predicate p ++ rest)) a, texts_again keys (predicate p ++ rest) b, predicate_again p rest c) refl

move_again : (dc : ℕ) (rest : List ℕ) → move_at (dc ∷ rest) ≡ Ok (Move dc, rest)
unfolding move_at
move_again dc rest = refl

request_again : AllAgain request_at request fits_request
unfolding request_at
request_again (Batch changes) rest fits = batch_again changes rest fits
request_again (Read read) rest fits =
    let p = and_parts (is_sized 1 read.family) (is_counted (is_sized 2) (sized 2) read.keys && fits_predicate read.predicate) fits in
    let q = and_parts (is_counted (is_sized 2) (sized 2) read.keys) (fits_predicate read.predicate) p.1 in
    read_again read.family read.keys read.predicate rest p.0 q.0 q.1
request_again (Move dc) rest fits = move_again dc rest

-- the body of a request is read as that request
pub body_again : (op : Op) → fits_request op ≡ true → body_at (request op) ≡ Ok op
unfolding body_at
body_again op fits =
    let e : request_at (request op) ≡ Ok (op, []) = ap request_at (sym (append-nil (request op))) ∙ request_again op [] fits in
    rw e refl

-- the frame of a request stands first, whatever follows
pub front_again : (op : Op) (rest : List ℕ) → is_spelled op ≡ true → front_of (frame (request op) ++ rest) ≡ whole op (length (frame (request op)))
front_again op rest spelled =
    let body = request op in
    let n = length body in
    let p = and_parts (fits_request op) _ spelled in
    let most : n ≤ longest = leb-true _ _ p.1 in
    let four : length (big_bytes 4 n) ≡ 4 = length-bytes_high_first 4 n in
    let size : length (frame body) ≡ 4 + n = omega (arith, four, length-append (big_bytes 4 n) body) in
    let bytes = frame body ++ rest in
    let regrouped : bytes ≡ big_bytes 4 n ++ (body ++ rest) = append_assoc (big_bytes 4 n) body rest in
    let all : length bytes ≡ (4 + n) + length rest = length-append (frame body) rest ∙ ap (λ (k : ℕ). k + length rest) size in
    let number : big_number 4 bytes ≡ n = ap (big_number 4) regrouped ∙ big_number-reads_back 4 n (body ++ rest) (omega (arith, most)) in
    let after : drop 4 bytes ≡ body ++ rest = ap (drop 4) regrouped ∙ drop_at (big_bytes 4 n) (body ++ rest) 4 four in
    let inside : take n (drop 4 bytes) ≡ body = ap (take n) after ∙ take_at body rest n refl in
    let read : body_at (take n (drop 4 bytes)) ≡ Ok op = ap body_at inside ∙ body_again op p.0 in
    front_is_body bytes n (Ok op) (omega (arith, all)) number most (omega (arith, all)) read ∙ ap (whole op) (sym size)
