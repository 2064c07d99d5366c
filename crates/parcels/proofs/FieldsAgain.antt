-- Fields that are spelled are read again.
use Rattle.std.proofs.Common.{◌≡◌, ℕ, ◌^◌, ◌<◌, ◌≤◌, Bool, true, ◌&&◌, List, [], ◌∷◌, ◌++◌, length, Result, Ok, refl, sym, ap, subst, ◌∙◌, append_assoc, arith}
use Rattle.std.specs.Prelude.{nat_lt, nat_eq}
use Rattle.std.specs.List.{list_all}
use Rattle.std.specs.Cmp.Lexicographic.{pointwise}
use Rattle.std.proofs.lemmas.Bool.{ltb-true, lt-ltb as ltb-from, eqb-true, eq-eqb, and_parts}
use Rattle.std.proofs.lemmas.List.{length-append}
use Rattle.byteorder.specs.Endian.{big_bytes}
use Rattle.byteorder.specs.Numbers.{length-bytes_high_first}
use Rattle.logical_time.specs.declared.fault.Fault.{Fault}
use Rattle.logical_time.specs.Stamps.{WriterValue}
use Rattle.messages.specs.declared.rows_now.RowNow.{RowNow}
use Rattle.messages.specs.declared.rows_at.RowAt.{RowAt}
use Rattle.messages.specs.declared.rows_at.AtTime.TheVariants.{Collected, Rows}
use Rattle.messages.specs.CohortBits.{shards_in, bits_of}
use Rattle.wire.specs.Fields.{sized, is_sized, counted, is_counted}
use Rattle.wire.specs.Requests.{change, fits_change, predicate, fits_predicate}
use Rattle.wire.specs.Replies.{column, fits_column}
use Rattle.wire.specs.Reading.{number_at, counted_at, change_at}
use Rattle.wire.proofs.Steps.{AllAgain}
use Rattle.wire.proofs.FieldsAgain.{number_again, sized_again, listed_again}
use Rattle.wire.proofs.RequestsAgain.{change_again, change_takes_some, texts_again, predicate_again}
use Rattle.parcels.specs.Spelling.{is_listed, number, fits_number, time, fits_time, node, fits_node, shard, fits_shard, txn, fits_txn, stamp, fits_stamp, writer, fits_writer, cohorts, fits_cohorts, asked, fits_asked, row_now, fits_row_now, row_at, fits_row_at, at_time, fits_at_time}
use Rattle.parcels.specs.Reading.{time_at, shard_at, txn_at, stamp_at, writer_at, cohorts_at, asked_at, column_at, row_now_at, row_at_at, rows_at_at, at_time_at}

-- ## What stands together

pub two : (a b rest : List ℕ) → (a ++ b) ++ rest ≡ a ++ (b ++ rest)
two a b rest = append_assoc a b rest

pub three : (a b c rest : List ℕ) → (a ++ (b ++ c)) ++ rest ≡ a ++ (b ++ (c ++ rest))
three a b c rest = append_assoc a (b ++ c) rest ∙ ap (λ (t : List ℕ). a ++ t) (append_assoc b c rest)

pub four : (a b c d rest : List ℕ) → (a ++ (b ++ (c ++ d))) ++ rest ≡ a ++ (b ++ (c ++ (d ++ rest)))
four a b c d rest = append_assoc a (b ++ (c ++ d)) rest ∙ ap (λ (t : List ℕ). a ++ t) (three b c d rest)

pub five : (a b c d e rest : List ℕ) → (a ++ (b ++ (c ++ (d ++ e)))) ++ rest ≡ a ++ (b ++ (c ++ (d ++ (e ++ rest))))
five a b c d e rest = append_assoc a (b ++ (c ++ (d ++ e))) rest ∙ ap (λ (t : List ℕ). a ++ t) (four b c d e rest)

-- ## Numbers

pub number8_again : AllAgain (number_at 8) number fits_number
unfolding number fits_number
number8_again n rest fits = number_again 8 n rest (ltb-true _ _ fits)

pub node_again : AllAgain (number_at 2) node fits_node
unfolding node fits_node
node_again n rest fits = number_again 2 n rest (ltb-true _ _ fits)

pub time_again : AllAgain time_at time fits_time
unfolding time_at time fits_time
time_again t rest fits =
    let lt : t < 2 ^ 48 = ltb-true _ _ fits in
    rw (number_again 8 t rest (omega (arith, lt)), fits) refl

pub shard_again : AllAgain shard_at shard fits_shard
unfolding shard_at shard fits_shard
shard_again s rest fits = rw fits refl

pub txn_again : AllAgain txn_at txn fits_txn
unfolding txn_at txn fits_txn
txn_again t rest fits =
    let p = and_parts (fits_node t.session) (fits_number t.number) fits in
    rw (two (node t.session) (number t.number) rest, node_again t.session (number t.number ++ rest) p.0, number8_again t.number rest p.1) refl

pub stamp_again : AllAgain stamp_at stamp fits_stamp
unfolding stamp_at stamp fits_stamp
stamp_again s rest fits =
    let p = and_parts (fits_time s.time) (fits_node s.node) fits in
    rw (two (time s.time) (node s.node) rest, time_again s.time (node s.node ++ rest) p.0, node_again s.node rest p.1) refl

pub writer_again : AllAgain writer_at writer fits_writer
unfolding writer_at writer fits_writer
writer_again w rest fits =
    let p = and_parts (fits_txn w.txn) (fits_shard w.shard) fits in
    rw (two (txn w.txn) (shard w.shard) rest, txn_again w.txn (shard w.shard ++ rest) p.0, shard_again w.shard rest p.1) refl

pub writer_takes_some : (w : WriterValue) → 1 ≤ length (writer w)
unfolding writer shard
writer_takes_some w = omega (arith, length-append (txn w.txn) (shard w.shard))

same_lists : (xs ys : List ℕ) → pointwise nat_eq xs ys ≡ true → xs ≡ ys
same_lists [] [] e = refl
same_lists [] (y ∷ ys) e = absurd (cc)
same_lists (x ∷ xs) [] e = absurd (cc)
same_lists (x ∷ xs) (y ∷ ys) e =
    let p = and_parts (nat_eq x y) (pointwise nat_eq xs ys) e in
    ap (λ (z : ℕ). z ∷ xs) (eqb-true x y p.0) ∙ ap (λ (l : List ℕ). y ∷ l) (same_lists xs ys p.1)

same_self : (xs : List ℕ) → pointwise nat_eq xs xs ≡ true
same_self [] = refl
same_self (x ∷ xs) = rw (eq-eqb x x refl) (same_self xs)

pub cohorts_fit : (bits : ℕ) (cs : List ℕ) → bits < 256 → bits ≡ bits_of cs → shards_in bits ≡ cs → fits_cohorts cs ≡ true
unfolding fits_cohorts
cohorts_fit bits cs lt is back =
    let small : nat_lt (bits_of cs) 256 ≡ true = ltb-from _ _ (subst (λ (n : ℕ). n < 256) is lt) in
    let same : pointwise nat_eq (shards_in (bits_of cs)) cs ≡ true = subst (λ (n : ℕ). pointwise nat_eq (shards_in n) cs ≡ true) is (subst (λ (l : List ℕ). pointwise nat_eq l cs ≡ true) (sym back) (same_self cs)) in
    rw (small, same) refl

pub cohorts_again : AllAgain cohorts_at cohorts fits_cohorts
unfolding cohorts_at cohorts fits_cohorts
cohorts_again cs rest fits =
    let p = and_parts (nat_lt (bits_of cs) 256) (pointwise nat_eq (shards_in (bits_of cs)) cs) fits in
    ap (λ (l : List ℕ). Ok (l, rest)) (same_lists (shards_in (bits_of cs)) cs p.1)

-- ## Lists

all_again : {A : Type 0} (item_at : List ℕ → Result (A × List ℕ) Fault) (spell : A → List ℕ) (fit : A → Bool) → ((x : A) → 1 ≤ length (spell x)) → AllAgain item_at spell fit → AllAgain (counted_at item_at) (counted spell) (is_listed fit)
all_again item_at spell fit some one xs rest fits =
    let p = and_parts (nat_lt (length xs) (256 ^ 4)) (list_all fit xs) fits in
    listed_again item_at spell fit some one xs rest p.0 p.1

pub writers_again : AllAgain (counted_at writer_at) (counted writer) (is_listed fits_writer)
writers_again = all_again writer_at writer fits_writer writer_takes_some writer_again

pub rows_again : AllAgain (counted_at change_at) (counted change) (is_listed fits_change)
rows_again = all_again change_at change fits_change change_takes_some change_again

pub asked_again : AllAgain asked_at asked fits_asked
unfolding asked_at asked fits_asked
asked_again r rest fits =
    let p = and_parts (is_sized 1 r.family) (is_counted (is_sized 2) (sized 2) r.keys && fits_predicate r.predicate) fits in
    let q = and_parts (is_counted (is_sized 2) (sized 2) r.keys) (fits_predicate r.predicate) p.1 in
    rw (three (sized 1 r.family) (counted (sized 2) r.keys) (predicate r.predicate) rest, sized_again 1 r.family (counted (sized 2) r.keys ++ (predicate r.predicate ++ rest)) p.0, texts_again r.keys (predicate r.predicate ++ rest) q.0, predicate_again r.predicate rest q.1) refl

column_again : AllAgain column_at column fits_column
unfolding column_at
column_again c rest fits =
    let p = and_parts (is_sized 2 c.name) (is_sized 4 c.value) fits in
    rw (two (sized 2 c.name) (sized 4 c.value) rest, sized_again 2 c.name (sized 4 c.value ++ rest) p.0, sized_again 4 c.value rest p.1) refl

sized_takes_some : (t more : List ℕ) → 1 ≤ length (sized 2 t ++ more)
sized_takes_some t more = omega (arith, length-append (sized 2 t) more, length-append (big_bytes 2 (length t)) t, length-bytes_high_first 2 (length t))

columns_again : AllAgain (counted_at column_at) (counted column) (is_listed fits_column)
columns_again = all_again column_at column fits_column (λ c. sized_takes_some c.name (sized 4 c.value)) column_again

pub row_now_again : AllAgain row_now_at row_now fits_row_now
unfolding row_now_at row_now fits_row_now
row_now_again r rest fits =
    let p = and_parts (is_sized 2 r.key) (is_listed fits_column r.columns && (is_listed fits_writer r.writers && (fits_time r.evt && fits_time r.lvt))) fits in
    let q = and_parts (is_listed fits_column r.columns) (is_listed fits_writer r.writers && (fits_time r.evt && fits_time r.lvt)) p.1 in
    let s = and_parts (is_listed fits_writer r.writers) (fits_time r.evt && fits_time r.lvt) q.1 in
    let u = and_parts (fits_time r.evt) (fits_time r.lvt) s.1 in
    rw (
      five (sized 2 r.key) (counted column r.columns) (counted writer r.writers) (time r.evt) (time r.lvt) rest,
      sized_again 2 r.key (counted column r.columns ++ (counted writer r.writers ++ (time r.evt ++ (time r.lvt ++ rest)))) p.0,
      columns_again r.columns (counted writer r.writers ++ (time r.evt ++ (time r.lvt ++ rest))) q.0,
      writers_again r.writers (time r.evt ++ (time r.lvt ++ rest)) s.0,
      time_again r.evt (time r.lvt ++ rest) u.0,
      time_again r.lvt rest u.1,
    ) refl

pub row_now_takes_some : (r : RowNow) → 1 ≤ length (row_now r)
unfolding row_now
row_now_takes_some r = sized_takes_some r.key (counted column r.columns ++ (counted writer r.writers ++ (time r.evt ++ time r.lvt)))

row_at_again : AllAgain row_at_at row_at fits_row_at
unfolding row_at_at row_at fits_row_at
row_at_again r rest fits =
    let p = and_parts (is_sized 2 r.key) (is_listed fits_column r.columns && is_listed fits_writer r.writers) fits in
    let q = and_parts (is_listed fits_column r.columns) (is_listed fits_writer r.writers) p.1 in
    rw (
      three (sized 2 r.key) (counted column r.columns) (counted writer r.writers) rest,
      sized_again 2 r.key (counted column r.columns ++ (counted writer r.writers ++ rest)) p.0,
      columns_again r.columns (counted writer r.writers ++ rest) q.0,
      writers_again r.writers rest q.1,
    ) refl

row_at_takes_some : (r : RowAt) → 1 ≤ length (row_at r)
unfolding row_at
row_at_takes_some r = sized_takes_some r.key (counted column r.columns ++ counted writer r.writers)

pub rows_now_again : AllAgain (counted_at row_now_at) (counted row_now) (is_listed fits_row_now)
rows_now_again = all_again row_now_at row_now fits_row_now row_now_takes_some row_now_again

rows_at_again : AllAgain (counted_at row_at_at) (counted row_at) (is_listed fits_row_at)
rows_at_again = all_again row_at_at row_at fits_row_at row_at_takes_some row_at_again

pub at_time_again : AllAgain at_time_at at_time fits_at_time
unfolding at_time_at rows_at_at
at_time_again Collected rest fits = refl
at_time_again (Rows rs) rest fits = rw (rows_at_again rs rest fits) refl
