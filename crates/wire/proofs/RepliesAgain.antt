-- Replies that are spelled can be told apart: each is read again from its body.
use Rattle.std.proofs.Common.{◌≡◌, ℕ, ◌^◌, ◌<◌, ◌≤◌, true, ltb, ◌&&◌, ◌==◌, List, [], ◌∷◌, ◌++◌, length, Result, Ok, Err, refl, sym, ap, ◌∙◌, append_assoc, arith}
use Rattle.std.specs.Prelude.{if◌then◌else◌}
use Rattle.std.proofs.lemmas.Bool.{ltb-true, and_parts}
use Rattle.std.proofs.lemmas.List.{length-append}
use Rattle.byteorder.specs.Endian.{big_bytes}
use Rattle.logical_time.specs.declared.fault.Fault.{Fault}
use Rattle.logical_time.specs.declared.fault.Fault.TheVariants as faults
use Rattle.logical_time.specs.Fault.{number_of}
use Rattle.logical_time.specs.Stamps.{StampValue}
use Rattle.slice.specs.declared.column.Column.{Column}
use Rattle.slice.specs.declared.read.AnsweredRow.{AnsweredRow}
use Rattle.messages.specs.declared.outcome.Outcome.TheVariants.{Wrote, Read, Collected, Moved}
use Rattle.wire.specs.Fields.{sized, is_sized, counted, is_counted}
use Rattle.wire.specs.Replies.{Reply, column, fits_column, row, fits_row, commit_and_stamp, fits_commit_and_stamp, reply, fits_reply}
use Rattle.wire.specs.Reading.{◌>>=◌, number_at, sized_at, counted_at}
use Rattle.wire.proofs.Steps.{AllAgain, done, ok_is}
use Rattle.wire.proofs.FieldsAgain.{number_again, sized_again, counted_again}

-- the refusal of a number
fault_with : ℕ → Fault
fault_with n = if n == 1 then faults.EmptyBatch else (if n == 2 then faults.UnknownFamily else (if n == 3 then faults.KeyLength else (if n == 4 then faults.NameLength else (if n == 5 then faults.ValueLength else (if n == 6 then faults.TooMany else (if n == 7 then faults.RangeOrder else (if n == 8 then faults.EmptyRead else ((if n == 20 then faults.Busy else (if n == 21 then faults.Collected else (if n == 22 then faults.ClockSpent else (if n == 23 then faults.Memory else (if n == 24 then faults.JournalFull else (if n == 25 then faults.StrangerEnd else (if n == 26 then faults.AlreadyHome else (if n == 27 then faults.UnknownHome else (if n == 28 then faults.Behind else (if n == 30 then faults.Oversize else (if n == 31 then faults.UnknownTag else (if n == 32 then faults.BadCount else (if n == 33 then faults.TrailingBytes else (if n == 34 then faults.Truncated else (if n == 35 then faults.Script else (if n == 36 then faults.ReadFailed else (faults.WriteFailed)))))))))))))))))))))))))

with_number : (f : Fault) → fault_with (number_of f) ≡ f
unfolding fault_with
with_number faults.EmptyBatch = refl
with_number faults.UnknownFamily = refl
with_number faults.KeyLength = refl
with_number faults.NameLength = refl
with_number faults.ValueLength = refl
with_number faults.TooMany = refl
with_number faults.RangeOrder = refl
with_number faults.EmptyRead = refl
with_number faults.Busy = refl
with_number faults.Collected = refl
with_number faults.ClockSpent = refl
with_number faults.Memory = refl
with_number faults.JournalFull = refl
with_number faults.StrangerEnd = refl
with_number faults.AlreadyHome = refl
with_number faults.UnknownHome = refl
with_number faults.Behind = refl
with_number faults.Oversize = refl
with_number faults.UnknownTag = refl
with_number faults.BadCount = refl
with_number faults.TrailingBytes = refl
with_number faults.Truncated = refl
with_number faults.Script = refl
with_number faults.ReadFailed = refl
with_number faults.WriteFailed = refl

number_fits : (f : Fault) → number_of f < 256 ^ 2
number_fits faults.EmptyBatch = omega arith
number_fits faults.UnknownFamily = omega arith
number_fits faults.KeyLength = omega arith
number_fits faults.NameLength = omega arith
number_fits faults.ValueLength = omega arith
number_fits faults.TooMany = omega arith
number_fits faults.RangeOrder = omega arith
number_fits faults.EmptyRead = omega arith
number_fits faults.Busy = omega arith
number_fits faults.Collected = omega arith
number_fits faults.ClockSpent = omega arith
number_fits faults.Memory = omega arith
number_fits faults.JournalFull = omega arith
number_fits faults.StrangerEnd = omega arith
number_fits faults.AlreadyHome = omega arith
number_fits faults.UnknownHome = omega arith
number_fits faults.Behind = omega arith
number_fits faults.Oversize = omega arith
number_fits faults.UnknownTag = omega arith
number_fits faults.BadCount = omega arith
number_fits faults.TrailingBytes = omega arith
number_fits faults.Truncated = omega arith
number_fits faults.Script = omega arith
number_fits faults.ReadFailed = omega arith
number_fits faults.WriteFailed = omega arith

-- two fields, and what follows them
two : (a b rest : List ℕ) → (a ++ b) ++ rest ≡ a ++ (b ++ rest)
two a b rest = append_assoc a b rest

-- three fields, and what follows them
three : (a b c rest : List ℕ) → (a ++ (b ++ c)) ++ rest ≡ a ++ (b ++ (c ++ rest))
three a b c rest = append_assoc a (b ++ c) rest ∙ ap (λ (t : List ℕ). a ++ t) (append_assoc b c rest)

unfoldable column_at : List ℕ → Result (Column × List ℕ) Fault
column_at bytes = do
  name ← sized_at 2 bytes
  value ← sized_at 4 name.1
  Ok (record { name = name.0; value = value.0 }, value.1)

unfoldable row_at : List ℕ → Result (AnsweredRow × List ℕ) Fault
row_at bytes = do
  key ← sized_at 2 bytes
  columns ← counted_at column_at key.1
  Ok (record { key = key.0; columns = columns.0 }, columns.1)

unfoldable wrote_at : List ℕ → Result (Reply × List ℕ) Fault
wrote_at bytes = do
  commit ← number_at 8 bytes
  time ← number_at 8 commit.1
  node ← number_at 2 time.1
  Ok (Ok (Wrote commit.0 (record { time = time.0; node = node.0 })), node.1)

unfoldable answer_at : List ℕ → Result (Reply × List ℕ) Fault
answer_at bytes = do
  effective ← number_at 8 bytes
  rows ← counted_at row_at effective.1
  Ok (Ok (Read effective.0 rows.0), rows.1)

unfoldable moved_at : List ℕ → Result (Reply × List ℕ) Fault
moved_at [] = Err faults.Truncated
moved_at (dc ∷ rest) = do
  floor ← number_at 8 rest
  Ok (Ok (Moved dc floor.0), floor.1)

unfoldable refusal_at : List ℕ → Result (Reply × List ℕ) Fault
refusal_at bytes = do
  n ← number_at 2 bytes
  Ok (Err (fault_with n.0), n.1)

unfoldable reply_at : List ℕ → Result (Reply × List ℕ) Fault
reply_at [] = Err faults.Truncated
reply_at (kind ∷ rest) =
    if kind == 129 then wrote_at rest
    else (if kind == 130 then answer_at rest
    else (if kind == 131 then Ok (Ok Collected, rest)
    else (if kind == 133 then moved_at rest
    else refusal_at rest)))

column_again : AllAgain column_at column fits_column
unfolding column_at
column_again c rest fits =
    let p = and_parts (is_sized 2 c.name) (is_sized 4 c.value) fits in
    rw (two (sized 2 c.name) (sized 4 c.value) rest, sized_again 2 c.name (sized 4 c.value ++ rest) p.0, sized_again 4 c.value rest p.1) refl

column_takes_some : (c : Column) → 1 ≤ length (column c)
column_takes_some c = omega (arith, length-append (sized 2 c.name) (sized 4 c.value), length-append (big_bytes 2 (length c.name)) c.name)

row_again : AllAgain row_at row fits_row
unfolding row_at
row_again r rest fits =
    let p = and_parts (is_sized 2 r.key) (is_counted fits_column column r.columns) fits in
    rw (two (sized 2 r.key) (counted column r.columns) rest, sized_again 2 r.key (counted column r.columns ++ rest) p.0, counted_again column_at column fits_column column_takes_some column_again r.columns rest p.1) refl

row_takes_some : (r : AnsweredRow) → 1 ≤ length (row r)
row_takes_some r = omega (arith, length-append (sized 2 r.key) (counted column r.columns), length-append (big_bytes 2 (length r.key)) r.key)

abbrev Read_on : Type 0
Read_on = ℕ × List ℕ → Result (Reply × List ℕ) Fault

wrote_again : (commit : ℕ) (stamp : StampValue) (rest : List ℕ) → fits_commit_and_stamp commit stamp ≡ true → wrote_at (commit_and_stamp commit stamp ++ rest) ≡ Ok (Ok (Wrote commit stamp), rest)
unfolding wrote_at commit_and_stamp fits_commit_and_stamp
wrote_again commit stamp rest fits =
    let p = and_parts (ltb commit (256 ^ 8)) (ltb stamp.time (256 ^ 8) && ltb stamp.node (256 ^ 2)) fits in
    let q = and_parts (ltb stamp.time (256 ^ 8)) (ltb stamp.node (256 ^ 2)) p.1 in
    let one : Read_on = λ c. number_at 8 c.1 >>= λ time. number_at 2 time.1 >>= λ node. Ok (Ok (Wrote c.0 (record { time = time.0; node = node.0 })), node.1) in
    let two' : Read_on = λ time. number_at 2 time.1 >>= λ node. Ok (Ok (Wrote commit (record { time = time.0; node = node.0 })), node.1) in
    let last : Read_on = λ node. Ok (Ok (Wrote commit (record { time = stamp.time; node = node.0 })), node.1) in
    ap wrote_at (three (big_bytes 8 commit) (big_bytes 8 stamp.time) (big_bytes 2 stamp.node) rest)
    ∙ ap (λ (r : Result (ℕ × List ℕ) Fault). r >>= one) (number_again 8 commit (big_bytes 8 stamp.time ++ (big_bytes 2 stamp.node ++ rest)) (ltb-true _ _ p.0))
    ∙ ap (λ (r : Result (ℕ × List ℕ) Fault). r >>= two') (number_again 8 stamp.time (big_bytes 2 stamp.node ++ rest) (ltb-true _ _ q.0))
    ∙ ap (λ (r : Result (ℕ × List ℕ) Fault). r >>= last) (number_again 2 stamp.node rest (ltb-true _ _ q.1))

answer_again : (effective : ℕ) (rows : List AnsweredRow) (rest : List ℕ) → effective < 256 ^ 8 → is_counted fits_row row rows ≡ true → answer_at ((big_bytes 8 effective ++ counted row rows) ++ rest) ≡ Ok (Ok (Read effective rows), rest)
unfolding answer_at
answer_again effective rows rest lt fits =
    let one : Read_on = λ e. counted_at row_at e.1 >>= λ rs. Ok (Ok (Read e.0 rs.0), rs.1) in
    let last : List AnsweredRow × List ℕ → Result (Reply × List ℕ) Fault = λ rs. Ok (Ok (Read effective rs.0), rs.1) in
    ap answer_at (two (big_bytes 8 effective) (counted row rows) rest)
    ∙ ap (λ (r : Result (ℕ × List ℕ) Fault). r >>= one) (number_again 8 effective (counted row rows ++ rest) lt)
    ∙ ap (λ (r : Result (List AnsweredRow × List ℕ) Fault). r >>= last) (counted_again row_at row fits_row row_takes_some row_again rows rest fits)

moved_again : (dc floor : ℕ) (rest : List ℕ) → floor < 256 ^ 8 → moved_at (dc ∷ (big_bytes 8 floor ++ rest)) ≡ Ok (Ok (Moved dc floor), rest)
unfolding moved_at
moved_again dc floor rest lt = rw (number_again 8 floor rest lt) refl

refusal_again : (f : Fault) (rest : List ℕ) → refusal_at (big_bytes 2 (number_of f) ++ rest) ≡ Ok (Err f, rest)
unfolding refusal_at
refusal_again f rest = rw (number_again 2 (number_of f) rest (number_fits f), with_number f) refl

reply_again : AllAgain reply_at reply fits_reply
unfolding reply_at
reply_again (Ok (Wrote commit stamp)) rest fits = wrote_again commit stamp rest fits
reply_again (Ok (Read effective rows)) rest fits =
    let p = and_parts (ltb effective (256 ^ 8)) (is_counted fits_row row rows) fits in
    answer_again effective rows rest (ltb-true _ _ p.0) p.1
reply_again (Ok Collected) rest fits = refl
reply_again (Ok (Moved dc floor)) rest fits =
    let p = and_parts (ltb dc 256) (ltb floor (256 ^ 8)) fits in
    moved_again dc floor rest (ltb-true _ _ p.1)
reply_again (Err f) rest fits = refusal_again f rest

read_reply : (x y : Reply × List ℕ) → done x ≡ done y → x.0 ≡ y.0
read_reply x y e = ap (λ (p : Reply × List ℕ). p.0) (ok_is x y e)

-- replies that fit and have the same body are the same
pub reply_told : (a b : Reply) → fits_reply a ≡ true → fits_reply b ≡ true → reply a ≡ reply b → a ≡ b
reply_told a b fa fb e =
    read_reply (a, []) (b, []) (sym (reply_again a [] fa) ∙ ap (λ (t : List ℕ). reply_at (t ++ [])) e ∙ reply_again b [] fb)
