-- The spelling of an envelope: its bytes, where it has one.
use Rattle.std.specs.Prelude.{ℕ, ◌^◌, List, [], ◌∷◌, ◌++◌, length, nat_lt, nat_le, nat_eq, Bool, true, ◌&&◌, Option, Some, None, if◌then◌else◌}
use Rattle.std.specs.List.{list_all}
use Rattle.std.specs.Cmp.Lexicographic.{pointwise}
use Rattle.byteorder.specs.Endian.{big_bytes}
use Rattle.logical_time.specs.Stamps.{StampValue, TxnValue, WriterValue}
use Rattle.column_family.specs.declared.batch.Change.{Change}
use Rattle.slice.specs.declared.read.Read.{Read}
use Rattle.messages.specs.declared.rows_now.RowNow.{RowNow}
use Rattle.messages.specs.declared.rows_at.RowAt.{RowAt}
use Rattle.messages.specs.declared.rows_at.AtTime.{AtTime}
use Rattle.messages.specs.declared.rows_at.AtTime.TheVariants.{Collected, Rows}
use Rattle.messages.specs.declared.body.Body.{Body}
use Rattle.messages.specs.declared.body.Body.TheVariants as body
use Rattle.messages.specs.declared.envelope.Envelope.{Envelope}
use Rattle.messages.specs.CohortBits.{shards_in, bits_of}
use Rattle.wire.specs.Fields.{sized, is_sized, counted, is_counted}
use Rattle.wire.specs.Requests.{change, fits_change, predicate, fits_predicate}
use Rattle.wire.specs.Replies.{column, fits_column}

-- how many bytes an envelope may have: a frame around it has room for its own fields below 2^32
abbrev pub greatest : ℕ
greatest = 4294967040

-- ## Fields

-- whether four bytes can hold the number of the items, and each item fits
abbrev pub is_listed : {A : Type 0} → (A → Bool) → List A → Bool
is_listed fits xs = nat_lt (length xs) (256 ^ 4) && list_all fits xs

-- a number of eight bytes
unfoldable pub number : ℕ → List ℕ
number n = big_bytes 8 n

unfoldable pub fits_number : ℕ → Bool
fits_number n = nat_lt n (256 ^ 8)

unfoldable pub time : ℕ → List ℕ
time t = big_bytes 8 t

unfoldable pub fits_time : ℕ → Bool
fits_time t = nat_lt t (2 ^ 48)

unfoldable pub node : ℕ → List ℕ
node n = big_bytes 2 n

unfoldable pub fits_node : ℕ → Bool
fits_node n = nat_lt n (256 ^ 2)

-- a shard by its number, in one byte
unfoldable pub shard : ℕ → List ℕ
shard s = s ∷ []

unfoldable pub fits_shard : ℕ → Bool
fits_shard s = nat_lt s 8

unfoldable pub txn : TxnValue → List ℕ
txn t = node t.session ++ number t.number

unfoldable pub fits_txn : TxnValue → Bool
fits_txn t = fits_node t.session && fits_number t.number

unfoldable pub stamp : StampValue → List ℕ
stamp s = time s.time ++ node s.node

unfoldable pub fits_stamp : StampValue → Bool
fits_stamp s = fits_time s.time && fits_node s.node

unfoldable pub writer : WriterValue → List ℕ
writer w = txn w.txn ++ shard w.shard

unfoldable pub fits_writer : WriterValue → Bool
fits_writer w = fits_txn w.txn && fits_shard w.shard

-- a bit for each shard
unfoldable pub cohorts : List ℕ → List ℕ
cohorts cs = bits_of cs ∷ []

unfoldable pub fits_cohorts : List ℕ → Bool
fits_cohorts cs = nat_lt (bits_of cs) 256 && pointwise nat_eq (shards_in (bits_of cs)) cs

abbrev pub writers : List WriterValue → List ℕ
writers ws = counted writer ws

abbrev pub fits_writers : List WriterValue → Bool
fits_writers ws = is_listed fits_writer ws

abbrev pub rows : List Change → List ℕ
rows cs = counted change cs

abbrev pub fits_rows : List Change → Bool
fits_rows cs = is_listed fits_change cs

-- as a request spells a read, without its kind
unfoldable pub asked : Read → List ℕ
asked r = sized 1 r.family ++ (counted (sized 2) r.keys ++ predicate r.predicate)

unfoldable pub fits_asked : Read → Bool
fits_asked r = is_sized 1 r.family && (is_counted (is_sized 2) (sized 2) r.keys && fits_predicate r.predicate)

unfoldable pub row_now : RowNow → List ℕ
row_now r = sized 2 r.key ++ (counted column r.columns ++ (writers r.writers ++ (time r.evt ++ time r.lvt)))

unfoldable pub fits_row_now : RowNow → Bool
fits_row_now r = is_sized 2 r.key && (is_listed fits_column r.columns && (fits_writers r.writers && (fits_time r.evt && fits_time r.lvt)))

unfoldable pub row_at : RowAt → List ℕ
row_at r = sized 2 r.key ++ (counted column r.columns ++ writers r.writers)

unfoldable pub fits_row_at : RowAt → Bool
fits_row_at r = is_sized 2 r.key && (is_listed fits_column r.columns && fits_writers r.writers)

abbrev pub at_time : AtTime → List ℕ
at_time Collected = 0 ∷ []
at_time (Rows rs) = 1 ∷ counted row_at rs

abbrev pub fits_at_time : AtTime → Bool
fits_at_time Collected = true
fits_at_time (Rows rs) = is_listed fits_row_at rs

-- ## Groups of fields

unfoldable pub decision : TxnValue → ℕ → StampValue → List ℕ
decision t commit s = txn t ++ (time commit ++ stamp s)

unfoldable pub fits_decision : TxnValue → ℕ → StampValue → Bool
fits_decision t commit s = fits_txn t && (fits_time commit && fits_stamp s)

unfoldable pub txn_and_time : TxnValue → ℕ → List ℕ
txn_and_time t n = txn t ++ time n

unfoldable pub fits_txn_and_time : TxnValue → ℕ → Bool
fits_txn_and_time t n = fits_txn t && fits_time n

unfoldable pub begin : TxnValue → List Change → List ℕ → List WriterValue → List ℕ
begin t cs hs ds = txn t ++ (rows cs ++ (cohorts hs ++ writers ds))

unfoldable pub fits_begin : TxnValue → List Change → List ℕ → List WriterValue → Bool
fits_begin t cs hs ds = fits_txn t && (fits_rows cs && (fits_cohorts hs && fits_writers ds))

unfoldable pub prepare : TxnValue → List Change → ℕ → List ℕ
prepare t cs s = txn t ++ (rows cs ++ shard s)

unfoldable pub fits_prepare : TxnValue → List Change → ℕ → Bool
fits_prepare t cs s = fits_txn t && (fits_rows cs && fits_shard s)

unfoldable pub first_round : ℕ → Read → List ℕ
first_round n r = number n ++ asked r

unfoldable pub fits_first_round : ℕ → Read → Bool
fits_first_round n r = fits_number n && fits_asked r

unfoldable pub second_round : ℕ → ℕ → Read → List ℕ
second_round n t r = number n ++ (time t ++ asked r)

unfoldable pub fits_second_round : ℕ → ℕ → Read → Bool
fits_second_round n t r = fits_number n && (fits_time t && fits_asked r)

unfoldable pub repl_begin : List ℕ → TxnValue → List Change → StampValue → List WriterValue → List ℕ
repl_begin hs t cs s ds = cohorts hs ++ (txn t ++ (rows cs ++ (stamp s ++ writers ds)))

unfoldable pub fits_repl_begin : List ℕ → TxnValue → List Change → StampValue → List WriterValue → Bool
fits_repl_begin hs t cs s ds = fits_cohorts hs && (fits_txn t && (fits_rows cs && (fits_stamp s && fits_writers ds)))

unfoldable pub repl_part : TxnValue → List Change → StampValue → ℕ → List ℕ
repl_part t cs s c = txn t ++ (rows cs ++ (stamp s ++ shard c))

unfoldable pub fits_repl_part : TxnValue → List Change → StampValue → ℕ → Bool
fits_repl_part t cs s c = fits_txn t && (fits_rows cs && (fits_stamp s && fits_shard c))

unfoldable pub dep_check : TxnValue → TxnValue → List ℕ
dep_check d w = txn d ++ txn w

unfoldable pub fits_dep_check : TxnValue → TxnValue → Bool
fits_dep_check d w = fits_txn d && fits_txn w

unfoldable pub dep_ok : TxnValue → TxnValue → ℕ → List ℕ
dep_ok d w t = txn d ++ (txn w ++ time t)

unfoldable pub fits_dep_ok : TxnValue → TxnValue → ℕ → Bool
fits_dep_ok d w t = fits_txn d && (fits_txn w && fits_time t)

unfoldable pub part_now : ℕ → List RowNow → List ℕ
part_now n rs = number n ++ counted row_now rs

unfoldable pub fits_part_now : ℕ → List RowNow → Bool
fits_part_now n rs = fits_number n && is_listed fits_row_now rs

unfoldable pub part_at : ℕ → ℕ → AtTime → List ℕ
part_at n t a = number n ++ (time t ++ at_time a)

unfoldable pub fits_part_at : ℕ → ℕ → AtTime → Bool
fits_part_at n t a = fits_number n && (fits_time t && fits_at_time a)

-- ## Messages

-- what a message says, behind the number of its kind
abbrev pub said : Body → List ℕ
said (body.Begin t cs hs ds) = 1 ∷ begin t cs hs ds
said (body.Prepare t cs s) = 2 ∷ prepare t cs s
said (body.Yes t) = 3 ∷ txn t
said (body.Commit t c s) = 4 ∷ decision t c s
said (body.At t c s) = 5 ∷ decision t c s
said (body.NotBy t n) = 6 ∷ txn_and_time t n
said (body.Check t n) = 7 ∷ txn_and_time t n
said (body.Read n r) = 8 ∷ first_round n r
said (body.ReadAt n t r) = 9 ∷ second_round n t r
said (body.ReplBegin hs t cs s ds) = 10 ∷ repl_begin hs t cs s ds
said (body.ReplPart t cs s c) = 11 ∷ repl_part t cs s c
said (body.Notify t) = 12 ∷ txn t
said (body.PrepareRemote t) = 13 ∷ txn t
said (body.DepCheck d w) = 14 ∷ dep_check d w
said (body.DepOk d w t) = 15 ∷ dep_ok d w t
said (body.Done t c s) = 16 ∷ decision t c s
said (body.PartNow n rs) = 17 ∷ part_now n rs
said (body.PartAt n t a) = 18 ∷ part_at n t a

-- whether each number, each length and each count of it fits where it is written
abbrev pub fits : Body → Bool
fits (body.Begin t cs hs ds) = fits_begin t cs hs ds
fits (body.Prepare t cs s) = fits_prepare t cs s
fits (body.Yes t) = fits_txn t
fits (body.Commit t c s) = fits_decision t c s
fits (body.At t c s) = fits_decision t c s
fits (body.NotBy t n) = fits_txn_and_time t n
fits (body.Check t n) = fits_txn_and_time t n
fits (body.Read n r) = fits_first_round n r
fits (body.ReadAt n t r) = fits_second_round n t r
fits (body.ReplBegin hs t cs s ds) = fits_repl_begin hs t cs s ds
fits (body.ReplPart t cs s c) = fits_repl_part t cs s c
fits (body.Notify t) = fits_txn t
fits (body.PrepareRemote t) = fits_txn t
fits (body.DepCheck d w) = fits_dep_check d w
fits (body.DepOk d w t) = fits_dep_ok d w t
fits (body.Done t c s) = fits_decision t c s
fits (body.PartNow n rs) = fits_part_now n rs
fits (body.PartAt n t a) = fits_part_at n t a

-- an envelope: from whom, to whom, the clock, and what it says
abbrev pub parcel : Envelope → List ℕ
parcel e = node e.from ++ (node e.to ++ (time e.time ++ said e.body))

abbrev pub fits_parcel : Envelope → Bool
fits_parcel e = fits_node e.from && (fits_node e.to && (fits_time e.time && fits e.body))

-- whether the envelope has a spelling: nothing in it, and not the whole, is too long
abbrev pub is_spelled : Envelope → Bool
is_spelled e = fits_parcel e && nat_le (length (parcel e)) greatest

-- the one spelling of an envelope, or none
abbrev pub spelling : Envelope → Option (List ℕ)
spelling e = if is_spelled e then Some (parcel e) else None
