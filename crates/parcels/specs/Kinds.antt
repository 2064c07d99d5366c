-- What a message says, cut in its kind and its fields.
use Rattle.std.specs.Prelude.{ℕ, List, Bool, true, false}
use Rattle.messages.specs.declared.body.Body.{Body}
use Rattle.messages.specs.declared.body.Body.TheVariants as body
use Rattle.parcels.specs.Spelling.{txn, decision, txn_and_time, begin, prepare, first_round, second_round, repl_begin, repl_part, dep_check, dep_ok, part_now, part_at}

abbrev pub kind_of : Body → ℕ
kind_of (body.Begin t cs hs ds) = 1
kind_of (body.Prepare t cs s) = 2
kind_of (body.Yes t) = 3
kind_of (body.Commit t c s) = 4
kind_of (body.At t c s) = 5
kind_of (body.NotBy t n) = 6
kind_of (body.Check t n) = 7
kind_of (body.Read n r) = 8
kind_of (body.ReadAt n t r) = 9
kind_of (body.ReplBegin hs t cs s ds) = 10
kind_of (body.ReplPart t cs s c) = 11
kind_of (body.Notify t) = 12
kind_of (body.PrepareRemote t) = 13
kind_of (body.DepCheck d w) = 14
kind_of (body.DepOk d w t) = 15
kind_of (body.Done t c s) = 16
kind_of (body.PartNow n rs) = 17
kind_of (body.PartAt n t a) = 18

abbrev pub fields_of : Body → List ℕ
fields_of (body.Begin t cs hs ds) = begin t cs hs ds
fields_of (body.Prepare t cs s) = prepare t cs s
fields_of (body.Yes t) = txn t
fields_of (body.Commit t c s) = decision t c s
fields_of (body.At t c s) = decision t c s
fields_of (body.NotBy t n) = txn_and_time t n
fields_of (body.Check t n) = txn_and_time t n
fields_of (body.Read n r) = first_round n r
fields_of (body.ReadAt n t r) = second_round n t r
fields_of (body.ReplBegin hs t cs s ds) = repl_begin hs t cs s ds
fields_of (body.ReplPart t cs s c) = repl_part t cs s c
fields_of (body.Notify t) = txn t
fields_of (body.PrepareRemote t) = txn t
fields_of (body.DepCheck d w) = dep_check d w
fields_of (body.DepOk d w t) = dep_ok d w t
fields_of (body.Done t c s) = decision t c s
fields_of (body.PartNow n rs) = part_now n rs
fields_of (body.PartAt n t a) = part_at n t a

-- whether it is a round of a read, and so tells which rows are asked
abbrev pub asks : Body → Bool
asks (body.Read n r) = true
asks (body.ReadAt n t r) = true
asks b = false
