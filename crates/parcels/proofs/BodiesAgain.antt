-- What messages say is read again, and so are envelopes.
use Rattle.std.proofs.Common.{◌≡◌, ℕ, Bool, true, false, cond, ◌&&◌, List, [], ◌++◌, length, Ok, Some, None, refl, sym, ap, ◌∙◌}
use Rattle.std.specs.Prelude.{nat_le}
use Rattle.std.proofs.lemmas.Bool.{and_parts}
use Rattle.std.proofs.lemmas.List.{append-nil}
use Rattle.logical_time.specs.Stamps.{StampValue, TxnValue, WriterValue}
use Rattle.column_family.specs.declared.batch.Change.{Change}
use Rattle.slice.specs.declared.read.Read.{Read}
use Rattle.messages.specs.declared.rows_now.RowNow.{RowNow}
use Rattle.messages.specs.declared.rows_at.AtTime.{AtTime}
use Rattle.messages.specs.declared.body.Body.TheVariants as body
use Rattle.messages.specs.declared.envelope.Envelope.{Envelope}
use Rattle.wire.specs.Fields.{counted}
use Rattle.wire.specs.Requests.{change, fits_change}
use Rattle.wire.proofs.Steps.{AllAgain}
use Rattle.parcels.specs.Spelling.{greatest, is_listed, number, fits_number, time, fits_time, node, fits_node, shard, fits_shard, txn, fits_txn, stamp, fits_stamp, writer, fits_writer, cohorts, fits_cohorts, asked, fits_asked, row_now, fits_row_now, at_time, fits_at_time, decision, fits_decision, txn_and_time, fits_txn_and_time, begin, fits_begin, prepare, fits_prepare, first_round, fits_first_round, second_round, fits_second_round, repl_begin, fits_repl_begin, repl_part, fits_repl_part, dep_check, fits_dep_check, dep_ok, fits_dep_ok, part_now, fits_part_now, part_at, fits_part_at, said, fits, parcel, fits_parcel, is_spelled, spelling}
use Rattle.parcels.specs.Reading.{decision_at, begin_at, prepare_at, yes_at, commit_at, at_at, not_by_at, check_at, read_at, read_at_at, repl_begin_at, repl_part_at, notify_at, prepare_remote_at, dep_check_at, dep_ok_at, done_at, part_now_at, part_at_at, said_at, envelope_at, parcel_at}
use Rattle.parcels.proofs.FieldsAgain.{two, three, four, five, number8_again, node_again, time_again, shard_again, txn_again, stamp_again, cohorts_again, writers_again, rows_again, asked_again, rows_now_again, at_time_again}

decision_again : (t : TxnValue) (c : ℕ) (s : StampValue) (rest : List ℕ) → fits_decision t c s ≡ true → decision_at (decision t c s ++ rest) ≡ Ok ((t, c, s), rest)
unfolding decision_at decision fits_decision
decision_again t c s rest fits =
    let p0 = and_parts (fits_txn t) (fits_time c && fits_stamp s) fits in
    let p1 = and_parts (fits_time c) (fits_stamp s) p0.1 in
    rw (
      three (txn t) (time c) (stamp s) rest,
      txn_again t (time c ++ (stamp s ++ rest)) p0.0,
      time_again c (stamp s ++ rest) p1.0,
      stamp_again s rest p1.1,
    ) refl

not_by_again : (t : TxnValue) (n : ℕ) (rest : List ℕ) → fits_txn_and_time t n ≡ true → not_by_at (txn_and_time t n ++ rest) ≡ Ok (body.NotBy t n, rest)
unfolding not_by_at txn_and_time fits_txn_and_time
not_by_again t n rest fits =
    let p0 = and_parts (fits_txn t) (fits_time n) fits in
    rw (
      two (txn t) (time n) rest,
      txn_again t (time n ++ rest) p0.0,
      time_again n rest p0.1,
    ) refl

check_again : (t : TxnValue) (n : ℕ) (rest : List ℕ) → fits_txn_and_time t n ≡ true → check_at (txn_and_time t n ++ rest) ≡ Ok (body.Check t n, rest)
unfolding check_at txn_and_time fits_txn_and_time
check_again t n rest fits =
    let p0 = and_parts (fits_txn t) (fits_time n) fits in
    rw (
      two (txn t) (time n) rest,
      txn_again t (time n ++ rest) p0.0,
      time_again n rest p0.1,
    ) refl

begin_again : (t : TxnValue) (cs : List Change) (hs : List ℕ) (ds : List WriterValue) (rest : List ℕ) → fits_begin t cs hs ds ≡ true → begin_at (begin t cs hs ds ++ rest) ≡ Ok (body.Begin t cs hs ds, rest)
unfolding begin_at begin fits_begin
begin_again t cs hs ds rest fits =
    let p0 = and_parts (fits_txn t) (is_listed fits_change cs && (fits_cohorts hs && is_listed fits_writer ds)) fits in
    let p1 = and_parts (is_listed fits_change cs) (fits_cohorts hs && is_listed fits_writer ds) p0.1 in
    let p2 = and_parts (fits_cohorts hs) (is_listed fits_writer ds) p1.1 in
    rw (
      four (txn t) (counted change cs) (cohorts hs) (counted writer ds) rest,
      txn_again t (counted change cs ++ (cohorts hs ++ (counted writer ds ++ rest))) p0.0,
      rows_again cs (cohorts hs ++ (counted writer ds ++ rest)) p1.0,
      cohorts_again hs (counted writer ds ++ rest) p2.0,
      writers_again ds rest p2.1,
    ) refl

prepare_again : (t : TxnValue) (cs : List Change) (s : ℕ) (rest : List ℕ) → fits_prepare t cs s ≡ true → prepare_at (prepare t cs s ++ rest) ≡ Ok (body.Prepare t cs s, rest)
unfolding prepare_at prepare fits_prepare
prepare_again t cs s rest fits =
    let p0 = and_parts (fits_txn t) (is_listed fits_change cs && fits_shard s) fits in
    let p1 = and_parts (is_listed fits_change cs) (fits_shard s) p0.1 in
    rw (
      three (txn t) (counted change cs) (shard s) rest,
      txn_again t (counted change cs ++ (shard s ++ rest)) p0.0,
      rows_again cs (shard s ++ rest) p1.0,
      shard_again s rest p1.1,
    ) refl

read_again : (n : ℕ) (r : Read) (rest : List ℕ) → fits_first_round n r ≡ true → read_at (first_round n r ++ rest) ≡ Ok (body.Read n r, rest)
unfolding read_at first_round fits_first_round
read_again n r rest fits =
    let p0 = and_parts (fits_number n) (fits_asked r) fits in
    rw (
      two (number n) (asked r) rest,
      number8_again n (asked r ++ rest) p0.0,
      asked_again r rest p0.1,
    ) refl

read_at_again : (n : ℕ) (t : ℕ) (r : Read) (rest : List ℕ) → fits_second_round n t r ≡ true → read_at_at (second_round n t r ++ rest) ≡ Ok (body.ReadAt n t r, rest)
unfolding read_at_at second_round fits_second_round
read_at_again n t r rest fits =
    let p0 = and_parts (fits_number n) (fits_time t && fits_asked r) fits in
    let p1 = and_parts (fits_time t) (fits_asked r) p0.1 in
    rw (
      three (number n) (time t) (asked r) rest,
      number8_again n (time t ++ (asked r ++ rest)) p0.0,
      time_again t (asked r ++ rest) p1.0,
      asked_again r rest p1.1,
    ) refl

repl_begin_again : (hs : List ℕ) (t : TxnValue) (cs : List Change) (s : StampValue) (ds : List WriterValue) (rest : List ℕ) → fits_repl_begin hs t cs s ds ≡ true → repl_begin_at (repl_begin hs t cs s ds ++ rest) ≡ Ok (body.ReplBegin hs t cs s ds, rest)
unfolding repl_begin_at repl_begin fits_repl_begin
repl_begin_again hs t cs s ds rest fits =
    let p0 = and_parts (fits_cohorts hs) (fits_txn t && (is_listed fits_change cs && (fits_stamp s && is_listed fits_writer ds))) fits in
    let p1 = and_parts (fits_txn t) (is_listed fits_change cs && (fits_stamp s && is_listed fits_writer ds)) p0.1 in
    let p2 = and_parts (is_listed fits_change cs) (fits_stamp s && is_listed fits_writer ds) p1.1 in
    let p3 = and_parts (fits_stamp s) (is_listed fits_writer ds) p2.1 in
    rw (
      five (cohorts hs) (txn t) (counted change cs) (stamp s) (counted writer ds) rest,
      cohorts_again hs (txn t ++ (counted change cs ++ (stamp s ++ (counted writer ds ++ rest)))) p0.0,
      txn_again t (counted change cs ++ (stamp s ++ (counted writer ds ++ rest))) p1.0,
      rows_again cs (stamp s ++ (counted writer ds ++ rest)) p2.0,
      stamp_again s (counted writer ds ++ rest) p3.0,
      writers_again ds rest p3.1,
    ) refl

repl_part_again : (t : TxnValue) (cs : List Change) (s : StampValue) (c : ℕ) (rest : List ℕ) → fits_repl_part t cs s c ≡ true → repl_part_at (repl_part t cs s c ++ rest) ≡ Ok (body.ReplPart t cs s c, rest)
unfolding repl_part_at repl_part fits_repl_part
repl_part_again t cs s c rest fits =
    let p0 = and_parts (fits_txn t) (is_listed fits_change cs && (fits_stamp s && fits_shard c)) fits in
    let p1 = and_parts (is_listed fits_change cs) (fits_stamp s && fits_shard c) p0.1 in
    let p2 = and_parts (fits_stamp s) (fits_shard c) p1.1 in
    rw (
      four (txn t) (counted change cs) (stamp s) (shard c) rest,
      txn_again t (counted change cs ++ (stamp s ++ (shard c ++ rest))) p0.0,
      rows_again cs (stamp s ++ (shard c ++ rest)) p1.0,
      stamp_again s (shard c ++ rest) p2.0,
      shard_again c rest p2.1,
    ) refl

dep_check_again : (d : TxnValue) (w : TxnValue) (rest : List ℕ) → fits_dep_check d w ≡ true → dep_check_at (dep_check d w ++ rest) ≡ Ok (body.DepCheck d w, rest)
unfolding dep_check_at dep_check fits_dep_check
dep_check_again d w rest fits =
    let p0 = and_parts (fits_txn d) (fits_txn w) fits in
    rw (
      two (txn d) (txn w) rest,
      txn_again d (txn w ++ rest) p0.0,
      txn_again w rest p0.1,
    ) refl

dep_ok_again : (d : TxnValue) (w : TxnValue) (t : ℕ) (rest : List ℕ) → fits_dep_ok d w t ≡ true → dep_ok_at (dep_ok d w t ++ rest) ≡ Ok (body.DepOk d w t, rest)
unfolding dep_ok_at dep_ok fits_dep_ok
dep_ok_again d w t rest fits =
    let p0 = and_parts (fits_txn d) (fits_txn w && fits_time t) fits in
    let p1 = and_parts (fits_txn w) (fits_time t) p0.1 in
    rw (
      three (txn d) (txn w) (time t) rest,
      txn_again d (txn w ++ (time t ++ rest)) p0.0,
      txn_again w (time t ++ rest) p1.0,
      time_again t rest p1.1,
    ) refl

part_now_again : (n : ℕ) (rs : List RowNow) (rest : List ℕ) → fits_part_now n rs ≡ true → part_now_at (part_now n rs ++ rest) ≡ Ok (body.PartNow n rs, rest)
unfolding part_now_at part_now fits_part_now
part_now_again n rs rest fits =
    let p0 = and_parts (fits_number n) (is_listed fits_row_now rs) fits in
    rw (
      two (number n) (counted row_now rs) rest,
      number8_again n (counted row_now rs ++ rest) p0.0,
      rows_now_again rs rest p0.1,
    ) refl

part_at_again : (n : ℕ) (t : ℕ) (a : AtTime) (rest : List ℕ) → fits_part_at n t a ≡ true → part_at_at (part_at n t a ++ rest) ≡ Ok (body.PartAt n t a, rest)
unfolding part_at_at part_at fits_part_at
part_at_again n t a rest fits =
    let p0 = and_parts (fits_number n) (fits_time t && fits_at_time a) fits in
    let p1 = and_parts (fits_time t) (fits_at_time a) p0.1 in
    rw (
      three (number n) (time t) (at_time a) rest,
      number8_again n (time t ++ (at_time a ++ rest)) p0.0,
      time_again t (at_time a ++ rest) p1.0,
      at_time_again a rest p1.1,
    ) refl

yes_again : (t : TxnValue) (rest : List ℕ) → fits_txn t ≡ true → yes_at (txn t ++ rest) ≡ Ok (body.Yes t, rest)
unfolding yes_at
yes_again t rest fits = rw (txn_again t rest fits) refl

notify_again : (t : TxnValue) (rest : List ℕ) → fits_txn t ≡ true → notify_at (txn t ++ rest) ≡ Ok (body.Notify t, rest)
unfolding notify_at
notify_again t rest fits = rw (txn_again t rest fits) refl

prepare_remote_again : (t : TxnValue) (rest : List ℕ) → fits_txn t ≡ true → prepare_remote_at (txn t ++ rest) ≡ Ok (body.PrepareRemote t, rest)
unfolding prepare_remote_at
prepare_remote_again t rest fits = rw (txn_again t rest fits) refl

commit_again : (t : TxnValue) (c : ℕ) (s : StampValue) (rest : List ℕ) → fits_decision t c s ≡ true → commit_at (decision t c s ++ rest) ≡ Ok (body.Commit t c s, rest)
unfolding commit_at
commit_again t c s rest fits = rw (decision_again t c s rest fits) refl

at_again : (t : TxnValue) (c : ℕ) (s : StampValue) (rest : List ℕ) → fits_decision t c s ≡ true → at_at (decision t c s ++ rest) ≡ Ok (body.At t c s, rest)
unfolding at_at
at_again t c s rest fits = rw (decision_again t c s rest fits) refl

done_again : (t : TxnValue) (c : ℕ) (s : StampValue) (rest : List ℕ) → fits_decision t c s ≡ true → done_at (decision t c s ++ rest) ≡ Ok (body.Done t c s, rest)
unfolding done_at
done_again t c s rest fits = rw (decision_again t c s rest fits) refl

pub said_again : AllAgain said_at said fits
unfolding said_at
said_again (body.Begin t cs hs ds) rest fits = begin_again t cs hs ds rest fits
said_again (body.Prepare t cs s) rest fits = prepare_again t cs s rest fits
said_again (body.Yes t) rest fits = yes_again t rest fits
said_again (body.Commit t c s) rest fits = commit_again t c s rest fits
said_again (body.At t c s) rest fits = at_again t c s rest fits
said_again (body.NotBy t n) rest fits = not_by_again t n rest fits
said_again (body.Check t n) rest fits = check_again t n rest fits
said_again (body.Read n r) rest fits = read_again n r rest fits
said_again (body.ReadAt n t r) rest fits = read_at_again n t r rest fits
said_again (body.ReplBegin hs t cs s ds) rest fits = repl_begin_again hs t cs s ds rest fits
said_again (body.ReplPart t cs s c) rest fits = repl_part_again t cs s c rest fits
said_again (body.Notify t) rest fits = notify_again t rest fits
said_again (body.PrepareRemote t) rest fits = prepare_remote_again t rest fits
said_again (body.DepCheck d w) rest fits = dep_check_again d w rest fits
said_again (body.DepOk d w t) rest fits = dep_ok_again d w t rest fits
said_again (body.Done t c s) rest fits = done_again t c s rest fits
said_again (body.PartNow n rs) rest fits = part_now_again n rs rest fits
said_again (body.PartAt n t a) rest fits = part_at_again n t a rest fits

envelope_again : AllAgain envelope_at parcel fits_parcel
unfolding envelope_at
envelope_again e rest ok =
    let p = and_parts (fits_node e.from) (fits_node e.to && (fits_time e.time && fits e.body)) ok in
    let q = and_parts (fits_node e.to) (fits_time e.time && fits e.body) p.1 in
    let s = and_parts (fits_time e.time) (fits e.body) q.1 in
    rw (
      four (node e.from) (node e.to) (time e.time) (said e.body) rest,
      node_again e.from (node e.to ++ (time e.time ++ (said e.body ++ rest))) p.0,
      node_again e.to (time e.time ++ (said e.body ++ rest)) q.0,
      time_again e.time (said e.body ++ rest) s.0,
      said_again e.body rest s.1,
    ) refl

parcel_again : (e : Envelope) → fits_parcel e ≡ true → parcel_at (parcel e) ≡ Ok e
unfolding parcel_at
parcel_again e ok =
    let whole : envelope_at (parcel e) ≡ Ok (e, []) = ap envelope_at (sym (append-nil (parcel e))) ∙ envelope_again e [] ok in
    rw whole refl

pub spelled_again : (e : Envelope) (bytes : List ℕ) → spelling e ≡ Some bytes → parcel_at bytes ≡ Ok e
spelled_again e bytes is = by (is_spelled e) refl is
  where
    by : (b : Bool) → is_spelled e ≡ b → (cond b (Some (parcel e)) None) ≡ Some bytes → parcel_at bytes ≡ Ok e
    by true q h =
        let p = and_parts (fits_parcel e) (nat_le (length (parcel e)) greatest) q in
        let same : parcel e ≡ bytes = cc in
        ap parcel_at (sym same) ∙ parcel_again e p.0
    by false q h = absurd (cc)
