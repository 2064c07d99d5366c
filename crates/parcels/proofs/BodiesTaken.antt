-- What messages say, and envelopes, are spelled by the bytes that they were read from.
use Rattle.std.proofs.Common.{◌≡◌, ℕ, ◌<◌, ◌≤◌, Bool, true, false, ◌&&◌, List, [], ◌∷◌, ◌++◌, length, All, Ok, Some, None, sym, ap, subst, ◌∙◌, arith, inl, inr}
use Rattle.std.specs.Prelude.{nat_le}
use Rattle.std.proofs.lemmas.Bool.{cases_lt, cond-true, le-leb, and_parts, and_from}
use Rattle.std.proofs.lemmas.List.{append-nil, length-append, get_or_past}
use Rattle.logical_time.specs.Stamps.{StampValue, TxnValue}
use Rattle.messages.specs.declared.body.Body.TheVariants as body
use Rattle.messages.specs.declared.envelope.Envelope.{Envelope}
use Rattle.wire.specs.Fields.{counted, longest}
use Rattle.wire.specs.Requests.{change, fits_change}
use Rattle.wire.specs.Reading.{whole_of}
use Rattle.wire.proofs.Steps.{IsBytes, bind_ok, ended_ok}
use Rattle.parcels.specs.Spelling.{greatest, is_listed, number, fits_number, time, fits_time, node, fits_node, shard, fits_shard, txn, fits_txn, stamp, fits_stamp, writer, fits_writer, cohorts, fits_cohorts, asked, row_now, fits_row_now, at_time, fits_at_time, decision, fits_decision, txn_and_time, fits_txn_and_time, begin, fits_begin, prepare, fits_prepare, first_round, fits_first_round, second_round, fits_second_round, repl_begin, fits_repl_begin, repl_part, fits_repl_part, dep_check, fits_dep_check, dep_ok, fits_dep_ok, part_now, fits_part_now, part_at, fits_part_at, said, fits, parcel, fits_parcel, is_spelled, spelling}
use Rattle.parcels.specs.Kinds.{asks}
use Rattle.parcels.specs.Reading.{decision_at, begin_at, prepare_at, yes_at, commit_at, at_at, not_by_at, check_at, read_at, read_at_at, repl_begin_at, repl_part_at, notify_at, prepare_remote_at, dep_check_at, dep_ok_at, done_at, part_now_at, part_at_at, said_at, envelope_at, parcel_at}
use Rattle.parcels.proofs.Listed.{lists_asked, lists, short_fits, other_fits}
use Rattle.parcels.proofs.FieldsTaken.{AllTook, KindTook, rest_small, step, then, behind, made, kind_is, number8_takes, node_takes, time_takes, shard_takes, txn_takes, stamp_takes, cohorts_take, writers_take, rows_take, asked_takes, rows_now_take, at_time_takes}

-- a transaction, its commit time and its stamp
abbrev Decided : Type 0
Decided = TxnValue × ℕ × StampValue

abbrev decided : Decided → List ℕ
decided d = decision d.0 d.1 d.2

abbrev fits_decided : Decided → Bool
fits_decided d = fits_decision d.0 d.1 d.2

decision_takes : AllTook decision_at decided fits_decided
unfolding decision_at decision fits_decision
decision_takes bytes x small e =
    step txn fits_txn txn_takes bytes _ x small e (λ a s e1.
    step time fits_time time_takes a.1 _ x s.small e1 (λ b t e2.
    step stamp fits_stamp stamp_takes b.1 _ x t.small e2 (λ c u e3.
    made decided fits_decided bytes ((a.0, b.0, c.0), c.1) x e3 (then s (then t u)))))

begin_takes : KindTook 1 begin_at said lists
unfolding begin_at begin fits_begin
begin_takes rest x small e =
    step txn fits_txn txn_takes rest _ x small e (λ a s e1.
    step (counted change) (is_listed fits_change) rows_take a.1 _ x s.small e1 (λ b t e2.
    step cohorts fits_cohorts cohorts_take b.1 _ x t.small e2 (λ c u e3.
    step (counted writer) (is_listed fits_writer) writers_take c.1 _ x u.small e3 (λ d v e4.
    made said lists (1 ∷ rest) (body.Begin a.0 b.0 c.0 d.0, d.1) x e4 (behind 1 (then s (then t (then u v))))))))

prepare_takes : KindTook 2 prepare_at said lists
unfolding prepare_at prepare fits_prepare
prepare_takes rest x small e =
    step txn fits_txn txn_takes rest _ x small e (λ a s e1.
    step (counted change) (is_listed fits_change) rows_take a.1 _ x s.small e1 (λ b t e2.
    step shard fits_shard shard_takes b.1 _ x t.small e2 (λ c u e3.
    made said lists (2 ∷ rest) (body.Prepare a.0 b.0 c.0, c.1) x e3 (behind 2 (then s (then t u))))))

yes_takes : KindTook 3 yes_at said lists
unfolding yes_at
yes_takes rest x small e =
    step txn fits_txn txn_takes rest _ x small e (λ a s e1.
    made said lists (3 ∷ rest) (body.Yes a.0, a.1) x e1 (behind 3 s))

commit_takes : KindTook 4 commit_at said lists
unfolding commit_at
commit_takes rest x small e =
    step decided fits_decided decision_takes rest _ x small e (λ a s e1.
    made said lists (4 ∷ rest) (body.Commit a.0.0 a.0.1 a.0.2, a.1) x e1 (behind 4 s))

at_takes : KindTook 5 at_at said lists
unfolding at_at
at_takes rest x small e =
    step decided fits_decided decision_takes rest _ x small e (λ a s e1.
    made said lists (5 ∷ rest) (body.At a.0.0 a.0.1 a.0.2, a.1) x e1 (behind 5 s))

not_by_takes : KindTook 6 not_by_at said lists
unfolding not_by_at txn_and_time fits_txn_and_time
not_by_takes rest x small e =
    step txn fits_txn txn_takes rest _ x small e (λ a s e1.
    step time fits_time time_takes a.1 _ x s.small e1 (λ b t e2.
    made said lists (6 ∷ rest) (body.NotBy a.0 b.0, b.1) x e2 (behind 6 (then s t))))

check_takes : KindTook 7 check_at said lists
unfolding check_at txn_and_time fits_txn_and_time
check_takes rest x small e =
    step txn fits_txn txn_takes rest _ x small e (λ a s e1.
    step time fits_time time_takes a.1 _ x s.small e1 (λ b t e2.
    made said lists (7 ∷ rest) (body.Check a.0 b.0, b.1) x e2 (behind 7 (then s t))))

read_takes : KindTook 8 read_at said lists
unfolding read_at first_round fits_first_round
read_takes rest x small e =
    step number fits_number number8_takes rest _ x small e (λ a s e1.
    step asked lists_asked asked_takes a.1 _ x s.small e1 (λ b t e2.
    made said lists (8 ∷ rest) (body.Read a.0 b.0, b.1) x e2 (behind 8 (then s t))))

read_at_takes : KindTook 9 read_at_at said lists
unfolding read_at_at second_round fits_second_round
read_at_takes rest x small e =
    step number fits_number number8_takes rest _ x small e (λ a s e1.
    step time fits_time time_takes a.1 _ x s.small e1 (λ b t e2.
    step asked lists_asked asked_takes b.1 _ x t.small e2 (λ c u e3.
    made said lists (9 ∷ rest) (body.ReadAt a.0 b.0 c.0, c.1) x e3 (behind 9 (then s (then t u))))))

repl_begin_takes : KindTook 10 repl_begin_at said lists
unfolding repl_begin_at repl_begin fits_repl_begin
repl_begin_takes rest x small e =
    step cohorts fits_cohorts cohorts_take rest _ x small e (λ a s e1.
    step txn fits_txn txn_takes a.1 _ x s.small e1 (λ b t e2.
    step (counted change) (is_listed fits_change) rows_take b.1 _ x t.small e2 (λ c u e3.
    step stamp fits_stamp stamp_takes c.1 _ x u.small e3 (λ d v e4.
    step (counted writer) (is_listed fits_writer) writers_take d.1 _ x v.small e4 (λ g w e5.
    made said lists (10 ∷ rest) (body.ReplBegin a.0 b.0 c.0 d.0 g.0, g.1) x e5 (behind 10 (then s (then t (then u (then v w))))))))))

repl_part_takes : KindTook 11 repl_part_at said lists
unfolding repl_part_at repl_part fits_repl_part
repl_part_takes rest x small e =
    step txn fits_txn txn_takes rest _ x small e (λ a s e1.
    step (counted change) (is_listed fits_change) rows_take a.1 _ x s.small e1 (λ b t e2.
    step stamp fits_stamp stamp_takes b.1 _ x t.small e2 (λ c u e3.
    step shard fits_shard shard_takes c.1 _ x u.small e3 (λ d v e4.
    made said lists (11 ∷ rest) (body.ReplPart a.0 b.0 c.0 d.0, d.1) x e4 (behind 11 (then s (then t (then u v))))))))

notify_takes : KindTook 12 notify_at said lists
unfolding notify_at
notify_takes rest x small e =
    step txn fits_txn txn_takes rest _ x small e (λ a s e1.
    made said lists (12 ∷ rest) (body.Notify a.0, a.1) x e1 (behind 12 s))

prepare_remote_takes : KindTook 13 prepare_remote_at said lists
unfolding prepare_remote_at
prepare_remote_takes rest x small e =
    step txn fits_txn txn_takes rest _ x small e (λ a s e1.
    made said lists (13 ∷ rest) (body.PrepareRemote a.0, a.1) x e1 (behind 13 s))

dep_check_takes : KindTook 14 dep_check_at said lists
unfolding dep_check_at dep_check fits_dep_check
dep_check_takes rest x small e =
    step txn fits_txn txn_takes rest _ x small e (λ a s e1.
    step txn fits_txn txn_takes a.1 _ x s.small e1 (λ b t e2.
    made said lists (14 ∷ rest) (body.DepCheck a.0 b.0, b.1) x e2 (behind 14 (then s t))))

dep_ok_takes : KindTook 15 dep_ok_at said lists
unfolding dep_ok_at dep_ok fits_dep_ok
dep_ok_takes rest x small e =
    step txn fits_txn txn_takes rest _ x small e (λ a s e1.
    step txn fits_txn txn_takes a.1 _ x s.small e1 (λ b t e2.
    step time fits_time time_takes b.1 _ x t.small e2 (λ c u e3.
    made said lists (15 ∷ rest) (body.DepOk a.0 b.0 c.0, c.1) x e3 (behind 15 (then s (then t u))))))

done_takes : KindTook 16 done_at said lists
unfolding done_at
done_takes rest x small e =
    step decided fits_decided decision_takes rest _ x small e (λ a s e1.
    made said lists (16 ∷ rest) (body.Done a.0.0 a.0.1 a.0.2, a.1) x e1 (behind 16 s))

part_now_takes : KindTook 17 part_now_at said lists
unfolding part_now_at part_now fits_part_now
part_now_takes rest x small e =
    step number fits_number number8_takes rest _ x small e (λ a s e1.
    step (counted row_now) (is_listed fits_row_now) rows_now_take a.1 _ x s.small e1 (λ b t e2.
    made said lists (17 ∷ rest) (body.PartNow a.0 b.0, b.1) x e2 (behind 17 (then s t))))

part_at_takes : KindTook 18 part_at_at said lists
unfolding part_at_at part_at fits_part_at
part_at_takes rest x small e =
    step number fits_number number8_takes rest _ x small e (λ a s e1.
    step time fits_time time_takes a.1 _ x s.small e1 (λ b t e2.
    step at_time fits_at_time at_time_takes b.1 _ x t.small e2 (λ c u e3.
    made said lists (18 ∷ rest) (body.PartAt a.0 b.0 c.0, c.1) x e3 (behind 18 (then s (then t u))))))

said_takes : AllTook said_at said lists
unfolding said_at
said_takes [] x small e = absurd cc
said_takes (k ∷ rest) x small e =
    let tail = rest_small k rest small in
    kind_is k 1 _ _ _ e (λ is h. rw is (begin_takes rest x tail h)) (λ e1.
    kind_is k 2 _ _ _ e1 (λ is h. rw is (prepare_takes rest x tail h)) (λ e2.
    kind_is k 3 _ _ _ e2 (λ is h. rw is (yes_takes rest x tail h)) (λ e3.
    kind_is k 4 _ _ _ e3 (λ is h. rw is (commit_takes rest x tail h)) (λ e4.
    kind_is k 5 _ _ _ e4 (λ is h. rw is (at_takes rest x tail h)) (λ e5.
    kind_is k 6 _ _ _ e5 (λ is h. rw is (not_by_takes rest x tail h)) (λ e6.
    kind_is k 7 _ _ _ e6 (λ is h. rw is (check_takes rest x tail h)) (λ e7.
    kind_is k 8 _ _ _ e7 (λ is h. rw is (read_takes rest x tail h)) (λ e8.
    kind_is k 9 _ _ _ e8 (λ is h. rw is (read_at_takes rest x tail h)) (λ e9.
    kind_is k 10 _ _ _ e9 (λ is h. rw is (repl_begin_takes rest x tail h)) (λ e10.
    kind_is k 11 _ _ _ e10 (λ is h. rw is (repl_part_takes rest x tail h)) (λ e11.
    kind_is k 12 _ _ _ e11 (λ is h. rw is (notify_takes rest x tail h)) (λ e12.
    kind_is k 13 _ _ _ e12 (λ is h. rw is (prepare_remote_takes rest x tail h)) (λ e13.
    kind_is k 14 _ _ _ e13 (λ is h. rw is (dep_check_takes rest x tail h)) (λ e14.
    kind_is k 15 _ _ _ e14 (λ is h. rw is (dep_ok_takes rest x tail h)) (λ e15.
    kind_is k 16 _ _ _ e15 (λ is h. rw is (done_takes rest x tail h)) (λ e16.
    kind_is k 17 _ _ _ e16 (λ is h. rw is (part_now_takes rest x tail h)) (λ e17.
    kind_is k 18 _ _ _ e17 (λ is h. rw is (part_at_takes rest x tail h)) (λ e18.
    absurd cc))))))))))))))))))

-- an envelope, where what it asks may have lists of any length
abbrev lists_parcel : Envelope → Bool
lists_parcel e = fits_node e.from && (fits_node e.to && (fits_time e.time && lists e.body))

envelope_takes : AllTook envelope_at parcel lists_parcel
unfolding envelope_at
envelope_takes bytes x small e =
    step node fits_node node_takes bytes _ x small e (λ a s e1.
    step node fits_node node_takes a.1 _ x s.small e1 (λ b t e2.
    step time fits_time time_takes b.1 _ x t.small e2 (λ c u e3.
    step said lists said_takes c.1 _ x u.small e3 (λ d v e4.
    made parcel lists_parcel bytes (record { from = a.0; to = b.0; time = c.0; body = d.0 }, d.1) x e4 (then s (then t (then u v)))))))

are_bytes : (bytes : List ℕ) → All (λ b. b < 256) bytes → IsBytes bytes
are_bytes bytes all i =
    elim (cases_lt i (length bytes)) [
      | inl lt ↦ all i 0 lt
      | inr le ↦ rw (get_or_past bytes i 0 le) (omega arith)
    ]

parcel_is : (bytes : List ℕ) (e : Envelope) → All (λ b. b < 256) bytes → parcel_at bytes ≡ Ok e → (parcel e ≡ bytes) × (lists_parcel e ≡ true)
unfolding parcel_at
parcel_is bytes e all is =
    let a = bind_ok (envelope_at bytes) (λ x. whole_of x) e is in
    let t = envelope_takes bytes a.0 (are_bytes bytes all) a.1 in
    let d = ended_ok a.0.0 a.0.1 e a.2 in
    let parts : bytes ≡ parcel a.0.0 = t.parts ∙ rw d.1 (append-nil _) in
    subst (λ (y : Envelope). (parcel y ≡ bytes) × (lists_parcel y ≡ true)) d.0 (sym parts, t.fits)

pub read_text : (bytes : List ℕ) (e : Envelope) → All (λ b. b < 256) bytes → parcel_at bytes ≡ Ok e → parcel e ≡ bytes
read_text bytes e all is = (parcel_is bytes e all is).0

-- the message stands in the parcel
said_within : (e : Envelope) → length (said e.body) ≤ length (parcel e)
said_within e =
    let a = length-append (node e.from) (node e.to ++ (time e.time ++ said e.body)) in
    let b = length-append (node e.to) (time e.time ++ said e.body) in
    let c = length-append (time e.time) (said e.body) in
    omega (arith, a, b, c)

-- a parcel is the spelling where its message fits
spelled : (bytes : List ℕ) (e : Envelope) → parcel e ≡ bytes → length bytes ≤ greatest → lists_parcel e ≡ true → (lists e.body ≡ true → fits e.body ≡ true) → spelling e ≡ Some bytes
spelled bytes e is short all one =
    let p = and_parts (fits_node e.from) (fits_node e.to && (fits_time e.time && lists e.body)) all in
    let q = and_parts (fits_node e.to) (fits_time e.time && lists e.body) p.1 in
    let s = and_parts (fits_time e.time) (lists e.body) q.1 in
    let every : fits_parcel e ≡ true = and_from _ _ p.0 (and_from _ _ q.0 (and_from _ _ s.0 (one s.1))) in
    let same : length (parcel e) ≡ length bytes = ap length is in
    let size : length (parcel e) ≤ greatest = omega (arith, short, same) in
    cond-true (is_spelled e) (Some (parcel e)) None (and_from (fits_parcel e) (nat_le (length (parcel e)) greatest) every (le-leb _ _ size)) ∙ ap (λ (t : List ℕ). Some t) is

pub short_spelled : (bytes : List ℕ) (e : Envelope) → All (λ b. b < 256) bytes → length bytes ≤ longest → parcel_at bytes ≡ Ok e → spelling e ≡ Some bytes
short_spelled bytes e all short is =
    let p = parcel_is bytes e all is in
    let same : length (parcel e) ≡ length bytes = ap length p.0 in
    spelled bytes e p.0 (omega (arith, short)) p.1 (λ h. short_fits e.body h (omega (arith, short, same, said_within e)))

pub other_spelled : (bytes : List ℕ) (e : Envelope) → All (λ b. b < 256) bytes → length bytes ≤ greatest → asks e.body ≡ false → parcel_at bytes ≡ Ok e → spelling e ≡ Some bytes
other_spelled bytes e all short none is =
    let p = parcel_is bytes e all is in
    spelled bytes e p.0 short p.1 (λ h. other_fits e.body h none)
