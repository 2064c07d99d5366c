-- What is under way of a transaction is the first that the shard holds of it.
use Rattle.std.proofs.Common.{◌≡◌, ◌∙◌, sym, ap, refl, ℕ, Bool, map, Some, None}
use Rattle.std.specs.Prelude.{find}
use Rattle.std.specs.Ordering.{is_eq}
use Rattle.logical_time.specs.Stamps.{TxnValue, WriterValue, writer_cmp}
use Rattle.txn_state.specs.declared.part.WritePart.{WritePart}
use Rattle.messages.specs.Topology.{TopologyValue, shard_of}
use Rattle.messages.specs.Words.{is_same_txn}
use Rattle.messages.specs.Shard.{ShardState, PreparedPart, BegunBallot, KeptPart, KeptBallot}
use Rattle.write_txn.specs.declared.open.Open.{Open}
use Rattle.write_txn.specs.declared.open.Open.TheVariants as in_open
use Rattle.write_txn.specs.Ledger.{Holds}
use Rattle.write_txn.specs.Ledger as ledger
use Rattle.write_txn.specs.View.{view_of}
use Rattle.write_txn.specs.Stands.{Stands, own_part, kept_part_of, kept_ballot_of}
use Rattle.shard.specs.Unfinished.{part_of, parts_held}
use Rattle.shard.proofs.under_way.HeldParts.{own_txn_of}
use Rattle.shard.proofs.lists.FoundParts.{part_found, no_part_found, find_first, find_third, find_fourth}

-- ## What the shard holds

abbrev pub by_writer : WriterValue → WritePart → Bool
by_writer w p = is_eq (writer_cmp p.writer w)

abbrev pub as_prepared : PreparedPart → WritePart
as_prepared p = part_of p.txn p.coordinator p.rows

abbrev pub as_ballot : TopologyValue → ℕ → BegunBallot → WritePart
as_ballot top me b = part_of b.txn (shard_of top me) b.rows

abbrev pub as_kept : KeptPart → WritePart
as_kept k = part_of k.txn k.coordinator k.rows

abbrev pub as_kept_ballot : TopologyValue → ℕ → KeptBallot → WritePart
as_kept_ballot top me r = part_of r.txn (shard_of top me) r.rows

prepared_first : (top : TopologyValue) (me : ℕ) (a : ShardState) (t : TxnValue) (p : PreparedPart) (w : WriterValue) → w.txn ≡ t → (view_of t a).prepared ≡ Some p → (as_prepared p).writer ≡ w
    → find (by_writer w) (parts_held top me a) ≡ Some (as_prepared p)
prepared_first top me a t p w own e is =
    find_first (by_writer w) (map as_prepared a.prepared) (map (as_ballot top me) a.ballots) (map as_kept a.kept_parts) (map (as_kept_ballot top me) a.kept_ballots) (as_prepared p)
    (part_found (λ p. p.txn) as_prepared a.prepared p w (λ z. refl) (ap (λ (u : TxnValue). find (λ z. is_same_txn z.txn u) a.prepared) own ∙ e) is)

no_prepared : (a : ShardState) (t : TxnValue) (w : WriterValue) → w.txn ≡ t → (view_of t a).prepared ≡ None → find (by_writer w) (map as_prepared a.prepared) ≡ None
no_prepared a t w own e = no_part_found (λ p. p.txn) as_prepared a.prepared w (λ z. refl) (ap (λ (u : TxnValue). find (λ z. is_same_txn z.txn u) a.prepared) own ∙ e)

no_ballot : (top : TopologyValue) (me : ℕ) (a : ShardState) (t : TxnValue) (w : WriterValue) → w.txn ≡ t → (view_of t a).ballot ≡ None → find (by_writer w) (map (as_ballot top me) a.ballots) ≡ None
no_ballot top me a t w own e = no_part_found (λ p. p.txn) (as_ballot top me) a.ballots w (λ z. refl) (ap (λ (u : TxnValue). find (λ z. is_same_txn z.txn u) a.ballots) own ∙ e)

kept_third : (top : TopologyValue) (me : ℕ) (a : ShardState) (t : TxnValue) (k : KeptPart) (w : WriterValue) → w.txn ≡ t → (view_of t a).prepared ≡ None → (view_of t a).ballot ≡ None
    → (view_of t a).kept_part ≡ Some k → (as_kept k).writer ≡ w → find (by_writer w) (parts_held top me a) ≡ Some (as_kept k)
kept_third top me a t k w own e f g is =
    find_third (by_writer w) (map as_prepared a.prepared) (map (as_ballot top me) a.ballots) (map as_kept a.kept_parts) (map (as_kept_ballot top me) a.kept_ballots) (as_kept k)
    (no_prepared a t w own e) (no_ballot top me a t w own f)
    (part_found (λ p. p.txn) as_kept a.kept_parts k w (λ z. refl) (ap (λ (u : TxnValue). find (λ z. is_same_txn z.txn u) a.kept_parts) own ∙ g) is)

kept_ballot_fourth : (top : TopologyValue) (me : ℕ) (a : ShardState) (t : TxnValue) (r : KeptBallot) (w : WriterValue) → w.txn ≡ t → (view_of t a).prepared ≡ None → (view_of t a).ballot ≡ None
    → (view_of t a).kept_part ≡ None → (view_of t a).kept_ballot ≡ Some r → (as_kept_ballot top me r).writer ≡ w → find (by_writer w) (parts_held top me a) ≡ Some (as_kept_ballot top me r)
kept_ballot_fourth top me a t r w own e f g i is =
    find_fourth (by_writer w) (map as_prepared a.prepared) (map (as_ballot top me) a.ballots) (map as_kept a.kept_parts) (map (as_kept_ballot top me) a.kept_ballots)
    (no_prepared a t w own e) (no_ballot top me a t w own f)
    (no_part_found (λ p. p.txn) as_kept a.kept_parts w (λ z. refl) (ap (λ (u : TxnValue). find (λ z. is_same_txn z.txn u) a.kept_parts) own ∙ g))
    ∙ part_found (λ p. p.txn) (as_kept_ballot top me) a.kept_ballots r w (λ z. refl) (ap (λ (u : TxnValue). find (λ z. is_same_txn z.txn u) a.kept_ballots) own ∙ i) is

own_shard : (p : WritePart) (s : ℕ) → p.writer.shard ≡ s → part_of p.writer.txn s p.batch ≡ p
own_shard p s e = ap (λ n. part_of p.writer.txn n p.batch) (sym e)

-- what is under way of a transaction is the first that the shard holds of it
pub held_first : (top : TopologyValue) (me : ℕ) (a : ShardState) (t : TxnValue) (o : Open) → Stands top me t (view_of t a) (Some (Holds o))
    → find (by_writer (ledger.part_of o).writer) (parts_held top me a) ≡ Some (ledger.part_of o)
held_first top me a t (in_open.Kept k) h =
    kept_third top me a t (kept_part_of k) k.part.writer (own_txn_of top me a t (in_open.Kept k) h) h.prepared h.unled.ballot h.kept_part refl
held_first top me a t (in_open.Part p) h =
    prepared_first top me a t p (as_prepared p).writer (own_txn_of top me a t (in_open.Part p) h) h.prepared refl
held_first top me a t (in_open.Led l) h =
    prepared_first top me a t (own_part l) l.ballot.own.part.writer (own_txn_of top me a t (in_open.Led l) h) h.prepared refl
held_first top me a t (in_open.Remote r) h =
    let same = own_shard r.ballot.part (shard_of top me) h.0.own in
    kept_ballot_fourth top me a t (kept_ballot_of r) r.ballot.part.writer (own_txn_of top me a t (in_open.Remote r) h) h.0.prepared h.0.ballot h.0.kept_part h.0.kept_ballot (ap (λ (p : WritePart). p.writer) same)
    ∙ ap Some same
