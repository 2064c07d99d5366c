-- A completed read shows one table: that of its home's history, at its effective time.
use Rattle.std.proofs.Common.{◌≡◌, ◌∙◌, ℕ, ◌<◌, sym, ap, subst, List, map}
use Rattle.std.specs.Prelude.{Contains}
use Rattle.column_family.specs.History.{History, up_to}
use Rattle.slice.specs.declared.column.Column.{Column}
use Rattle.slice.specs.declared.read.Read.{Read}
use Rattle.slice.specs.declared.read.AnsweredRow.{AnsweredRow}
use Rattle.slice.specs.Slice.{slice_of}
use Rattle.slice.specs.Live.{live_columns}
use Rattle.slice.specs.Parts.{HaveSameOf}
use Rattle.slice.proofs.RowAlike.{live_alike}
use Rattle.store.specs.Part.{history_of as parts_of, applied_by}
use Rattle.slice.specs.Rows.{row_of}
use Rattle.table.specs.Meaning.{shown_row, meaning}
use Rattle.planner.specs.Partition.{shard_of as shard_of_key}
use Rattle.planner.specs.Join.{AreRight}
use Rattle.planner.proofs.Members.{contains_map, map_contains}
use Rattle.planner.proofs.Right.{right_joined}
use Rattle.messages.specs.declared.rows_at.RowAt.{RowAt}
use Rattle.messages.specs.declared.op.Op.{Op}
use Rattle.messages.specs.declared.op.Op.TheVariants as op
use Rattle.messages.specs.declared.outcome.Outcome.{Outcome}
use Rattle.messages.specs.declared.outcome.Outcome.TheVariants as outcome
use Rattle.messages.specs.Topology.{TopologyValue, shard_node}
use Rattle.world.specs.Run.{Run, Completed}
use Rattle.world.specs.Histories.{IsHistory}
use Rattle.messages.proofs.Numbering.{dc_of_shard, number_of_shard}
use Rattle.world.proofs.envelopes.Near.{key_below}
use Rattle.world.proofs.safety.Facts.{RowAtSound}
use Rattle.world.proofs.safety.Invariant.{AnsweredFrom, AnsweredSound, EndSound, Inv}
use Rattle.world.proofs.tables.ShownOnRow.{same_of_row}

-- the shard of a key in a data centre
abbrev pub node_of : TopologyValue → ℕ → List ℕ → ℕ
node_of top dc key = shard_node top dc (shard_of_key top.shards key)

-- what a completed read was answered from
answered_so : (o : Op) (end : Outcome) (top : TopologyValue) (w : Run) (dc : ℕ) (read : Read) (time : ℕ) (answer : List AnsweredRow) → (t : _)
    → o ≡ op.Read read → end ≡ outcome.Read time answer → EndSound o end top w dc t → AnsweredSound top w dc t read time answer
answered_so o end top w dc read time answer t is came sound =
    subst (λ e. EndSound (op.Read read) e top w dc t) came (subst (λ p. EndSound p end top w dc t) is sound)

pub answered : (top : TopologyValue) (w : Run) → Inv top w → (c : Completed) (read : Read) (time : ℕ) (answer : List AnsweredRow)
    → Contains w.transcript c → c.op ≡ op.Read read → c.outcome ≡ outcome.Read time answer → AnsweredSound top w c.home (record { session = c.node; number = c.number }) read time answer
answered top w inv c read time answer has is came =
    answered_so c.op c.outcome top w c.home read time answer (record { session = c.node; number = c.number }) is came
    (inv.transcript c has).came

-- what is right of a row, on the shard of its key, has the same of the row as the history of the data centre
pub right_alike : (top : TopologyValue) (w : Run) → Inv top w → 0 < top.shards
    → (dc time : ℕ) (read : Read) (r : RowAt) (sound : RowAtSound top w (node_of top dc r.key) time read r)
    → (h : History) → IsHistory top w dc h → HaveSameOf (row_of read r.key) (parts_of (applied_by time sound.seen)) (up_to time h)
right_alike top w inv some dc time read r sound h is =
    let below = key_below top.shards r.key some in
    same_of_row top w inv some (node_of top dc r.key) (row_of read r.key) (sym (number_of_shard top dc (shard_of_key top.shards r.key) below)) time sound.seen sound.complete h
    (subst (λ d. IsHistory top w d h) (sym (dc_of_shard top dc (shard_of_key top.shards r.key) below)) is)

pub right_columns : (top : TopologyValue) (w : Run) → Inv top w → 0 < top.shards → (dc time : ℕ) (read : Read) (r : RowAt)
    → RowAtSound top w (node_of top dc r.key) time read r
    → (h : History) → IsHistory top w dc h → r.columns ≡ slice_of read.predicate (live_columns (up_to time h) (row_of read r.key))
right_columns top w inv some dc time read r sound h is =
    sound.shown.columns
    ∙ ap (slice_of read.predicate) (live_alike (row_of read r.key) (parts_of (applied_by time sound.seen)) (up_to time h) (right_alike top w inv some dc time read r sound h is))

-- the row of an answer
abbrev pub answered_row : RowAt → AnsweredRow
answered_row r = record { key = r.key; columns = r.columns }

rows_right : (top : TopologyValue) (w : Run) → Inv top w → 0 < top.shards → (dc time : ℕ) (read : Read) (rows : List RowAt)
    → AnsweredFrom top w dc read time rows
    → (h : History) → IsHistory top w dc h → AreRight read (λ k. h) time (map answered_row rows)
rows_right top w inv some dc time read rows from h is =
    record {
      given = λ k asked.
          let m = map_contains (λ (r : RowAt). r.key) rows k (from.given k asked) in
          subst (λ z. Contains (map (λ (r : AnsweredRow). r.key) (map answered_row rows)) z) m.2
          (contains_map (λ (r : AnsweredRow). r.key) (map answered_row rows) (answered_row m.0) (contains_map answered_row rows m.0 m.1));
      right = λ a has asked.
          let m = map_contains answered_row rows a has in
          let r = m.0 in
          let sound = from.right r m.1 in
          subst (λ (z : AnsweredRow). z ≡ shown_row read (up_to time h) z.key) m.2
          (ap (λ (cs : List Column). let z : AnsweredRow = record { key = r.key; columns = cs } in z) (right_columns top w inv some dc time read r sound h is));
    }

pub one_table : (top : TopologyValue) (w : Run) → Inv top w → 0 < top.shards → (c : Completed) (read : Read) (time : ℕ) (answer : List AnsweredRow)
    → Contains w.transcript c → c.op ≡ op.Read read → c.outcome ≡ outcome.Read time answer → (h : History) → IsHistory top w c.home h
    → answer ≡ meaning read h time
one_table top w inv some c read time answer has is came h history =
    let sound = answered top w inv c read time answer has is came in
    right_joined read (map answered_row sound.rows) answer sound.answer (λ k. h) time
    (rows_right top w inv some c.home time read sound.rows sound.from h history)
