-- The steps of reads, as what is kept takes them.
use Rattle.std.proofs.Common.{◌≡◌, ◌∙◌, sym, ap, subst, refl, ℕ, Bool, true, false, if◌then◌else◌, List, [], ◌∷◌, ◌++◌, map, length, arith}
use Rattle.std.specs.Prelude.{Result, Ok, Err, IfOk, OnOk, nat_lt, ◌==◌}
use Rattle.std.proofs.lemmas.Bool.Decides.{nat_tests}
use Rattle.logical_time.specs.declared.fault.Fault.{Fault}
use Rattle.logical_time.specs.Stamps.{TxnValue, WriterValue}
use Rattle.column_family.specs.declared.batch.Row.{Row}
use Rattle.slice.specs.declared.read.Read.{Read}
use Rattle.store.specs.Stored as store
use Rattle.store.specs.Keeps.{Keeps, AreApart}
use Rattle.pending.specs.Marks.{MarkList, time_at}
use Rattle.messages.specs.declared.rows_at.AtTime.{AtTime}
use Rattle.messages.specs.declared.rows_at.AtTime.TheVariants.{Collected, Rows}
use Rattle.messages.specs.declared.rows_now.RowNow.{RowNow}
use Rattle.messages.specs.declared.body.Body.TheVariants.{PartNow, PartAt}
use Rattle.messages.specs.declared.envelope.Envelope.{Envelope}
use Rattle.messages.specs.Topology.{TopologyValue}
use Rattle.messages.specs.Words.{envelope}
use Rattle.messages.specs.Known.{AreOnce}
use Rattle.messages.specs.Shard.{ShardState, ShardStep, WaitingRead}
use Rattle.messages.specs.Rows.{row_now, row_at}
use Rattle.messages.specs.Reads.{answer, asked_below, at_time, check_of, is_waiting, on_read, on_read_at, part_at, read_at_if, read_at_of, waiting_read}
use Rattle.messages.specs.Commits.{on_not_by}
use Rattle.write_txn.specs.Ledger.{state_of}
use Rattle.write_txn.specs.Stands.{mark_of}
use Rattle.commit_check.specs.declared.cause.Cause.TheVariants.{NotBy}
use Rattle.commit_check.specs.Marked.{AreMarksOf}
use Rattle.commit_check.specs.Waiting.{freed, is_among, reply, still}
use Rattle.shard.specs.declared.kept.ShardKept.{ShardKept}
use Rattle.shard.specs.Kept.{Represents, IsStep, Does}
use Rattle.shard.proofs.in_code.MarksOn.{marks_are}
use Rattle.shard.proofs.in_code.Standing.{moves_on}

-- an answer by the store is that of each state that the store keeps
pub each_answer : (s : store.StoreValue) (time : ℕ) (read : Read) (r : Result AtTime Fault)
    → ((a : ShardState) → Keeps s a.applied → a.low ≡ s.low → IfOk r (λ x. x ≡ at_time a time read))
    → IfOk r (λ x. (a : ShardState) → Keeps s a.applied → a.low ≡ s.low → x ≡ at_time a time read)
each_answer s time read (Ok x) h = h
each_answer s time read (Err e) h = tt

-- rows by the newest versions are answered
pub reads : (top : TopologyValue) (me n : ℕ) (k : ShardKept) (a : ShardState) (from number : ℕ) (asked : Read) (ms : MarkList) (rows : List RowNow) (before after : List Envelope)
    → Represents top me k a → ((r : Row) (t : TxnValue) → time_at ms r t ≡ mark_of (state_of k.transactions.ledger t) r)
    → ((b : ShardState) → Keeps k.transactions.store b.applied → AreMarksOf ms b → AreOnce (λ p. p.txn) b.prepared → rows ≡ map (row_now n b asked) asked.keys)
    → after ≡ before ++ envelope me from n (PartNow number rows) ∷ []
    → IsStep top me (on_read me n a from number asked) (record k { clock = n }) before after
reads top me n k a from number asked ms rows before after r marks found sent = record {
  state = moves_on top me n k a r;
  sends = sent ∙ ap (λ (rs : List RowNow). before ++ envelope me from n (PartNow number rs) ∷ []) (found a r.store (marks_are top me k.transactions.ledger a ms marks r.stands r.once) r.once);
}

-- the clock moves, and these reads wait
pub waits_so : (top : TopologyValue) (me n : ℕ) (k : ShardKept) (a : ShardState) (ws vs : List WaitingRead) → Represents top me k a → ws ≡ vs
    → Represents top me (record k { clock = n; waiting = vs }) (record a { clock = n; waiting = ws })
waits_so top me n k a ws vs r e = record {
  place = r.place;
  clock = refl;
  low = r.low;
  store = r.store;
  stands = r.stands;
  early = r.early;
  notices = r.notices;
  early_forgotten = r.early_forgotten;
  notices_forgotten = r.notices_forgotten;
  askers = r.askers;
  waiting = e;
  once = r.once;
  kept_once = r.kept_once;
}

-- a transaction that isn't committed by a time lets reads go
pub excludes : (top : TopologyValue) (me n : ℕ) (k : ShardKept) (a : ShardState) (t : TxnValue) (time : ℕ) (waiting : List WaitingRead) (answers before after : List Envelope)
    → Represents top me k a → answers ≡ map (reply me n (at_time a)) (freed t (NotBy time) a.waiting) → waiting ≡ still t (NotBy time) k.waiting → after ≡ before ++ answers
    → IsStep top me (on_not_by me n a t time) (record k { clock = n; waiting = waiting }) before after
excludes top me n k a t time waiting answers before after r freed_so still_so sent = record {
  state = waits_so top me n k a (still t (NotBy time) a.waiting) waiting r (ap (still t (NotBy time)) r.waiting ∙ sym still_so);
  sends = sent ∙ ap (λ es. before ++ es) freed_so;
}

-- ## A read at a time

-- a call that does a step does each step that is the same
does_as : (f g : TopologyValue → ℕ → ShardState → ShardStep) (k l : ShardKept) (before after : List Envelope) → ((top : TopologyValue) (me : ℕ) (a : ShardState) → Represents top me k a → g top me a ≡ f top me a)
    → Does f k l before after → Does g k l before after
does_as f g k l before after same does top me a r apart =
    subst (λ (s : ShardStep). IsStep top me s l before after) (sym (same top me a r))
    (does top me a r (subst (λ (s : ShardStep). AreApart s.state.applied) (same top me a r) apart))

does_if : {T E : Type 0} (result : Result T E) (f g : TopologyValue → ℕ → ShardState → ShardStep) (k l : ShardKept) (before after : List Envelope)
    → ((top : TopologyValue) (me : ℕ) (a : ShardState) → Represents top me k a → g top me a ≡ f top me a) → OnOk result (Does f k l before after) → OnOk result (Does g k l before after)
does_if (Ok x) f g k l before after same does = does_as f g k l before after same does
does_if (Err e) f g k l before after same does = tt

-- what a read at a time waits for
abbrev writers_for : ShardState → ℕ → Read → List WriterValue
writers_for a time asked = if nat_lt time a.low then [] else asked_below a time asked

abbrev pub answer_step : ℕ → ℕ → ℕ → ℕ → Read → TopologyValue → ℕ → ShardState → ShardStep
answer_step n from number time asked top me a = answer n a (part_at me n a (waiting_read from number time asked []))

abbrev pub wait_step : ℕ → ℕ → ℕ → ℕ → Read → List WriterValue → TopologyValue → ℕ → ShardState → ShardStep
wait_step n from number time asked ws top me a = record {
  state = record a { clock = n; waiting = a.waiting ++ waiting_read from number time asked ws ∷ [] };
  sends = map (check_of top me n time) ws;
}

unwaited : (top : TopologyValue) (me : ℕ) (k : ShardKept) (a : ShardState) (from number : ℕ) → Represents top me k a → is_among from number k.waiting ≡ false → is_waiting a from number ≡ false
unwaited top me k a from number r e = ap (is_among from number) r.waiting ∙ e

is_answered : (top : TopologyValue) (me n : ℕ) (a : ShardState) (from number time : ℕ) (asked : Read) (ws : List WriterValue) → ws ≡ writers_for a time asked → (length ws == 0) ≡ true
    → read_at_if false (nat_lt time a.low) top me n a from number time asked ≡ answer_step n from number time asked top me a
is_answered top me n a from number time asked ws is nothing = go (nat_lt time a.low) refl ws is nothing
  where
    go : (b : Bool) → nat_lt time a.low ≡ b → (vs : List WriterValue) → vs ≡ (if b then [] else asked_below a time asked) → (length vs == 0) ≡ true
        → read_at_if false b top me n a from number time asked ≡ answer_step n from number time asked top me a
    go true low vs e none = ap (λ (b : Bool). answer n a (envelope me from n (PartAt number time (if b then Collected else Rows (map (row_at time a asked) asked.keys))))) (sym low)
    go false low [] e none = ap (λ vs. read_at_of vs top me n a from number time asked) (sym e)
    go false low (v ∷ vs) e none = absurd (grind (arith, nat_tests))

is_held : (top : TopologyValue) (me n : ℕ) (a : ShardState) (from number time : ℕ) (asked : Read) (ws : List WriterValue) → ws ≡ writers_for a time asked → (length ws == 0) ≡ false
    → read_at_if false (nat_lt time a.low) top me n a from number time asked ≡ wait_step n from number time asked ws top me a
is_held top me n a from number time asked ws is some = go (nat_lt time a.low) ws is some
  where
    go : (b : Bool) (vs : List WriterValue) → vs ≡ (if b then [] else asked_below a time asked) → (length vs == 0) ≡ false
        → read_at_if false b top me n a from number time asked ≡ wait_step n from number time asked vs top me a
    go b [] e some = absurd (cc)
    go true (v ∷ vs) e some = absurd (cc)
    go false (v ∷ vs) e some = ap (λ vs. read_at_of vs top me n a from number time asked) (sym e)

-- a read that waits for nothing is answered
pub answers_at : (n from number time : ℕ) (asked : Read) (ws : List WriterValue) (k l : ShardKept) (before after : List Envelope) → is_among from number k.waiting ≡ false
    → ((top : TopologyValue) (me : ℕ) (a : ShardState) → Represents top me k a → ws ≡ writers_for a time asked) → (length ws == 0) ≡ true
    → Does (answer_step n from number time asked) k l before after → Does (λ top me a. on_read_at top me n a from number time asked) k l before after
answers_at n from number time asked ws k l before after unasked is nothing =
    does_as (answer_step n from number time asked) (λ top me a. on_read_at top me n a from number time asked) k l before after
    (λ top me a r. ap (λ (b : Bool). read_at_if b (nat_lt time a.low) top me n a from number time asked) (unwaited top me k a from number r unasked)
    ∙ is_answered top me n a from number time asked ws (is top me a r) nothing)

-- a read that waits for transactions is kept, and they are asked for
pub waits_at : {T E : Type 0} (result : Result T E) (n from number time : ℕ) (asked : Read) (ws : List WriterValue) (k l : ShardKept) (before after : List Envelope) → is_among from number k.waiting ≡ false
    → ((top : TopologyValue) (me : ℕ) (a : ShardState) → Represents top me k a → ws ≡ writers_for a time asked) → (length ws == 0) ≡ false
    → OnOk result (Does (wait_step n from number time asked ws) k l before after) → OnOk result (Does (λ top me a. on_read_at top me n a from number time asked) k l before after)
waits_at result n from number time asked ws k l before after unasked is some =
    does_if result (wait_step n from number time asked ws) (λ top me a. on_read_at top me n a from number time asked) k l before after
    (λ top me a r. ap (λ (b : Bool). read_at_if b (nat_lt time a.low) top me n a from number time asked) (unwaited top me k a from number r unasked)
    ∙ is_held top me n a from number time asked ws (is top me a r) some)
