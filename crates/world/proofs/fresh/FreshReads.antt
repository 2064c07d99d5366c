-- An answered read is fresh: it shows, at each asked location, nothing older than what an asked shard had applied before it
-- sent the answer that the session kept.
use Rattle.std.proofs.Common.{◌≡◌, ◌∙◌, ℕ, ◌<◌, ◌≤◌, ap, sym, refl, subst, true, List, ◌∷◌, ◌++◌, map, eqb-true}
use Rattle.std.specs.Prelude.{◌==◌, not, Contains}
use Rattle.std.specs.List.{list_any, range_with_len}
use Rattle.std.proofs.lemmas.Bool.{and_parts}
use Rattle.column_family.specs.declared.batch.Row.{Row}
use Rattle.column_family.specs.declared.batch.Change.{Change}
use Rattle.column_family.specs.Location.{is_same_row, touches}
use Rattle.column_family.specs.Places.{normal_of}
use Rattle.column_family.proofs.Kept.{one_row}
use Rattle.slice.specs.declared.read.Read.{Read}
use Rattle.slice.specs.declared.read.AnsweredRow.{AnsweredRow}
use Rattle.slice.specs.Slice.{is_asked}
use Rattle.slice.proofs.LiveTable.{at}
use Rattle.slice.proofs.RowTests.{touched_row}
use Rattle.store.specs.declared.part.Applied.{Applied}
use Rattle.store.specs.Part.{history_of as parts_of, evt_of}
use Rattle.slice.specs.Rows.{row_of}
use Rattle.planner.specs.Partition.{shard_of as shard_of_key}
use Rattle.planner.specs.Plan.{is_on, keys_for, shards_asked}
use Rattle.planner.proofs.Asked.{asked_key}
use Rattle.messages.specs.declared.rows_now.RowNow.{RowNow}
use Rattle.messages.specs.declared.op.Op.{Op}
use Rattle.messages.specs.declared.op.Op.TheVariants as op
use Rattle.messages.specs.declared.outcome.Outcome.{Outcome}
use Rattle.messages.specs.declared.outcome.Outcome.TheVariants as outcome
use Rattle.messages.specs.declared.body.Body.TheVariants.{PartNow}
use Rattle.messages.specs.declared.envelope.Envelope.{Envelope}
use Rattle.messages.specs.Topology.{TopologyValue, dc_of, shard_of}
use Rattle.messages.specs.Rows.{row_now}
use Rattle.messages.specs.Session.{SessionState, Open, FirstRound, HeardNow}
use Rattle.messages.specs.Submitting.{home_node, share_of}
use Rattle.messages.specs.Rounds.{asked_nodes, was_heard, is_missing}
use Rattle.world.specs.Run.{Run, RunEvent, Deliver, Submission, Completed, run}
use Rattle.world.specs.Collected.{WasSent}
use Rattle.world.specs.Fresh.{IsKept, WasApplied, IsNoOlder, IsFreshFor, IsFresh}
use Rattle.messages.proofs.Numbering.{dc_of_shard}
use Rattle.world.proofs.envelopes.Near.{listed_below}
use Rattle.world.specs.Promises.{Fits}
use Rattle.world.proofs.steps.EndCases.{end_cases}
use Rattle.world.proofs.lists.Members.{contains_map, mapped_from, filter_contains, any_found}
use Rattle.world.proofs.growing.Growth.{FirstAsked, AskedNow, Grows}
use Rattle.world.proofs.safety.Facts.{part_on}
use Rattle.world.proofs.safety.Invariant.{Says, IsOpen, OpenSound, FirstSound, Inv}
use Rattle.world.proofs.causal.Causal.{Causal}
use Rattle.world.proofs.worked.Replayed.{runs_replayed}
use Rattle.world.proofs.fresh.HeardFirst.{IsTimely, EndsTimely}
use Rattle.world.proofs.fresh.HeardRuns.{kept_heard}
use Rattle.world.proofs.safety.Sendings.{sent_then, sent_first}
use Rattle.world.proofs.fresh.NowSent.{is_now, IsNowSent, now_sent_at}
use Rattle.world.proofs.fresh.FreshShown.{covered, shown}
use Rattle.world.proofs.shards.RightAnswers.{parts_apart}

-- ## Rows and shards

-- the rows of a part lie on its shard
row_here : (top : TopologyValue) (node : ℕ) (batch part : List Change) (row : Row) (name : List ℕ) → part ≡ part_on top batch node
    → list_any (touches (at row name)) part ≡ true
    → shard_of_key top.shards row.key ≡ shard_of top node
row_here top node batch part row name is touched =
    let c = any_found (λ (z : Change). is_same_row row z.row) part (touched_row (at row name) part touched) in
    let on = filter_contains (λ (z : Change). is_on top.shards (shard_of top node) z.row.key) (normal_of batch) c.0 (subst (λ cs. Contains cs c.0) is c.1) in
    let same : row ≡ c.0.row = one_row row c.0.row c.2 in
    ap (λ (z : Row). shard_of_key top.shards z.key) same ∙ eqb-true (shard_of_key top.shards c.0.row.key) (shard_of top node) on.1

-- an asked shard is one of the session's home
home_of_asked : (top : TopologyValue) (a : SessionState) (read : Read) (heard : List HeardNow) (node : ℕ)
    → is_missing (asked_nodes top a read) heard node ≡ true
    → dc_of top node ≡ a.home
home_of_asked top a read heard node missing =
    let s =
    any_found (λ (z : ℕ). z == node) (asked_nodes top a read)
    (and_parts (list_any (λ (z : ℕ). z == node) (asked_nodes top a read)) (not (was_heard heard node)) missing).0 in
    let m = mapped_from (home_node top a) (shards_asked top.shards read.keys) s.0 s.1 in
    let listed = filter_contains (λ (z : ℕ). list_any (is_on top.shards z) read.keys) (range_with_len 0 top.shards) m.0 m.1 in
    ap (dc_of top) (sym (eqb-true s.0 node s.2) ∙ m.2) ∙ dc_of_shard top a.home m.0 (listed_below top.shards m.0 listed.0)

-- ## What was asked

-- the read that the session kept the answer for is the one that was completed, at its home
pub record IsOf (top : TopologyValue) (w : Run) (c : Completed) (a : SessionState) (read : Read) : Type 0 where
  pub op : c.op ≡ op.Read read
  pub home : c.home ≡ a.home

pub open_of : (top : TopologyValue) (u w : Run) (c : Completed) (a : SessionState) (read : Read) → Inv top w → Grows top u w → Contains w.transcript c
    → a.count ≡ c.number
    → IsOpen u c.node a.count a.home (op.Read read) → IsOf top w c a read
open_of top u w c a read inv g m count is =
    let was = (inv.transcript c m).opened in
    let one : is.submission ≡ was.submission =
    inv.submitted.one is.submission was.submission (g.submitted is.submission is.among) was.among
    (λ i. record { session = (is.session ∙ sym was.session) i; number = (is.number ∙ count ∙ sym was.number) i }) in
    record {
      op = sym was.op ∙ ap (λ (z : Submission). z.op) (sym one) ∙ is.op;
      home = sym was.home ∙ ap (λ (z : Submission). z.home) (sym one) ∙ is.home;
    }

-- what a shard was asked is its share of the read
asked_share : (top : TopologyValue) (a : SessionState) (read asked : Read) (hs : List HeardNow) (number node : ℕ) → AskedNow top a number node asked
    → a.count ≡ number
    → a.current ≡ FirstRound read hs → asked ≡ share_of top read (shard_of top node)
asked_share top a read asked hs number node is count current = subst (λ (o : Open). FirstAsked top o node asked) current (is.round (sym count))

-- ## Fresh reads

module _ (top : TopologyValue) (some : 0 < top.shards) (every : (events : List RunEvent) → Inv top (run top events))
    (grows : (before after : List RunEvent) → Grows top (run top before) (run top (before ++ after)))
    (causal : (events : List RunEvent) → Causal top (run top events)) where
  -- one answer of a shard that was kept, and one part that it had applied before
  module _ (w : Run) (replayed : run top w.events ≡ w) (inv : Inv top w) (c : Completed) (there : Contains w.transcript c)
      (k : ℕ) (e : Envelope) (kept : IsKept top w c.node c.number k e) (x : Applied) (was : WasApplied top w e.from k x) where
    -- the run when the answer was sent, and the run when it was kept
    abbrev then : Run
    then = run top was.before

    abbrev later : Run
    later = run top kept.before

    to_end : (before after : List RunEvent) → w.events ≡ before ++ after → Grows top (run top before) w
    to_end before after split = subst (λ z. Grows top (run top before) z) (ap (run top) (sym split) ∙ replayed) (grows before after)

    -- the event at which the answer was sent
    sending : WasSent top w k was.before was.event
    sending = record { after = was.after; sending = was.sending; not_sent = was.not_sent; by_then = was.by_then }

    answer : IsNowSent then e
    answer = now_sent_at top then was.event k e was.not_sent (sent_then top w replayed k e kept.message was.before was.event sending) (ap is_now kept.body)

    grown : Grows top then later
    grown =
        let first = sent_first top w replayed k e kept.message was.before was.event sending kept.before kept.after kept.delivery in
        subst (λ (es : List RunEvent). Grows top then (run top es)) (sym first.1) (grows was.before first.0)

    -- ---- what was asked, and what was answered
    from : e.from ≡ answer.asking.to
    from = ap (λ (z : Envelope). z.from) answer.answer

    told : PartNow c.number kept.rows ≡ PartNow answer.number (map (row_now answer.clock (then.shards answer.asking.to) answer.read) answer.read.keys)
    told = sym kept.body ∙ ap (λ (z : Envelope). z.body) answer.answer

    number : c.number ≡ answer.number
    number = let both = told in cc

    rows : kept.rows ≡ map (row_now answer.clock (then.shards answer.asking.to) answer.read) answer.read.keys
    rows = let both = told in cc

    asked_then : AskedNow top (then.sessions c.node) c.number e.from answer.read
    asked_then =
        let to : answer.asking.from ≡ c.node = sym (ap (λ (z : Envelope). z.to) answer.answer) ∙ kept.address in
        let says : Says top then answer.asking.from answer.asking.to answer.asking.time answer.asking.body =
        (every was.before).sent answer.asking answer.among in
        let asked : AskedNow top (then.sessions answer.asking.from) answer.number answer.asking.to answer.read =
        subst (λ b. Says top then answer.asking.from answer.asking.to answer.asking.time b) answer.asked says in
        subst (λ z. AskedNow top (then.sessions z) c.number e.from answer.read) to
        (subst (λ m. AskedNow top (then.sessions answer.asking.from) m e.from answer.read) (sym number)
        (subst (λ n. AskedNow top (then.sessions answer.asking.from) answer.number n answer.read) (sym from) asked))

    share : answer.read ≡ share_of top kept.read (shard_of top e.from)
    share =
        asked_share top (later.sessions c.node) kept.read answer.read kept.heard c.number e.from
        ((grown.sessions c.node).asked_now c.number e.from answer.read asked_then) kept.count kept.first_round

    own : IsOf top w c (later.sessions c.node) kept.read
    own =
        let first : FirstSound top later c.node (later.sessions c.node) kept.read kept.heard =
        subst (λ o. OpenSound top later c.node (later.sessions c.node) o) kept.first_round ((every kept.before).sessions c.node).current in
        open_of top later w c (later.sessions c.node) kept.read inv
        (to_end kept.before (Deliver k ∷ kept.after) kept.delivery) there kept.count first.opened

    here : dc_of top e.from ≡ c.home
    here = home_of_asked top (later.sessions c.node) kept.read kept.heard e.from kept.missing ∙ sym own.home

    -- the row was answered, with a time that isn't above the read's
    row_timely : (key : List ℕ) → Contains kept.read.keys key → shard_of_key top.shards key ≡ shard_of top e.from
        → (time : ℕ) (shown : List AnsweredRow) → c.outcome ≡ outcome.Read time shown
        → evt_of (parts_of (then.shards e.from).applied) (row_of kept.read key) kept.read.predicate ≤ time
    row_timely key has on time shown came =
        let given : Contains (keys_for top.shards kept.read.keys (shard_of top e.from)) key =
        subst (λ s. Contains (keys_for top.shards kept.read.keys s) key) on (asked_key top.shards kept.read.keys key has) in
        let asked : Contains answer.read.keys key =
        subst (λ (r : Read). Contains r.keys key) (sym share) given in
        let r = row_now answer.clock (then.shards answer.asking.to) answer.read key in
        let among : Contains kept.rows r =
        subst (λ (l : List RowNow). Contains l r) (sym rows)
        (contains_map (row_now answer.clock (then.shards answer.asking.to) answer.read) answer.read.keys key asked) in
        let heard = kept_heard top w replayed c.node c.number k e kept ((every kept.before).sessions e.to).taken ((causal kept.before).closed) in
        let ends : EndsTimely c.outcome (record { from = e.from; rows = kept.rows }) = heard.ended c there refl refl in
        let timely : IsTimely (record { from = e.from; rows = kept.rows }) time =
        subst (λ o. EndsTimely o (record { from = e.from; rows = kept.rows })) came ends in
        subst (λ n. evt_of (parts_of (then.shards n).applied) (row_of kept.read key) kept.read.predicate ≤ time) (sym from)
        (subst (λ (z : Read). evt_of (parts_of (then.shards answer.asking.to).applied) (row_of z key) z.predicate ≤ time) share (timely r among))

    -- what the table shows
    pub shows : (read : Read) (time : ℕ) (answered : List AnsweredRow) → c.op ≡ op.Read read → c.outcome ≡ outcome.Read time answered
        → (key name : List ℕ) → Contains read.keys key → is_asked read.predicate name ≡ true
        → list_any (touches (at (row_of read key) name)) x.part.batch ≡ true
        → IsNoOlder top w c.home time (at (row_of read key) name) x
    shows read time answered is came key name has asked touched =
        let both : op.Read kept.read ≡ op.Read read = sym own.op ∙ is in
        let same : kept.read ≡ read = cc in
        let sound = every was.before in
        let had : Contains (then.shards e.from).applied x = was.applied in
        let part = (sound.shards e.from).applied x had in
        let on = row_here top e.from part.batch x.part.batch (row_of read key) name part.rows touched in
        let evt : evt_of (parts_of (then.shards e.from).applied) (row_of read key) read.predicate ≤ time =
        subst (λ (z : Read). evt_of (parts_of (then.shards e.from).applied) (row_of z key) z.predicate ≤ time) same
        (row_timely key (subst (λ (z : Read). Contains z.keys key) (sym same) has) on time answered came) in
        let cover =
        covered (then.shards e.from).applied (row_of read key) read.predicate name time x (parts_apart top then sound e.from) evt asked had touched in
        let whole = to_end was.before (was.event ∷ was.after) was.sending in
        subst (λ dc. IsNoOlder top w dc time (at (row_of read key) name) x) here
        (shown top w inv some e.from (row_of read key) name on time x
        (record {
          part = cover.part;
          among = (whole.shards e.from).applied cover.part cover.among;
          commit = cover.commit;
          mutation = cover.mutation;
          last = cover.last;
          newer = cover.newer;
        }))

  fresh_for : (w : Run) → run top w.events ≡ w → Inv top w → (c : Completed) → Contains w.transcript c → (o : Op) (end : Outcome) → Fits o end → c.op ≡ o
      → c.outcome ≡ end → IsFreshFor o end top w c
  fresh_for w replayed inv c m o end =
      end_cases (λ o end. c.op ≡ o → c.outcome ≡ end → IsFreshFor o end top w c)
      (record {
        wrote = λ batch commit stamp is came. tt;
        answered = λ read time answered is came k e x key name kept was has asked touched.
            shows w replayed inv c m k e kept x was read time answered is came key name has asked touched;
        given_up = λ read is came. tt;
        moved = λ dc floor is came. tt;
      }) o end

  -- whatever a run completed is fresh
  pub completed_fresh : (events : List RunEvent) (c : Completed) → Contains (run top events).transcript c → IsFresh top (run top events) c
  completed_fresh events c has =
      fresh_for (run top events) (runs_replayed top events) (every events) c has c.op c.outcome
      ((every events).transcript c has).fits refl refl
