-- A read is given up only where a shard that it asked had a horizon above its effective time.
use Rattle.std.proofs.Common.{◌≡◌, ◌∙◌, ℕ, ◌<◌, ◌≤◌, ap, sym, refl, subst, true, not, List, [], ◌∷◌, length, Some, slice_get, eqb-true}
use Rattle.std.specs.Prelude.{◌==◌, Contains}
use Rattle.std.specs.List.{list_any}
use Rattle.std.proofs.lemmas.Bool.{and_parts}
use Rattle.std.proofs.lemmas.Option.{slice_get_within}
use Rattle.slice.specs.declared.read.Read.{Read}
use Rattle.planner.specs.Plan.{shards_asked}
use Rattle.messages.specs.declared.rows_at.AtTime.TheVariants as at
use Rattle.messages.specs.declared.body.Body.TheVariants as body
use Rattle.messages.specs.declared.envelope.Envelope.{Envelope}
use Rattle.messages.specs.Topology.{TopologyValue, shard_node}
use Rattle.messages.specs.Shard.{ShardState}
use Rattle.messages.specs.Session.{SessionState, HeardNow, HeardAt}
use Rattle.messages.specs.Submitting.{home_node}
use Rattle.messages.specs.Rounds.{asked_nodes, is_late, late_nodes, was_heard_at, is_missing_at}
use Rattle.world.specs.Run.{Run, RunEvent, Deliver, Completed, step, continued, run}
use Rattle.world.specs.Met.{horizon}
use Rattle.world.specs.Collected.{IsGivenUp, CollectedIsBelowHorizon}
use Rattle.world.proofs.lists.Members.{none_in_empty, mapped_from, filter_contains, contains_get, any_found}
use Rattle.world.proofs.growing.Growth.{SecondAsked, AskedAt, Grows}
use Rattle.world.proofs.safety.Invariant.{OpenSound, SecondSound, Inv, Hears, TellsCollected}
use Rattle.world.proofs.steps.EventCases.{event_cases}
use Rattle.world.proofs.growing.Prefixes.{get_added, number_later, splits}
use Rattle.world.proofs.worked.Replayed.{runs_replayed}
use Rattle.world.proofs.safety.Runs.{every_run, step_kept}
use Rattle.world.proofs.promised.Laws.{prefix_grows}
use Rattle.world.proofs.fresh.FreshReads.{IsOf, open_of}
use Rattle.world.proofs.fresh.Horizons.{horizons_are_of_collections}
use Rattle.world.proofs.safety.Sendings.{was_sent, sent_then}
use Rattle.world.proofs.safety.Completions.{EndsBy, IsNotMoved, SaidCollected, CameAt, came_at}
use Rattle.world.proofs.shards.RightAnswers.{hears}
use Rattle.world.proofs.steps.OwnSends.{handled_low}
use Rattle.world.proofs.fresh.HeardRuns.{changed_actor}

-- an event that sends something moves no horizon
low_stays : (top : TopologyValue) (w : Run) (x : RunEvent) (k : ℕ) (e : Envelope) (node : ℕ) → length w.sent ≤ k → slice_get (step top w x).sent k ≡ Some e
    → ((step top w x).shards node).low ≡ (w.shards node).low
low_stays top w x k e node le sent =
    event_cases top w x (λ v. slice_get v.sent k ≡ Some e → (v.shards node).low ≡ (w.shards node).low)
    (record {
      nothing = λ g. refl;
      handled = λ j f n q there to g.
          changed_actor (λ (a : ShardState). a.low ≡ (w.shards node).low) w.shards f.to _ node
          (λ same. handled_low top f.to n (w.shards f.to) f.from f.body ∙ ap (λ z. (w.shards z).low) (sym same)) (λ other. refl);
      heard = λ j f n q there other to g. refl;
      begun = λ m o n q to g. refl;
      collected = λ m t n q g. absurd (none_in_empty e (get_added w.sent [] k e le g));
    })
    sent

-- ## What the session heard

-- an awaited shard of a second round is one of those that the read asked
awaited : (top : TopologyValue) (a : SessionState) (read : Read) (time : ℕ) (first : List HeardNow) (heard : List HeardAt) (node : ℕ)
    → is_missing_at (asked_nodes top a read) time first heard node ≡ true
    → (shard : ℕ) × Contains (shards_asked top.shards read.keys) shard × (node ≡ shard_node top a.home shard)
awaited top a read time first heard node missing =
    let s =
    any_found (λ (z : ℕ). z == node) (late_nodes (asked_nodes top a read) time first)
    (and_parts (list_any (λ (z : ℕ). z == node) (late_nodes (asked_nodes top a read) time first)) (not (was_heard_at heard node)) missing).0 in
    let m = mapped_from (home_node top a) (shards_asked top.shards read.keys) s.0 (filter_contains (is_late time first) (asked_nodes top a read) s.0 s.1).0 in
    (m.0, m.1, sym (eqb-true s.0 node s.2) ∙ m.2)

module _ (top : TopologyValue) (some : 0 < top.shards)
    (w : Run) (replayed : run top w.events ≡ w) (inv : Inv top w) (c : Completed) (there : Contains w.transcript c) (came : CameAt top w c)
    (gave : SaidCollected top ((run top came.before).sessions c.node) came.brings.message.from came.brings.message.body) where
  -- the run when the session heard it
  abbrev later : Run
  later = run top came.before

  abbrev heard : Envelope
  heard = came.brings.message

  number : slice_get w.sent came.brings.k ≡ Some heard
  number =
      let whole : continued top later (Deliver came.brings.k ∷ came.after) ≡ w = splits top w replayed came.before (Deliver came.brings.k) came.after came.delivery in
      ap (λ (z : Run). slice_get z.sent came.brings.k) (sym whole) ∙ number_later top later (Deliver came.brings.k ∷ came.after) came.brings.k heard came.brings.number

  round : SecondSound top later c.node (later.sessions c.node) gave.read gave.time gave.first gave.heard
  round = subst (λ o. OpenSound top later c.node (later.sessions c.node) o) gave.answer.current ((every_run top came.before some).sessions c.node).current

  own : IsOf top w c (later.sessions c.node) gave.read
  own =
      open_of top later w c (later.sessions c.node) gave.read inv
      (subst (λ z. Grows top later z) (ap (run top) (sym came.delivery) ∙ replayed) (prefix_grows top came.before (Deliver came.brings.k ∷ came.after) some)) there
      came.brings.count round.opened

  -- the time that the shard named is the read's
  its_time : (asked : Read) → AskedAt (later.sessions c.node) c.number gave.answer.bound heard.from asked → gave.time ≡ gave.answer.bound
  its_time asked k = (subst (λ o. SecondAsked o gave.answer.bound heard.from asked) gave.answer.current (k.round (sym came.brings.count))).0

  given_up : IsGivenUp top w c
  given_up =
      let sending = was_sent top w replayed came.brings.k (slice_get_within w.sent came.brings.k heard number) in
      let before = sending.0 in
      let was = sending.2 in
      let earlier = run top before in
      let says : heard.body ≡ body.PartAt c.number gave.answer.bound at.Collected =
      gave.answer.body ∙ ap (λ m. body.PartAt m gave.answer.bound at.Collected) came.brings.count in
      let event = sending.1 in
      let sent = sent_then top w replayed came.brings.k heard number before event was in
      let gave_up : (v : Run) → Inv top v → Contains v.sent heard → TellsCollected v heard.from heard.to c.number gave.answer.bound =
      λ v good m. subst (λ b. Hears top v heard.from heard.to heard.time b) says (hears top v good heard m) in
      let first = gave_up (step top earlier event) (step_kept top earlier event some (every_run top before some)) (contains_get (step top earlier event).sent came.brings.k heard sent) in
      let asked = gave_up later (every_run top came.before some) (contains_get later.sent came.brings.k heard came.brings.number) in
      let time = its_time asked.read (subst (λ z. AskedAt (later.sessions z) c.number gave.answer.bound heard.from asked.read) came.brings.to asked.asked) in
      let shard = awaited top (later.sessions c.node) gave.read gave.time gave.first gave.heard heard.from gave.answer.missing in
      let from : heard.from ≡ shard_node top c.home shard.0 = shard.2 ∙ ap (λ dc. shard_node top dc shard.0) (sym own.home) in
      let low : gave.time < horizon earlier heard.from =
      subst (λ n. n < horizon earlier heard.from) (sym time)
      (subst (λ n. gave.answer.bound < n) (low_stays top earlier event came.brings.k heard heard.from was.not_sent sent ∙ horizons_are_of_collections top before heard.from) first.low) in
      record {
        read = gave.read;
        op = own.op;
        shard = shard.0;
        asked = shard.1;
        before = came.before;
        after = came.after;
        k = came.brings.k;
        delivery = came.delivery;
        message = heard;
        number = number;
        from = from;
        to = came.brings.to;
        time = gave.time;
        body = says ∙ ap (λ n. body.PartAt c.number n at.Collected) (sym time);
        first = gave.first;
        heard = gave.heard;
        count = came.brings.count;
        second_round = gave.answer.current;
        effective = round.time;
        past = record { before = before; event = sending.1; sent = was; above = subst (λ node. gave.time < horizon earlier node) from low };
      }

pub collected_in_runs : (top : TopologyValue) (events : List RunEvent) → 0 < top.shards → CollectedIsBelowHorizon top (run top events)
collected_in_runs top events some c has is =
    let w = run top events in
    let there = has in
    let came = came_at top w some (runs_replayed top events) c (subst IsNotMoved (sym is) tt) there in
    given_up top some w (runs_replayed top events) (every_run top events some) c there came
    (subst (λ o. EndsBy o top ((run top came.before).sessions c.node) came.brings.message.from came.brings.message.body) is came.brings.ends)
