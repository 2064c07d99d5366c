-- Stamps stay apart along what a run has of its actors.
use Rattle.std.proofs.Common.{◌≡◌, ◌∙◌, ℕ, ◌<◌, Bool, true, false, List, [], ◌∷◌, ◌++◌, Some, inl, inr, sym, ap, subst}
use Rattle.std.specs.Prelude.{if◌then◌else◌}
use Rattle.messages.specs.declared.event.ActorEvent.{ActorEvent}
use Rattle.messages.specs.Topology.{TopologyValue, is_shard}
use Rattle.messages.specs.Actors.{OfShard, OfSession, Replayed, replay_of}
use Rattle.world.specs.declared.run_event.RunEvent.{RunEvent}
use Rattle.world.specs.Run.{run}
use Rattle.world.specs.Journals.{actor_in, journal_in, held_in}
use Rattle.world.proofs.safety.Runs.{every_run}
use Rattle.world.proofs.replays.OwnJournals.{run_journals}
use Rattle.world.proofs.shards.RightAnswers.{parts_apart}
use Rattle.threaded.specs.Machines.{HasPartsApart, StaysApart}
use Rattle.threaded.proofs.Lists.{begins_or_whole}

-- each actor of a run has the stamps of its parts apart
pub run_apart : (top : TopologyValue) (events : List RunEvent) (node : ℕ) → 0 < top.shards → HasPartsApart (actor_in top (run top events) node)
run_apart top events node some = by (is_shard top node)
  where
    by : (b : Bool) → HasPartsApart (if b then OfShard ((run top events).shards node) else OfSession ((run top events).sessions node))
    by true = parts_apart top (run top events) (every_run top events some) node
    by false = tt

-- one event more of a run leaves them apart
pub apart_more : (top : TopologyValue) (events : List RunEvent) (node : ℕ) (journal : List ActorEvent) (y : ActorEvent) → 0 < top.shards
    → journal_in (run top events) node ≡ journal ++ y ∷ [] → StaysApart top node journal → StaysApart top node (journal_in (run top events) node)
apart_more top events node journal y some is apart before after r q replays =
    elim (begins_or_whole journal y before after (sym is ∙ q)) [
      | inl inner ↦ apart before inner.0 r inner.1 replays
      | inr whole ↦
          let law = (run_journals top events some).each node in
          let both : Some (held_in top (run top events) node) ≡ Some r =
          sym law ∙ ap (replay_of top node) (is ∙ sym whole) ∙ replays in
          let same : held_in top (run top events) node ≡ r = cc in
          subst (λ (z : Replayed). HasPartsApart z.state) same (run_apart top events node some)
    ]

-- before the first event stamps are apart
pub apart_at_first : (top : TopologyValue) (node : ℕ) → 0 < top.shards → StaysApart top node []
apart_at_first top node some [] after r q replays =
    let both : Some (held_in top (run top []) node) ≡ Some r = sym ((run_journals top [] some).each node) ∙ replays in
    let same : held_in top (run top []) node ≡ r = cc in
    subst (λ (z : Replayed). HasPartsApart z.state) same (run_apart top [] node some)
apart_at_first top node some (x ∷ before) after r q replays = absurd (cc)
