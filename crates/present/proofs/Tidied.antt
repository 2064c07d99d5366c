-- Collections at rest, in what a world tells.
use Rattle.std.proofs.Common.{◌≡◌, ◌∙◌, ℕ, ◌+◌, ◌<◌, Bool, true, false, List, [], ◌∷◌, ◌++◌, length, Option, Some, None, refl, sym, ap, subst, append-nil, add-one}
use Rattle.std.specs.Prelude.{Contains}
use Rattle.std.proofs.lemmas.List.Elements.{filter_map-append}
use Rattle.logical_time.specs.declared.fault.Fault.{Fault}
use Rattle.logical_time.specs.declared.fault.Fault.TheVariants.{Memory, ClockSpent}
use Rattle.messages.specs.Topology.{TopologyValue, is_shard, shard_count}
use Rattle.messages.specs.Clock.{ticked, on_clock}
use Rattle.messages.specs.ShardEvents.{collected}
use Rattle.world.specs.declared.run_event.RunEvent.{RunEvent}
use Rattle.world.specs.declared.run_event.RunEvent.TheVariants.{Collect}
use Rattle.world.specs.Run.{Run, opening, after_shard, collect_if, step, continued, run}
use Rattle.world.specs.Refusals.{Refusal, Refused, refusal_of}
use Rattle.world.specs.World.{WorldValue, run_of, refusal_in, Takes, IsRefusedAs}
use Rattle.world.specs.Quiet.{number_delivered, handled, IsQuiet}
use Rattle.present.specs.declared.actors.Actors.{Actors}
use Rattle.present.specs.AtRest.{ComesAtRest, ComeAtRest, AreTidied, IsTidiedUntil}
use Rattle.present.proofs.Calls.{then_run}

-- one more event, which comes at rest if it is a collection
come_after : (top : TopologyValue) (w : Run) (xs : List RunEvent) (x : RunEvent) → ComeAtRest top w xs → ComesAtRest (continued top w xs) x → ComeAtRest top w (xs ++ x ∷ [])
come_after top w [] x k c = (c, tt)
come_after top w (y ∷ ys) x k c = (k.0, come_after top (step top w y) ys x k.1 c)

pub then_rests : (a b : Actors) (told now : List RunEvent) (x : RunEvent) → ComeAtRest a.topology (opening a.topology) told → ComesAtRest (run a.topology told) x → b.topology ≡ a.topology → now ≡ told ++ x ∷ []
    → ComeAtRest b.topology (opening b.topology) now
then_rests a b told now x k c topology is =
    subst (λ t. ComeAtRest t (opening t) now) (sym topology)
    (subst (λ l. ComeAtRest a.topology (opening a.topology) l) (sym is) (come_after a.topology (opening a.topology) told x k c))

-- a collection leaves nothing that waits
quiet_still : (top : TopologyValue) (w : Run) (node time : ℕ) → IsQuiet w → IsQuiet (step top w (Collect node time))
quiet_still top w node time quiet = go (is_shard top node)
  where
    did : (o : Option ℕ) → IsQuiet (after_shard (on_clock o (λ n. collected n (w.shards node) time)) w (Collect node time) node)
    did None k lt = quiet k lt
    did (Some n) k lt =
        subst (λ xs. Contains xs k) (sym (filter_map-append number_delivered w.events (Collect node time ∷ []) ∙ append-nil (handled w)))
        (quiet k (subst (λ xs. k < length xs) (append-nil w.sent) lt))

    go : (b : Bool) → IsQuiet (collect_if b w node time)
    go true = did (ticked (w.shards node).clock (w.shards node).clock)
    go false = quiet

pub takes_quiet : (v u : WorldValue) (node time : ℕ) → IsQuiet (run_of v) → Takes v (Collect node time) u → IsQuiet (run_of u)
takes_quiet v u node time quiet takes =
    subst (λ (z : WorldValue). IsQuiet (run_of z)) (sym takes.happened)
    (subst IsQuiet (sym (then_run v.top v.events (v.events ++ Collect node time ∷ []) (Collect node time) refl)) (quiet_still v.top (run_of v) node time quiet))

pub one_tidied : (top : TopologyValue) (n node : ℕ) (before : List RunEvent) (v u : WorldValue) → v.top ≡ top → node ≡ n → AreTidied top n before v.events
    → Takes v (Collect node ((run_of v).shards node).clock) u → AreTidied top (n + 1) before u.events
one_tidied top n node before v u same at so takes =
    rw add-one (
      v.events,
      so,
      ap (λ (z : WorldValue). z.events) takes.happened
          ∙ ap (λ t. v.events ++ Collect node ((run t v.events).shards node).clock ∷ []) same
          ∙ ap (λ m. v.events ++ Collect m ((run top v.events).shards m).clock ∷ []) at,
    )

pub still_top : (v u : WorldValue) (x : RunEvent) → Takes v x u → u.top ≡ v.top
still_top v u x takes = ap (λ (z : WorldValue). z.top) takes.happened

-- a collection that the clock refuses is refused by the run
pub spent_in_run : (o : Option Refusal) (f : Fault) → IsRefusedAs o f → f ≡ ClockSpent → o ≡ Some (Refused ClockSpent)
spent_in_run None f is spent = let no : ClockSpent ≡ Memory = sym spent ∙ is in absurd (cc)
spent_in_run (Some r) f is spent = ap Some (is ∙ ap Refused spent)

-- so the shards before it are tidied, and it isn't
pub tidied_until : (top : TopologyValue) (n node : ℕ) (before : List RunEvent) (v u : WorldValue) (f : Fault) → v.top ≡ top → node ≡ n → n < shard_count top → AreTidied top n before v.events
    → u ≡ v → IsRefusedAs (refusal_in v (Collect node ((run_of v).shards node).clock)) f → f ≡ ClockSpent → IsTidiedUntil top before u.events
tidied_until top n node before v u f same at lt so still refused spent =
    record {
      shard = n;
      below = lt;
      tidied = subst (λ (z : WorldValue). AreTidied top n before z.events) (sym still) so;
      refused =
          subst (λ (z : WorldValue). refusal_of top (run top z.events) (Collect n ((run top z.events).shards n).clock) ≡ Some (Refused ClockSpent)) (sym still)
          (subst (λ t. refusal_of t (run t v.events) (Collect n ((run t v.events).shards n).clock) ≡ Some (Refused ClockSpent)) same
          (subst (λ m. refusal_of v.top (run v.top v.events) (Collect m ((run v.top v.events).shards m).clock) ≡ Some (Refused ClockSpent)) at
          (spent_in_run (refusal_in v (Collect node ((run_of v).shards node).clock)) f refused spent)));
    }
