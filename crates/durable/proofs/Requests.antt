-- What a request, and a collection at rest, make of a world that entries led to.
use Rattle.std.proofs.Common.{◌≡◌, ◌∙◌, ℕ, zero, suc, List, [], ◌∷◌, ◌++◌, length, Option, Some, None, refl, ap, sym, subst, append-nil, inl, inr, arith}
use Rattle.logical_time.specs.declared.fault.Fault.{Fault}
use Rattle.messages.specs.declared.op.Op.{Op}
use Rattle.messages.specs.declared.outcome.Outcome.{Outcome}
use Rattle.messages.specs.Topology.{TopologyValue, session_node}
use Rattle.world.specs.declared.run_event.RunEvent.{RunEvent}
use Rattle.world.specs.declared.run_event.RunEvent.TheVariants.{Submit, Deliver, Collect}
use Rattle.world.specs.Run.{Run, step, run, opening}
use Rattle.world.specs.Lookups.{first_unhandled}
use Rattle.world.specs.Quiet.{IsQuiet}
use Rattle.world.specs.World.{WorldValue, run_of, refusal_in, Takes, IsRefusedAs}
use Rattle.world.proofs.in_code.Held.{told_quiet}
use Rattle.drains.specs.Drain.{deliveries, IsDrained, IsDrainedUntil}
use Rattle.drains.proofs.Underway.{next_delivered, none_delivered, all_delivered}
use Rattle.service.proofs.Requests.{declined_after}
use Rattle.service.specs.Port.{IsReady, IsSubmitted, IsTurnedAway, IsHandled, IsUntold, IsAnswered}
use Rattle.ledger.specs.declared.entry.Entry.{Entry}
use Rattle.ledger.specs.declared.entry.Entry.TheVariants.{Request, Rested}
use Rattle.durable.specs.Playing.{event_of, next_of, Plays, IsLed}
use Rattle.durable.proofs.Playing.{plays_on}

-- the deliveries of a drain are of no entry
pub drains_play : (top : TopologyValue) (n : ℕ) (w : Run) → Plays top w (deliveries top n w) []
drains_play top zero w = subst (λ (xs : List RunEvent). Plays top w xs []) (sym (all_delivered top w)) refl
drains_play top (suc n) w = by (first_unhandled w) refl (λ k. drains_play top n (step top w (Deliver k)))
  where
    by : (o : Option ℕ) → first_unhandled w ≡ o → ((k : ℕ) → Plays top (step top w (Deliver k)) (deliveries top n (step top w (Deliver k))) []) → Plays top w (deliveries top (suc n) w) []
    by None is more = subst (λ (xs : List RunEvent). Plays top w xs []) (sym (none_delivered top (suc n) w is)) refl
    by (Some k) is more = subst (λ (xs : List RunEvent). Plays top w xs []) (sym (next_delivered top n w k is)) ([], ap (λ (f : Option ℕ). next_of top w f []) is, more k)

-- nor is a beginning of them
pub fronts_play : (top : TopologyValue) (w : Run) (xs ys : List RunEvent) → Plays top w (xs ++ ys) [] → Plays top w xs []
fronts_play top w [] ys p = refl
fronts_play top w (x ∷ xs) ys p =
    let none : p.0 ≡ [] = of_nothing (first_unhandled w) p.0 p.1 in
    (p.0, p.1, subst (λ (es : List Entry). Plays top (step top w x) xs es) (sym none) (fronts_play top (step top w x) xs ys (subst (λ (es : List Entry). Plays top (step top w x) (xs ++ ys) es) none p.2)))
  where
    of_nothing : (f : Option ℕ) (rest : List Entry) → next_of top w f [] ≡ Some (x, rest) → rest ≡ []
    of_nothing (Some k) rest is = let pair : (Deliver k, []) ≡ (x, rest) = cc in sym (ap (λ (z : RunEvent × List Entry). z.1) pair)
    of_nothing None rest is = absurd (none_some is)
      where
        none_some : {X : Type 0} {b : X} → None ≡ Some b → ⊥
        none_some h = cc

module _ (top : TopologyValue) where
  led_on : (before more after : List RunEvent) (es : List Entry) → after ≡ before ++ more → IsLed top before es → Plays top (run top before) more [] → IsLed top after es
  led_on before more after es is p q =
      subst (λ (xs : List RunEvent). IsLed top xs es) (sym is) (subst (λ (l : List Entry). IsLed top (before ++ more) l) (append-nil es) (plays_on top (opening top) before more es [] p q))

  pub drained_led : (before after : List RunEvent) (count : ℕ) (es : List Entry) → IsDrained top before after count → IsLed top before es → IsLed top after es
  drained_led before after count es d p = led_on before (deliveries top 1000000 (run top before)) after es d.happened p (drains_play top 1000000 (run top before))

  pub stopped_led : (before after : List RunEvent) (e : Fault) (es : List Entry) → IsDrainedUntil top before after e → IsLed top before es → IsLed top after es
  stopped_led before after e es d p =
      led_on before d.done after es d.happened p (fronts_play top (run top before) d.done (Deliver d.next ∷ d.rest) (subst (λ (xs : List RunEvent). Plays top (run top before) xs []) d.drain (drains_play top 1000000 (run top before))))

  -- when all is handled, an entry happens
  pub entry_led : (before after : List RunEvent) (e : Entry) (es : List Entry) → IsQuiet (run top before) → after ≡ before ++ event_of top (run top before) e ∷ [] → IsLed top before es → IsLed top after (es ++ e ∷ [])
  entry_led before after e es quiet is p =
      let none : first_unhandled (run top before) ≡ None = (told_quiet top before).1 quiet in
      subst (λ (xs : List RunEvent). IsLed top xs (es ++ e ∷ [])) (sym is)
      (plays_on top (opening top) before (event_of top (run top before) e ∷ []) es (e ∷ []) p ([], ap (λ (f : Option ℕ). next_of top (run top before) f (e ∷ [])) none, refl))

  pub ready_led : (before ready : List RunEvent) (es : List Entry) → IsReady top before ready → IsLed top before es → IsLed top ready es
  ready_led before ready es r p = drained_led before ready r.count es r.drained p

  module _ (index : ℕ) (o : Op) (before : List RunEvent) (es : List Entry) (p : IsLed top before es) where
    s : ℕ
    s = session_node top index

    abbrev pub with_it : List Entry
    with_it = es ++ Request index o ∷ []

    pub submitted_led : (number : ℕ) (after : List RunEvent) → IsSubmitted top (session_node top index) o before number after → IsLed top after with_it
    submitted_led number after i = entry_led i.ready after (Request index o) es i.is_ready.left.quiet i.happened (ready_led before i.ready es i.is_ready p)

    pub handled_led : (number : ℕ) (after : List RunEvent) → IsHandled top (session_node top index) o before number after → IsLed top after with_it
    handled_led number after h = drained_led h.submitted after h.count with_it h.drained (submitted_led number h.submitted h.is_submitted)

    pub turned_away_led : (e : Fault) (after : List RunEvent) → IsTurnedAway top (session_node top index) o before e after → IsLed top after es
    turned_away_led e after (inl t) = stopped_led before after e es t p
    turned_away_led e after (inr (inl t)) = drained_led before after t.count es t.drained p
    turned_away_led e after (inr (inr t)) = ready_led before after es t.is_ready p

    pub untold_led : (e : Fault) (after : List RunEvent) → IsUntold top (session_node top index) o before e after → IsLed top after with_it
    untold_led e after (inl t) = stopped_led t.submitted after e with_it t.stopped (submitted_led t.number t.submitted t.is_submitted)
    untold_led e after (inr (inl t)) = handled_led t.number after t.handled
    untold_led e after (inr (inr t)) = handled_led t.number after t.handled

    pub answered_led : (r : Outcome) (after : List RunEvent) → IsAnswered top (session_node top index) o before r after → IsLed top after with_it
    answered_led r after a = handled_led a.number after a.handled

-- a fact of a topology and a session, at those that they are
pub at_there : (P : TopologyValue → ℕ → Type 0) (t top : TopologyValue) (s n : ℕ) → t ≡ top → s ≡ n → P t s → P top n
at_there P t top s n p q h = subst (λ m. P top m) q (subst (λ z. P z s) p h)

-- what a submission of the session of an index adds to the events
pub submitted_event : (top : TopologyValue) (mid new : WorldValue) (session index : ℕ) (o : Op) → session ≡ session_node top index → Takes mid (Submit session o) new
    → new.events ≡ mid.events ++ event_of top (run top mid.events) (Request index o) ∷ []
submitted_event top mid new session index o is takes = ap (λ (z : WorldValue). z.events) takes.happened ∙ ap (λ n. mid.events ++ Submit n o ∷ []) is

-- why a session doesn't submit, when all is handled
pub no_submission : (top : TopologyValue) (v s x : WorldValue) (session index : ℕ) (o : Op) (f : Fault) → v.top ≡ top → session ≡ session_node top index → IsReady v.top v.events s.events → s.top ≡ v.top
    → IsRefusedAs (refusal_in s (Submit session o)) f → x ≡ s → IsTurnedAway top (session_node top index) o v.events f x.events
no_submission top v s x session index o f same is ready stays refused still =
    at_there (λ t n. IsTurnedAway t n o v.events f x.events) v.top top session (session_node top index) same is (declined_after v s x session o f ready stays refused still)

-- what a collection up to the shard's own clock adds to the events
pub rested_event : (top : TopologyValue) (mid new : WorldValue) (node shard : ℕ) → mid.top ≡ top → node ≡ shard → Takes mid (Collect node ((run_of mid).shards node).clock) new
    → new.events ≡ mid.events ++ event_of top (run top mid.events) (Rested shard) ∷ []
rested_event top mid new node shard same at takes =
    ap (λ (z : WorldValue). z.events) takes.happened
    ∙ ap (λ t. mid.events ++ Collect node ((run t mid.events).shards node).clock ∷ []) same
    ∙ ap (λ m. mid.events ++ Collect m ((run top mid.events).shards m).clock ∷ []) at

-- ## A world that was made ready is ready

module _ (top : TopologyValue) (before mid : List RunEvent) (r : IsReady top before mid) where
  rests : deliveries top 1000000 (run top mid) ≡ []
  rests = none_delivered top 1000000 (run top mid) ((told_quiet top mid).1 r.left.quiet)

  pub still_ready : (after : List RunEvent) → IsReady top mid after → after ≡ mid
  still_ready after q = q.drained.happened ∙ ap (λ (xs : List RunEvent). mid ++ xs) rests ∙ append-nil mid

  module _ (session : ℕ) (o : Op) where
    abbrev pub submitted_from : (number : ℕ) (after : List RunEvent) → IsSubmitted top session o mid number after → IsSubmitted top session o before number after
    submitted_from number after i =
        let same = still_ready i.ready i.is_ready in
        record {
          ready = i.ready;
          is_ready = subst (λ (xs : List RunEvent). IsReady top before xs) (sym same) r;
          allowed = i.allowed;
          numbered = i.numbered;
          happened = i.happened;
        }

    abbrev pub handled_from : (number : ℕ) (after : List RunEvent) → IsHandled top session o mid number after → IsHandled top session o before number after
    handled_from number after h = record { submitted = h.submitted; is_submitted = submitted_from number h.submitted h.is_submitted; count = h.count; drained = h.drained }

    pub turned_away_from : (f : Fault) (after : List RunEvent) → IsTurnedAway top session o mid f after → IsTurnedAway top session o before f after
    turned_away_from f after (inl t) = absurd (nothing_first (Deliver t.next) t.rest t.done (sym rests ∙ t.drain))
      where
        nothing_first : (x : RunEvent) (ys xs : List RunEvent) → [] ≡ xs ++ x ∷ ys → ⊥
        nothing_first x ys [] h = cc
        nothing_first x ys (z ∷ xs) h = cc
    turned_away_from f after (inr (inl t)) = let none : t.count ≡ 0 = t.drained.number ∙ ap (λ (xs : List RunEvent). length xs) rests in let most = t.most in absurd (omega arith)
    turned_away_from f after (inr (inr t)) =
        let same = still_ready after t.is_ready in
        inr (inr (record { is_ready = subst (λ (xs : List RunEvent). IsReady top before xs) (sym same) r; refused = t.refused; other = t.other }))

    pub untold_from : (f : Fault) (after : List RunEvent) → IsUntold top session o mid f after → IsUntold top session o before f after
    untold_from f after (inl t) = inl (record { number = t.number; submitted = t.submitted; is_submitted = submitted_from t.number t.submitted t.is_submitted; stopped = t.stopped })
    untold_from f after (inr (inl t)) = inr (inl (record { number = t.number; handled = handled_from t.number after t.handled; still = t.still; most = t.most; busy = t.busy }))
    untold_from f after (inr (inr t)) = inr (inr (record { number = t.number; handled = handled_from t.number after t.handled; time = t.time; answer = t.answer; ended = t.ended; memory = t.memory }))

    pub answered_from : (x : Outcome) (after : List RunEvent) → IsAnswered top session o mid x after → IsAnswered top session o before x after
    answered_from x after a = record { number = a.number; handled = handled_from a.number after a.handled; ended = a.ended }
