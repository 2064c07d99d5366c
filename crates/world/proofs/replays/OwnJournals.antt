-- The actors of every run are the replays of their own journals, which fit together.
use Rattle.std.proofs.Common.{append-nil, ◌≡◌, ◌∙◌, ℕ, ◌<◌, Bool, true, false, cond, List, [], ◌∷◌, ◌++◌, map, Option, Some, None, inl, inr, refl, sym, ap, subst, slice_get, eqb-true, eq-eqb}
use Rattle.std.specs.Prelude.{◌==◌, if◌then◌else◌, filter, option_and_then, Contains}
use Rattle.std.specs.List.{cons_option}
use Rattle.std.proofs.lemmas.List.{map-append}
use Rattle.std.proofs.lemmas.List.Elements.{filter-append}
use Rattle.messages.specs.declared.envelope.Envelope.{Envelope}
use Rattle.messages.specs.Topology.{TopologyValue, node_count}
use Rattle.messages.specs.declared.event.ActorEvent.{ActorEvent}
use Rattle.messages.specs.declared.event.ActorEvent.TheVariants.{Submit as SubmitHere, Handle, Collect as CollectHere}
use Rattle.messages.specs.Actors.{ActorStep, opening_actor, replay_of, sent_in, sent_by}
use Rattle.store.proofs.lists.Lists.{given_only}
use Rattle.world.specs.Run.{Run, Completed, RunEvent, Submit, Deliver, Collect, opening, step, continued, run}
use Rattle.world.specs.Journals.{actor_in, event_at, journal_in, finished_as, sent_from, ended_at, held_in, IsRunOf, DoFit, IsItsJournal}
use Rattle.world.proofs.lists.Members.{none_in_empty, contains_first, contains_rest, Contains-append_cases, contains_filter, contains_get}
use Rattle.world.proofs.steps.Ticks.{step_ticks}
use Rattle.world.proofs.steps.Moves.{Moves, IsMove, each_is_move}
use Rattle.world.proofs.replays.JournalSteps.{apart_too, AreKnown, known_later, journal_here, journal_there}
use Rattle.world.proofs.steps.Transcripts.{as_list}
use Rattle.world.proofs.in_code.Listed.{the_element, map_element, IsListed, step_is_listed}
use Rattle.world.proofs.safety.Invariant.{Inv}
use Rattle.world.proofs.safety.Runs.{opening_holds, step_kept}
use Rattle.world.proofs.replays.Replays.{replay_push}

-- ## Lists

pub all_stay : {X : Type 0} (p : X → Bool) (xs : List X) → ((x : X) → Contains xs x → p x ≡ true) → filter p xs ≡ xs
all_stay p [] f = refl
all_stay p (x ∷ xs) f = ap (λ b. cond b (x ∷ filter p xs) (filter p xs)) (f x (contains_first x xs)) ∙ ap (λ l. x ∷ l) (all_stay p xs (λ y m. f y (contains_rest x y xs m)))

pub none_stays : {X : Type 0} (p : X → Bool) (xs : List X) → ((x : X) → Contains xs x → p x ≡ false) → filter p xs ≡ []
none_stays p [] f = refl
none_stays p (x ∷ xs) f = ap (λ b. cond b (x ∷ filter p xs) (filter p xs)) (f x (contains_first x xs)) ∙ none_stays p xs (λ y m. f y (contains_rest x y xs m))

-- ## Every run

pub record AreOwnJournals (top : TopologyValue) (w : Run) : Type 0 where
  pub known : AreKnown w
  pub each : (m : ℕ) → IsItsJournal top w m
  pub senders : (e : Envelope) → Contains w.sent e → e.from < node_count top

module _ (top : TopologyValue) (w v : Run) (ev : RunEvent) (n : ℕ) (x : ActorEvent) (s : ActorStep) (f : Moves top w v ev n x s) (g : IsListed w v n s)
    (k : AreOwnJournals top w) where
  own : (e : Envelope) → Contains s.sends e → e.from ≡ n
  own e m = ((step_ticks top n (actor_in top w n) x s f.takes).sends e m).0

  sent_now : (m : ℕ) → sent_from v m ≡ sent_from w m ++ filter (λ (e : Envelope). e.from == m) s.sends
  sent_now m = ap (filter (λ (e : Envelope). e.from == m)) f.sent ∙ filter-append (λ (e : Envelope). e.from == m) w.sent s.sends

  ended_now : (m : ℕ) → ended_at v m ≡ ended_at w m ++ map finished_as (filter (λ (c : Completed). c.node == m) (cons_option g.entry []))
  ended_now m =
      ap (λ l. map finished_as (filter (λ (c : Completed). c.node == m) l)) (g.transcript ∙ as_list w.transcript g.entry)
      ∙ ap (map finished_as) (filter-append (λ (c : Completed). c.node == m) w.transcript (cons_option g.entry []))
      ∙ map-append finished_as (filter (λ (c : Completed). c.node == m) w.transcript) (filter (λ (c : Completed). c.node == m) (cons_option g.entry []))

  here : IsItsJournal top v n
  here =
      let mine : filter (λ (e : Envelope). e.from == n) s.sends ≡ s.sends =
      all_stay (λ (e : Envelope). e.from == n) s.sends (λ e m. eq-eqb e.from n (own e m)) in
      let ours : map finished_as (filter (λ (c : Completed). c.node == n) (cons_option g.entry [])) ≡ cons_option s.finishes [] =
      ap (map finished_as) (all_stay (λ (c : Completed). c.node == n) (cons_option g.entry []) (λ c m. eq-eqb c.node n (g.mine c (the_element g.entry c m))))
      ∙ map_element finished_as g.entry ∙ ap (λ o. cons_option o []) g.same in
      ap (replay_of top n) (journal_here f k.known)
      ∙ replay_push top n (opening_actor top n) (journal_in w n) x
      (held_in top w n) s (k.each n) f.takes
      ∙ ap (λ a. Some (record { state = a; sent = sent_from w n ++ s.sends; finished = ended_at w n ++ cons_option s.finishes [] }))
      (sym f.here)
      ∙ ap (λ l. Some (record { state = actor_in top v n; sent = l; finished = ended_at w n ++ cons_option s.finishes [] }))
      (sym (sent_now n ∙ ap (λ l. sent_from w n ++ l) mine))
      ∙ ap (λ l. Some (record { state = actor_in top v n; sent = sent_from v n; finished = l }))
      (sym (ended_now n ∙ ap (λ l. ended_at w n ++ l) ours))

  there : (m : ℕ) → (n == m) ≡ false → IsItsJournal top v m
  there m apart =
      let others : filter (λ (e : Envelope). e.from == m) s.sends ≡ [] =
      none_stays (λ (e : Envelope). e.from == m) s.sends (λ e i. ap (λ z. z == m) (own e i) ∙ apart) in
      let theirs : filter (λ (c : Completed). c.node == m) (cons_option g.entry []) ≡ [] =
      none_stays (λ (c : Completed). c.node == m) (cons_option g.entry []) (λ c i. ap (λ z. z == m) (g.mine c (the_element g.entry c i)) ∙ apart) in
      ap (replay_of top m) (journal_there f k.known m apart)
      ∙ k.each m
      ∙ ap (λ a. Some (record { state = a; sent = sent_from w m; finished = ended_at w m })) (sym (f.others m (apart_too n m apart)))
      ∙ ap (λ l. Some (record { state = actor_in top v m; sent = l; finished = ended_at w m }))
      (sym (sent_now m ∙ ap (λ l. sent_from w m ++ l) others ∙ append-nil (sent_from w m)))
      ∙ ap (λ l. Some (record { state = actor_in top v m; sent = sent_from v m; finished = l }))
      (sym (ended_now m ∙ ap (λ l. ended_at w m ++ map finished_as l) theirs ∙ append-nil (ended_at w m)))

  pub moved_on : AreOwnJournals top v
  moved_on =
      record {
        known = known_later f k.known;
        each = λ m. by m (n == m) refl;
        senders = λ e m. elim (Contains-append_cases w.sent s.sends e (subst (λ l. Contains l e) f.sent m)) [
          | inl old ↦ k.senders e old
          | inr new ↦ subst (λ z. z < node_count top) (sym (own e new)) f.actor
        ];
      }
    where
      by : (m : ℕ) → (b : Bool) → (n == m) ≡ b → IsItsJournal top v m
      by m true q = subst (λ z. IsItsJournal top v z) (eqb-true n m q) here
      by m false q = there m q

own_step : (top : TopologyValue) (w : Run) (ev : RunEvent) → 0 < top.shards → Inv top w → AreOwnJournals top w → AreOwnJournals top (step top w ev)
own_step top w ev some inv k = go (each_is_move top w ev)
  where
    go : IsMove top w ev (step top w ev) → AreOwnJournals top (step top w ev)
    go (inl same) = subst (λ v. AreOwnJournals top v) (sym same) k
    go (inr (n, x, s, f)) = moved_on top w (step top w ev) ev n x s f (step_is_listed top w (step top w ev) ev n x s f some inv) k

own_continued : (top : TopologyValue) (w : Run) (events : List RunEvent) → 0 < top.shards → Inv top w → AreOwnJournals top w
    → AreOwnJournals top (continued top w events)
own_continued top w [] some inv k = k
own_continued top w (ev ∷ events) some inv k =
    own_continued top (step top w ev) events some (step_kept top w ev some inv) (own_step top w ev some inv k)

pub run_journals : (top : TopologyValue) (events : List RunEvent) → 0 < top.shards → AreOwnJournals top (run top events)
run_journals top events some =
    own_continued top (opening top) events some (opening_holds top) (record { known = λ k m. absurd (none_in_empty (Deliver k) m); each = λ m. refl; senders = λ e m. absurd (none_in_empty e m) })

pub each_is_its_journal : (top : TopologyValue) (events : List RunEvent) (node : ℕ) → 0 < top.shards → IsItsJournal top (run top events) node
each_is_its_journal top events node some = (run_journals top events some).each node

-- ## The journals of a run fit together

-- what an actor of a run handles was sent to it
pub handled_there : (w : Run) (m : ℕ) (e : Envelope) → Contains (journal_in w m) (Handle e) → Contains w.sent e × (e.to ≡ m)
handled_there w m e i = let t = given_only (event_at w m) w.events (Handle e) i in at t.0 t.2
  where
    sent : (k : ℕ) (o : Option Envelope) → slice_get w.sent k ≡ o → option_and_then (λ (z : Envelope). if z.to == m then Some (Handle z) else None) o ≡ Some (Handle e)
        → Contains w.sent e × (e.to ≡ m)
    sent k None q h = absurd (cc)
    sent k (Some z) q h = by (z.to == m) refl h
      where
        by : (b : Bool) → (z.to == m) ≡ b → (if b then Some (Handle z) else None) ≡ Some (Handle e) → Contains w.sent e × (e.to ≡ m)
        by false p g = absurd (cc)
        by true p g =
            let same : z ≡ e = cc in
            (subst (λ y. Contains w.sent y) same (contains_get w.sent k z q), ap (λ (y : Envelope). y.to) (sym same) ∙ eqb-true z.to m p)

    other : (b : Bool) (y : ActorEvent) → (y ≡ Handle e → ⊥) → (if b then Some y else None) ≡ Some (Handle e) → Contains w.sent e × (e.to ≡ m)
    other true y apart h = let same : y ≡ Handle e = cc in absurd (apart same)
    other false y apart h = absurd (cc)

    at : (ev : RunEvent) → event_at w m ev ≡ Some (Handle e) → Contains w.sent e × (e.to ≡ m)
    at (Submit session o) h = other (session == m) (SubmitHere o) (λ q. absurd (cc)) h
    at (Deliver k) h = sent k (slice_get w.sent k) refl h
    at (Collect shard time) h = other (shard == m) (CollectHere time) (λ q. absurd (cc)) h

pub runs_fit : (top : TopologyValue) (journals : ℕ → List ActorEvent) (events : List RunEvent) → 0 < top.shards → IsRunOf top journals events
    → DoFit top journals
runs_fit top journals events some is =
    let w = run top events in
    let k = run_journals top events some in
    record {
      replays = λ n c. (_, ap (replay_of top n) (sym (is.each n c)) ∙ k.each n);
      received = λ n e c has.
          let h = handled_there w n e (subst (λ l. Contains l (Handle e)) (sym (is.each n c)) has) in
          let from = k.senders e h.0 in
          let sent : sent_by top e.from (journals e.from) ≡ filter (λ (z : Envelope). z.from == e.from) w.sent =
          ap (λ l. sent_by top e.from l) (sym (is.each e.from from)) ∙ ap sent_in (k.each e.from) in
          record {
            here = h.1;
            sender = from;
            sent = subst (λ l. Contains l e) (sym sent) (contains_filter (λ (z : Envelope). z.from == e.from) w.sent e h.0 (eq-eqb e.from e.from refl));
          };
    }
