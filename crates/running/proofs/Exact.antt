-- What an actor did of what was asked is told exactly: where the next event isn't what is asked, it did no more.
use Rattle.std.proofs.Common.{◌≡◌, ◌∙◌, ℕ, zero, suc, ◌+◌, ◌<◌, ◌≤◌, Bool, true, false, cond, List, [], ◌∷◌, ◌++◌, length, take, drop, slice_get, Option, Some, None, refl, sym, ap, subst, arith}
use Rattle.std.specs.Prelude.{◌↔◌, option_map, option_to_list}
use Rattle.std.specs.Option.{is_none}
use Rattle.std.proofs.lemmas.List.{append-nil, append_assoc}
use Rattle.std.proofs.lemmas.List.Elements.{filter_map-append, filter-append}
use Rattle.logical_time.specs.declared.fault.Fault.{Fault}
use Rattle.messages.specs.declared.event.ActorEvent.{ActorEvent}
use Rattle.messages.specs.Topology.{TopologyValue}
use Rattle.actors.specs.Journals.{submissions, IsOwn}
use Rattle.actors.specs.Seats.{SeatValue}
use Rattle.workload.specs.declared.script.ScriptEvent.{ScriptEvent}
use Rattle.workload.specs.declared.script.Script.{Script}
use Rattle.threaded.proofs.Lists.{same_rest}
use Rattle.running.specs.declared.course.Course.{Course}
use Rattle.messages.specs.Actors.{envelope_of, opening_home}
use Rattle.running.specs.Asked.{asked_by, asked_in, asked_of, fault_of, home_if, home_next, home_through, accepted_one, accepted_of, refusals_from, own_events, HasTaken, DidAsked}
use Rattle.running.specs.Course.{HasCome, DidNotDo, HasStopped}
use Rattle.running.proofs.ToldMore.{drop_here, drop_past}
use Rattle.running.proofs.AskedMore.{accepted_append, one_accepted, refusals_append, came_by_own, asked_more, asked_end}

-- ## Lists

take_drop : {X : Type 0} (xs : List X) (n : ℕ) → take n xs ++ drop n xs ≡ xs
take_drop [] zero = refl
take_drop [] (suc n) = refl
take_drop (x ∷ xs) zero = refl
take_drop (x ∷ xs) (suc n) = ap (λ l. x ∷ l) (take_drop xs n)

taken_length : {X : Type 0} (xs : List X) (n : ℕ) → n ≤ length xs → length (take n xs) ≡ n
taken_length [] zero le = refl
taken_length [] (suc n) le = absurd (omega arith)
taken_length (x ∷ xs) zero le = refl
taken_length (x ∷ xs) (suc n) le = ap suc (taken_length xs n (omega arith))

after_all : {X : Type 0} (xs : List X) (z : X) (zs : List X) → slice_get (xs ++ z ∷ zs) (length xs) ≡ Some z
after_all [] z zs = refl
after_all (x ∷ xs) z zs = after_all xs z zs

all_taken : {X : Type 0} (xs : List X) (n : ℕ) → n ≡ length xs → take n xs ≡ xs
all_taken [] zero is = refl
all_taken [] (suc n) is = refl
all_taken (x ∷ xs) zero is = absurd (omega (arith, is))
all_taken (x ∷ xs) (suc n) is = ap (λ l. x ∷ l) (all_taken xs n (omega (arith, is)))

past_end : {X : Type 0} (xs : List X) (n : ℕ) → slice_get xs n ≡ None → length xs ≤ n
past_end [] n at = omega arith
past_end (x ∷ xs) zero at = absurd (cc)
past_end (x ∷ xs) (suc n) at = let le = past_end xs n at in omega (arith, le)

-- ## What was asked of an actor

module _ (top : TopologyValue) (first : ℕ) where
  first_accepted : (home : ℕ) (x : ActorEvent) (more : List ActorEvent) → fault_of top home x ≡ None
      → accepted_of top home (x ∷ more) ≡ x ∷ accepted_of top (home_next top home x) more
  first_accepted home x more none = ap (λ l. l ++ accepted_of top (home_next top home x) more) (one_accepted top home x none)

  first_refused : (home count : ℕ) (x : ActorEvent) (more : List ActorEvent) (f : Fault) → fault_of top home x ≡ Some f
      → refusals_from top home count (x ∷ more) ≡ (count, f) ∷ refusals_from top (home_next top home x) (count + submissions (accepted_one top home x)) more
  first_refused home count x more f some =
      ap (λ (o : Option Fault). option_to_list (option_map (λ (g : Fault). (count, g)) o) ++ refusals_from top (home_next top home x) (count + submissions (accepted_one top home x)) more) some

  module _ (s : SeatValue) where
    own_parts : (n : ℕ) → own_events (take n s.journal) ++ own_events (drop n s.journal) ≡ own_events s.journal
    own_parts n = sym (filter-append (λ y. is_none (envelope_of y)) (take n s.journal) (drop n s.journal)) ∙ ap own_events (take_drop s.journal n)

    -- the events from a place on where one stands that no message brought
    own_here : (place : ℕ) (y : ActorEvent) → slice_get s.journal place ≡ Some y → IsOwn y → own_events (drop place s.journal) ≡ y ∷ own_events (drop (place + 1) s.journal)
    own_here place y at own =
        ap own_events (drop_here s.journal place y at)
        ∙ ap (λ (o : Option _). cond (is_none o) (y ∷ own_events (drop (place + 1) s.journal)) (own_events (drop (place + 1) s.journal))) own

    module _ (c : Course) (done : List ActorEvent) (come : HasCome top first s c done) where
      -- the home when what was done is done
      abbrev at_home : ℕ
      at_home = home_through top first done

      reached : (x : ActorEvent) (o : Option Fault) → fault_of top c.home x ≡ o → fault_of top at_home x ≡ o
      reached x o now = ap (λ h. fault_of top h x) (sym come.home) ∙ now

      -- what the journal has after what it came to
      module _ (place : ℕ) (passed : own_events (take place s.journal) ≡ own_events (take c.events s.journal))
          (own : (x : ActorEvent) → slice_get s.journal place ≡ Some x → IsOwn x) where
        left_own : (rest : List ActorEvent) → own_events s.journal ≡ accepted_of top first done ++ rest → own_events (drop place s.journal) ≡ rest
        left_own rest is =
            same_rest (accepted_of top first done) (own_events (drop place s.journal)) rest
            (ap (λ l. l ++ own_events (drop place s.journal)) (sym (passed ∙ come.own)) ∙ own_parts place ∙ is)

        -- if the next that was asked was done, it stands there
        pub own_next : (x : ActorEvent) (more : List ActorEvent) → fault_of top c.home x ≡ None → own_events s.journal ≡ accepted_of top first (done ++ x ∷ more)
            → slice_get s.journal place ≡ Some x
        own_next x more none is = by (slice_get s.journal place) refl
          where
            later : List ActorEvent
            later = accepted_of top (home_next top at_home x) more

            left : own_events (drop place s.journal) ≡ x ∷ later
            left =
                left_own (x ∷ later)
                (is ∙ accepted_append top first done (x ∷ more) ∙ ap (λ l. accepted_of top first done ++ l) (first_accepted at_home x more (reached x None none)))

            by : (o : Option ActorEvent) → slice_get s.journal place ≡ o → o ≡ Some x
            by None at =
                let none : [] ≡ x ∷ later = ap own_events (sym (drop_past s.journal place (past_end s.journal place at))) ∙ left in absurd (cc)
            by (Some y) at =
                let both : y ∷ own_events (drop (place + 1) s.journal) ≡ x ∷ later = sym (own_here place y at (own y at)) ∙ left in
                let same : y ≡ x = cc in
                ap Some same

        -- if nothing else was done, nothing stands there
        pub own_end : own_events s.journal ≡ accepted_of top first done → length s.journal ≤ place
        own_end is = by (slice_get s.journal place) refl
          where
            by : (o : Option ActorEvent) → slice_get s.journal place ≡ o → length s.journal ≤ place
            by None at = past_end s.journal place at
            by (Some y) at =
                let none : own_events (drop place s.journal) ≡ [] = left_own [] (is ∙ sym (append-nil (accepted_of top first done))) in
                let both : y ∷ own_events (drop (place + 1) s.journal) ≡ [] = sym (own_here place y at (own y at)) ∙ none in
                absurd (cc)

      module _ (within : c.refusals ≤ length s.refusals) where
        came_to : length (refusals_from top first 0 done) ≡ c.refusals
        came_to = ap (λ (l : List _). length l) (sym come.refused) ∙ taken_length s.refusals c.refusals within

        -- if the next that was asked was refused, that is the next refusal
        pub refusal_next : (x : ActorEvent) (more : List ActorEvent) (f : Fault) → fault_of top c.home x ≡ Some f → s.refusals ≡ refusals_from top first 0 (done ++ x ∷ more)
            → slice_get s.refusals c.refusals ≡ Some (c.accepted, f)
        refusal_next x more f some is =
            let before = refusals_from top first 0 done in
            let count : ℕ = 0 + submissions (accepted_of top first done) in
            let after = refusals_from top (home_next top at_home x) (count + submissions (accepted_one top at_home x)) more in
            let all : s.refusals ≡ before ++ (count, f) ∷ after =
            is ∙ refusals_append top first 0 done (x ∷ more) ∙ ap (λ l. before ++ l) (first_refused at_home count x more f (reached x (Some f) some)) in
            let counted = come.counted in
            let same : count ≡ c.accepted = omega (arith, counted) in
            ap (slice_get s.refusals) (sym came_to) ∙ ap (λ l. slice_get l (length before)) all ∙ after_all before (count, f) after ∙ ap (λ n. Some (n, f)) same

        -- if nothing else was refused, it was the last
        pub refusal_end : s.refusals ≡ refusals_from top first 0 done → c.refusals ≡ length s.refusals
        refusal_end is = sym came_to ∙ ap (λ (l : List _). length l) (sym is)

-- ## As code asks for it

module _ (top : TopologyValue) (first : ℕ) (s : SeatValue) (c : Course) (done : List ActorEvent) (come : HasCome top first s c done) where
  -- the next event of its own isn't what was asked
  pub own_stopped : (place : ℕ) (x : ActorEvent) → fault_of top c.home x ≡ None → own_events (take place s.journal) ≡ own_events (take c.events s.journal)
      → ((y : ActorEvent) → slice_get s.journal place ≡ Some y → IsOwn y) → (slice_get s.journal place ≡ Some x → ⊥) → DidNotDo top first s done x
  own_stopped place x none passed own isnt more only = isnt (own_next top first s c done come place passed own x more none only.own)

  -- the next refusal isn't that of what was asked
  pub refusal_stopped : c.refusals ≤ length s.refusals → (x : ActorEvent) (f : Fault) → fault_of top c.home x ≡ Some f → (slice_get s.refusals c.refusals ≡ Some (c.accepted, f) → ⊥)
      → DidNotDo top first s done x
  refusal_stopped within x f some isnt more only = isnt (refusal_next top first s c done come within x more f some only.refused)

  -- it did nothing else exactly where no other event of its own and no other refusal is left
  module _ (place : ℕ) (passed : own_events (take place s.journal) ≡ own_events (take c.events s.journal))
      (own : (y : ActorEvent) → slice_get s.journal place ≡ Some y → IsOwn y) (within : c.refusals ≤ length s.refusals) where
    pub event_left : place < length s.journal → HasTaken top first done s → ⊥
    event_left lt only = let past = own_end top first s c done come place passed own only.own in omega (arith, lt, past)

    pub refusal_left : c.refusals < length s.refusals → HasTaken top first done s → ⊥
    refusal_left lt only = let past = refusal_end top first s c done come within only.refused in omega (arith, lt, past)

    pub none_left : place ≤ length s.journal → length s.journal ≤ place → length s.refusals ≤ c.refusals → HasTaken top first done s
    none_left le past all =
        record {
          own = ap own_events (sym (all_taken s.journal place (omega (arith, le, past)))) ∙ passed ∙ come.own;
          refused = sym (all_taken s.refusals c.refusals (omega (arith, within, all))) ∙ come.refused;
        }

module _ (s : Script) (node : ℕ) (seat : SeatValue) (place : ℕ) where
  abbrev came : List ActorEvent
  came = asked_in node (take place s.events)

  -- where an event was asked that the actor didn't do, it didn't do all that was asked
  pub stop_tells : (x : ScriptEvent) → slice_get s.events place ≡ Some x → HasStopped s.topology (opening_home s.topology node) seat came (asked_by node x)
      → DidAsked s node seat → ⊥
  stop_tells x at stopped taken =
      let later = asked_in node (drop (place + 1) s.events) in
      let asked_so : asked_of s node ≡ came ++ stopped.event ∷ later =
      ap (asked_in node) (sym (take_drop s.events (place + 1))) ∙ filter_map-append (asked_by node) (take (place + 1) s.events) (drop (place + 1) s.events)
      ∙ ap (λ l. l ++ later) (asked_more node s.events place x at) ∙ append_assoc came (option_to_list (asked_by node x)) later
      ∙ ap (λ o. came ++ (option_to_list o ++ later)) stopped.asked in
      stopped.not_done later (subst (λ l. HasTaken s.topology (opening_home s.topology node) l seat) asked_so taken)

  -- at the end it did all that was asked exactly if it did nothing else
  pub end_tells : length s.events ≤ place → (b : Bool) → (b ≡ true) ↔ HasTaken s.topology (opening_home s.topology node) came seat → (b ≡ true) ↔ DidAsked s node seat
  end_tells le b tells = subst (λ l. (b ≡ true) ↔ HasTaken s.topology (opening_home s.topology node) l seat) (asked_end node s.events place came le refl) tells

-- ## One event of its own more

module _ (top : TopologyValue) (first : ℕ) (s : SeatValue) (c d : Course) (done : List ActorEvent) (come : HasCome top first s c done) (journal : List ActorEvent)
    (same : journal ≡ s.journal) (place : ℕ) (passed : own_events (take place journal) ≡ own_events (take c.events journal)) where
  passed_here : own_events (take place s.journal) ≡ own_events (take c.events s.journal)
  passed_here = subst (λ j. own_events (take place j) ≡ own_events (take c.events j)) same passed

  -- what it did next of its own was asked
  pub own_came : (x : ActorEvent) (o : Option ActorEvent) → o ≡ slice_get journal place → fault_of top c.home x ≡ None → IsOwn x → ((true ≡ true) ↔ (o ≡ Some x))
      → d.events ≡ place + 1 → d.refusals ≡ c.refusals → d.accepted ≡ c.accepted + submissions (x ∷ []) → d.home ≡ home_if None c.home x → HasCome top first s d (done ++ x ∷ [])
  own_came x o at none own tells events refusals accepted home =
      came_by_own top first s c d done x place come none own passed_here (ap (λ j. slice_get j place) (sym same) ∙ sym at ∙ tells.0 refl) events refusals accepted home

  -- it wasn't
  pub own_differs : (x : ActorEvent) (o : Option ActorEvent) → o ≡ slice_get journal place → fault_of top c.home x ≡ None
      → ((y : ActorEvent) → slice_get journal place ≡ Some y → IsOwn y) → ((false ≡ true) ↔ (o ≡ Some x)) → DidNotDo top first s done x
  own_differs x o at none own tells =
      own_stopped top first s c done come place x none passed_here (subst (λ j. (y : ActorEvent) → slice_get j place ≡ Some y → IsOwn y) same own)
      (λ is. let no = tells.1 (at ∙ ap (λ j. slice_get j place) same ∙ is) in absurd (cc))

  module _ (own : (y : ActorEvent) → slice_get journal place ≡ Some y → IsOwn y) (within : c.refusals ≤ length s.refusals) where
    own_at_place : (y : ActorEvent) → slice_get s.journal place ≡ Some y → IsOwn y
    own_at_place = subst (λ j. (y : ActorEvent) → slice_get j place ≡ Some y → IsOwn y) same own

    pub one_event_left : place < length journal → HasTaken top first done s → ⊥
    one_event_left lt = event_left top first s c done come place passed_here own_at_place within (subst (λ (l : List ActorEvent). place < length l) same lt)

    pub one_refusal_left : c.refusals < length s.refusals → HasTaken top first done s → ⊥
    one_refusal_left = refusal_left top first s c done come place passed_here own_at_place within

    pub nothing_left : place ≤ length journal → length journal ≤ place → length s.refusals ≤ c.refusals → HasTaken top first done s
    nothing_left le past =
        none_left top first s c done come place passed_here own_at_place within (subst (λ (l : List ActorEvent). place ≤ length l) same le)
        (subst (λ (l : List ActorEvent). length l ≤ place) same past)
