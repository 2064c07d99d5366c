-- What was asked, and how far an actor came with it, one event more at a time.
use Rattle.std.proofs.Common.{◌≡◌, ◌∙◌, ℕ, zero, suc, ◌+◌, ◌<◌, ◌≤◌, Bool, true, false, cond, List, [], ◌∷◌, ◌++◌, length, take, slice_get, Option, Some, None, inl, inr, refl, sym, ap, subst, arith}
use Rattle.std.specs.Prelude.{◌==◌, All, filter_map, option_map, option_to_list, get_or, slice_index_or, Contains}
use Rattle.std.proofs.lemmas.Option.{slice_get_within, slice_get-get_or}
use Rattle.std.specs.Option.{is_none}
use Rattle.std.proofs.lemmas.List.{append-nil, append_assoc, length-append}
use Rattle.std.proofs.lemmas.List.Elements.{filter_map-append, filter-append}
use Rattle.logical_time.specs.declared.fault.Fault.{Fault}
use Rattle.messages.specs.declared.event.ActorEvent.{ActorEvent}
use Rattle.messages.specs.declared.event.ActorEvent.TheVariants as event
use Rattle.messages.specs.Topology.{TopologyValue}
use Rattle.messages.specs.Actors.{envelope_of}
use Rattle.actors.specs.Journals.{op_in, submissions, IsOwn}
use Rattle.actors.specs.Seats.{SeatValue}
use Rattle.workload.specs.declared.script.ScriptEvent.{ScriptEvent}
use Rattle.workload.specs.declared.script.ScriptEvent.TheVariants as script
use Rattle.world.proofs.lists.Members.{none_in_empty, contains_one, Contains-append_cases, contains_get}
use Rattle.world.proofs.lists.Replacing.{item_at}
use Rattle.threaded.proofs.Lists.{take_one_more}
use Rattle.running.specs.declared.course.Course.{Course}
use Rattle.running.specs.Asked.{asked_by, asked_in, fault_of, home_if, home_next, home_through, accepted_one, accepted_of, refusals_from, own_events}
use Rattle.running.specs.Course.{HasCome}

module _ (top : TopologyValue) where
  pub accepted_append : (home : ℕ) (xs ys : List ActorEvent) → accepted_of top home (xs ++ ys) ≡ accepted_of top home xs ++ accepted_of top (home_through top home xs) ys
  accepted_append home [] ys = refl
  accepted_append home (x ∷ xs) ys =
      let next = home_next top home x in
      ap (λ l. accepted_one top home x ++ l) (accepted_append next xs ys)
      ∙ sym (append_assoc (accepted_one top home x) (accepted_of top next xs) (accepted_of top (home_through top next xs) ys))

  -- the home after one more
  home_more : (home : ℕ) (xs : List ActorEvent) (x : ActorEvent) → home_through top home (xs ++ x ∷ []) ≡ home_next top (home_through top home xs) x
  home_more home [] x = refl
  home_more home (y ∷ xs) x = home_more (home_next top home y) xs x

  pub one_accepted : (home : ℕ) (x : ActorEvent) → fault_of top home x ≡ None → accepted_one top home x ≡ x ∷ []
  one_accepted home x none = ap (λ (o : Option Fault). cond (is_none o) (x ∷ []) []) none

  one_refused : (home : ℕ) (x : ActorEvent) (f : Fault) → fault_of top home x ≡ Some f → accepted_one top home x ≡ []
  one_refused home x f some = ap (λ (o : Option Fault). cond (is_none o) (x ∷ []) []) some

  pub submissions_append : (xs ys : List ActorEvent) → submissions (xs ++ ys) ≡ submissions xs + submissions ys
  submissions_append xs ys = ap (λ (l : List _). length l) (filter_map-append op_in xs ys) ∙ length-append (filter_map op_in xs) (filter_map op_in ys)

  abbrev pub refusal_at : ℕ → ℕ → ActorEvent → List (ℕ × Fault)
  refusal_at home count x = option_to_list (option_map (λ (f : Fault). (count, f)) (fault_of top home x))

  -- how many are accepted until later
  pub counted_on : (home count : ℕ) (x : ActorEvent) (xs : List ActorEvent)
      → (count + submissions (accepted_one top home x)) + submissions (accepted_of top (home_next top home x) xs) ≡ count + submissions (accepted_of top home (x ∷ xs))
  counted_on home count x xs =
      let all : submissions (accepted_of top home (x ∷ xs)) ≡ submissions (accepted_one top home x) + submissions (accepted_of top (home_next top home x) xs) =
      submissions_append (accepted_one top home x) (accepted_of top (home_next top home x) xs) in
      omega (arith, all)

  -- the refusals of some, and then of others
  pub refusals_append : (home count : ℕ) (xs ys : List ActorEvent)
      → refusals_from top home count (xs ++ ys) ≡ refusals_from top home count xs ++ refusals_from top (home_through top home xs) (count + submissions (accepted_of top home xs)) ys
  refusals_append home count [] ys = ap (λ n. refusals_from top home n ys) (omega arith)
  refusals_append home count (x ∷ xs) ys =
      let next = home_next top home x in
      let after : ℕ = count + submissions (accepted_one top home x) in
      let later = home_through top next xs in
      let here = refusal_at home count x in
      ap (λ l. here ++ l) (refusals_append next after xs ys)
      ∙ sym (append_assoc here (refusals_from top next after xs) (refusals_from top later (after + submissions (accepted_of top next xs)) ys))
      ∙ ap (λ n. (here ++ refusals_from top next after xs) ++ refusals_from top later n ys) (counted_on home count x xs)

  refusals_more : (home : ℕ) (xs : List ActorEvent) (x : ActorEvent)
      → refusals_from top home 0 (xs ++ x ∷ []) ≡ refusals_from top home 0 xs ++ refusal_at (home_through top home xs) (submissions (accepted_of top home xs)) x
  refusals_more home xs x =
      refusals_append home 0 xs (x ∷ [])
      ∙ ap (λ n. refusals_from top home 0 xs ++ refusals_from top (home_through top home xs) n (x ∷ [])) (omega arith)
      ∙ ap (λ l. refusals_from top home 0 xs ++ l) (append-nil (refusal_at (home_through top home xs) (submissions (accepted_of top home xs)) x))

  -- ## One event more

  module _ (home : ℕ) (xs : List ActorEvent) (x : ActorEvent) where
    -- the home when it is reached
    abbrev home_then : ℕ
    home_then = home_through top home xs

    -- one that was accepted
    accepted_more : fault_of top home_then x ≡ None → accepted_of top home (xs ++ x ∷ []) ≡ accepted_of top home xs ++ x ∷ []
    accepted_more none = accepted_append home xs (x ∷ []) ∙ ap (λ l. accepted_of top home xs ++ (l ++ [])) (one_accepted home_then x none)

    no_refusal_more : fault_of top home_then x ≡ None → refusals_from top home 0 (xs ++ x ∷ []) ≡ refusals_from top home 0 xs
    no_refusal_more none =
        refusals_more home xs x
        ∙ ap (λ (o : Option Fault). refusals_from top home 0 xs ++ option_to_list (option_map (λ (f : Fault). (submissions (accepted_of top home xs), f)) o)) none
        ∙ append-nil (refusals_from top home 0 xs)

    home_moved : fault_of top home_then x ≡ None → home_through top home (xs ++ x ∷ []) ≡ home_if None home_then x
    home_moved none = home_more home xs x ∙ ap (λ (o : Option Fault). home_if o home_then x) none

    -- one that was refused
    accepted_same : (f : Fault) → fault_of top home_then x ≡ Some f → accepted_of top home (xs ++ x ∷ []) ≡ accepted_of top home xs
    accepted_same f some =
        accepted_append home xs (x ∷ []) ∙ ap (λ l. accepted_of top home xs ++ (l ++ [])) (one_refused home_then x f some) ∙ append-nil (accepted_of top home xs)

    refusal_more : (f : Fault) → fault_of top home_then x ≡ Some f
        → refusals_from top home 0 (xs ++ x ∷ []) ≡ refusals_from top home 0 xs ++ (submissions (accepted_of top home xs), f) ∷ []
    refusal_more f some =
        refusals_more home xs x
        ∙ ap (λ (o : Option Fault). refusals_from top home 0 xs ++ option_to_list (option_map (λ (f : Fault). (submissions (accepted_of top home xs), f)) o)) some

    home_stays : (f : Fault) → fault_of top home_then x ≡ Some f → home_through top home (xs ++ x ∷ []) ≡ home_then
    home_stays f some = home_more home xs x ∙ ap (λ (o : Option Fault). home_if o home_then x) some

  -- ## How far it came

  -- what the actor did next of its own is what is asked next
  pub came_by_own : (first : ℕ) (s : SeatValue) (c d : Course) (done : List ActorEvent) (x : ActorEvent) (place : ℕ) → HasCome top first s c done → fault_of top c.home x ≡ None → IsOwn x
      → own_events (take place s.journal) ≡ own_events (take c.events s.journal) → slice_get s.journal place ≡ Some x
      → d.events ≡ place + 1 → d.refusals ≡ c.refusals → d.accepted ≡ c.accepted + submissions (x ∷ []) → d.home ≡ home_if None c.home x → HasCome top first s d (done ++ x ∷ [])
  came_by_own first s c d done x place come now own passed at events refusals accepted home =
      let none : fault_of top (home_through top first done) x ≡ None = ap (λ h. fault_of top h x) (sym come.home) ∙ now in
      let next : place + 1 ≡ suc place = omega arith in
      let one : own_events (x ∷ []) ≡ x ∷ [] = ap (λ (o : Option _). cond (is_none o) (x ∷ []) []) own in
      record {
        own =
            ap (λ n. own_events (take n s.journal)) (events ∙ next) ∙ ap own_events (take_one_more s.journal place x at)
            ∙ filter-append (λ y. is_none (envelope_of y)) (take place s.journal) (x ∷ []) ∙ ap (λ l. own_events (take place s.journal) ++ l) one
            ∙ ap (λ l. l ++ x ∷ []) (passed ∙ come.own) ∙ sym (accepted_more first done x none);
        refused = ap (λ n. take n s.refusals) refusals ∙ come.refused ∙ sym (no_refusal_more first done x none);
        counted =
            accepted ∙ ap (λ n. n + submissions (x ∷ [])) come.counted ∙ sym (submissions_append (accepted_of top first done) (x ∷ []))
            ∙ ap submissions (sym (accepted_more first done x none));
        home = home ∙ ap (λ h. home_if None h x) come.home ∙ sym (home_moved first done x none);
      }

  -- what is asked next was refused
  pub came_by_refusal : (first : ℕ) (s : SeatValue) (c d : Course) (done : List ActorEvent) (x : ActorEvent) (r : ℕ × Fault) → HasCome top first s c done → fault_of top c.home x ≡ Some r.1
      → r.0 ≡ c.accepted → slice_get s.refusals c.refusals ≡ Some r
      → d.events ≡ c.events → d.refusals ≡ c.refusals + 1 → d.accepted ≡ c.accepted → d.home ≡ c.home → HasCome top first s d (done ++ x ∷ [])
  came_by_refusal first s c d done x r come now count at events refusals accepted home =
      let some : fault_of top (home_through top first done) x ≡ Some r.1 = ap (λ h. fault_of top h x) (sym come.home) ∙ now in
      let next : c.refusals + 1 ≡ suc c.refusals = omega arith in
      let same : r ≡ (submissions (accepted_of top first done), r.1) = ap (λ n. (n, r.1)) (count ∙ come.counted) in
      record {
        own = ap (λ n. own_events (take n s.journal)) events ∙ come.own ∙ sym (accepted_same first done x r.1 some);
        refused =
            ap (λ n. take n s.refusals) (refusals ∙ next) ∙ take_one_more s.refusals c.refusals r at ∙ ap (λ l. l ++ r ∷ []) come.refused
            ∙ ap (λ z. refusals_from top first 0 done ++ z ∷ []) same ∙ sym (refusal_more first done x r.1 some);
        counted = accepted ∙ come.counted ∙ ap submissions (sym (accepted_same first done x r.1 some));
        home = home ∙ come.home ∙ sym (home_stays first done x r.1 some);
      }

  -- nothing was done, and nothing asked
  pub come_first : (first : ℕ) (s : SeatValue) (c : Course) → c.events ≡ 0 → c.refusals ≡ 0 → c.accepted ≡ 0 → c.home ≡ first → HasCome top first s c []
  come_first first s c events refusals accepted home =
      record { own = ap (λ n. own_events (take n s.journal)) events; refused = ap (λ n. take n s.refusals) refusals; counted = accepted; home = home }

-- ## Places

module _ {X : Type 0} (xs : List X) (k : ℕ) where
  pub found_there : (x : X) → k < length xs → x ≡ slice_index_or xs k x → Some x ≡ slice_get xs k
  found_there x lt at = sym (item_at xs k x lt at)

  pub nothing_there : length xs ≤ k → None ≡ slice_get xs k
  nothing_there le = by (slice_get xs k) refl
    where
      by : (o : Option X) → slice_get xs k ≡ o → None ≡ o
      by None at = refl
      by (Some x) at = let lt = slice_get_within xs k x at in absurd (omega (arith, lt, le))

-- ## What is asked

asked_one : (node : ℕ) (x : ScriptEvent) → asked_in node (x ∷ []) ≡ option_to_list (asked_by node x)
asked_one node x = by (asked_by node x)
  where
    by : (o : Option ActorEvent) → filter_map (λ (y : ScriptEvent). o) (x ∷ []) ≡ option_to_list o
    by None = refl
    by (Some y) = refl

pub asked_more : (node : ℕ) (events : List ScriptEvent) (place : ℕ) (x : ScriptEvent) → slice_get events place ≡ Some x
    → asked_in node (take (place + 1) events) ≡ asked_in node (take place events) ++ option_to_list (asked_by node x)
asked_more node events place x at =
    let next : place + 1 ≡ suc place = omega arith in
    ap (λ n. asked_in node (take n events)) next ∙ ap (asked_in node) (take_one_more events place x at)
    ∙ filter_map-append (asked_by node) (take place events) (x ∷ []) ∙ ap (λ l. asked_in node (take place events) ++ l) (asked_one node x)

-- what the next event asks is added
pub asked_next : (node : ℕ) (events : List ScriptEvent) (place : ℕ) (x : ScriptEvent) (old now : List ActorEvent) → place < length events → x ≡ slice_index_or events place x
    → old ≡ asked_in node (take place events) → now ≡ old ++ option_to_list (asked_by node x) → now ≡ asked_in node (take (place + 1) events)
asked_next node events place x old now lt at so_far more =
    more ∙ ap (λ l. l ++ option_to_list (asked_by node x)) so_far ∙ sym (asked_more node events place x (item_at events place x lt at))

pub asked_end : (node : ℕ) (events : List ScriptEvent) (place : ℕ) (list : List ActorEvent) → length events ≤ place → list ≡ asked_in node (take place events)
    → list ≡ asked_in node events
asked_end node events place list le is = is ∙ ap (asked_in node) (take_past events place le)
  where
    take_past : (xs : List ScriptEvent) (n : ℕ) → length xs ≤ n → take n xs ≡ xs
    take_past [] zero q = refl
    take_past [] (suc n) q = refl
    take_past (x ∷ xs) zero q = absurd (omega arith)
    take_past (x ∷ xs) (suc n) q = ap (λ l. x ∷ l) (take_past xs n (omega arith))

-- no message brings what is asked
pub asked_own : (node : ℕ) (events : List ScriptEvent) → All IsOwn (asked_in node events)
asked_own node events = all_at (asked_in node events) (each events)
  where
    all_at : (xs : List ActorEvent) → ((x : ActorEvent) → Contains xs x → IsOwn x) → All IsOwn xs
    all_at xs own k d lt = own (get_or xs k d) (contains_get xs k (get_or xs k d) (slice_get-get_or xs k d lt))

    one : (x : ScriptEvent) (y : ActorEvent) → Contains (option_to_list (asked_by node x)) y → IsOwn y
    one (script.Submit session o) y m = by (session == node) m
      where
        by : (b : Bool) → Contains (option_to_list (cond b (Some (event.Submit o)) None)) y → IsOwn y
        by true n = ap envelope_of (contains_one _ y n)
        by false n = absurd (none_in_empty y n)
    one (script.Deliver number) y m = absurd (none_in_empty y m)
    one (script.Collect shard time) y m = by (shard == node) m
      where
        by : (b : Bool) → Contains (option_to_list (cond b (Some (event.Collect time)) None)) y → IsOwn y
        by true n = ap envelope_of (contains_one _ y n)
        by false n = absurd (none_in_empty y n)
    one script.Drain y m = absurd (none_in_empty y m)

    each : (xs : List ScriptEvent) (y : ActorEvent) → Contains (asked_in node xs) y → IsOwn y
    each [] y m = absurd (none_in_empty y m)
    each (x ∷ xs) y m =
        elim (Contains-append_cases (option_to_list (asked_by node x)) (asked_in node xs) y (subst (λ l. Contains l y) (filter_map-append (asked_by node) (x ∷ []) xs ∙ ap (λ l. l ++ asked_in node xs) (asked_one node x)) m)) [
          | inl here ↦ one x y here
          | inr later ↦ each xs y later
        ]
