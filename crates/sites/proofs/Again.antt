-- Sites that came back by the same steps go on from where they were.
use Rattle.std.proofs.Common.{◌≡◌, ◌∙◌, ℕ, zero, suc, ◌<◌, true, List, [], ◌∷◌, ◌++◌, drop, length, slice_get, Option, Some, None, ◌⊎◌, inl, inr, refl, sym, ap, subst}
use Rattle.std.specs.Prelude.{filter_map, flat_map, Contains}
use Rattle.std.specs.List.{cons_option}
use Rattle.std.proofs.lemmas.List.{append-nil, append_assoc}
use Rattle.std.proofs.lemmas.List.Elements.{filter_map-append, Contains-append_left, Contains-append_cases}
use Rattle.std.proofs.lemmas.List.Concat.{flat_map-append}
use Rattle.messages.specs.declared.envelope.Envelope.{Envelope}
use Rattle.messages.specs.declared.op.Op.{Op}
use Rattle.messages.specs.declared.event.ActorEvent.{ActorEvent}
use Rattle.messages.specs.Topology.{TopologyValue, is_topology}
use Rattle.actors.specs.Journals.{op_in, IsBeginning}
use Rattle.world.specs.Journals.{DoFit}
use Rattle.world.proofs.envelopes.Addresses.{stands}
use Rattle.world.proofs.growing.Prefixes.{get_first}
use Rattle.world.proofs.replays.Merged.{are_a_run}
use Rattle.threaded.specs.Machines.{StaysApart}
use Rattle.threaded.proofs.Machines.{apart_before}
use Rattle.threaded.proofs.Stages.{runs_stay_apart}
use Rattle.site.specs.Story.{Story, Happening, Did, Heard, Given, site_of, event_of, end_of, journal, outcomes, heard, heard_by, departures, departures_by}
use Rattle.site.specs.Steps.{Step, step_by, Came, step_of, steps}
use Rattle.site.specs.Ends.{op_at, HasEnded}
use Rattle.sites.specs.Sites.{IsSiteStory, HasStory, DoLive, DoMeet, journals_of}
use Rattle.sites.specs.Again.{lived, lived_by, HasComeBack, StayApart, GoesOnFrom, HaveComeBack, heard_since, DoMeetSince}
use Rattle.sites.proofs.Senders.{here_is}
use Rattle.sites.proofs.Stories.{site_there, stories_fit}
use Rattle.sites.proofs.Meant.{has_story}
use Rattle.sites.proofs.Same.{given_by_lived, all_by_lived, same_step}

-- ## Step by step

-- what happens by a step was lived through, and what was given is neither
kind : (h : Happening) → ((st : Step) × (step_of h ≡ Some st) × (lived_by h ≡ Some h)) ⊎ ((step_of h ≡ None) × (lived_by h ≡ None))
kind (Did node x sends ended) = inl (step_by node x, refl, refl)
kind (Heard from e) = inl (Came from e, refl, refl)
kind (Given e) = inr (refl, refl)

-- where the next step is one, up to there nothing is lived through
record IsNextStep (s : Story) (st : Step) (rest : List Step) : Type 0 where
  pub gone : Story
  pub here : Happening
  pub left : Story
  pub whole : s ≡ gone ++ here ∷ left
  pub none : lived gone ≡ []
  pub its : step_of here ≡ Some st
  pub lives : lived_by here ≡ Some here
  pub steps_left : steps left ≡ rest

next_step : (s : Story) (st : Step) (rest : List Step) → steps s ≡ st ∷ rest → IsNextStep s st rest
next_step [] st rest q = absurd (cc)
next_step (h ∷ s) st rest q = elim (kind h) [
  | inl some ↦
      let both : some.0 ∷ steps s ≡ st ∷ rest = ap (λ o. cons_option o (steps s)) (sym some.1) ∙ q in
      let first : some.0 ≡ st = cc in
      let others : steps s ≡ rest = cc in
      record { gone = []; here = h; left = s; whole = refl; none = refl; its = some.1 ∙ ap Some first; lives = some.2; steps_left = others }
  | inr none ↦
      let n = next_step s st rest (ap (λ o. cons_option o (steps s)) (sym none.0) ∙ q) in
      record {
        gone = h ∷ n.gone;
        here = n.here;
        left = n.left;
        whole = ap (λ l. h ∷ l) n.whole;
        none = ap (λ o. cons_option o (lived n.gone)) none.1 ∙ n.none;
        its = n.its;
        lives = n.lives;
        steps_left = n.steps_left;
      }
]

lived_push : (s : Story) (h : Happening) (o : Option Happening) → lived_by h ≡ o → lived (s ++ h ∷ []) ≡ lived s ++ cons_option o []
lived_push s h o q = filter_map-append lived_by s (h ∷ []) ∙ ap (λ p. lived s ++ cons_option p []) q

-- in both stories the same happens by a step, where the same was lived through before
abbrev DoSame : Story → Story → Type 0
DoSame a b =
    (before since past left : Story) (h g : Happening) (st : Step) → a ≡ before ++ h ∷ since → b ≡ past ++ g ∷ left → lived before ≡ lived past
    → step_of h ≡ Some st → step_of g ≡ Some st → h ≡ g

-- so the story with more steps begins with what the other lived through
module _ (a b : Story) (next : DoSame a b) where
  goes_on : (before since past left : Story) → a ≡ before ++ since → b ≡ past ++ left → lived before ≡ lived past → IsBeginning (steps since) (steps left)
      → IsBeginning (lived since) (lived left)
  goes_on before [] past left mine their same more = (lived left, refl)
  goes_on before (h ∷ since) past left mine their same more = elim (kind h) [
    | inl some ↦
        let n = next_step left some.0 (steps since ++ more.0) (more.1 ∙ ap (λ o. cons_option o (steps since) ++ more.0) some.1) in
        let all : b ≡ (past ++ n.gone) ++ n.here ∷ n.left = their ∙ ap (λ l. past ++ l) n.whole ∙ sym (append_assoc past n.gone (n.here ∷ n.left)) in
        let up : lived before ≡ lived (past ++ n.gone) = same ∙ sym (filter_map-append lived_by past n.gone ∙ ap (λ l. lived past ++ l) n.none ∙ append-nil (lived past)) in
        let is : h ≡ n.here = next before since (past ++ n.gone) n.left h n.here some.0 mine all up some.1 n.its in
        let now : lived (before ++ h ∷ []) ≡ lived ((past ++ n.gone) ++ n.here ∷ []) =
        lived_push before h (Some h) some.2 ∙ ap (λ l. l ++ h ∷ []) up ∙ ap (λ z. lived (past ++ n.gone) ++ z ∷ []) is
        ∙ sym (lived_push (past ++ n.gone) n.here (Some n.here) n.lives) in
        let r = goes_on (before ++ h ∷ []) since ((past ++ n.gone) ++ n.here ∷ []) n.left (mine ∙ sym (append_assoc before (h ∷ []) since))
        (all ∙ sym (append_assoc (past ++ n.gone) (n.here ∷ []) n.left)) now (more.0, n.steps_left) in (
          r.0,
          ap lived n.whole ∙ filter_map-append lived_by n.gone (n.here ∷ n.left) ∙ ap (λ l. l ++ lived (n.here ∷ n.left)) n.none
              ∙ ap (λ o. cons_option o (lived n.left)) n.lives ∙ ap (λ z. z ∷ lived n.left) (sym is) ∙ ap (λ l. h ∷ l) r.1
              ∙ ap (λ o. cons_option o (lived since) ++ r.0) (sym some.2),
        )
    | inr none ↦
        let r = goes_on (before ++ h ∷ []) since past left (mine ∙ sym (append_assoc before (h ∷ []) since)) their
        (lived_push before h None none.1 ∙ append-nil (lived before) ∙ same) (more.0, more.1 ∙ ap (λ o. cons_option o (steps since) ++ more.0) none.0) in
        (r.0, r.1 ∙ ap (λ o. cons_option o (lived since) ++ r.0) (sym none.1))
  ]

-- ## One site

module _ (top : TopologyValue) (dc : ℕ) (s t : Story) (first : IsSiteStory top dc s) (second : IsSiteStory top dc t) (apart : StayApart top dc s) where
  they_do_same : DoSame s t
  they_do_same before since past left h g st mine their same p q =
      let whole : s ≡ (before ++ h ∷ []) ++ since = mine ∙ sym (append_assoc before (h ∷ []) since) in
      same_step top dc before past same (first.0.moments before (h ∷ since, mine)) h g st p q
      (first.0.moments (before ++ h ∷ []) (since, whole)) (second.0.moments (past ++ g ∷ []) (left, their ∙ sym (append_assoc past (g ∷ []) left)))
      (λ node here. apart_before top node (journal (before ++ h ∷ []) node) (journal since node)
      (subst (λ l. StaysApart top node l) (ap (λ l. journal l node) whole ∙ filter_map-append (event_of node) (before ++ h ∷ []) since) (apart node here)))

  pub lives_on : HasComeBack s t → IsBeginning (lived s) (lived t)
  lives_on back = goes_on s t they_do_same [] s [] t refl refl refl back

  -- so it is on the way there
  pub lived_so_far : HasComeBack t s → IsBeginning (lived t) (lived s)
  lived_so_far way =
      goes_on t s (λ before since past left h g st mine their same p q. sym (they_do_same past left before since g h st their mine (sym same) q p)) [] t [] s refl refl refl way

-- ## What that tells

module _ (s t : Story) (on : IsBeginning (lived s) (lived t)) where
  begins_by : {Y : Type 0} (f : Happening → Option Y) → ((e : Envelope) → f (Given e) ≡ None) → IsBeginning (filter_map f s) (filter_map f t)
  begins_by f none = (
    filter_map f on.0,
    given_by_lived f none t ∙ ap (filter_map f) on.1 ∙ filter_map-append f (lived s) on.0 ∙ ap (λ l. l ++ filter_map f on.0) (sym (given_by_lived f none s)),
  )

  all_begin_by : {Y : Type 0} (f : Happening → List Y) → ((e : Envelope) → f (Given e) ≡ []) → IsBeginning (flat_map f s) (flat_map f t)
  all_begin_by f none =
      (flat_map f on.0, all_by_lived f none t ∙ ap (flat_map f) on.1 ∙ flat_map-append f (lived s) on.0 ∙ ap (λ l. l ++ flat_map f on.0) (sym (all_by_lived f none s)))

  op_stays : (node number : ℕ) (o : Op) → op_at s node number ≡ Some o → op_at t node number ≡ Some o
  op_stays node zero o q = absurd (cc)
  op_stays node (suc n) o q =
      let j = begins_by (event_of node) (λ e. refl) in
      ap (λ l. slice_get l n) (ap (filter_map op_in) j.1 ∙ filter_map-append op_in (journal s node) j.0) ∙ get_first (filter_map op_in (journal s node)) (filter_map op_in j.0) n o q

  end_stays : (node number : ℕ) (o : Op) (result : _) → HasEnded s node number o result → HasEnded t node number o result
  end_stays node number o result e =
      let os = begins_by (end_of node) (λ z. refl) in
      record { submitted = op_stays node number o e.submitted; ended = subst (λ l. Contains l (number, result)) (sym os.1) (Contains-append_left (outcomes s node) os.0 (number, result) e.ended) }

  pub goes_on_from : (top : TopologyValue) (dc : ℕ) → GoesOnFrom top dc s t
  goes_on_from top dc = record { lives = on; hears = begins_by heard_by (λ e. refl); departs = all_begin_by (departures_by top dc) (λ e. refl); ends = end_stays }

-- ## Along a run

-- the journals of a site stay apart where some that fit have them
pub stay_apart : (top : TopologyValue) (dc : ℕ) (s : Story) (journals : ℕ → List ActorEvent) → is_topology top.dcs top.shards top.homes ≡ true → HasStory top dc s journals → DoFit top journals
    → StayApart top dc s
stay_apart top dc s journals ok has fit node here =
    let r = are_a_run top journals fit in
    subst (λ l. StaysApart top node l) (r.1.each node (here_is top dc node here).0 ∙ has node here) (runs_stay_apart top r.0 node (stands top ok).some)

-- ## All sites

module _ (top : TopologyValue) (before after : ℕ → Story) (ok : is_topology top.dcs top.shards top.homes ≡ true) (lived_then : DoLive top before) (met : DoMeet top before)
    (live : DoLive top after) (back : HaveComeBack top before after) where
  pub sites_go_on : (dc : ℕ) → dc < top.dcs → GoesOnFrom top dc (before dc) (after dc)
  sites_go_on dc below =
      goes_on_from (before dc) (after dc)
      (lives_on top dc (before dc) (after dc) (lived_then dc below) (live dc below)
      (stay_apart top dc (before dc) (journals_of top before) ok (has_story top before dc) (stories_fit top before ok lived_then met)) (back dc below)) top dc

  rest_of : (xs ys : List Envelope) → drop (length xs) (xs ++ ys) ≡ ys
  rest_of [] ys = refl
  rest_of (x ∷ xs) ys = rest_of xs ys

  pub sites_meet : DoMeetSince top before after → DoMeet top after
  sites_meet since dc e below has =
      let on = sites_go_on dc below in
      let from = site_of top e.from in
      elim (Contains-append_cases (heard (before dc)) on.hears.0 e (subst (λ l. Contains l e) on.hears.1 has)) [
        | inl old ↦
            let d = (sites_go_on from (site_there top ok e.from)).departs in
            subst (λ l. Contains l e) (sym d.1) (Contains-append_left (departures top from (before from)) d.0 e (met dc e below old))
        | inr new ↦
            let rest : heard_since (before dc) (after dc) ≡ on.hears.0 = ap (drop (length (heard (before dc)))) on.hears.1 ∙ rest_of (heard (before dc)) on.hears.0 in
            since dc e below (subst (λ l. Contains l e) (sym rest) new)
      ]
