-- What the calls of a site keep, and what they make of its value.
use Rattle.std.proofs.Common.{◌≡◌, ◌∙◌, ℕ, Bool, true, false, List, [], ◌∷◌, ◌++◌, slice_get, Option, Some, None, Result, Ok, Err, inl, inr, ◌<◌, refl, sym, ap, subst, length, drop, arith}
use Rattle.std.specs.Prelude.{◌==◌, nat_lt, filter, OnOk, Contains}
use Rattle.std.proofs.lemmas.Bool.{ltb-true, and_parts}
use Rattle.std.proofs.lemmas.Option.{slice_get_cases}
use Rattle.std.specs.Result.{is_err}
use Rattle.std.proofs.lemmas.List.{append-nil}
use Rattle.std.proofs.lemmas.List.Elements.{Contains-append_right}
use Rattle.store.proofs.lists.Lists.{none_in_empty, contains_first}
use Rattle.messages.specs.declared.envelope.Envelope.{Envelope}
use Rattle.messages.specs.declared.outcome.Outcome.{Outcome}
use Rattle.messages.specs.Topology.{TopologyValue, is_topology, node_count}
use Rattle.actors.specs.CameFrom.{CameFrom}
use Rattle.actors.specs.declared.member.Member.{Member}
use Rattle.site.specs.Story.{Story, Happening, Heard, Given, site_of, is_here, is_near, is_far, may_come, arrivals, handled, departures, given}
use Rattle.site.specs.Sites.{SiteValue, IsStory, IsMoment}
use Rattle.site.specs.Keeping.{AreOf, AreSound, Keeps, AreNew}
use Rattle.site.specs.Turns.{goes_on}
use Rattle.site.proofs.Stories.{heard_keeps, given_keeps, story_grows, sound_same, moment, all_may, arrived_near}

-- ## Values

-- the site of this topology and data centre
abbrev pub site : TopologyValue → ℕ → Bool → Story → SiteValue
site top dc sound s = record { top = top; dc = dc; sound = sound; story = s }

pub value : (top2 top : TopologyValue) (dc2 dc : ℕ) (sound : Bool) (s : Story) (now : SiteValue) → top2 ≡ top → dc2 ≡ dc → site top dc sound s ≡ now → site top2 dc2 sound s ≡ now
value top2 top dc2 dc sound s now a b is = ap (λ t. site t dc2 sound s) a ∙ ap (λ d. site top d sound s) b ∙ is

pub value_goes : (top : TopologyValue) (dc : ℕ) (sound : Bool) (s s2 : Story) (h : Happening) (now : SiteValue) → site top dc sound s ≡ now → s2 ≡ s ++ h ∷ [] → site top dc sound s2 ≡ goes_on now h
value_goes top dc sound s s2 h now is told = ap (λ z. site top dc sound z) told ∙ ap (λ v. goes_on v h) is

-- where taking the first leaves all, there is none
pub none_there : {X : Type 0} (xs ys : List X) → xs ≡ ys → ys ≡ drop 1 xs → xs ≡ []
none_there [] ys a b = refl
none_there (x ∷ xs) ys a b = absurd (let same : length (x ∷ xs) ≡ length xs = ap length (a ∙ b) in omega (arith, same))

-- what wasn't refused
pub ok_of : {T F : Type 0} {P : Type 0} (r : Result T F) → is_err r ≡ false → OnOk r P → P
ok_of (Ok x) e p = p
ok_of (Err f) e p = absurd (cc)

module _ {M : Type 0} (came_from : CameFrom M) (untaken : M → Option (ℕ × Outcome)) where
  -- ## What stays

  -- what the last event sent was sorted
  pub keeps_sorted : (top top2 : TopologyValue) (dc dc2 : ℕ) (sound : Bool) (s : Story) (members members2 : List (Option (Member M))) (inbox outgoing fresh inbox2 outgoing2 fresh2 : List Envelope)
      → top2 ≡ top → dc2 ≡ dc → members2 ≡ members → Keeps came_from untaken top dc sound s members inbox outgoing fresh
      → ((z : Story) → AreOf came_from untaken top dc z members inbox outgoing fresh → AreOf came_from untaken top2 dc2 z members2 inbox2 outgoing2 fresh2)
      → Keeps came_from untaken top2 dc2 sound s members2 inbox2 outgoing2 fresh2
  keeps_sorted top top2 dc dc2 sound s members members2 inbox outgoing fresh inbox2 outgoing2 fresh2 a b c k sorted = record {
    story = rw (a, b) k.story;
    now = sorted s k.now;
    sounds = λ is. rw c (k.sounds is);
  }

  pub keeps_heard : (top : TopologyValue) (dc : ℕ) (sound : Bool) (s s2 : Story) (members : List (Option (Member M))) (inbox outgoing fresh inbox2 : List Envelope) (from : ℕ) (e : Envelope)
      → fresh ≡ [] → inbox2 ≡ inbox ++ e ∷ [] → s2 ≡ s ++ Heard from e ∷ [] → may_come top dc from e ≡ true
      → Keeps came_from untaken top dc sound s members inbox outgoing fresh → Keeps came_from untaken top dc sound s2 members inbox2 outgoing fresh
  keeps_heard top dc sound s s2 members inbox outgoing fresh inbox2 from e none more told may k = rw (told, more, none) (record {
    story = story_grows came_from untaken top dc s (Heard from e) members (inbox ++ e ∷ []) outgoing [] may now k.story;
    now = now;
    sounds = λ is. sound_same s (Heard from e) members (λ n. refl) (k.sounds is);
  })
    where
      now : AreOf came_from untaken top dc (s ++ Heard from e ∷ []) members (inbox ++ e ∷ []) outgoing []
      now = heard_keeps came_from untaken top dc s members inbox outgoing from e (subst (λ l. AreOf came_from untaken top dc s members inbox outgoing l) none k.now)

  pub keeps_given : (top : TopologyValue) (dc : ℕ) (sound : Bool) (s s2 : Story) (members : List (Option (Member M))) (inbox outgoing fresh rest : List Envelope) (e : Envelope)
      → fresh ≡ [] → outgoing ≡ e ∷ rest → s2 ≡ s ++ Given e ∷ []
      → Keeps came_from untaken top dc sound s members inbox outgoing fresh → Keeps came_from untaken top dc sound s2 members inbox rest fresh
  keeps_given top dc sound s s2 members inbox outgoing fresh rest e none first told k = rw (told, none) (record {
    story = story_grows came_from untaken top dc s (Given e) members inbox rest [] tt now k.story;
    now = now;
    sounds = λ is. sound_same s (Given e) members (λ n. refl) (k.sounds is);
  })
    where
      now : AreOf came_from untaken top dc (s ++ Given e ∷ []) members inbox rest []
      now = given_keeps came_from untaken top dc s members inbox rest e (subst (λ l. AreOf came_from untaken top dc s members inbox l []) first (subst (λ l. AreOf came_from untaken top dc s members inbox outgoing l) none k.now))

  -- an actor did an event
  pub keeps_event : (top top2 : TopologyValue) (dc dc2 : ℕ) (sound sound2 : Bool) (s s2 : Story) (members members2 : List (Option (Member M))) (inbox outgoing fresh inbox2 outgoing2 fresh2 : List Envelope)
      → top2 ≡ top → dc2 ≡ dc → sound ≡ true → Keeps came_from untaken top dc sound s members inbox outgoing fresh
      → (IsStory came_from untaken top dc s → IsStory came_from untaken top dc s2) → AreOf came_from untaken top2 dc2 s2 members2 inbox2 outgoing2 fresh2
      → (sound2 ≡ true → AreSound s members → AreSound s2 members2)
      → Keeps came_from untaken top2 dc2 sound2 s2 members2 inbox2 outgoing2 fresh2
  keeps_event top top2 dc dc2 sound sound2 s s2 members members2 inbox outgoing fresh inbox2 outgoing2 fresh2 a b was k grows now sounds = record {
    story = rw (a, b) (grows k.story);
    now = now;
    sounds = λ is. sounds is (k.sounds was);
  }

  -- or refused it
  pub keeps_refused : (top top2 : TopologyValue) (dc dc2 : ℕ) (sound : Bool) (s s2 : Story) (members members2 : List (Option (Member M))) (inbox outgoing fresh inbox2 outgoing2 fresh2 : List Envelope)
      → top2 ≡ top → dc2 ≡ dc → s2 ≡ s → Keeps came_from untaken top dc sound s members inbox outgoing fresh
      → AreOf came_from untaken top2 dc2 s2 members2 inbox2 outgoing2 fresh2 → (AreSound s members → AreSound s2 members2)
      → Keeps came_from untaken top2 dc2 sound s2 members2 inbox2 outgoing2 fresh2
  keeps_refused top top2 dc dc2 sound s s2 members members2 inbox outgoing fresh inbox2 outgoing2 fresh2 a b c k now sounds = record {
    story = rw (a, b, c) k.story;
    now = now;
    sounds = λ is. sounds (k.sounds is);
  }

  -- ## What comes first

  pub gives_first : (top : TopologyValue) (dc : ℕ) (s : Story) (members : List (Option (Member M))) (inbox outgoing fresh rest : List Envelope) (e : Envelope) → fresh ≡ [] → outgoing ≡ e ∷ rest
      → AreOf came_from untaken top dc s members inbox outgoing fresh → departures top dc s ≡ given s ++ e ∷ rest
  gives_first top dc s members inbox outgoing fresh rest e none first are =
      sym are.goes ∙ ap (λ l. given s ++ (outgoing ++ filter (is_far top dc) l)) none ∙ ap (λ l. given s ++ l) (append-nil outgoing) ∙ ap (λ l. given s ++ l) first

  pub gave_all : (top : TopologyValue) (dc : ℕ) (s : Story) (members : List (Option (Member M))) (inbox outgoing fresh : List Envelope) → fresh ≡ [] → outgoing ≡ []
      → AreOf came_from untaken top dc s members inbox outgoing fresh → given s ≡ departures top dc s
  gave_all top dc s members inbox outgoing fresh none empty are =
      sym (append-nil (given s)) ∙ ap (λ l. given s ++ l) (sym empty) ∙ ap (λ l. given s ++ l) (sym (append-nil outgoing)) ∙ ap (λ l. given s ++ (outgoing ++ filter (is_far top dc) l)) (sym none) ∙ are.goes

  pub waits_first : (top : TopologyValue) (dc : ℕ) (s : Story) (members : List (Option (Member M))) (inbox outgoing fresh rest : List Envelope) (e : Envelope) → fresh ≡ [] → inbox ≡ e ∷ rest
      → AreOf came_from untaken top dc s members inbox outgoing fresh → arrivals top dc s ≡ handled s ++ e ∷ rest
  waits_first top dc s members inbox outgoing fresh rest e none first are =
      sym are.waits ∙ ap (λ l. handled s ++ (inbox ++ filter (is_near top dc) l)) none ∙ ap (λ l. handled s ++ l) (append-nil inbox) ∙ ap (λ l. handled s ++ l) first

  pub handled_all : (top : TopologyValue) (dc : ℕ) (s : Story) (members : List (Option (Member M))) (inbox outgoing fresh : List Envelope) → fresh ≡ [] → inbox ≡ []
      → AreOf came_from untaken top dc s members inbox outgoing fresh → handled s ≡ arrivals top dc s
  handled_all top dc s members inbox outgoing fresh none empty are =
      sym (append-nil (handled s)) ∙ ap (λ l. handled s ++ l) (sym empty) ∙ ap (λ l. handled s ++ l) (sym (append-nil inbox)) ∙ ap (λ l. handled s ++ (inbox ++ filter (is_near top dc) l)) (sym none) ∙ are.waits

  -- what waits is for an actor here
  pub first_near : (top : TopologyValue) (dc : ℕ) (sound : Bool) (s : Story) (members : List (Option (Member M))) (inbox outgoing fresh rest : List Envelope) (e : Envelope) → fresh ≡ [] → inbox ≡ e ∷ rest
      → Keeps came_from untaken top dc sound s members inbox outgoing fresh → is_here top dc e.to ≡ true
  first_near top dc sound s members inbox outgoing fresh rest e none first k =
      arrived_near top dc s e (all_may came_from untaken top dc s k.story)
      (subst (λ l. Contains l e) (sym (waits_first top dc s members inbox outgoing fresh rest e none first k.now)) (Contains-append_right (handled s) (e ∷ rest) e (contains_first e rest)))

  -- ## The beginning

  pub keeps_new : (top : TopologyValue) (dc : ℕ) (members : List (Option (Member M))) (inbox outgoing fresh : List Envelope) → is_topology top.dcs top.shards top.homes ≡ true → dc < top.dcs
      → inbox ≡ [] → outgoing ≡ [] → fresh ≡ [] → AreNew came_from untaken top dc (node_count top) members → Keeps came_from untaken top dc true [] members inbox outgoing fresh
  keeps_new top dc members inbox outgoing fresh is there none_in none_out none are = rw (none_in, none_out, none) (record {
    story = record {
      topology = is;
      there = there;
      moments = λ before begun. subst (λ z. IsMoment came_from untaken top dc z) (sym (empty_only before begun.0 begun.1)) (moment came_from untaken top dc [] members [] [] [] (λ h has. absurd (none_in_empty h has)) now);
    };
    now = now;
    sounds = λ sound node m at. ((are.each node (Some m) at).2, refl);
  })
    where
      empty_only : (b more : Story) → [] ≡ b ++ more → b ≡ []
      empty_only [] more e = refl
      empty_only (h ∷ b) more e = absurd (cc)

      now : AreOf came_from untaken top dc [] members [] [] []
      now = record {
        waits = refl;
        goes = refl;
        each = λ node m at. let n = are.each node (Some m) at in (n.0, n.1);
        all = λ node here. found node here;
      }
        where
          found : (node : ℕ) → is_here top dc node ≡ true → (m : Member M) × (slice_get members node ≡ Some (Some m))
          found node here = look (slice_get members node) refl
            where
              beyond : slice_get members node ≡ None → ⊥
              beyond at = elim (slice_get_cases members node).1 [
                | inl p ↦ absurd (let both : None ≡ Some p.0 = sym at ∙ p.2 in cc)
                | inr q ↦ (let lt : node < node_count top = ltb-true node (node_count top) (and_parts (nat_lt node (node_count top)) (site_of top node == dc) here).0 in let count = are.all in let past = q.0 in omega (arith, lt, count, past))
              ]

              look : (o : Option (Option (Member M))) → slice_get members node ≡ o → (m : Member M) × (slice_get members node ≡ Some (Some m))
              look (Some (Some m)) at = (m, at)
              look (Some None) at = absurd (are.each node None at here)
              look None at = absurd (beyond at)
