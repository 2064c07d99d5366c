-- How the story of a site goes on by what its actors do, and what is kept of the ends in it.
use Rattle.std.proofs.Common.{◌≡◌, ℕ, ◌⊎◌, Bool, true, false, List, [], ◌∷◌, ◌++◌, length, slice_get, Option, Some, None, inl, inr, refl, sym, subst, eqb-true}
use Rattle.std.specs.Prelude.{◌&&◌, ◌==◌, All, get_or, Contains}
use Rattle.std.proofs.lemmas.List.Elements.{All-nil, All-cons, All-append}
use Rattle.logical_time.specs.declared.fault.Fault.{Fault}
use Rattle.logical_time.specs.declared.fault.Fault.TheVariants.{Memory}
use Rattle.messages.specs.declared.op.Op.{Op}
use Rattle.messages.specs.declared.outcome.Outcome.{Outcome}
use Rattle.messages.specs.declared.event.ActorEvent.{ActorEvent}
use Rattle.actors.specs.Machines.{Refuses}
use Rattle.site.specs.Story.{Story, Happening, Did, Heard, Given, outcomes}
use Rattle.site.specs.Sites.{SiteValue}
use Rattle.site.specs.Turns.{HasBroken, IsRefused, IsTurnRefused}
use Rattle.site.specs.Ends.{op_at}
use Rattle.site_port.specs.declared.waiting.Late.{Late}
use Rattle.site_port.specs.declared.waiting.Waiting.{Waiting}
use Rattle.site_port.specs.Ends.{ends_in, IsHandling, GoesOnWith, AreTold, HasTurns, HasStopped}
use Rattle.site_port.specs.Port.{sessions_of, IsDoing, AreEnds, Holds}
use Rattle.site_port.proofs.Lists.{get_mid, all_at, all_first}
use Rattle.site_port.proofs.Growing.{op_at_on, ends_on, ends_after, ends_right, holds_on}
use Rattle.site_port.proofs.Turning.{goes_same, goes_then}

-- ## How the story goes on

abbrev pub WentOn : SiteValue → SiteValue → Type 0
WentOn a b = (happened : List Happening) × All IsDoing happened × GoesOnWith a happened b

pub went_same : (a b : SiteValue) → b ≡ a → WentOn a b
went_same a b same = subst (λ z. WentOn a z) (sym same) ([], All-nil IsDoing, goes_same a)

pub went_then : (a b c : SiteValue) → WentOn a b → WentOn b c → WentOn a c
went_then a b c (xs, f, g) (ys, h, k) = (xs ++ ys, All-append IsDoing xs ys f h, goes_then a b c xs ys g k)

pub did_one : (a b : SiteValue) (h : Happening) → IsDoing h → GoesOnWith a (h ∷ []) b → WentOn a b
did_one a b h doing g = (h ∷ [], All-cons IsDoing h [] doing (All-nil IsDoing), g)

pub broken_went : (a b : SiteValue) (node : ℕ) (x : ActorEvent) → HasBroken a node x b → WentOn a b
broken_went a b node x (sends, ended, broken, now) =
    did_one a b (Did node x sends ended) tt
    (subst (λ z. GoesOnWith a (Did node x sends ended ∷ []) z) (sym now) (record { topology = refl; dc = refl; story = refl; sound = λ q. absurd (untrue q) }))
  where
    untrue : false ≡ true → ⊥
    untrue q = cc

refused_went : (refuses : Refuses) (a b : SiteValue) (node : ℕ) (x : ActorEvent) (fault : Fault) → IsRefused refuses a node x fault b → WentOn a b
refused_went refuses a b node x fault (inl (same, why)) = went_same a b same
refused_went refuses a b node x fault (inr (sound, (is, broken))) = broken_went a b node x broken

turn_refused_went : (refuses : Refuses) (a b : SiteValue) (fault : Fault) → IsTurnRefused refuses a fault b → WentOn a b
turn_refused_went refuses a b fault (inl (same, why)) = went_same a b same
turn_refused_went refuses a b fault (inr (e, first, r)) = refused_went refuses a b _ _ fault r

pub declined_went : (refuses : Refuses) (a b : SiteValue) (node : ℕ) (x : ActorEvent) (fault : Fault) → ((fault ≡ Memory) × (b ≡ a)) ⊎ IsRefused refuses a node x fault b → WentOn a b
declined_went refuses a b node x fault (inl (is, same)) = went_same a b same
declined_went refuses a b node x fault (inr r) = refused_went refuses a b node x fault r

doing_of : (h : Happening) → IsHandling h → IsDoing h
doing_of (Did node x sends ended) p = tt
doing_of (Heard from e) p = absurd p
doing_of (Given e) p = absurd p

all_doing : (hs : List Happening) → All IsHandling hs → All IsDoing hs
all_doing hs all = λ k d lt. doing_of (get_or hs k d) (all k d lt)

pub op_went : (a b : SiteValue) (node number : ℕ) (o : Op) → WentOn a b → op_at a.story node number ≡ Some o → op_at b.story node number ≡ Some o
op_went a b node number o (hs, doing, g) at = subst (λ s. op_at s node number ≡ Some o) (sym g.story) (op_at_on a.story hs node number o at)

pub ends_went : (a b : SiteValue) (late : List Late) → WentOn a b → AreEnds a.story late → AreEnds b.story late
ends_went a b late (hs, doing, g) e = subst (λ s. AreEnds s late) (sym g.story) (ends_on a.story hs late e)

pub holds_went : (a b : SiteValue) (sessions : List ℕ) (waits : List (Option Waiting)) (late kept : List Late) → WentOn a b → Holds a sessions waits late → AreEnds b.story kept → Holds b sessions waits kept
holds_went a b sessions waits late kept (hs, doing, g) h e = holds_on a b hs sessions waits late kept h g e

pub session_went : (a b : SiteValue) (place node : ℕ) → WentOn a b → slice_get (sessions_of a.top a.dc) place ≡ Some node → slice_get (sessions_of b.top b.dc) place ≡ Some node
session_went a b place node (hs, doing, g) at =
    subst (λ t. slice_get (sessions_of t b.dc) place ≡ Some node) (sym g.topology) (subst (λ d. slice_get (sessions_of a.top d) place ≡ Some node) (sym g.dc) at)

-- ## Ends

and_both : (a b : Bool) → (a && b) ≡ true → (a ≡ true) × (b ≡ true)
and_both true b q = (refl, q)
and_both false b q = absurd (cc)

abbrev IsIn : Story → Late → Type 0
IsIn s l = Contains (outcomes s l.session) (l.number, l.outcome)

kept_well : (s : Story) (awaited : Option (ℕ × ℕ)) (ends late : List Late) (told : Option Outcome) (kept : List Late) → AreEnds s late → AreEnds s ends → AreTold awaited ends late told kept → AreEnds s kept
kept_well s awaited ends late None kept l e (is, none) = subst (λ z. AreEnds s z) (sym is) (All-append (IsIn s) late ends l e)
kept_well s awaited ends late (Some outcome) kept l e (before, last, is, aw, same, now) =
    subst (λ z. AreEnds s z) (sym now) (All-append (IsIn s) late before l (all_first (IsIn s) before (last ∷ []) (subst (λ z. AreEnds s z) is e)))

told_well : (s : Story) (node number : ℕ) (ends late : List Late) (outcome : Outcome) (kept : List Late) → AreEnds s ends → AreTold (Some (node, number)) ends late (Some outcome) kept → Contains (outcomes s node) (number, outcome)
told_well s node number ends late outcome kept e (before, last, is, aw, same, now) =
    let at = all_at (IsIn s) (before ++ last ∷ []) (length before) last (get_mid before last []) (subst (λ z. AreEnds s z) is e) in
    let both = and_both (last.session == node) (last.number == number) aw in
    subst (λ r. Contains (outcomes s node) (number, r)) same
    (subst (λ m. Contains (outcomes s node) (m, last.outcome)) (eqb-true last.number number both.1)
    (subst (λ n. Contains (outcomes s n) (last.number, last.outcome)) (eqb-true last.session node both.0) at))

module _ (a b : SiteValue) (hs : List Happening) (g : GoesOnWith a hs b) where
  pub told_ends : (awaited : Option (ℕ × ℕ)) (late : List Late) (told : Option Outcome) (kept : List Late) → AreTold awaited (ends_in hs) late told kept → AreEnds a.story late → AreEnds b.story kept
  told_ends awaited late told kept t e =
      subst (λ s. AreEnds s kept) (sym g.story)
      (kept_well (a.story ++ hs) awaited (ends_in hs) late told kept (ends_on a.story hs late e) (ends_after a.story hs (ends_in hs) (ends_right hs)) t)

  pub told_its : (node number : ℕ) (late : List Late) (outcome : Outcome) (kept : List Late) → AreTold (Some (node, number)) (ends_in hs) late (Some outcome) kept → Contains (outcomes b.story node) (number, outcome)
  told_its node number late outcome kept t =
      subst (λ s. Contains (outcomes s node) (number, outcome)) (sym g.story)
      (told_well (a.story ++ hs) node number (ends_in hs) late outcome kept (ends_after a.story hs (ends_in hs) (ends_right hs)) t)

-- ## Turns

pub turns_went : (awaited : Option (ℕ × ℕ)) (most : ℕ) (a b : SiteValue) (late kept : List Late) (told : Option Outcome) → HasTurns awaited most a late told b kept → WentOn a b
turns_went awaited most a b late kept told t = (t.happened, all_doing t.happened t.handled, t.went)

pub turns_ends : (awaited : Option (ℕ × ℕ)) (most : ℕ) (a b : SiteValue) (late kept : List Late) (told : Option Outcome) → HasTurns awaited most a late told b kept → AreEnds a.story late → AreEnds b.story kept
turns_ends awaited most a b late kept told t e = told_ends a b t.happened t.went awaited late told kept t.is_told e

pub stopped_went : (refuses : Refuses) (awaited : Option (ℕ × ℕ)) (a b : SiteValue) (late kept : List Late) (fault : Fault) → HasStopped refuses awaited a late fault b kept → WentOn a b
stopped_went refuses awaited a b late kept fault t = went_then a t.between b (t.happened, all_doing t.happened t.handled, t.went) (turn_refused_went refuses t.between b fault t.refused)

pub stopped_ends : (refuses : Refuses) (awaited : Option (ℕ × ℕ)) (a b : SiteValue) (late kept : List Late) (fault : Fault) → HasStopped refuses awaited a late fault b kept → AreEnds a.story late → AreEnds b.story kept
stopped_ends refuses awaited a b late kept fault t e =
    ends_went t.between b kept (turn_refused_went refuses t.between b fault t.refused) (told_ends a t.between t.happened t.went awaited late None kept t.told e)
