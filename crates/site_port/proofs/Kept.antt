-- What the calls of a port keep.
use Rattle.std.proofs.Common.{◌≡◌, ℕ, List, [], ◌∷◌, Option, Some, None, refl, sym, subst}
use Rattle.std.specs.Prelude.{All, Contains, length, slice_get, Result, Ok, Err, IfOk, OnOk, OnErr}
use Rattle.std.proofs.lemmas.Option.{slice_get_within, get_or_from_slice_get}
use Rattle.std.proofs.lemmas.List.Elements.{All-nil}
use Rattle.logical_time.specs.declared.fault.Fault.{Fault}
use Rattle.messages.specs.declared.envelope.Envelope.{Envelope}
use Rattle.messages.specs.declared.outcome.Outcome.{Outcome}
use Rattle.actors.specs.Machines.{Refuses}
use Rattle.site.specs.Story.{Happening, Heard, Given, outcomes}
use Rattle.site.specs.Sites.{SiteValue}
use Rattle.site.specs.Turns.{goes_on, HasGiven}
use Rattle.site_port.specs.declared.waiting.Late.{Late}
use Rattle.site_port.specs.declared.waiting.Waiting.{Waiting}
use Rattle.site_port.specs.Ends.{GoesOnWith, HasStopped, HasTurns}
use Rattle.site_port.specs.Port.{sessions_of, AreEnds, Holds}
use Rattle.site_port.proofs.Growing.{holds_same}
use Rattle.site_port.proofs.Going.{holds_went, turns_went, turns_ends, stopped_went, stopped_ends}

-- ## Turns

pub turns_hold : (awaited : Option (ℕ × ℕ)) (most : ℕ) (a b : SiteValue) (sessions : List ℕ) (waits : List (Option Waiting)) (late kept : List Late) (told : Option Outcome) → Holds a sessions waits late → HasTurns awaited most a late told b kept
    → Holds b sessions waits kept
turns_hold awaited most a b sessions waits late kept told h t = holds_went a b sessions waits late kept (turns_went awaited most a b late kept told t) h (turns_ends awaited most a b late kept told t h.ended)

pub stopped_holds : (refuses : Refuses) (awaited : Option (ℕ × ℕ)) (a b : SiteValue) (sessions : List ℕ) (waits : List (Option Waiting)) (late kept : List Late) (fault : Fault) → Holds a sessions waits late → HasStopped refuses awaited a late fault b kept
    → Holds b sessions waits kept
stopped_holds refuses awaited a b sessions waits late kept fault h t =
    holds_went a b sessions waits late kept (stopped_went refuses awaited a b late kept fault t) h (stopped_ends refuses awaited a b late kept fault t h.ended)

-- ## It stayed, or one thing more happened

goes_by : (a : SiteValue) (h : Happening) → GoesOnWith a (h ∷ []) (goes_on a h)
goes_by a h = record { topology = refl; dc = refl; story = refl; sound = λ q. q }

one_more_holds : (a b : SiteValue) (h : Happening) (sessions : List ℕ) (waits : List (Option Waiting)) (late : List Late) → Holds a sessions waits late → b ≡ goes_on a h → Holds b sessions waits late
one_more_holds a b h sessions waits late holds same = subst (λ z. Holds z sessions waits late) (sym same) (holds_same a (goes_on a h) (h ∷ []) sessions waits late holds (goes_by a h))

same_holds : (a b : SiteValue) (sessions : List ℕ) (waits : List (Option Waiting)) (late : List Late) → Holds a sessions waits late → b ≡ a → Holds b sessions waits late
same_holds a b sessions waits late holds same = subst (λ z. Holds z sessions waits late) (sym same) holds

pub given_holds : (a b : SiteValue) (r : Result (Option Envelope) Fault) (sessions : List ℕ) (waits : List (Option Waiting)) (late : List Late) → Holds a sessions waits late → IfOk r (λ e. HasGiven a e b) → OnErr r (b ≡ a) → Holds b sessions waits late
given_holds a b (Ok (Some e)) sessions waits late holds (rest, left, same) err = one_more_holds a b (Given e) sessions waits late holds same
given_holds a b (Ok None) sessions waits late holds given err = same_holds a b sessions waits late holds given.0
given_holds a b (Err e) sessions waits late holds given same = same_holds a b sessions waits late holds same

pub heard_holds : {X Y : Type 0} (a b : SiteValue) (from : ℕ) (e : Envelope) (r : Result X Y) (sessions : List ℕ) (waits : List (Option Waiting)) (late : List Late) → Holds a sessions waits late → OnOk r (b ≡ goes_on a (Heard from e)) → OnErr r (b ≡ a)
    → Holds b sessions waits late
heard_holds a b from e (Ok x) sessions waits late holds heard err = one_more_holds a b (Heard from e) sessions waits late holds heard
heard_holds a b from e (Err y) sessions waits late holds heard same = same_holds a b sessions waits late holds same

-- ## The beginning

none_open : (waits : List (Option Waiting)) → All (λ w. w ≡ None) waits → (place : ℕ) (w : Waiting) → slice_get waits place ≡ Some (Some w) → ⊥
none_open waits free place w is =
    let at = get_or_from_slice_get waits place (Some w) None is in
    let none = free place None (slice_get_within waits place (Some w) is) in
    cc

-- where nothing is open and nothing is kept
pub new_holds : (site : SiteValue) (sessions : List ℕ) (waits : List (Option Waiting)) (late : List Late) → sessions ≡ sessions_of site.top site.dc → length waits ≡ length sessions → All (λ w. w ≡ None) waits → late ≡ [] → Holds site sessions waits late
new_holds site sessions waits late are long free nothing =
    record {
      sessions_are = are;
      places = long;
      submitted = λ place node w o at is has. absurd (none_open waits free place w is);
      ended = subst (λ l. AreEnds site.story l) (sym nothing) (All-nil (λ (l : Late). Contains (outcomes site.story l.session) (l.number, l.outcome)));
    }
