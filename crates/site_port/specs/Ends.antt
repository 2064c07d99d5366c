-- The ends of operations in what happens at a site, and what turns of it tell of them.
use Rattle.std.specs.Prelude.{◌≡◌, ◌==◌, ◌&&◌, ◌⊎◌, ℕ, Bool, true, false, List, [], ◌∷◌, ◌++◌, All, filter_map, length, Option, Some, None}
use Rattle.logical_time.specs.declared.fault.Fault.{Fault}
use Rattle.messages.specs.declared.envelope.Envelope.{Envelope}
use Rattle.messages.specs.declared.outcome.Outcome.{Outcome}
use Rattle.messages.specs.declared.event.ActorEvent.TheVariants.{Handle}
use Rattle.actors.specs.Machines.{Refuses}
use Rattle.site.specs.Story.{Happening, Did, Heard, Given, arrivals, handled as handled_in}
use Rattle.site.specs.Sites.{SiteValue}
use Rattle.site.specs.Turns.{IsTurnRefused}
use Rattle.site_port.specs.declared.waiting.Late.{Late}

-- ## Ends

-- the end of an operation of this session, if an event ended one
abbrev pub end_by : ℕ → Option (ℕ × Outcome) → Option Late
end_by session None = None
end_by session (Some p) = Some (record { session = session; number = p.0; outcome = p.1 })

abbrev pub end_in : Happening → Option Late
end_in (Did node x sends ended) = end_by node ended
end_in (Heard from e) = None
end_in (Given e) = None

-- the ends of operations in what happened, in order
abbrev pub ends_in : List Happening → List Late
ends_in happened = filter_map end_in happened

-- ## Turns

-- an actor handled an envelope
abbrev pub IsHandling : Happening → Type 0
IsHandling (Did node x sends ended) = (e : Envelope) × (x ≡ Handle e)
IsHandling (Heard from e) = ⊥
IsHandling (Given e) = ⊥

-- The story of a site went on with what happened. One that isn't sound doesn't become so.
pub record GoesOnWith (old : SiteValue) (happened : List Happening) (new : SiteValue) : Type 0 where
  pub topology : new.top ≡ old.top
  pub dc : new.dc ≡ old.dc
  pub story : new.story ≡ old.story ++ happened
  pub sound : new.sound ≡ true → old.sound ≡ true

-- the end is that of the operation that is awaited: of this session, with this number
abbrev pub is_awaited : Option (ℕ × ℕ) → Late → Bool
is_awaited None l = false
is_awaited (Some a) l = (l.session == a.0) && (l.number == a.1)

-- Of these ends the last is that of the awaited operation, which is told, and those before it are kept; or none is its, and all are
-- kept.
abbrev pub AreTold : Option (ℕ × ℕ) → List Late → List Late → Option Outcome → List Late → Type 0
AreTold awaited ends old (Some outcome) new =
    (before : List Late) × (last : Late) × (ends ≡ before ++ last ∷ []) × (is_awaited awaited last ≡ true) × (last.outcome ≡ outcome) × (new ≡ old ++ before)
AreTold awaited ends old None new = (new ≡ old ++ ends) × All (λ l. is_awaited awaited l ≡ false) ends

-- A turn was refused: what happened before it is told of nobody's wait, and all ends in it are kept.
pub record HasStopped (refuses : Refuses) (awaited : Option (ℕ × ℕ)) (old : SiteValue) (late : List Late) (fault : Fault) (new : SiteValue) (kept : List Late) : Type 0 where
  pub happened : List Happening
  pub between : SiteValue
  pub handled : All IsHandling happened
  pub went : GoesOnWith old happened between
  pub told : AreTold awaited (ends_in happened) late None kept
  pub refused : IsTurnRefused refuses between fault new

-- Envelopes were handled, until the awaited operation ended or no more were; of their ends this is told, and that is kept.
pub record HasTurns (awaited : Option (ℕ × ℕ)) (most : ℕ) (old : SiteValue) (late : List Late) (told : Option Outcome) (new : SiteValue) (kept : List Late) : Type 0 where
  pub happened : List Happening
  pub handled : All IsHandling happened
  pub went : GoesOnWith old happened new
  pub is_told : AreTold awaited (ends_in happened) late told kept
  -- where it didn't end, all that came was handled, or so many turns were taken
  pub rests : told ≡ None → (handled_in new.story ≡ arrivals new.top new.dc new.story) ⊎ (length happened ≡ most)
