-- Which steps the calls of a site are.
use Rattle.std.proofs.Common.{◌≡◌, ◌∙◌, ℕ, [], ◌∷◌, ◌++◌, Bool, true, false, Option, None, Some, inl, inr, ap, sym, append-nil}
use Rattle.std.specs.Prelude.{replicate}
use Rattle.logical_time.specs.declared.fault.Fault.{Fault}
use Rattle.messages.specs.declared.outcome.Outcome.{Outcome}
use Rattle.messages.specs.declared.envelope.Envelope.{Envelope}
use Rattle.messages.specs.declared.event.ActorEvent.{ActorEvent}
use Rattle.messages.specs.declared.event.ActorEvent.TheVariants.{Handle}
use Rattle.actors.specs.Machines.{Refuses}
use Rattle.site.specs.Sites.{SiteValue}
use Rattle.site.specs.Story.{Heard}
use Rattle.site.specs.Steps.{Came, Turned, step_by, steps}
use Rattle.site.specs.Turns.{goes_on, HasDone, HasBroken, IsRefused, HasHandled, HasTurned, HasGiven, IsTurnRefused}
use Rattle.site.specs.declared.turn.Turn.{Turn}
use Rattle.site.specs.declared.turn.Turn.TheVariants.{Idle, Handled, Ended}
use Rattle.durable_site.specs.Stuck.{count_of}
use Rattle.durable_site.proofs.Steps.{did_step, heard_step, given_step}

pub done_steps : (old new : SiteValue) (node : ℕ) (x : ActorEvent) (ended : Option (ℕ × Outcome)) → HasDone old node x ended new → steps new.story ≡ steps old.story ++ step_by node x ∷ []
done_steps old new node x ended h = ap (λ (s : SiteValue). steps s.story) h.2 ∙ did_step old.story node x h.0 ended

broken_steps : (old new : SiteValue) (node : ℕ) (x : ActorEvent) → HasBroken old node x new → steps new.story ≡ steps old.story ++ step_by node x ∷ []
broken_steps old new node x h = ap (λ (s : SiteValue). steps s.story) h.3 ∙ did_step old.story node x h.0 h.1

true_false : {b : Bool} → b ≡ true → b ≡ false → ⊥
true_false p q = cc

module _ (refuses : Refuses) (old new : SiteValue) (fault : Fault) where
  -- a site that is sound after an event that was refused is the one that it was
  pub refused_stays : (node : ℕ) (x : ActorEvent) → IsRefused refuses old node x fault new → new.sound ≡ true → new ≡ old
  refused_stays node x (inl h) sound = h.0
  refused_stays node x (inr h) sound = absurd (true_false sound (ap (λ (s : SiteValue). s.sound) h.1.1.3))

  -- one that is so no longer did it
  pub refused_broke : (node : ℕ) (x : ActorEvent) → IsRefused refuses old node x fault new → old.sound ≡ true → new.sound ≡ false → steps new.story ≡ steps old.story ++ step_by node x ∷ []
  refused_broke node x (inl h) was broke = absurd (true_false was (ap (λ (s : SiteValue). s.sound) (sym h.0) ∙ broke))
  refused_broke node x (inr h) was broke = broken_steps old new node x h.1.1

  pub turn_broke : IsTurnRefused refuses old fault new → old.sound ≡ true → new.sound ≡ false → steps new.story ≡ steps old.story ++ Turned ∷ []
  turn_broke (inl h) was broke = absurd (true_false was (ap (λ (s : SiteValue). s.sound) (sym h.0) ∙ broke))
  turn_broke (inr h) was broke = refused_broke h.0.to (Handle h.0) h.2 was broke

handled_steps : (old new : SiteValue) (node : ℕ) (ended : Option (ℕ × Outcome)) → HasHandled old node ended new → steps new.story ≡ steps old.story ++ Turned ∷ []
handled_steps old new node ended h = done_steps old new node (Handle h.0) ended h.3

-- a turn that wasn't idle is a step
pub turned_steps : (old new : SiteValue) (t : Turn) → HasTurned old t new → steps new.story ≡ steps old.story ++ replicate (count_of t) Turned
turned_steps old new Idle h = ap (λ (s : SiteValue). steps s.story) h.0 ∙ sym (append-nil (steps old.story))
turned_steps old new Handled h = handled_steps old new h.0 None h.1
turned_steps old new (Ended session number outcome) h = handled_steps old new session (Some (number, outcome)) h

-- a gift is none
pub given_steps : (old new : SiteValue) (e : Option Envelope) → HasGiven old e new → steps new.story ≡ steps old.story
given_steps old new None h = ap (λ (s : SiteValue). steps s.story) h.0
given_steps old new (Some e) h = ap (λ (s : SiteValue). steps s.story) h.2 ∙ given_step old.story e

-- an envelope that came is one
pub came_steps : (old new : SiteValue) (from : ℕ) (e : Envelope) → new ≡ goes_on old (Heard from e) → steps new.story ≡ steps old.story ++ Came from e ∷ []
came_steps old new from e h = ap (λ (s : SiteValue). steps s.story) h ∙ heard_step old.story from e
