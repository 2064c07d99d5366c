-- The steps of a story, and those that entries tell.
use Rattle.std.proofs.Common.{ℕ, List, [], ◌∷◌, ◌++◌, ◌+◌, Option, append_assoc, append-nil, ◌≡◌, ◌∙◌, ap}
use Rattle.std.specs.Prelude.{replicate}
use Rattle.std.proofs.lemmas.List.{replicate-append-replicate}
use Rattle.std.proofs.lemmas.List.Elements.{filter_map-append}
use Rattle.std.proofs.lemmas.Grind.{flat_map-append}
use Rattle.messages.specs.declared.envelope.Envelope.{Envelope}
use Rattle.messages.specs.declared.outcome.Outcome.{Outcome}
use Rattle.messages.specs.declared.event.ActorEvent.{ActorEvent}
use Rattle.site.specs.Story.{Story, Did, Heard, Given, given, given_by}
use Rattle.site.specs.Steps.{Step, Came, Turned, step_by, step_of, steps}
use Rattle.site_ledger.specs.declared.entry.Entry.{Entry}
use Rattle.site_ledger.specs.Steps.{steps_of, steps_told}
use Rattle.durable_site.specs.Logged.{TellSteps}

-- ## Of a story

pub did_step : (s : Story) (node : ℕ) (x : ActorEvent) (sends : List Envelope) (ended : Option (ℕ × Outcome)) → steps (s ++ Did node x sends ended ∷ []) ≡ steps s ++ step_by node x ∷ []
did_step s node x sends ended = filter_map-append step_of s (Did node x sends ended ∷ [])

pub heard_step : (s : Story) (from : ℕ) (e : Envelope) → steps (s ++ Heard from e ∷ []) ≡ steps s ++ Came from e ∷ []
heard_step s from e = filter_map-append step_of s (Heard from e ∷ [])

pub given_step : (s : Story) (e : Envelope) → steps (s ++ Given e ∷ []) ≡ steps s
given_step s e = filter_map-append step_of s (Given e ∷ []) ∙ append-nil (steps s)

pub did_gives : (s : Story) (node : ℕ) (x : ActorEvent) (sends : List Envelope) (ended : Option (ℕ × Outcome)) → given (s ++ Did node x sends ended ∷ []) ≡ given s
did_gives s node x sends ended = filter_map-append given_by s (Did node x sends ended ∷ []) ∙ append-nil (given s)

pub heard_gives : (s : Story) (from : ℕ) (e : Envelope) → given (s ++ Heard from e ∷ []) ≡ given s
heard_gives s from e = filter_map-append given_by s (Heard from e ∷ []) ∙ append-nil (given s)

-- ## Of entries

pub told_more : (es : List Entry) (e : Entry) → steps_told (es ++ e ∷ []) ≡ steps_told es ++ steps_of e
told_more es e = flat_map-append steps_of es (e ∷ []) ∙ ap (λ (l : List Step). steps_told es ++ l) (append-nil (steps_of e))

pub tells_more : (whose : Entry) (all : List Step) (es : List Entry) (e : Entry) → TellSteps whose all es → TellSteps whose (all ++ steps_of e) (es ++ e ∷ [])
tells_more whose all es e t = (t.0 ++ e ∷ [], ap (λ (l : List Entry). l ++ e ∷ []) t.1, told_more t.0 e ∙ ap (λ (l : List Step). l ++ steps_of e) t.2)

pub turned_more : (done : List Step) (n k : ℕ) → (done ++ replicate n Turned) ++ replicate k Turned ≡ done ++ replicate (n + k) Turned
turned_more done n k = append_assoc done (replicate n Turned) (replicate k Turned) ∙ ap (λ (l : List Step). done ++ l) (replicate-append-replicate n k Turned)
