-- What crosses between sites.
use Rattle.std.specs.Prelude.{◌≡◌, ℕ, List, [], ◌∷◌, Option, Some, None}
use Rattle.messages.specs.declared.envelope.Envelope.{Envelope}

-- An envelope was taken for the site of a data centre; one came from the site of another; what came from there was refused; all that
-- came so far was confirmed, so that those who gave it may forget it; or nothing was there, or was done but reading and writing.
pub data Crossing : Type 0 where
  Sent : (to : ℕ) (envelope : Envelope) → Crossing
  Came : (from : ℕ) (envelope : Envelope) → Crossing
  Refused : (from : ℕ) → Crossing
  Confirmed : Crossing
  Nothing : Crossing

abbrev pub came_by : Option (ℕ × Envelope) → Crossing
came_by None = Nothing
came_by (Some e) = Came e.0 e.1

-- a step of the ways for each of these, in order
abbrev pub Crosses : {W : Type 0} → (W → Crossing → W → Type 0) → W → List Crossing → W → Type 0
Crosses steps w [] v = w ≡ v
Crosses {W = W} steps w (c ∷ cs) v = (u : W) × steps w c u × Crosses steps u cs v

-- what they took, with the data centre for which it is
abbrev pub sent_by : Crossing → Option (ℕ × Envelope)
sent_by (Sent to e) = Some (to, e)
sent_by (Came from e) = None
sent_by (Refused from) = None
sent_by Confirmed = None
sent_by Nothing = None

-- what they brought, with the data centre from which it came
abbrev pub brought_by : Crossing → Option (ℕ × Envelope)
brought_by (Sent to e) = None
brought_by (Came from e) = Some (from, e)
brought_by (Refused from) = None
brought_by Confirmed = None
brought_by Nothing = None
