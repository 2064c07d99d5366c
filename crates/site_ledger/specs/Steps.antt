-- Entries as steps of a site.
use Rattle.std.specs.Prelude.{List, [], ◌∷◌, replicate}
use Rattle.std.specs.List.{flat_map}
use Rattle.site.specs.Steps.{Step}
use Rattle.site.specs.Steps as step
use Rattle.site_ledger.specs.declared.entry.Entry.{Entry}
use Rattle.site_ledger.specs.declared.entry.Entry.TheVariants.{Whose, Asked, Came, Turned, Collected, Met}

-- whose log it is says of no step, and neither does a meeting
abbrev pub steps_of : Entry → List Step
steps_of (Whose dc incarnation digest) = []
steps_of (Asked session op) = step.Asked session op ∷ []
steps_of (Came from envelope) = step.Came from envelope ∷ []
steps_of (Turned count) = replicate count step.Turned
steps_of (Collected shard time) = step.Collected shard time ∷ []
steps_of (Met dc incarnation) = []

-- the steps of which entries tell, in order
abbrev pub steps_told : List Entry → List Step
steps_told entries = flat_map steps_of entries
