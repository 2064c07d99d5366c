-- What the answers of a site's sessions mean.
use Rattle.std.specs.Prelude.{◌≡◌, ℕ, true, List}
use Rattle.messages.specs.declared.op.Op.{Op}
use Rattle.messages.specs.declared.outcome.Outcome.{Outcome}
use Rattle.messages.specs.declared.event.ActorEvent.{ActorEvent}
use Rattle.messages.specs.Topology.{TopologyValue, is_session}
use Rattle.world.specs.declared.run_event.RunEvent.{RunEvent}
use Rattle.world.specs.Run.{run}
use Rattle.world.specs.Journals.{IsRunOf}
use Rattle.service.specs.Meaning.{IsMeant}
use Rattle.site.specs.Story.{Story, is_here}
use Rattle.site.specs.Ends.{HasEnded}
use Rattle.sites.specs.Sites.{HasStory}

-- Each operation of the site's sessions that ended is, in each run whose journals have those of the site, an entry of its session's at
-- the data centre where it was submitted, and means its request there.
abbrev pub AnswersAreMeant : TopologyValue → ℕ → Story → Type 0
AnswersAreMeant top dc s =
    (node number : ℕ) (o : Op) (result : Outcome) → is_session top node ≡ true → is_here top dc node ≡ true → HasEnded s node number o result
    → (journals : ℕ → List ActorEvent) (events : List RunEvent) → HasStory top dc s journals → IsRunOf top journals events
    → IsMeant top (run top events) node number o result
