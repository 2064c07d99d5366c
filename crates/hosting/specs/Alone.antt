-- What a site answers by itself.
use Rattle.std.specs.Prelude.{◌≡◌, ℕ, true, List, Some}
use Rattle.messages.specs.declared.op.Op.{Op}
use Rattle.messages.specs.declared.outcome.Outcome.{Outcome}
use Rattle.messages.specs.declared.event.ActorEvent.{ActorEvent}
use Rattle.messages.specs.Topology.{TopologyValue, is_session}
use Rattle.world.specs.declared.run_event.RunEvent.{RunEvent}
use Rattle.world.specs.Run.{run}
use Rattle.world.specs.Journals.{IsRunOf}
use Rattle.world.specs.Local.{IsLocal, AnswersLocally}
use Rattle.site.specs.Story.{Story, is_here}
use Rattle.site.specs.Ends.{op_at, HasEnded}
use Rattle.sites.specs.Idle.{IsIdle}
use Rattle.sites.specs.Sites.{HasStory}

-- Where nothing waits at a site it has answered, whoever can be reached: in each run whose journals have those of the site no read waits on its
-- shards, and no session of it that is at home has a batch or a read open; each that such a session submitted has ended there.
abbrev pub AnswersAlone : TopologyValue → ℕ → Story → Type 0
AnswersAlone top dc s =
    IsIdle top dc s → (journals : ℕ → List ActorEvent) (events : List RunEvent) → HasStory top dc s journals → IsRunOf top journals events
    → AnswersLocally top (run top events) dc
    × ((node number : ℕ) (o : Op) → is_session top node ≡ true → is_here top dc node ≡ true → ((run top events).sessions node).home ≡ dc
    → op_at s node number ≡ Some o → IsLocal o → (r : Outcome) × HasEnded s node number o r)
