-- What a site answered is meant, in each run that has its journals.
use Rattle.std.proofs.Common.{◌≡◌, ◌∙◌, ℕ, zero, suc, true, List, Some, refl, sym, ap, subst, eqb-true}
use Rattle.std.specs.Prelude.{◌==◌, filter, slice_get, Contains}
use Rattle.messages.specs.declared.op.Op.{Op}
use Rattle.messages.specs.declared.outcome.Outcome.{Outcome}
use Rattle.messages.specs.declared.event.ActorEvent.{ActorEvent}
use Rattle.messages.specs.declared.event.ActorEvent.TheVariants.{Submit, Handle, Collect}
use Rattle.messages.specs.Topology.{TopologyValue}
use Rattle.messages.specs.Session.{Finished}
use Rattle.actors.specs.Journals as own
use Rattle.world.specs.declared.run_event.RunEvent.{RunEvent}
use Rattle.world.specs.declared.completed.Completed.{Completed}
use Rattle.world.specs.Run.{run}
use Rattle.world.specs.Journals.{IsRunOf, ended_at, finished_as}
use Rattle.world.specs.Threads.{op_in, op_numbered}
use Rattle.world.proofs.lists.Members.{contains_map, mapped_from, filter_contains}
use Rattle.world.proofs.envelopes.Addresses.{stands}
use Rattle.world.proofs.promised.Laws.{entries_are_of_submissions}
use Rattle.world.proofs.replays.JournalSteps.{same_told}
use Rattle.world.proofs.replays.Journaled.{operation_there}
use Rattle.threaded.specs.Machines.{as_finished}
use Rattle.service.specs.Meaning.{IsMeant}
use Rattle.service.proofs.Meant.{entry_means}
use Rattle.site.specs.Story.{Story, is_here, journal, outcomes}
use Rattle.site.specs.Ends.{op_at, HasEnded}
use Rattle.sites.specs.Sites.{IsSiteStory, HasStory, journals_of}
use Rattle.sites.proofs.Alone.{entries_are}
use Rattle.sites.proofs.Senders.{here_is}

same_op : (x : ActorEvent) → op_in x ≡ own.op_in x
same_op (Submit o) = refl
same_op (Handle e) = refl
same_op (Collect time) = refl

pub numbered_at : (s : Story) (node number : ℕ) → op_numbered (journal s node) number ≡ op_at s node number
numbered_at s node zero = refl
numbered_at s node (suc n) = ap (λ l. slice_get l n) (same_told op_in own.op_in (journal s node) (λ x has. same_op x))

module _ (top : TopologyValue) (dc node : ℕ) (s : Story) (journals : ℕ → List ActorEvent) (events : List RunEvent)
    (story : IsSiteStory top dc s) (has : HasStory top dc s journals) (here : is_here top dc node ≡ true) (is : IsRunOf top journals events) where
  pub means : (number : ℕ) (o : Op) (result : Outcome) → HasEnded s node number o result → IsMeant top (run top events) node number o result
  means number o result e =
      let some = (stands top story.0.topology).some in
      let w = run top events in
      let f : Finished = record { number = number; outcome = result } in
      let mine = filter (λ (z : Completed). z.node == node) w.transcript in
      let told : Contains (ended_at w node) f =
      (subst (λ l. Contains l f) (sym (entries_are top dc node s journals story has here events is)) (contains_map as_finished (outcomes s node) (number, result) e.ended)) in
      let c = mapped_from finished_as mine f told in
      let among = filter_contains (λ (z : Completed). z.node == node) w.transcript c.0 c.1 in
      let of = entries_are_of_submissions top events some c.0 among.0 in
      let b = of.submission in
      let its : c.0.node ≡ node = eqb-true c.0.node node among.1 in
      let number_is : c.0.number ≡ number = sym (ap (λ (z : Finished). z.number) c.2) in
      let at : b.session ≡ node = of.session ∙ its in
      let numbered : b.number ≡ number = of.number ∙ number_is in
      let named : Some b.op ≡ Some o =
      sym (operation_there top journals events some is b of.submitted)
      ∙ ap (λ z. op_numbered (journals z) b.number) at
      ∙ ap (op_numbered (journals node)) numbered
      ∙ ap (λ l. op_numbered l number) (has node here)
      ∙ numbered_at s node number
      ∙ e.submitted in
      let same : b.op ≡ o = cc in
      entry_means top node some events number o result
      (record { submission = b; among = of.submitted; session_is = at; numbered = numbered; op = same })
      (record { entry = c.0; is_end = record { listed = among.0; node = its; numbered = number_is }; outcome_is = sym (ap (λ (z : Finished). z.outcome) c.2) })

-- all sites have the journals of each
pub has_story : (top : TopologyValue) (stories : ℕ → Story) (dc : ℕ) → HasStory top dc (stories dc) (journals_of top stories)
has_story top stories dc node here = ap (λ d. journal (stories d) node) (here_is top dc node here).1
