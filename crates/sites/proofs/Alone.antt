-- One site among any journals that fit.
use Rattle.std.proofs.Common.{◌≡◌, ◌∙◌, ℕ, true, List, map, ◌++◌, Some, sym, ap, subst}
use Rattle.std.specs.Prelude.{option_to_list, Contains, IsPermutation}
use Rattle.std.proofs.lemmas.List.{append-nil}
use Rattle.column_family.specs.History.{History}
use Rattle.slice.specs.declared.read.Read.{Read}
use Rattle.slice.specs.declared.read.AnsweredRow.{AnsweredRow}
use Rattle.table.specs.Meaning.{meaning}
use Rattle.messages.specs.declared.outcome.Outcome.TheVariants as outcome
use Rattle.messages.specs.declared.op.Op.TheVariants as op
use Rattle.messages.specs.declared.event.ActorEvent.{ActorEvent}
use Rattle.messages.specs.Topology.{TopologyValue, is_session}
use Rattle.messages.specs.Session.{Finished}
use Rattle.messages.specs.Actors.{outcomes_by, finished_in}
use Rattle.client.specs.State.{finished_of}
use Rattle.world.specs.declared.run_event.RunEvent.{RunEvent}
use Rattle.world.specs.Run.{run}
use Rattle.world.specs.Journals.{DoFit, IsRunOf, ended_at, journal_in}
use Rattle.world.specs.Threads.{op_numbered, history_by, home_by}
use Rattle.world.proofs.lists.Members.{contains_map}
use Rattle.world.proofs.envelopes.Addresses.{stands}
use Rattle.world.proofs.replays.Merged.{are_a_run}
use Rattle.world.proofs.replays.OwnJournals.{run_journals}
use Rattle.world.proofs.promised.Threaded.{show_one_table}
use Rattle.threaded.specs.Machines.{StaysApart, as_finished}
use Rattle.threaded.proofs.Stages.{runs_stay_apart}
use Rattle.site.specs.Story.{Story, is_here, journal, outcomes}
use Rattle.sites.specs.Sites.{IsSiteStory, HasStory}
use Rattle.sites.proofs.Senders.{machine_of, here_is}

module _ (top : TopologyValue) (dc node : ℕ) (s : Story) (journals : ℕ → List ActorEvent)
    (story : IsSiteStory top dc s) (has : HasStory top dc s journals) (here : is_here top dc node ≡ true) where
  -- what the protocol finishes by the journal is what was handed out
  finished : (events : List RunEvent) → IsRunOf top journals events → outcomes_by top node (journal s node) ≡ map as_finished (outcomes s node)
  finished events is =
      let same : journal_in (run top events) node ≡ journal s node = is.each node (here_is top dc node here).0 ∙ has node here in
      let apart : StaysApart top node (journal s node) = subst (λ l. StaysApart top node l) same (runs_stay_apart top events node (stands top story.0.topology).some) in
      let r = (machine_of top dc s story node here).recorded in
      let i = r.came.comes apart in
      ap finished_in i.replays ∙ i.finishes ∙ ap (λ o. map as_finished (outcomes s node) ++ option_to_list (finished_of o)) r.taken ∙ append-nil (map as_finished (outcomes s node))

  pub entries_are : (events : List RunEvent) → IsRunOf top journals events → ended_at (run top events) node ≡ map as_finished (outcomes s node)
  entries_are events is =
      let law = (run_journals top events (stands top story.0.topology).some).each node in
      sym (ap finished_in law) ∙ ap (outcomes_by top node) (is.each node (here_is top dc node here).0 ∙ has node here) ∙ finished events is

  pub reads_are : (number : ℕ) (read : Read) (time : ℕ) (answer : List AnsweredRow) (h : History) → is_session top node ≡ true → DoFit top journals
      → op_numbered (journal s node) number ≡ Some (op.Read read) → Contains (outcomes s node) (number, outcome.Read time answer)
      → IsPermutation h (history_by top journals (home_by top journals node number)) → answer ≡ meaning read h time
  reads_are number read time answer h session fit asked told all =
      let r = are_a_run top journals fit in
      let f : Finished = record { number = number; outcome = outcome.Read time answer } in
      let there : Contains (outcomes_by top node (journal s node)) f =
      subst (λ l. Contains l f) (sym (finished r.0 r.1)) (contains_map as_finished (outcomes s node) (number, outcome.Read time answer) told) in
      show_one_table top journals story.0.topology fit node read time answer h session
      (record { number = number; op = ap (λ l. op_numbered l number) (has node here) ∙ asked; ended = subst (λ l. Contains (outcomes_by top node l) f) (sym (has node here)) there }) all
