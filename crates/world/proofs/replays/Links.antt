-- Journals that fit link by link fit together.
use Rattle.std.proofs.Common.{ℕ, List, refl, sym, subst, eqb-true, eq-eqb}
use Rattle.std.specs.Prelude.{◌==◌, filter_map, Contains}
use Rattle.messages.specs.declared.envelope.Envelope.{Envelope}
use Rattle.messages.specs.Topology.{TopologyValue}
use Rattle.messages.specs.declared.event.ActorEvent.{ActorEvent}
use Rattle.messages.specs.declared.event.ActorEvent.TheVariants.{Handle}
use Rattle.messages.specs.Actors.{envelope_of, sent_by}
use Rattle.store.proofs.lists.Lists.{given}
use Rattle.world.specs.Journals.{receipts_from, DoFit, DoLinksFit, IsThreadedRun}
use Rattle.world.proofs.lists.Members.{Contains-append_left, contains_filter, filter_contains}
use Rattle.world.proofs.replays.Merged.{are_a_run}

pub links_fit : (top : TopologyValue) (journals : ℕ → List ActorEvent) → DoLinksFit top journals → DoFit top journals
links_fit top journals fit =
    record {
      replays = fit.replays;
      received = λ n e c has.
          let lt = fit.senders n e c has in
          let more = fit.begins e.from n lt c in
          let handled = given envelope_of (journals n) (Handle e) e has refl in
          let receipt = contains_filter (λ (z : Envelope). z.from == e.from) (filter_map envelope_of (journals n)) e handled (eq-eqb e.from e.from refl) in
          let sent = filter_contains (λ (z : Envelope). z.to == n) (sent_by top e.from (journals e.from)) e
          (subst (λ l. Contains l e) (sym more.1) (Contains-append_left (receipts_from e.from (journals n)) more.0 e receipt)) in
          record { here = eqb-true e.to n sent.1; sender = lt; sent = sent.0 };
    }

pub links_are_a_run : (top : TopologyValue) (journals : ℕ → List ActorEvent) → DoLinksFit top journals → IsThreadedRun top journals
links_are_a_run top journals fit = are_a_run top journals (links_fit top journals fit)
