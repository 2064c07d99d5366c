-- What is promised of runs holds of journals that fit together.
use Rattle.std.proofs.Common.{◌≡◌, ◌∙◌, ℕ, ◌<◌, sym, ap, subst, true, List, map, Some, eqb-true}
use Rattle.std.specs.Prelude.{◌==◌, filter, Contains, IsPermutation}
use Rattle.messages.specs.declared.op.Op.TheVariants as op
use Rattle.messages.specs.declared.outcome.Outcome.TheVariants as outcome
use Rattle.messages.specs.Topology.{TopologyValue, is_topology}
use Rattle.messages.specs.Session.{Finished}
use Rattle.messages.specs.Actors.{finished_in, outcomes_by, opening_home, home_before}
use Rattle.messages.specs.declared.event.ActorEvent.{ActorEvent}
use Rattle.world.specs.Run.{Completed, run}
use Rattle.world.specs.Histories.{history_of}
use Rattle.world.specs.Journals.{finished_as, ended_at, DoFit}
use Rattle.world.specs.Threads.{op_numbered, home_by, JournalsShowOneTable, ThreadsKeepPromises}
use Rattle.world.proofs.lists.Members.{mapped_from, filter_contains}
use Rattle.world.proofs.causal.Homes.{homes_are_of_moves}
use Rattle.world.proofs.causal.HomesThere.{home_is_there}
use Rattle.world.proofs.envelopes.Addresses.{stands}
use Rattle.world.proofs.steps.Moves.{session_node_counts}
use Rattle.world.proofs.promised.Laws.{reads_show_one_table, reads_show_their_past, reads_are_fresh, entries_are_of_submissions}
use Rattle.world.proofs.replays.Merged.{are_a_run}
use Rattle.world.proofs.replays.Journaled.{operation_there, told_by_journals}

pub show_one_table : (top : TopologyValue) (journals : ℕ → List ActorEvent) → is_topology top.dcs top.shards top.homes ≡ true → DoFit top journals
    → JournalsShowOneTable top journals
show_one_table top journals ok fit node read time answer h here a all =
    let found = are_a_run top journals fit in
    let events = found.0 in
    let w = run top events in
    let s = stands top ok in
    let told = told_by_journals top journals events s.some found.1 in
    let f : Finished = record { number = a.number; outcome = outcome.Read time answer } in
    let own = filter (λ (z : Completed). z.node == node) w.transcript in
    let ended : Contains (map finished_as own) f =
    (subst (λ l. Contains l f) (ap finished_in (told.actors node (session_node_counts top node here))) a.ended) in
    let c = mapped_from finished_as own f ended in
    let among = filter_contains (λ (z : Completed). z.node == node) w.transcript c.0 c.1 in
    let is = among.0 in
    let of = entries_are_of_submissions top events s.some c.0 is in
    let b = of.submission in
    let session : b.session ≡ node = of.session ∙ eqb-true c.0.node node among.1 in
    let number : b.number ≡ a.number = of.number ∙ sym (ap (λ (z : Finished). z.number) c.2) in
    let named : Some b.op ≡ Some (op.Read read) =
    sym (operation_there top journals events s.some found.1 b of.submitted) ∙ ap (λ z. op_numbered (journals z) b.number) session ∙ ap (op_numbered (journals node)) number ∙ a.op in
    let same : b.op ≡ op.Read read = cc in
    let outcomes : outcomes_by top node (journals node) ≡ ended_at w node = ap finished_in (told.actors node (session_node_counts top node here)) in
    let mine : c.0.node ≡ node = eqb-true c.0.node node among.1 in
    let at : c.0.home ≡ home_by top journals node a.number =
    homes_are_of_moves top events s.some c.0 is
    ∙ ap (λ z. home_before (opening_home top z) (ended_at w z) c.0.number) mine
    ∙ ap (λ l. home_before (opening_home top node) l c.0.number) (sym outcomes)
    ∙ ap (home_before (opening_home top node) (outcomes_by top node (journals node))) (sym (ap (λ (z : Finished). z.number) c.2)) in
    let there : home_by top journals node a.number < top.dcs =
    subst (λ l. home_before (opening_home top node) l a.number < top.dcs) (sym outcomes) (home_is_there top events ok node a.number) in
    reads_show_one_table top events s.some c.0 read time answer h
    (record { completed = is; op = sym of.op ∙ same; outcome = sym (ap (λ (z : Finished). z.outcome) c.2) })
    (subst (λ l. IsPermutation h l) (sym (told.history (home_by top journals node a.number) there) ∙ ap (λ d. history_of top w d) (sym at)) all)

pub keep_promises : (top : TopologyValue) (journals : ℕ → List ActorEvent) → 0 < top.shards → DoFit top journals → ThreadsKeepPromises top journals
keep_promises top journals some fit =
    record {
      are_run = are_a_run top journals fit;
      table = λ events is. reads_show_one_table top events some;
      past = λ events is. reads_show_their_past top events some;
      fresh = λ events is. reads_are_fresh top events some;
    }
