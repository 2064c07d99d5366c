-- Stories of sites that meet are those of a run, and what they answered is the protocol's.
use Rattle.std.proofs.Common.{◌≡◌, ◌∙◌, ℕ, ◌*◌, ◌<◌, ◌≤◌, Bool, true, false, List, [], ◌++◌, map, Some, refl, sym, ap, subst, arith, inl, inr}
use Rattle.std.specs.Prelude.{if◌then◌else◌, nat_lt, option_to_list, Contains, IsPermutation}
use Rattle.std.proofs.lemmas.Bool.Decides.{nat_tests}
use Rattle.std.proofs.lemmas.List.{append-nil}
use Rattle.std.proofs.lemmas.Nat.{div-add-mod'}
use Rattle.std.proofs.Math.Nat.{mul-le-mul_right}
use Rattle.column_family.specs.History.{History}
use Rattle.slice.specs.declared.read.Read.{Read}
use Rattle.slice.specs.declared.read.AnsweredRow.{AnsweredRow}
use Rattle.table.specs.Meaning.{meaning}
use Rattle.messages.specs.declared.envelope.Envelope.{Envelope}
use Rattle.messages.specs.declared.outcome.Outcome.TheVariants as outcome
use Rattle.messages.specs.declared.op.Op.TheVariants as op
use Rattle.messages.specs.declared.event.ActorEvent.{ActorEvent}
use Rattle.messages.specs.declared.event.ActorEvent.TheVariants.{Handle}
use Rattle.messages.specs.Topology.{TopologyValue, is_topology, is_shard, is_session, dc_of, node_count, shard_count}
use Rattle.messages.specs.Session.{Finished}
use Rattle.messages.specs.Actors.{opening_home, Replayed, replay_of, sent_by, outcomes_by, finished_in}
use Rattle.client.specs.State.{finished_of}
use Rattle.actors.specs.Shown.{Shown, AreTimed}
use Rattle.world.specs.Journals.{DoFit}
use Rattle.world.specs.Threads.{op_numbered, history_by, home_by}
use Rattle.world.proofs.lists.Members.{contains_map}
use Rattle.world.proofs.envelopes.Addresses.{stands}
use Rattle.world.proofs.steps.Moves.{session_node_counts}
use Rattle.world.proofs.promised.Threaded.{show_one_table}
use Rattle.threaded.specs.Machines.{StaysApart, as_finished}
use Rattle.threaded.specs.Shown.{DidCome}
use Rattle.threaded.proofs.ShownRuns.{all_told}
use Rattle.site.specs.Story as story
use Rattle.site.specs.Story.{site_of, Story, is_here}
use Rattle.sites.specs.Sites.{DoLive, DoMeet, journals_of, outcomes_of}
use Rattle.sites.proofs.Fits.{DoShownFit, members_fit}
use Rattle.sites.proofs.Senders.{HasMachine, machine_of, departure_own, taken_of, IsTaken, is_here_of, here_is}

-- ## Each node has a site

dc_below : (top : TopologyValue) (node : ℕ) → node < shard_count top → dc_of top node < top.dcs
dc_below top node lt = by (nat_lt (dc_of top node) top.dcs) refl
  where
    by : (b : Bool) → nat_lt (dc_of top node) top.dcs ≡ b → dc_of top node < top.dcs
    by true q = grind (arith, nat_tests)
    by false q =
        let le : top.dcs ≤ dc_of top node = grind (arith, nat_tests) in
        let most : top.dcs * top.shards ≤ dc_of top node * top.shards = mul-le-mul_right top.shards le in
        let whole = div-add-mod' node top.shards in
        absurd (omega (arith, lt, most, whole))

pub site_there : (top : TopologyValue) → is_topology top.dcs top.shards top.homes ≡ true → (node : ℕ) → site_of top node < top.dcs
site_there top ok node = by (is_shard top node) refl
  where
    below : is_shard top node ≡ true → node < shard_count top
    below q = grind (arith, nat_tests)

    by : (b : Bool) → is_shard top node ≡ b → (if b then dc_of top node else opening_home top node) < top.dcs
    by true q = dc_below top node (below q)
    by false q = (stands top ok).home node

-- ## What the actors of all sites show

module _ (top : TopologyValue) (stories : ℕ → Story) (ok : is_topology top.dcs top.shards top.homes ≡ true) (live : DoLive top stories) where
  some : 0 < top.shards
  some = (stands top ok).some

  abbrev journal : ℕ → List ActorEvent
  journal = journals_of top stories

  abbrev sent : ℕ → List Envelope
  sent node = story.sent (stories (site_of top node)) node

  actor : (node : ℕ) → node < node_count top → HasMachine top (stories (site_of top node)) node
  actor node lt = machine_of top (site_of top node) (stories (site_of top node)) (live (site_of top node) (site_there top ok node)) node (is_here_of top (site_of top node) node lt refl)

  none : Shown
  none = record { journal = []; sent = []; marks = [] }

  below_count : (node : ℕ) → nat_lt node (node_count top) ≡ true → node < node_count top
  below_count node q = grind (arith, nat_tests)

  not_below : (node : ℕ) → node < node_count top → nat_lt node (node_count top) ≡ false → ⊥
  not_below node lt q = grind (arith, nat_tests)

  abbrev shown_if : (node : ℕ) (b : Bool) → nat_lt node (node_count top) ≡ b → Shown
  shown_if node true q = (actor node (below_count node q)).recorded.shown.shown
  shown_if node false q = none

  abbrev shown : ℕ → Shown
  shown node = shown_if node (nat_lt node (node_count top)) refl

  -- what is shown of an actor
  record IsShownOf (node : ℕ) (s : Shown) : Type 0 where
    pub its : s.journal ≡ journal node
    pub along : DidCome top node s
    pub timed : AreTimed s
    pub sends : s.sent ≡ sent node

  shown_is : (node : ℕ) → node < node_count top → IsShownOf node (shown node)
  shown_is node lt = by (nat_lt node (node_count top)) refl
    where
      by : (b : Bool) (q : nat_lt node (node_count top) ≡ b) → IsShownOf node (shown_if node b q)
      by true q =
          let a = actor node (below_count node q) in
          let r = a.recorded in
          let h = r.shown in
          record { its = h.its; along = h.along; timed = h.told refl; sends = h.sends }
      by false q = absurd (not_below node lt q)

  -- what was sent is shown
  sent_shown : (node : ℕ) (e : Envelope) → node < node_count top → Contains (sent node) e → Contains (shown node).sent e
  sent_shown node e lt has = subst (λ l. Contains l e) (sym (shown_is node lt).sends) has

  -- ## Where they meet

  module _ (meet : DoMeet top stories) where
    abbrev taken : (node : ℕ) (e : Envelope) → Type 0
    taken node e = IsTaken top (site_of top node) (stories (site_of top node)) (live (site_of top node) (site_there top ok node)) node e

    sender : (node : ℕ) (e : Envelope) → taken node e → (e.from < node_count top) × Contains (sent e.from) e
    sender node e t = elim t.from [
      | inl own ↦ (
          let h = here_is top (site_of top node) e.from own.here in
          (h.0, subst (λ d. Contains (story.sent (stories d) e.from) e) (sym h.1) own.sent))
      | inr came ↦ (
          let g = meet (site_of top node) e (site_there top ok node) came.1 in
          let own = departure_own top (site_of top e.from) (stories (site_of top e.from)) (live (site_of top e.from) (site_there top ok e.from)) e g in
          (came.0, own.sent))
    ]

    fits : DoShownFit top shown
    fits node e lt has =
        let is = shown_is node lt in
        let t = taken_of top (site_of top node) (stories (site_of top node)) (live (site_of top node) (site_there top ok node)) node e (subst (λ l. Contains l (Handle e)) is.its has) in
        let s = sender node e t in
        (t.its, s.0, sent_shown e.from e s.0 s.1)

    along_all : (node : ℕ) → node < node_count top → DidCome top node (shown node)
    along_all node lt = (shown_is node lt).along

    shown_fit : DoFit top (λ n. (shown n).journal)
    shown_fit = members_fit top shown some along_all (λ node lt. (shown_is node lt).timed) fits

    pub stories_fit : DoFit top journal
    stories_fit = record {
      replays = λ node lt. subst (λ l. (r : Replayed) × (replay_of top node l ≡ Some r)) (shown_is node lt).its (shown_fit.replays node lt);
      received = λ node e lt has.
          let r = shown_fit.received node e lt (subst (λ l. Contains l (Handle e)) (sym (shown_is node lt).its) has) in
          record { here = r.here; sender = r.sender; sent = subst (λ l. Contains (sent_by top e.from l) e) (shown_is e.from r.sender).its r.sent };
    }

    -- ## What they answered

    pub outcomes_told : (node : ℕ) → node < node_count top → outcomes_by top node (journal node) ≡ map as_finished (outcomes_of top stories node)
    outcomes_told node lt =
        let is = shown_is node lt in
        let told = all_told top shown some along_all shown_fit node lt in
        let a = actor node lt in
        let apart : StaysApart top node (journal node) = subst (λ l. StaysApart top node l) is.its told.apart in
        let r = a.recorded in
        let i = r.came.comes apart in
        ap finished_in i.replays ∙ i.finishes ∙ ap (λ o. map as_finished (outcomes_of top stories node) ++ option_to_list (finished_of o)) r.taken ∙ append-nil (map as_finished (outcomes_of top stories node))

    pub answers_meant : (node number : ℕ) (read : Read) (time : ℕ) (answer : List AnsweredRow) (h : History) → is_session top node ≡ true
        → op_numbered (journal node) number ≡ Some (op.Read read) → Contains (outcomes_of top stories node) (number, outcome.Read time answer)
        → IsPermutation h (history_by top journal (home_by top journal node number)) → answer ≡ meaning read h time
    answers_meant node number read time answer h here asked told all =
        let f : Finished = record { number = number; outcome = outcome.Read time answer } in
        let ended : Contains (outcomes_by top node (journal node)) f =
        subst (λ l. Contains l f) (sym (outcomes_told node (session_node_counts top node here))) (contains_map as_finished (outcomes_of top stories node) (number, outcome.Read time answer) told) in
        show_one_table top journal ok stories_fit node read time answer h here (record { number = number; op = asked; ended = ended }) all
