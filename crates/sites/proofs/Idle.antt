-- Where nothing waits at a site, its actors handled all that they sent each other; so each batch and each read of a session that is at
-- home has ended.
use Rattle.std.proofs.Common.{◌≡◌, ◌∙◌, ℕ, Bool, true, false, List, [], Option, Some, None, inl, inr, refl, sym, ap, subst, eq-eqb}
use Rattle.std.specs.Prelude.{◌==◌, if◌then◌else◌, filter, option_map, Contains}
use Rattle.std.specs.Option.{unwrap_or}
use Rattle.messages.specs.declared.envelope.Envelope.{Envelope}
use Rattle.messages.specs.declared.op.Op.{Op}
use Rattle.messages.specs.declared.outcome.Outcome.{Outcome}
use Rattle.messages.specs.declared.event.ActorEvent.{ActorEvent}
use Rattle.messages.specs.declared.event.ActorEvent.TheVariants.{Submit, Handle, Collect}
use Rattle.logical_time.specs.Stamps.{TxnValue}
use Rattle.messages.specs.Topology.{TopologyValue, is_session, home_of}
use Rattle.messages.specs.Actors.{sent_in, sent_by}
use Rattle.messages.specs.Session.{Finished}
use Rattle.messages.specs.Words.{is_same_txn}
use Rattle.store.proofs.lists.Lists.{given, given_only, none_in_empty}
use Rattle.world.specs.declared.run_event.RunEvent.{RunEvent}
use Rattle.world.specs.declared.completed.Completed.{Completed}
use Rattle.world.specs.Run.{Run, Submission, submission_of, run}
use Rattle.world.specs.Journals.{IsRunOf, journal_in, finished_as}
use Rattle.world.specs.Threads.{op_numbered}
use Rattle.world.specs.Local.{IsActorOf, IsLocal, AreHandledHere, AnswersLocally}
use Rattle.world.proofs.lists.Members.{found, same_txn, contains_map, mapped_from, contains_filter, contains_flat, flat_contains}
use Rattle.world.proofs.envelopes.Addresses.{stands}
use Rattle.world.proofs.steps.Moves.{session_no_shard, session_node_counts}
use Rattle.world.proofs.replays.HandledHere.{opened_session, actor_counts, handled_here}
use Rattle.world.proofs.replays.Journaled.{told_by_journals}
use Rattle.world.proofs.quiet.Local.{answers_are_local}
use Rattle.threaded.specs.Machines.{StaysApart, as_finished}
use Rattle.threaded.proofs.Machines.{session_home}
use Rattle.threaded.proofs.Stages.{runs_stay_apart}
use Rattle.site.specs.Story.{Story, Happening, Did, Heard, Given, site_of, is_here, is_near, event_of, sends_of, journal, sent, outcomes, arrivals, arrivals_by, handled, handled_by, IsFor}
use Rattle.site.specs.Ends.{op_at, HasEnded}
use Rattle.sites.specs.Sites.{IsSiteStory, HasStory}
use Rattle.sites.specs.Idle.{IsIdle}
use Rattle.sites.proofs.Alone.{entries_are}
use Rattle.sites.proofs.Senders.{is_here_of, here_is, machine_of, now}
use Rattle.sites.proofs.Meant.{numbered_at}

-- ## The actors of a data centre are those of its site

actor_here : (top : TopologyValue) (dc node : ℕ) → IsActorOf top dc node → is_here top dc node ≡ true
actor_here top dc node of = is_here_of top dc node (actor_counts top dc node of) (at of)
  where
    at : IsActorOf top dc node → site_of top node ≡ dc
    at (inl is) = rw is.0 is.1
    at (inr is) =
        let away = session_no_shard top node (opened_session top dc node is) in
        let home : unwrap_or (home_of top node) 0 ≡ dc = ap (λ o. unwrap_or o 0) is in
        rw away home

session_here : (top : TopologyValue) (dc node : ℕ) → is_session top node ≡ true → is_here top dc node ≡ true → home_of top node ≡ Some dc
session_here top dc node is here =
    let away = session_no_shard top node is in
    let at : site_of top node ≡ unwrap_or (home_of top node) 0 = rw away refl in
    let opened = session_home top node away (session_node_counts top node is) in
    let home : opened.0 ≡ dc = sym (ap (λ o. unwrap_or o 0) opened.1) ∙ sym at ∙ (here_is top dc node here).1 in
    opened.1 ∙ ap Some home

-- ## Submissions

record IsSubmittedAs (w : Run) (t : TxnValue) (o : Op) : Type 0 where
  submission : Submission
  among : Contains w.submitted submission
  session : submission.session ≡ t.session
  number : submission.number ≡ t.number
  op : submission.op ≡ o

submitted_as : (w : Run) (t : TxnValue) (o : Op) → option_map (λ (b : Submission). b.op) (submission_of w.submitted t) ≡ Some o → IsSubmittedAs w t o
submitted_as w t o e = go (submission_of w.submitted t) refl e
  where
    go : (m : Option Submission) → submission_of w.submitted t ≡ m → option_map (λ (b : Submission). b.op) m ≡ Some o → IsSubmittedAs w t o
    go None q f = absurd (cc)
    go (Some b) q f =
        let p = found (λ (z : Submission). is_same_txn (record { session = z.session; number = z.number }) t) w.submitted b q in
        let same = same_txn (record { session = b.session; number = b.number }) t p.1 in
        let is : b.op ≡ o = cc in
        record { submission = b; among = p.0; session = ap (λ (z : TxnValue). z.session) same; number = ap (λ (z : TxnValue). z.number) same; op = is }

-- ## What they sent each other was handled

module _ (top : TopologyValue) (dc : ℕ) (s : Story) (journals : ℕ → List ActorEvent) (events : List RunEvent)
    (story : IsSiteStory top dc s) (idle : IsIdle top dc s) (has : HasStory top dc s journals) (is : IsRunOf top journals events) where
  -- what an actor sent is what the replay of its journal sends
  sends_are : (node : ℕ) → is_here top dc node ≡ true → sent_by top node (journals node) ≡ sent s node
  sends_are node here =
      let same : journal_in (run top events) node ≡ journal s node = is.each node (here_is top dc node here).0 ∙ has node here in
      let apart : StaysApart top node (journal s node) = subst (λ l. StaysApart top node l) same (runs_stay_apart top events node (stands top story.0.topology).some) in
      let i = (machine_of top dc s story node here).recorded.came.comes apart in
      ap (sent_by top node) (has node here) ∙ ap sent_in i.replays ∙ sym i.sends

  -- what came was handled by the actor for which it is
  handled_at : (e : Envelope) → Contains (arrivals top dc s) e → Contains (journal s e.to) (Handle e)
  handled_at e came =
      let p = given_only handled_by s e (subst (λ l. Contains l e) (sym idle) came) in
      by p.0 p.1 p.2
    where
      of : (x : ActorEvent) → handled_by (Did 0 x [] None) ≡ Some e → x ≡ Handle e
      of (Submit o) q = absurd (cc)
      of (Handle f) q = let same : f ≡ e = cc in ap Handle same
      of (Collect time) q = absurd (cc)

      by : (h : Happening) → Contains s h → handled_by h ≡ Some e → Contains (journal s e.to) (Handle e)
      by (Did node x sends ended) in_s q =
          let event = of x q in
          let may = (now top dc s story).may (Did node x sends ended) in_s in
          let for : e.to ≡ node = subst (λ y. IsFor node y) event may.1 in
          let self : (node == e.to) ≡ true = eq-eqb node e.to (sym for) in
          let its : event_of e.to (Did node x sends ended) ≡ Some (Handle e) = rw self (ap Some event) in
          given (event_of e.to) s (Did node x sends ended) (Handle e) in_s its
      by (Heard from f) in_s q = absurd (cc)
      by (Given f) in_s q = absurd (cc)

  -- what an actor here sent to an actor here came
  arrived : (e : Envelope) → Contains (sent s e.from) e → is_here top dc e.to ≡ true → Contains (arrivals top dc s) e
  arrived e m to =
      let p = flat_contains (sends_of e.from) s e m in
      by p.0 p.1 p.2
    where
      in_all : (b : Bool) (sends : List Envelope) → Contains (if b then sends else []) e → Contains sends e
      in_all true sends i = i
      in_all false sends i = absurd (none_in_empty e i)

      by : (h : Happening) → Contains s h → Contains (sends_of e.from h) e → Contains (arrivals top dc s) e
      by (Did node x sends ended) in_s i =
          contains_flat (arrivals_by top dc) s (Did node x sends ended) e in_s
          (contains_filter (is_near top dc) sends e (in_all (node == e.from) sends i) to)
      by (Heard from f) in_s i = absurd (none_in_empty e i)
      by (Given f) in_s i = absurd (none_in_empty e i)

  handled_between : AreHandledHere top dc journals
  handled_between e from to m =
      let here = actor_here top dc e.from from in
      let there = actor_here top dc e.to to in
      let got = handled_at e (arrived e (subst (λ l. Contains l e) (sends_are e.from here) m) there) in
      subst (λ l. Contains l (Handle e)) (sym (has e.to there)) got

  pub idle_answered : AnswersLocally top (run top events) dc
  idle_answered =
      answers_are_local top events dc story.0.topology story.0.there (handled_here top journals events dc story.0.topology is handled_between)

  -- ## By the story

  pub idle_ended : (node number : ℕ) (o : Op) → is_session top node ≡ true → is_here top dc node ≡ true → ((run top events).sessions node).home ≡ dc
      → op_at s node number ≡ Some o → IsLocal o → (r : Outcome) × HasEnded s node number o r
  idle_ended node number o session here home asked local =
      let some = (stands top story.0.topology).some in
      let w = run top events in
      let t : TxnValue = record { session = node; number = number } in
      let named : op_numbered (journals node) number ≡ Some o = ap (λ l. op_numbered l number) (has node here) ∙ numbered_at s node number ∙ asked in
      let b = submitted_as w t o ((told_by_journals top journals events some is).operations t session ∙ named) in
      let a = idle_answered.sessions node (session_here top dc node session here) home in
      let r = a.outcomes b.submission b.among b.session (subst IsLocal (sym b.op) local) in
      let c = r.0 in
      let at : c.node ≡ node = r.1.node ∙ b.session in
      let mine = filter (λ (z : Completed). z.node == node) w.transcript in
      let one = contains_map finished_as mine c (contains_filter (λ (z : Completed). z.node == node) w.transcript c r.1.ended (eq-eqb c.node node at)) in
      let q = mapped_from as_finished (outcomes s node) (finished_as c)
      (subst (λ l. Contains l (finished_as c)) (entries_are top dc node s journals story has here events is) one) in
      let first : q.0.0 ≡ number = sym (ap (λ (f : Finished). f.number) q.2) ∙ r.1.number ∙ b.number in
      (q.0.1, record { submitted = asked; ended = subst (λ n. Contains (outcomes s node) (n, q.0.1)) first q.1 })
