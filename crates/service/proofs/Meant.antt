-- An answer keeps its meaning in whatever the world becomes.
use Rattle.std.proofs.Common.{◌≡◌, ◌∙◌, ℕ, ◌<◌, List, [], ◌∷◌, ◌++◌, Ok, Err, inl, inr, refl, ap, sym, subst, append_assoc, append-nil}
use Rattle.std.specs.Prelude.{Contains}
use Rattle.logical_time.specs.declared.fault.Fault.{Fault}
use Rattle.slice.specs.declared.read.Read.{Read}
use Rattle.slice.specs.declared.read.AnsweredRow.{AnsweredRow}
use Rattle.messages.specs.declared.op.Op.{Op}
use Rattle.messages.specs.declared.op.Op.TheVariants as op
use Rattle.messages.specs.declared.outcome.Outcome.{Outcome}
use Rattle.messages.specs.declared.outcome.Outcome.TheVariants as outcome
use Rattle.messages.specs.Topology.{TopologyValue}
use Rattle.wire.specs.Replies.{Reply}
use Rattle.front.specs.Ports.{Chain}
use Rattle.world.specs.declared.run_event.RunEvent.{RunEvent}
use Rattle.world.specs.declared.run_event.RunEvent.TheVariants.{Submit}
use Rattle.world.specs.declared.completed.Completed.{Completed}
use Rattle.world.specs.Run.{run}
use Rattle.world.specs.Journals.{IsBeginning}
use Rattle.world.specs.Promises.{Fits}
use Rattle.world.proofs.lists.Members.{Contains-append_left}
use Rattle.world.proofs.growing.Grown.{runs_only_grow}
use Rattle.world.proofs.promised.Laws.{entries_are_of_submissions, moves_bring_their_past, reads_show_one_table, writes_in_runs}
use Rattle.drains.specs.Drain.{deliveries, IsDrained, IsDrainedUntil}
use Rattle.service.specs.Port.{IsReady, IsSubmitted, EndedWith, IsHandled, Asks}
use Rattle.service.specs.Meaning.{Tells, IsMeant, Replies}
use Rattle.service.proofs.Entries.{IsListed, listed_still, listed_after, own_op, own_home}

-- ## Events only come

pub begins_so : {X : Type 0} (xs ys zs : List X) → IsBeginning xs ys → IsBeginning ys zs → IsBeginning xs zs
begins_so xs ys zs f g = (f.0 ++ g.0, g.1 ∙ (ap (λ l. l ++ g.0) f.1 ∙ append_assoc xs f.0 g.0))

pub begins_at : {X : Type 0} (xs : List X) → IsBeginning xs xs
begins_at xs = ([], sym (append-nil xs))

module _ (top : TopologyValue) (session : ℕ) where
  drain_begins : (before after : List RunEvent) (count : ℕ) → IsDrained top before after count → IsBeginning before after
  drain_begins before after count d = (deliveries top 1000000 (run top before), d.happened)

  stop_begins : (before after : List RunEvent) (f : Fault) → IsDrainedUntil top before after f → IsBeginning before after
  stop_begins before after f d = (d.done, d.happened)

  ready_begins : (before ready : List RunEvent) → IsReady top before ready → IsBeginning before ready
  ready_begins before ready r = drain_begins before ready r.count r.drained

  submitted_begins : (o : Op) (before : List RunEvent) (number : ℕ) (after : List RunEvent) → IsSubmitted top session o before number after → IsBeginning before after
  submitted_begins o before number after s = begins_so before s.ready after (ready_begins before s.ready s.is_ready) (Submit session o ∷ [], s.happened)

  handled_begins : (o : Op) (before : List RunEvent) (number : ℕ) (after : List RunEvent) → IsHandled top session o before number after → IsBeginning before after
  handled_begins o before number after h =
      begins_so before h.submitted after (submitted_begins o before number h.submitted h.is_submitted) (drain_begins h.submitted after h.count h.drained)

  pub answer_begins : (before : List RunEvent) (o : Op) (r : Reply) (after : List RunEvent) → Asks top session before o r after → IsBeginning before after
  answer_begins before o (Ok result) after a = handled_begins o before a.number after a.handled
  answer_begins before o (Err f) after (inl (inl t)) = stop_begins before after f t
  answer_begins before o (Err f) after (inl (inr (inl t))) = drain_begins before after t.count t.drained
  answer_begins before o (Err f) after (inl (inr (inr t))) = ready_begins before after t.is_ready
  answer_begins before o (Err f) after (inr (inl u)) = begins_so before u.submitted after (submitted_begins o before u.number u.submitted u.is_submitted) (stop_begins u.submitted after f u.stopped)
  answer_begins before o (Err f) after (inr (inr (inl u))) = handled_begins o before u.number after u.handled
  answer_begins before o (Err f) after (inr (inr (inr u))) = handled_begins o before u.number after u.handled

  -- ## What an entry tells

  module _ (some : 0 < top.shards) where
    -- what was submitted and drained is listed
    pub handled_listed : (o : Op) (before : List RunEvent) (number : ℕ) (after : List RunEvent) → IsHandled top session o before number after → IsListed (run top after) session number o
    handled_listed o before number after h =
        let s = h.is_submitted in
        let at : IsListed (run top (s.ready ++ Submit session o ∷ [])) session number o =
        subst (λ n. IsListed (run top (s.ready ++ Submit session o ∷ [])) session n o) (sym s.numbered) (listed_after top some s.ready session o s.allowed) in
        let then = subst (λ xs. IsListed (run top xs) session number o) (sym s.happened) at in
        subst (λ xs. IsListed (run top xs) session number o) (sym h.drained.happened)
        (listed_still top some h.submitted (deliveries top 1000000 (run top h.submitted)) session number o then)

    read_of : (what : Op) (time : ℕ) (answer : List AnsweredRow) → Fits what (outcome.Read time answer) → (read : Read) × (what ≡ op.Read read)
    read_of (op.Batch batch) time answer fits = absurd fits
    read_of (op.Read read) time answer fits = (read, refl)
    read_of (op.Move dc) time answer fits = absurd fits

    move_of : (what : Op) (dc floor : ℕ) → Fits what (outcome.Moved dc floor) → what ≡ op.Move dc
    move_of (op.Batch batch) dc floor fits = absurd fits
    move_of (op.Read read) dc floor fits = absurd fits
    move_of (op.Move there) dc floor fits = ap op.Move (sym fits)

    told : (events : List RunEvent) (c : Completed) (o : Op) (result : Outcome) → Contains (run top events).transcript c → c.op ≡ o → c.outcome ≡ result → Tells top (run top events) c o result
    told events c o (outcome.Wrote commit stamp) has is came = writes_in_runs top events some c commit stamp has came
    told events c o (outcome.Read time answer) has is came =
        let fits = subst (λ r. Fits c.op r) came (entries_are_of_submissions top events some c has).fits in
        let of = read_of c.op time answer fits in
        record {
          read = of.0;
          asked = sym is ∙ of.1;
          meant = λ h history. reads_show_one_table top events some c of.0 time answer h (record { completed = has; op = of.1; outcome = came }) history;
        }
    told events c o outcome.Collected has is came = tt
    told events c o (outcome.Moved dc floor) has is came =
        record {
          asked = move_of o dc floor (subst (λ p. Fits p (outcome.Moved dc floor)) is (subst (λ r. Fits c.op r) came (entries_are_of_submissions top events some c has).fits));
          past = λ u before. moves_bring_their_past top events some c dc floor u has came before;
        }

    -- the end of an operation that is listed means it
    pub entry_means : (events : List RunEvent) (number : ℕ) (o : Op) (result : Outcome) → IsListed (run top events) session number o → EndedWith (run top events) session number result
        → IsMeant top (run top events) session number o result
    entry_means events number o result listed e =
        let is = own_op top some events session number o e.entry listed e.is_end in
        record {
          entry = e.entry;
          ended = e.is_end;
          home = own_home top some events session number e.entry e.is_end;
          op_is = is;
          outcome_is = e.outcome_is;
          tells = told events e.entry o result e.is_end.listed is e.outcome_is;
        }

    meant : (before : List RunEvent) (o : Op) (result : Outcome) (after left : List RunEvent) (number : ℕ) → IsHandled top session o before number after → EndedWith (run top after) session number result
        → IsBeginning after left → IsMeant top (run top left) session number o result
    meant before o result after left number h e begins =
        let ended = e.is_end in
        let grew = (runs_only_grow top after begins.0).transcript in
        let w = run top (after ++ begins.0) in
        let still : Contains w.transcript e.entry =
        (subst (λ l. Contains l e.entry) (sym grew.1) (Contains-append_left (run top after).transcript grew.0 e.entry ended.listed)) in
        let listed = listed_still top some after begins.0 session number o (handled_listed o before number after h) in
        let ended_still : EndedWith w session number result =
        (record { entry = e.entry; is_end = record { listed = still; node = ended.node; numbered = ended.numbered }; outcome_is = e.outcome_is }) in
        subst (λ xs. IsMeant top (run top xs) session number o result) (sym begins.1) (entry_means (after ++ begins.0) number o result listed ended_still)

    pub answer_means : (before : List RunEvent) (o : Op) (r : Reply) (after left : List RunEvent) → Asks top session before o r after → IsBeginning after left → Replies top session (run top left) before o r after
    answer_means before o (Err f) after left a begins = a
    answer_means before o (Ok result) after left a begins = record { answered = a; meant = meant before o result after left a.number a.handled a.ended begins }

    -- ## Chains

    pub chain_begins : (p : List RunEvent) (ops : List Op) (answers : List Reply) (q : List RunEvent) → Chain (Asks top session) p ops answers q → IsBeginning p q
    chain_begins p [] [] q c = subst (λ z. IsBeginning p z) c (begins_at p)
    chain_begins p [] (a ∷ answers) q c = absurd c
    chain_begins p (o ∷ ops) [] q c = absurd c
    chain_begins p (o ∷ ops) (a ∷ answers) q c = begins_so p c.0 q (answer_begins p o a c.0 c.1) (chain_begins c.0 ops answers q c.2)

    meant_until : (left : List RunEvent) (p : List RunEvent) (ops : List Op) (answers : List Reply) (q : List RunEvent) → Chain (Asks top session) p ops answers q → IsBeginning q left
        → Chain (Replies top session (run top left)) p ops answers q
    meant_until left p [] [] q c begins = c
    meant_until left p [] (a ∷ answers) q c begins = absurd c
    meant_until left p (o ∷ ops) [] q c begins = absurd c
    meant_until left p (o ∷ ops) (a ∷ answers) q c begins = (
      c.0,
      answer_means p o a c.0 left c.1 (begins_so c.0 q left (chain_begins c.0 ops answers q c.2) begins),
      meant_until left c.0 ops answers q c.2 begins,
    )

    -- each answer of a chain means its request in what the chain leaves behind
    pub chain_means : (p : List RunEvent) (ops : List Op) (answers : List Reply) (q : List RunEvent) → Chain (Asks top session) p ops answers q
        → Chain (Replies top session (run top q)) p ops answers q
    chain_means p ops answers q c = meant_until q p ops answers q c (begins_at q)
