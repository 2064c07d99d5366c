-- Where the moves that a session ended left it, there it is, and there it submits its next operation.
use Rattle.std.proofs.Common.{append-nil, le_refl, ◌≡◌, ◌∙◌, refl, sym, ap, subst, arith, ℕ, ◌+◌, ◌<◌, ◌≤◌, Bool, true, false, cond, List, [], ◌∷◌, ◌++◌, map, nat_lt, Option, Some, None, ◌⊎◌, inl, inr, eqb-true, eq-eqb}
use Rattle.std.proofs.lemmas.List.Elements.{filter-append}
use Rattle.std.proofs.lemmas.List.{map-append}
use Rattle.std.specs.Prelude.{◌==◌, filter, option_map, option_and_then, if◌then◌else◌, Contains}
use Rattle.std.specs.List.{cons_option}
use Rattle.std.proofs.lemmas.Bool.{false≢true}
use Rattle.std.proofs.lemmas.Bool.Decides.{nat_tests}
use Rattle.logical_time.specs.Stamps.{WriterValue}
use Rattle.messages.specs.declared.op.Op.{Op}
use Rattle.messages.specs.declared.op.Op.TheVariants as op
use Rattle.messages.specs.declared.outcome.Outcome.{Outcome}
use Rattle.messages.specs.declared.body.Body.{Body}
use Rattle.messages.specs.Topology.{TopologyValue}
use Rattle.messages.specs.Words.{is_same_txn}
use Rattle.messages.specs.Actors.{opening_home, home_after, home_before}
use Rattle.messages.specs.Session.{SessionState, SessionStep, Open, Idle, Writing, FirstRound, SecondRound, Moving, Finished, is_idle, calm, ended}
use Rattle.messages.specs.Submitting.{begun}
use Rattle.messages.specs.SessionEvents.{heard, session_taken}
use Rattle.world.specs.Run.{Run, RunEvent, Submit, Submission, Completed, submission_of, completed_of, ended_by, with_ended, with_session, submission_by, opening, continued, step, run}
use Rattle.world.specs.Journals.{finished_as, ended_at}
use Rattle.world.specs.Promises.{HomesAreOfMoves}
use Rattle.world.proofs.lists.Members.{none_in_empty, contains_first, contains_rest, contains_one, last_or_old, Contains-append_cases, same_txn_self}
use Rattle.world.proofs.safety.Facts.{txn_of}
use Rattle.world.proofs.safety.Invariant.{Inv, IsOpen, OpenSound}
use Rattle.world.proofs.steps.Begun.{begins}
use Rattle.world.proofs.steps.HeardCases.{heard_kinds, opened_as}
use Rattle.world.proofs.steps.EventCases.{event_cases}
use Rattle.world.proofs.histories.Entries.{submission_found}
use Rattle.world.proofs.keeping.ShardSteps.{actor_same}
use Rattle.world.proofs.steps.Transcripts.{as_list}
use Rattle.world.proofs.safety.Numbers.{found_last, number_is_new}
use Rattle.world.proofs.safety.Runs.{every_run, opening_holds, step_kept}

-- ## The home before an operation

-- it is the same before any number that is above those of all that ended
same_above : (home : ℕ) (fs : List Finished) (m n : ℕ) → ((f : Finished) → Contains fs f → (f.number < m) × (f.number < n)) → home_before home fs m ≡ home_before home fs n
same_above home [] m n above = refl
same_above home (f ∷ fs) m n above =
    ap (λ h. home_before h fs m) (by f.number m n (above f (contains_first f fs)))
    ∙ same_above (if nat_lt f.number n then home_after home f.outcome else home) fs m n (λ g i. above g (contains_rest f g fs i))
  where
    by : (k m n : ℕ) → (k < m) × (k < n) → (if nat_lt k m then home_after home f.outcome else home) ≡ (if nat_lt k n then home_after home f.outcome else home)
    by k m n lt = ap (λ b. if b then home_after home f.outcome else home) (both k m n lt.0 lt.1)
      where
        both : (k m n : ℕ) → k < m → k < n → nat_lt k m ≡ nat_lt k n
        both k m n lt less = grind (arith, nat_tests)

last_home : (home : ℕ) (fs : List Finished) (f : Finished) (n : ℕ)
    → home_before home (fs ++ f ∷ []) n ≡ (if nat_lt f.number n then home_after (home_before home fs n) f.outcome else home_before home fs n)
last_home home [] f n = refl
last_home home (g ∷ fs) f n = last_home (if nat_lt g.number n then home_after home g.outcome else home) fs f n

below_next : (n : ℕ) → nat_lt n (n + 1) ≡ true
below_next n = grind (arith, nat_tests)

not_below : (m n : ℕ) → n ≤ m → nat_lt m n ≡ false
not_below m n le = grind (arith, nat_tests)

-- ## Runs

pub record Homes (top : TopologyValue) (w : Run) : Type 0 where
  pub sessions : (node : ℕ) → (w.sessions node).home ≡ home_before (opening_home top node) (ended_at w node) ((w.sessions node).count + 1)
  pub submitted : (b : Submission) → Contains w.submitted b → b.home ≡ home_before (opening_home top b.session) (ended_at w b.session) b.number
  pub number : (b : Submission) → Contains w.submitted b → b.number ≤ (w.sessions b.session).count
  pub ended : (node : ℕ) (f : Finished) → Contains (ended_at w node) f → f.number ≤ (w.sessions node).count

-- what a session's step does to its home, and which entry it adds
record Turn (w : Run) (node : ℕ) (submitted : List Submission) (st : SessionStep) : Type 0 where
  count : (w.sessions node).count ≤ st.state.count
  accepted : (b : Submission) → Contains submitted b
      → Contains w.submitted b ⊎ ((b.session ≡ node) × (b.number ≡ st.state.count) × (b.home ≡ (w.sessions node).home) × ((w.sessions node).count < st.state.count))
  came : ((ended_by submitted node st ≡ None) × (st.state.home ≡ (w.sessions node).home))
      ⊎ ((c : Completed) × (ended_by submitted node st ≡ Some c) × (c.node ≡ node) × (c.number ≡ st.state.count) × (st.state.home ≡ home_after (w.sessions node).home c.outcome))

-- what is told of an actor with one entry more
abbrev pub told_of : ℕ → Option Completed → List Finished
told_of m o = map finished_as (filter (λ (c : Completed). c.node == m) (cons_option o []))

grown : (transcript : List Completed) (o : Option Completed) (m : ℕ)
    → map finished_as (filter (λ (c : Completed). c.node == m) (with_ended transcript o)) ≡ map finished_as (filter (λ (c : Completed). c.node == m) transcript) ++ told_of m o
grown transcript o m =
    ap (λ l. map finished_as (filter (λ (c : Completed). c.node == m) l)) (as_list transcript o)
    ∙ ap (map finished_as) (filter-append (λ (c : Completed). c.node == m) transcript (cons_option o []))
    ∙ map-append finished_as (filter (λ (c : Completed). c.node == m) transcript) (filter (λ (c : Completed). c.node == m) (cons_option o []))

told_here : (c : Completed) (m : ℕ) → (c.node == m) ≡ true → told_of m (Some c) ≡ finished_as c ∷ []
told_here c m e = ap (λ b. map finished_as (if b then c ∷ [] else [])) e

told_there : (c : Completed) (m : ℕ) → (c.node == m) ≡ false → told_of m (Some c) ≡ []
told_there c m e = ap (λ b. map finished_as (if b then c ∷ [] else [])) e

-- what a session's step adds to its outcomes
abbrev IsAdded : ℕ → SessionStep → List Finished → Type 0
IsAdded home st fs =
    ((fs ≡ []) × (st.state.home ≡ home))
    ⊎ ((f : Finished) × (fs ≡ f ∷ []) × (f.number ≡ st.state.count) × (st.state.home ≡ home_after home f.outcome))

-- it changes nothing before numbers up to the session's own
not_before : (first home : ℕ) (st : SessionStep) (old fs : List Finished) (n : ℕ) → n ≤ st.state.count → IsAdded home st fs
    → home_before first (old ++ fs) n ≡ home_before first old n
not_before first home st old fs n le (inl none) = ap (λ l. home_before first (old ++ l) n) none.0 ∙ ap (λ l. home_before first l n) (append-nil old)
not_before first home st old fs n le (inr some) =
    ap (λ l. home_before first (old ++ l) n) some.1 ∙ last_home first old some.0 n
    ∙ ap (λ b. if b then home_after (home_before first old n) some.0.outcome else home_before first old n)
    (ap (λ m. nat_lt m n) some.2 ∙ not_below st.state.count n le)

-- and leads from one home to the next
leads_on : (first home : ℕ) (st : SessionStep) (old fs : List Finished) → home_before first old (st.state.count + 1) ≡ home → IsAdded home st fs
    → st.state.home ≡ home_before first (old ++ fs) (st.state.count + 1)
leads_on first home st old fs before (inl none) =
    none.1 ∙ sym before ∙ sym (ap (λ l. home_before first (old ++ l) (st.state.count + 1)) none.0 ∙ ap (λ l. home_before first l (st.state.count + 1)) (append-nil old))
leads_on first home st old fs before (inr some) =
    some.3 ∙ sym (ap (λ h. home_after h some.0.outcome) before)
    ∙ sym (ap (λ l. home_before first (old ++ l) (st.state.count + 1)) some.1 ∙ last_home first old some.0 (st.state.count + 1)
    ∙ ap (λ b. if b then home_after (home_before first old (st.state.count + 1)) some.0.outcome else home_before first old (st.state.count + 1))
    (ap (λ m. nat_lt m (st.state.count + 1)) some.2 ∙ below_next st.state.count))

apart_from : (i m node : ℕ) → i ≡ node → (m == node) ≡ false → (i == m) ≡ false
apart_from i m node same apart = go (i == m) refl
  where
    go : (b : Bool) → (i == m) ≡ b → (i == m) ≡ false
    go false e = e
    go true e = absurd (false≢true (sym apart ∙ eq-eqb m node (sym (eqb-true i m e) ∙ same)))

module _ (top : TopologyValue) (w : Run) (x : RunEvent) (node : ℕ) (submitted : List Submission) (st : SessionStep) (k : Homes top w) (t : Turn w node submitted st) where
  abbrev v : Run
  v = with_session w x node submitted st

  abbrev fs : List Finished
  fs = told_of node (ended_by submitted node st)

  own_added : IsAdded (w.sessions node).home st fs
  own_added = elim t.came [
    | inl none ↦ inl (ap (told_of node) none.0, none.1)
    | inr some ↦ inr (finished_as some.0, ap (told_of node) some.1 ∙ told_here some.0 node (eq-eqb some.0.node node some.2), some.3, some.4)
  ]

  none_added : (m : ℕ) → (m == node) ≡ false → told_of m (ended_by submitted node st) ≡ []
  none_added m apart = elim t.came [
    | inl none ↦ ap (told_of m) none.0
    | inr some ↦ ap (told_of m) some.1 ∙ told_there some.0 m (apart_from some.0.node m node some.2 apart)
  ]

  ended_here : ended_at v node ≡ ended_at w node ++ fs
  ended_here = grown w.transcript (ended_by submitted node st) node

  ended_there : (m : ℕ) → (m == node) ≡ false → ended_at v m ≡ ended_at w m
  ended_there m apart = grown w.transcript (ended_by submitted node st) m ∙ ap (λ l. ended_at w m ++ l) (none_added m apart) ∙ append-nil (ended_at w m)

  state_here : v.sessions node ≡ session_taken st.state
  state_here = actor_same w.sessions node (session_taken st.state)

  state_there : (m : ℕ) → (m == node) ≡ false → v.sessions m ≡ w.sessions m
  state_there m apart = ap (λ b. cond b (session_taken st.state) (w.sessions m)) apart

  more : (m : ℕ) → (w.sessions m).count ≤ (v.sessions m).count
  more m = go (m == node) refl
    where
      go : (b : Bool) → (m == node) ≡ b → (w.sessions m).count ≤ (v.sessions m).count
      go true e = subst (λ z. (w.sessions z).count ≤ (v.sessions z).count) (sym (eqb-true m node e)) (subst (λ (a : SessionState). (w.sessions node).count ≤ a.count) (sym state_here) t.count)
      go false e = subst (λ (a : SessionState). (w.sessions m).count ≤ a.count) (sym (state_there m e)) (le_refl (w.sessions m).count)

  -- where the session was
  was : (n : ℕ) → (w.sessions node).count < n → home_before (opening_home top node) (ended_at w node) n ≡ (w.sessions node).home
  was n lt =
      same_above (opening_home top node) (ended_at w node) n ((w.sessions node).count + 1) (λ f m. let le = k.ended node f m in (omega arith, omega arith))
      ∙ sym (k.sessions node)

  session_now : (m : ℕ) → (v.sessions m).home ≡ home_before (opening_home top m) (ended_at v m) ((v.sessions m).count + 1)
  session_now m = go (m == node) refl
    where
      here : (v.sessions node).home ≡ home_before (opening_home top node) (ended_at v node) ((v.sessions node).count + 1)
      here =
          let le = t.count in
          ap (λ (a : SessionState). a.home) state_here
          ∙ leads_on (opening_home top node) (w.sessions node).home st (ended_at w node) fs (was (st.state.count + 1) (omega arith)) own_added
          ∙ ap (λ l. home_before (opening_home top node) l (st.state.count + 1)) (sym ended_here)
          ∙ ap (λ (a : SessionState). home_before (opening_home top node) (ended_at v node) (a.count + 1)) (sym state_here)

      go : (b : Bool) → (m == node) ≡ b → (v.sessions m).home ≡ home_before (opening_home top m) (ended_at v m) ((v.sessions m).count + 1)
      go true e = subst (λ z. (v.sessions z).home ≡ home_before (opening_home top z) (ended_at v z) ((v.sessions z).count + 1)) (sym (eqb-true m node e)) here
      go false e =
          ap (λ (a : SessionState). a.home) (state_there m e) ∙ k.sessions m
          ∙ ap (λ l. home_before (opening_home top m) l ((w.sessions m).count + 1)) (sym (ended_there m e))
          ∙ ap (λ (a : SessionState). home_before (opening_home top m) (ended_at v m) (a.count + 1)) (sym (state_there m e))

  -- an operation up to the session's own number keeps its home
  kept_before : (m n : ℕ) → n ≤ (v.sessions m).count → home_before (opening_home top m) (ended_at w m) n ≡ home_before (opening_home top m) (ended_at v m) n
  kept_before m n le = go (m == node) refl
    where
      here : n ≤ (v.sessions node).count → home_before (opening_home top node) (ended_at w node) n ≡ home_before (opening_home top node) (ended_at v node) n
      here low =
          sym (ap (λ l. home_before (opening_home top node) l n) ended_here
          ∙ not_before (opening_home top node) (w.sessions node).home st (ended_at w node) fs n (subst (λ (a : SessionState). n ≤ a.count) state_here low) own_added)

      go : (b : Bool) → (m == node) ≡ b → home_before (opening_home top m) (ended_at w m) n ≡ home_before (opening_home top m) (ended_at v m) n
      go true e =
          let q = eqb-true m node e in
          subst (λ z. home_before (opening_home top z) (ended_at w z) n ≡ home_before (opening_home top z) (ended_at v z) n) (sym q) (here (subst (λ z. n ≤ (v.sessions z).count) q le))
      go false e = ap (λ l. home_before (opening_home top m) l n) (sym (ended_there m e))

  session_homes : Homes top v
  session_homes =
      record {
        sessions = session_now;
        submitted = λ b m. elim (t.accepted b m) [
          | inl old ↦ let low = k.number b old in let le = more b.session in k.submitted b old ∙ kept_before b.session b.number (omega arith)
          | inr new ↦ accepted_now b new.0 new.1 new.2 new.3
        ];
        number = λ b m. elim (t.accepted b m) [
          | inl old ↦ let low = k.number b old in let le = more b.session in omega arith
          | inr new ↦ at_most b new.0 new.1
        ];
        ended = ended_now;
      }
    where
      at_most : (b : Submission) → b.session ≡ node → b.number ≡ st.state.count → b.number ≤ (v.sessions b.session).count
      at_most b of number =
          subst (λ z. b.number ≤ (v.sessions z).count) (sym of) (subst (λ (a : SessionState). b.number ≤ a.count) (sym state_here) (subst (λ z. z ≤ st.state.count) (sym number) (le_refl st.state.count)))

      accepted_now : (b : Submission) → b.session ≡ node → b.number ≡ st.state.count → b.home ≡ (w.sessions node).home → (w.sessions node).count < st.state.count
          → b.home ≡ home_before (opening_home top b.session) (ended_at v b.session) b.number
      accepted_now b of number at lt =
          at ∙ sym (was st.state.count lt)
          ∙ kept_before node st.state.count (subst (λ (a : SessionState). st.state.count ≤ a.count) (sym state_here) (le_refl st.state.count))
          ∙ ap (λ z. home_before (opening_home top z) (ended_at v z) st.state.count) (sym of)
          ∙ ap (home_before (opening_home top b.session) (ended_at v b.session)) (sym number)

      added : (f : Finished) → IsAdded (w.sessions node).home st fs → Contains fs f → f.number ≤ st.state.count
      added f (inl none) i = absurd (none_in_empty f (subst (λ l. Contains l f) none.0 i))
      added f (inr some) i =
          subst (λ (z : Finished). z.number ≤ st.state.count) (sym (contains_one _ f (subst (λ l. Contains l f) some.1 i)))
          (subst (λ z. z ≤ st.state.count) (sym some.2) (le_refl st.state.count))

      ended_now : (m : ℕ) (f : Finished) → Contains (ended_at v m) f → f.number ≤ (v.sessions m).count
      ended_now m f i = go (m == node) refl
        where
          here : Contains (ended_at v node) f → f.number ≤ (v.sessions node).count
          here i = subst (λ (a : SessionState). f.number ≤ a.count) (sym state_here) (elim (Contains-append_cases (ended_at w node) fs f (subst (λ l. Contains l f) ended_here i)) [
            | inl old ↦ let low = k.ended node f old in let le = t.count in omega arith
            | inr new ↦ added f own_added new
          ])

          go : (b : Bool) → (m == node) ≡ b → f.number ≤ (v.sessions m).count
          go true e = let q = eqb-true m node e in subst (λ z. f.number ≤ (v.sessions z).count) (sym q) (here (subst (λ z. Contains (ended_at v z) f) q i))
          go false e = subst (λ (a : SessionState). f.number ≤ a.count) (sym (state_there m e)) (k.ended m f (subst (λ l. Contains l f) (ended_there m e) i))

-- ## Each event

-- the submission of an open operation
open_found : (top : TopologyValue) (w : Run) (node : ℕ) (a : SessionState) (o : Open) → OpenSound top w node a o → is_idle o ≡ false → (z : Op) × IsOpen w node a.count a.home z
open_found top w node a Idle k busy = absurd (false≢true (sym busy))
open_found top w node a (Writing coordinator) k busy = (op.Batch k.batch, k.opened)
open_found top w node a (FirstRound read heard) k busy = (op.Read read, k.opened)
open_found top w node a (SecondRound read time first heard) k busy = (op.Read read, k.opened)
open_found top w node a (Moving dc left floor) k busy = (op.Move dc, k.opened)

-- the entry of what ended, of the submission of its number
abbrev entry_of : ℕ → Finished → Submission → Completed
entry_of node f b = record { node = node; number = f.number; home = b.home; op = b.op; outcome = f.outcome }

told_end : (submitted : List Submission) (node : ℕ) (st : SessionStep) (f : Finished) (b : Submission) → st.state.untaken ≡ Some f
    → submission_of submitted (record { session = node; number = f.number }) ≡ Some b → ended_by submitted node st ≡ Some (entry_of node f b)
told_end submitted node st f b told found = ap (option_and_then (completed_of submitted node)) told ∙ ap (option_map (entry_of node f)) found

told_nothing : (submitted : List Submission) (node : ℕ) (st : SessionStep) → st.state.untaken ≡ None → ended_by submitted node st ≡ None
told_nothing submitted node st none = ap (option_and_then (completed_of submitted node)) none

module _ (top : TopologyValue) (w : Run) (node n : ℕ) (inv : Inv top w) where
  abbrev a : SessionState
  a = w.sessions node

  taken : a.untaken ≡ None
  taken = (inv.sessions node).taken

  -- it ends nothing
  stays : (st : SessionStep) → a.count ≤ st.state.count → st.state.untaken ≡ None → st.state.home ≡ a.home → Turn w node w.submitted st
  stays st count none home = record { count = count; accepted = λ b m. inl m; came = inl (told_nothing w.submitted node st none, home) }

  -- it ends the open operation
  ends : (dc floor : ℕ) (dependencies : List WriterValue) (o : Outcome) → is_idle a.current ≡ false → dc ≡ home_after a.home o
      → Turn w node w.submitted (ended n (record a { home = dc }) floor dependencies o)
  ends dc floor dependencies o busy to =
      let found = open_found top w node a a.current (inv.sessions node).current busy in
      let b = found.1.submission in
      let f : Finished = record { number = a.count; outcome = o } in
      let st = ended n (record a { home = dc }) floor dependencies o in
      let txn : txn_of b ≡ record { session = node; number = a.count } = λ j. record { session = found.1.session j; number = found.1.number j } in
      record {
        count = le_refl a.count;
        accepted = λ c m. inl m;
        came = inr (entry_of node f b, told_end w.submitted node st f b refl (submission_found top w b (record { session = node; number = a.count }) inv.submitted found.1.among txn), refl, refl, to);
      }

  heard_turn : (from : ℕ) (m : Body) → Turn w node w.submitted (heard top node n a from m)
  heard_turn from m =
      heard_kinds top node n a from m (Turn w node w.submitted)
      (record {
        still = stays (calm n a) (le_refl a.count) taken refl;
        goes_on = λ o sends busy open_still. stays (opened_as n a o sends) (le_refl a.count) taken refl;
        over = λ floor dependencies o busy. ends (home_after a.home o) floor dependencies o busy refl;
      })

  abbrev sub : Op → Submission
  sub o = submission_by w node o (begun top node n a o)

  new_found : (o : Op) → submission_of (w.submitted ++ sub o ∷ []) (record { session = node; number = (sub o).number }) ≡ Some (sub o)
  new_found o =
      found_last (λ (s : Submission). is_same_txn (record { session = s.session; number = s.number }) (record { session = node; number = (sub o).number })) w.submitted (sub o)
      (same_txn_self (record { session = node; number = (sub o).number })) (number_is_new top w node n o inv)

  begun_turn : (o : Op) → Turn w node (w.submitted ++ sub o ∷ []) (begun top node n a o)
  begun_turn o =
      let g = begins top node n a o in
      let count = g.count in
      record {
        count = omega arith;
        accepted = λ b m. elim (last_or_old b (sub o) w.submitted m) [
          | inl old ↦ inl old
          | inr new ↦ inr (ap (λ (z : Submission). z.session) new, ap (λ (z : Submission). z.number) new, ap (λ (z : Submission). z.home) new, omega arith)
        ];
        came = go (begun top node n a o).state.untaken refl;
      }
    where
      go : (u : Option Finished) → (begun top node n a o).state.untaken ≡ u
          → ((ended_by (w.submitted ++ sub o ∷ []) node (begun top node n a o) ≡ None) × ((begun top node n a o).state.home ≡ a.home))
          ⊎ ((c : Completed) × (ended_by (w.submitted ++ sub o ∷ []) node (begun top node n a o) ≡ Some c) × (c.node ≡ node) × (c.number ≡ (begun top node n a o).state.count)
          × ((begun top node n a o).state.home ≡ home_after a.home c.outcome))
      go None e = inl (told_nothing (w.submitted ++ sub o ∷ []) node (begun top node n a o) e, (begins top node n a o).still e)
      go (Some f) e =
          let g = begins top node n a o in
          let same : f.number ≡ (begun top node n a o).state.count = g.number f e ∙ sym g.count in
          inr (
            entry_of node f (sub o),
            told_end (w.submitted ++ sub o ∷ []) node (begun top node n a o) f (sub o) e (ap (λ z. submission_of (w.submitted ++ sub o ∷ []) (record { session = node; number = z })) same ∙ new_found o),
            refl,
            same,
            g.moves f e,
          )

step_homes : (top : TopologyValue) (w : Run) (x : RunEvent) → Inv top w → Homes top w → Homes top (step top w x)
step_homes top w x inv k =
    event_cases top w x (λ v. Homes top v)
    (record {
      nothing = k;
      handled = λ i e n is sent to. record { sessions = k.sessions; submitted = k.submitted; number = k.number; ended = k.ended };
      heard = λ i e n is sent other to. session_homes top w x e.to w.submitted (heard top e.to n (w.sessions e.to) e.from e.body) k (heard_turn top w e.to n inv e.from e.body);
      begun = λ node o n is to.
          session_homes top w (Submit node o) node (w.submitted ++ submission_by w node o (begun top node n (w.sessions node) o) ∷ []) (begun top node n (w.sessions node) o) k (begun_turn top w node n inv o);
      collected = λ node time n is. record { sessions = k.sessions; submitted = k.submitted; number = k.number; ended = k.ended };
    })

opening_homes : (top : TopologyValue) → Homes top (opening top)
opening_homes top = record { sessions = λ node. refl; submitted = λ b m. absurd (none_in_empty b m); number = λ b m. absurd (none_in_empty b m); ended = λ node f m. absurd (none_in_empty f m) }

run_homes : (top : TopologyValue) (w : Run) (events : List RunEvent) → 0 < top.shards → Inv top w → Homes top w → Homes top (continued top w events)
run_homes top w [] some inv k = k
run_homes top w (x ∷ xs) some inv k = run_homes top (step top w x) xs some (step_kept top w x some inv) (step_homes top w x inv k)

pub every_home : (top : TopologyValue) (events : List RunEvent) → 0 < top.shards → Homes top (run top events)
every_home top events some = run_homes top (opening top) events some (opening_holds top) (opening_homes top)

-- each entry is of the home where the moves before left its session
pub homes_are_of_moves : (top : TopologyValue) (events : List RunEvent) → 0 < top.shards → HomesAreOfMoves top (run top events)
homes_are_of_moves top events some c has =
    let w = run top events in
    let o = ((every_run top events some).transcript c has).opened in
    sym o.home ∙ (every_home top events some).submitted o.submission o.among
    ∙ ap (λ z. home_before (opening_home top z) (ended_at w z) o.submission.number) o.session
    ∙ ap (home_before (opening_home top c.node) (ended_at w c.node)) o.number
