-- The histories that an audit goes by, and that it finds no wrong read in a run.
use Rattle.std.proofs.Common.{◌≡◌, ◌∙◌, ℕ, zero, suc, ◌+◌, ◌<◌, Bool, true, false, not, List, [], ◌∷◌, ◌++◌, length, Option, Some, Result, Ok, Err, ◌⊎◌, inl, inr, refl, ap, sym, subst, slice_get, arith}
use Rattle.std.specs.Prelude.{IfOk, IsOkAnd, Contains}
use Rattle.std.specs.List.{count_by}
use Rattle.std.proofs.lemmas.List.{length-append}
use Rattle.logical_time.specs.declared.fault.Fault.{Fault}
use Rattle.column_family.specs.History.{History}
use Rattle.slice.specs.declared.read.Read.{Read}
use Rattle.slice.specs.declared.read.AnsweredRow.{AnsweredRow}
use Rattle.table.specs.Meaning.{meaning}
use Rattle.messages.specs.declared.op.Op.{Op}
use Rattle.messages.specs.declared.op.Op.TheVariants as op
use Rattle.messages.specs.declared.outcome.Outcome.{Outcome}
use Rattle.messages.specs.declared.outcome.Outcome.TheVariants as outcome
use Rattle.messages.specs.Topology.{TopologyValue, is_topology}
use Rattle.world.specs.declared.run_event.RunEvent.{RunEvent}
use Rattle.world.specs.declared.completed.Completed.{Completed}
use Rattle.world.specs.Run.{Run, run}
use Rattle.world.specs.Histories.{IsHistory}
use Rattle.world.specs.Promises.{Fits}
use Rattle.world.proofs.envelopes.Addresses.{stands}
use Rattle.world.proofs.causal.Homes.{homes_are_of_moves}
use Rattle.world.proofs.causal.HomesThere.{home_is_there}
use Rattle.world.proofs.promised.Laws.{reads_show_one_table, entries_are_of_submissions}
use Rattle.audit.specs.declared.found.Audit.{Audit}
use Rattle.audit.specs.Audit.{is_right, is_wrong_on, is_wrong}
use Rattle.audit.proofs.Same.{right_is_meaning}
use Rattle.workload.specs.declared.script.ScriptEvent.{ScriptEvent}
use Rattle.workload.specs.declared.script.Script.{Script}
use Rattle.workload.specs.declared.transcript.Entry.{Entry}
use Rattle.workload.specs.Audited.{AreFirstHistories}
use Rattle.workload.specs.HasTold.{HasTold}
use Rattle.workload.specs.Simulation.{run_of, events_in, IsTranscriptOf}
use Rattle.workload.proofs.Shown.{read_of, shown_told}
use Rattle.world.proofs.lists.Members.{contains_first, contains_rest}

-- ## Histories

last_or_before : {X : Type 0} (xs : List X) (x s : X) (k : ℕ) → slice_get (xs ++ x ∷ []) k ≡ Some s → (slice_get xs k ≡ Some s) ⊎ ((k ≡ length xs) × (x ≡ s))
last_or_before [] x s zero e = inr (refl, cc)
last_or_before [] x s (suc k) e = absurd cc
last_or_before (y ∷ xs) x s zero e = inl e
last_or_before (y ∷ xs) x s (suc k) e = elim (last_or_before xs x s k e) [ inl before ↦ inl before | inr last ↦ inr (ap suc last.0, last.1) ]

pub no_histories : (top : TopologyValue) (w : Run) (histories : List History) → histories ≡ [] → AreFirstHistories top w 0 histories
no_histories top w histories none = subst (AreFirstHistories top w 0) (sym none) (record { all = refl; each = λ dc h found. absurd cc })

pub one_more_history : (top : TopologyValue) (w : Run) (n : ℕ) (histories : List History) (h : History) → AreFirstHistories top w n histories → IsHistory top w n h
    → AreFirstHistories top w (n + 1) (histories ++ h ∷ [])
one_more_history top w n histories h are is = record {
  all = length-append histories (h ∷ []) ∙ ap (λ m. m + 1) are.all;
  each = λ dc g found. elim (last_or_before histories h g dc found) [
    | inl before ↦ are.each dc g before
    | inr last ↦ subst (λ (x : History). IsHistory top w dc x) last.1 (subst (λ d. IsHistory top w d h) (sym (last.0 ∙ are.all)) is)
  ];
}

-- ## No read is wrong

there_is : {X : Type 0} (xs : List X) (k : ℕ) → k < length xs → (x : X) × (slice_get xs k ≡ Some x)
there_is [] k lt = absurd (omega arith)
there_is (x ∷ xs) zero lt = (x, refl)
there_is (x ∷ xs) (suc k) lt = there_is xs k (omega arith)

pub none_counted : {X : Type 0} (p : X → Bool) (xs : List X) → ((x : X) → Contains xs x → p x ≡ false) → count_by p xs ≡ 0
none_counted p [] fails = refl
none_counted p (x ∷ xs) fails = rw (fails x (contains_first x xs)) (none_counted p xs (λ y among. fails y (contains_rest x y xs among)))

right_by : (o : Option History) (a : Op) (h : History) (read : Read) (time : ℕ) (answer : List AnsweredRow) → o ≡ Some h → a ≡ op.Read read → answer ≡ meaning read h time
    → is_right o a time answer ≡ true
right_by o a h read time answer there asked means = rw (there, asked) ((right_is_meaning h read time answer).1 means)

module _ (top : TopologyValue) (events : List RunEvent) (histories : List History) (is : is_topology top.dcs top.shards top.homes ≡ true) (are : AreFirstHistories top (run top events) top.dcs histories) where
  has_history : (c : Completed) → Contains (run top events).transcript c → (h : History) × (slice_get histories c.home ≡ Some h)
  has_history c among =
      let at = homes_are_of_moves top events (stands top is).some c among in
      let there : c.home < top.dcs = subst (λ h. h < top.dcs) (sym at) (home_is_there top events is c.node c.number) in
      there_is histories c.home (subst (λ n. c.home < n) (sym are.all) there)

  right_there : (c : Completed) → Contains (run top events).transcript c → (read : Read) (time : ℕ) (answer : List AnsweredRow) → c.op ≡ op.Read read
      → c.outcome ≡ outcome.Read time answer → is_right (slice_get histories c.home) c.op time answer ≡ true
  right_there c among read time answer asked came =
      let (h, there) = has_history c among in
      right_by (slice_get histories c.home) c.op h read time answer there asked
      (reads_show_one_table top events (stands top is).some c read time answer h
      (record { completed = among; op = asked; outcome = came }) (are.each c.home h there))

  pub never_wrong : (c : Completed) → Contains (run top events).transcript c → is_wrong histories c ≡ false
  never_wrong c among = by c.outcome refl
    where
      fits : Fits c.op c.outcome
      fits = (entries_are_of_submissions top events (stands top is).some c among).fits

      by : (o : Outcome) → c.outcome ≡ o → is_wrong_on (slice_get histories c.home) c.op o ≡ false
      by (outcome.Wrote commit stamp) q = refl
      by (outcome.Read time answer) q =
          let (read, asked) = read_of c.op time answer (subst (Fits c.op) q fits) in
          ap not (right_there c among read time answer asked q)
      by outcome.Collected q = refl
      by (outcome.Moved dc floor) q = refl

-- an audit that counts in the run finds none
pub audit_is_clean : (r : Result Audit Fault) (top : TopologyValue) (events : List RunEvent) (histories given : List History) (completed : List Completed)
    → is_topology top.dcs top.shards top.homes ≡ true → AreFirstHistories top (run top events) top.dcs histories → given ≡ histories → completed ≡ (run top events).transcript
    → IfOk r (λ found. found.wrong ≡ count_by (is_wrong given) completed) → IfOk r (λ found. found.wrong ≡ 0)
audit_is_clean (Ok found) top events histories given completed is are same all counted =
    counted ∙ ap (λ hs. count_by (is_wrong hs) completed) same ∙ ap (count_by (is_wrong histories)) all
    ∙ none_counted (is_wrong histories) (run top events).transcript (never_wrong top events histories is are)
audit_is_clean (Err e) top events histories given completed is are same all counted = tt

-- ## What is told of a script

pub told_audited : {X M : Type 0} (r : Result X Fault) (of : X → List Entry) (p : Result M Fault) (marked : M → List Entry) (s : Script) (top : TopologyValue) (events : List ScriptEvent) (w : Run)
    → 0 < s.topology.shards → top ≡ s.topology → events ≡ s.events → IfOk p (λ m. HasTold top events w (marked m)) → IfOk r (λ x. IsOkAnd p (λ m. of x ≡ marked m))
    → IfOk r (λ x. IsTranscriptOf s (of x))
told_audited (Ok x) of (Ok m) marked s top events w some same all h is = subst (IsTranscriptOf s) (sym is) (shown_told s top events w (marked m) some same all h)
told_audited (Ok x) of (Err e) marked s top events w some same all h is = absurd is
told_audited (Err e) of p marked s top events w some same all h is = tt

-- what holds of the run that a script was played to holds of the script's run
pub in_run_of : {X M : Type 0} (P : X → Run → Type 0) (r : Result X Fault) (of : X → List Entry) (p : Result M Fault) (marked : M → List Entry) (s : Script) (top : TopologyValue)
    (events : List ScriptEvent) (w : Run) → top ≡ s.topology → events ≡ s.events → IfOk p (λ m. HasTold top events w (marked m))
    → IfOk r (λ x. IsOkAnd p (λ m. of x ≡ marked m)) → IfOk r (λ x. P x w) → IfOk r (λ x. P x (run_of s))
in_run_of P (Ok x) of (Ok m) marked s top events w same all h is holds =
    subst (P x) (h.run ∙ ap (λ t. run t (events_in t events)) same ∙ ap (λ xs. run s.topology (events_in s.topology xs)) all) holds
in_run_of P (Ok x) of (Err e) marked s top events w same all h is holds = absurd is
in_run_of P (Err e) of p marked s top events w same all h is holds = tt

-- the run that a script was played to is the script's run
pub is_run_of : (s : Script) (top : TopologyValue) (events : List ScriptEvent) (w : Run) (entries : List Entry) → top ≡ s.topology → events ≡ s.events → HasTold top events w entries → w ≡ run_of s
is_run_of s top events w entries same all h = h.run ∙ ap (λ t. run t (events_in t events)) same ∙ ap (λ xs. run s.topology (events_in s.topology xs)) all
