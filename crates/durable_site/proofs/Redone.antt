-- Steps that are done again, and where a site gets stuck.
use Rattle.std.proofs.Common.{◌≡◌, ◌∙◌, ℕ, zero, suc, ◌<◌, ◌+◌, ◌-◌, List, [], ◌∷◌, ◌++◌, Option, None, Some, Result, Ok, Err, IfErr, refl, ap, sym, subst, arith, append-nil, append_assoc}
use Rattle.std.specs.Prelude.{replicate}
use Rattle.std.proofs.lemmas.List.{replicate-append-replicate}
use Rattle.std.proofs.lemmas.Grind.{flat_map-append}
use Rattle.logical_time.specs.declared.fault.Fault.{Fault}
use Rattle.messages.specs.declared.outcome.Outcome.{Outcome}
use Rattle.messages.specs.declared.envelope.Envelope.{Envelope}
use Rattle.messages.specs.declared.event.ActorEvent.{ActorEvent}
use Rattle.messages.specs.declared.event.ActorEvent.TheVariants.{Handle}
use Rattle.actors.specs.Machines.{Refuses}
use Rattle.site.specs.Sites.{SiteValue}
use Rattle.site.specs.Story.{Heard, given}
use Rattle.site.specs.Steps.{Step, Came, Turned, step_by, steps}
use Rattle.site.specs.Turns.{goes_on, HasDone, HasHandled, HasTurned}
use Rattle.site.specs.declared.turn.Turn.{Turn}
use Rattle.site.specs.declared.turn.Turn.TheVariants.{Idle, Handled, Ended}
use Rattle.site_ledger.specs.declared.entry.Entry.{Entry}
use Rattle.site_ledger.specs.Steps.{steps_of, steps_told}
use Rattle.durable_site.specs.Stuck.{count_of, HasRedone, CantDo, IsStuck}
use Rattle.durable_site.proofs.Steps.{did_step, heard_step, did_gives, heard_gives, told_more}

pub redone_none : (s : SiteValue) → HasRedone s [] s
redone_none s = record { top = refl; dc = refl; sound = refl; steps = sym (append-nil (steps s.story)); given = refl }

pub redone_then : (a b c : SiteValue) (xs ys : List Step) → HasRedone a xs b → HasRedone b ys c → HasRedone a (xs ++ ys) c
redone_then a b c xs ys h k = record {
  top = k.top ∙ h.top;
  dc = k.dc ∙ h.dc;
  sound = k.sound ∙ h.sound;
  steps = k.steps ∙ ap (λ (l : List Step). l ++ ys) h.steps ∙ append_assoc (steps a.story) xs ys;
  given = k.given ∙ h.given;
}

pub done_redone : (old new : SiteValue) (node : ℕ) (x : ActorEvent) (ended : Option (ℕ × Outcome)) → HasDone old node x ended new → HasRedone old (step_by node x ∷ []) new
done_redone old new node x ended h = record {
  top = ap (λ (s : SiteValue). s.top) h.2;
  dc = ap (λ (s : SiteValue). s.dc) h.2;
  sound = ap (λ (s : SiteValue). s.sound) h.2;
  steps = ap (λ (s : SiteValue). steps s.story) h.2 ∙ did_step old.story node x h.0 ended;
  given = ap (λ (s : SiteValue). given s.story) h.2 ∙ did_gives old.story node x h.0 ended;
}

pub heard_redone : (old new : SiteValue) (from : ℕ) (e : Envelope) → new ≡ goes_on old (Heard from e) → HasRedone old (Came from e ∷ []) new
heard_redone old new from e is = record {
  top = ap (λ (s : SiteValue). s.top) is;
  dc = ap (λ (s : SiteValue). s.dc) is;
  sound = ap (λ (s : SiteValue). s.sound) is;
  steps = ap (λ (s : SiteValue). steps s.story) is ∙ heard_step old.story from e;
  given = ap (λ (s : SiteValue). given s.story) is ∙ heard_gives old.story from e;
}

handled_redone : (old new : SiteValue) (node : ℕ) (ended : Option (ℕ × Outcome)) → HasHandled old node ended new → HasRedone old (Turned ∷ []) new
handled_redone old new node ended h = done_redone old new node (Handle h.0) ended h.3

pub some_turns : (n : ℕ) (t : Turn) → n ≡ count_of t → (n ≡ 0 → ⊥) → 0 < count_of t
some_turns n t is some = either (count_of t) refl
  where
    either : (k : ℕ) → count_of t ≡ k → 0 < k
    either zero none = absurd (some (is ∙ none))
    either (suc k) more = omega arith

pub turned_redone : (old new : SiteValue) (t : Turn) → 0 < count_of t → HasTurned old t new → HasRedone old (Turned ∷ []) new
turned_redone old new Idle some h = absurd (omega (arith, some))
turned_redone old new Handled some h = handled_redone old new h.0 None h.1
turned_redone old new (Ended session number outcome) some h = handled_redone old new session (Some (number, outcome)) h

-- ## Where a site gets stuck

pub stuck_first : (refuses : Refuses) (old : SiteValue) (next : Step) (fault : Fault) → CantDo refuses old next fault → IsStuck refuses old (next ∷ []) fault
stuck_first refuses old next fault why = record { done = []; next = next; left = []; parts = refl; site = old; redone = redone_none old; why = why }

-- at the only one of these steps, if it can't be done
pub stuck_at : {X : Type 0} (r : Result X Fault) (refuses : Refuses) (old : SiteValue) (next : Step) (all : List Step) → all ≡ next ∷ [] → IfErr r (CantDo refuses old next) → IfErr r (IsStuck refuses old all)
stuck_at (Ok x) refuses old next all is why = tt
stuck_at (Err fault) refuses old next all is why = subst (λ (l : List Step). IsStuck refuses old l fault) (sym is) (stuck_first refuses old next fault why)

pub stuck_then : (refuses : Refuses) (a b : SiteValue) (xs ys zs all : List Step) (fault : Fault) → all ≡ xs ++ (ys ++ zs) → HasRedone a xs b → IsStuck refuses b ys fault → IsStuck refuses a all fault
stuck_then refuses a b xs ys zs all fault parts h k = record {
  done = xs ++ k.done;
  next = k.next;
  left = k.left ++ zs;
  parts = parts ∙ ap (λ (l : List Step). xs ++ (l ++ zs)) k.parts ∙ ap (λ (l : List Step). xs ++ l) (append_assoc k.done (k.next ∷ k.left) zs) ∙ sym (append_assoc xs k.done (k.next ∷ (k.left ++ zs)));
  site = k.site;
  redone = redone_then a b k.site xs k.done h k.redone;
  why = k.why;
}

-- ## Turns

pub one_more_turn : (a b c : SiteValue) (n : ℕ) → HasRedone a (replicate n Turned) b → HasRedone b (Turned ∷ []) c → HasRedone a (replicate (n + 1) Turned) c
one_more_turn a b c n h k = subst (λ (l : List Step). HasRedone a l c) (replicate-append-replicate n 1 Turned) (redone_then a b c (replicate n Turned) (Turned ∷ []) h k)

pub stuck_turn : (refuses : Refuses) (a b : SiteValue) (n count : ℕ) (fault : Fault) → n < count → HasRedone a (replicate n Turned) b → CantDo refuses b Turned fault → IsStuck refuses a (replicate count Turned) fault
stuck_turn refuses a b n count fault lt h why =
    let m = count - (n + 1) in
    let all : replicate count Turned ≡ replicate n Turned ++ (Turned ∷ [] ++ replicate m Turned) =
    ap (λ (k : ℕ). replicate k Turned) (omega arith) ∙ sym (replicate-append-replicate n (1 + m) Turned) ∙ ap (λ (l : List Step). replicate n Turned ++ l) (sym (replicate-append-replicate 1 m Turned)) in
    stuck_then refuses a b (replicate n Turned) (Turned ∷ []) (replicate m Turned) (replicate count Turned) fault all h (stuck_first refuses b Turned fault why)

pub stuck_turn_err : {X : Type 0} (r : Result X Fault) (refuses : Refuses) (a b : SiteValue) (n count : ℕ) (fault : Fault) → r ≡ Err fault → n < count → HasRedone a (replicate n Turned) b → CantDo refuses b Turned fault
    → IfErr r (IsStuck refuses a (replicate count Turned))
stuck_turn_err {X = X} r refuses a b n count fault is lt h why = subst (λ (z : Result X Fault). IfErr z (IsStuck refuses a (replicate count Turned))) (sym is) (stuck_turn refuses a b n count fault lt h why)

-- ## Entries

pub one_more_entry : (a b c : SiteValue) (es : List Entry) (e : Entry) → HasRedone a (steps_told es) b → HasRedone b (steps_of e) c → HasRedone a (steps_told (es ++ e ∷ [])) c
one_more_entry a b c es e h k = subst (λ (l : List Step). HasRedone a l c) (sym (told_more es e)) (redone_then a b c (steps_told es) (steps_of e) h k)

pub stuck_entry_err : {X : Type 0} (r : Result X Fault) (refuses : Refuses) (a b : SiteValue) (es rest all : List Entry) (e : Entry) (fault : Fault) → r ≡ Err fault → all ≡ es ++ e ∷ rest → HasRedone a (steps_told es) b
    → IsStuck refuses b (steps_of e) fault → IfErr r (IsStuck refuses a (steps_told all))
stuck_entry_err {X = X} r refuses a b es rest all e fault is parts h k =
    subst (λ (z : Result X Fault). IfErr z (IsStuck refuses a (steps_told all))) (sym is)
    (stuck_then refuses a b (steps_told es) (steps_of e) (steps_told rest) (steps_told all) fault (ap steps_told parts ∙ flat_map-append steps_of es (e ∷ rest)) h k)
