-- What is told of events is what ended by them, and each refused submission.
use Rattle.std.proofs.Common.{◌≡◌, ◌∙◌, ℕ, false, List, [], ◌∷◌, ◌++◌, length, map, drop, Option, Some, None, Result, Ok, Err, refl, ap, sym, subst, append_assoc}
use Rattle.std.specs.Prelude.{filter, option_map, option_to_list}
use Rattle.std.proofs.Math.Seq.{drop-append_seam, drop-length}
use Rattle.std.proofs.lemmas.List.{map-append}
use Rattle.std.proofs.lemmas.List.Elements.{filter-append}
use Rattle.logical_time.specs.declared.fault.Fault.{Fault}
use Rattle.logical_time.specs.declared.fault.Fault.TheVariants.{ClockSpent}
use Rattle.messages.specs.declared.op.Op.{Op}
use Rattle.messages.specs.declared.outcome.Outcome.{Outcome}
use Rattle.messages.specs.declared.outcome.Outcome.TheVariants as outcome
use Rattle.messages.specs.Topology.{TopologyValue}
use Rattle.world.specs.declared.run_event.RunEvent.{RunEvent}
use Rattle.world.specs.declared.run_event.RunEvent.TheVariants.{Submit, Deliver, Collect}
use Rattle.world.specs.declared.completed.Completed.{Completed}
use Rattle.world.specs.Run.{Run, step, continued}
use Rattle.world.specs.Refusals.{Refusal, Refused, NotSent, NoSuchActor, refusal_of}
use Rattle.world.specs.Journals.{IsBeginning}
use Rattle.world.proofs.growing.Grown.{run_grew}
use Rattle.world.proofs.steps.Refusals.{refused_stays}
use Rattle.workload.specs.declared.transcript.Entry.{Entry}
use Rattle.workload.specs.declared.transcript.Entry.TheVariants as entry
use Rattle.workload.specs.Simulation.{entry_by, entry_of, ended_between, submission_refused, refused_as, told_if, told_of, then_told, told, is_refusal, is_outcome, with_refusal, left_out, refusal_entry}

-- ## What ended

pub past_is : {X : Type 0} (xs ys : List X) (b : IsBeginning xs ys) → drop (length xs) ys ≡ b.0
past_is xs ys b = ap (drop (length xs)) b.1 ∙ drop-append_seam xs b.0

pub none_ended : (w : Run) → ended_between w w ≡ []
none_ended w = ap (map entry_of) (drop-length w.transcript)

-- what ended in two steps
pub ended_then : (w v u : Run) → IsBeginning w.transcript v.transcript → IsBeginning v.transcript u.transcript
    → ended_between w u ≡ ended_between w v ++ ended_between v u
ended_then w v u a b =
    let whole : u.transcript ≡ w.transcript ++ (a.0 ++ b.0) = b.1 ∙ ap (λ cs. cs ++ b.0) a.1 ∙ append_assoc w.transcript a.0 b.0 in
    let all : drop (length w.transcript) u.transcript ≡ a.0 ++ b.0 = past_is w.transcript u.transcript (a.0 ++ b.0, whole) in
    ap (map entry_of) all ∙ map-append entry_of a.0 b.0
    ∙ ap (λ es. es ++ map entry_of b.0) (sym (ap (map entry_of) (past_is w.transcript v.transcript a)))
    ∙ ap (λ es. ended_between w v ++ es) (sym (ap (map entry_of) (past_is v.transcript u.transcript b)))

pub ended_after : (top : TopologyValue) (w : Run) (xs ys : List RunEvent)
    → ended_between w (continued top (continued top w xs) ys) ≡ ended_between w (continued top w xs) ++ ended_between (continued top w xs) (continued top (continued top w xs) ys)
ended_after top w xs ys =
    ended_then w (continued top w xs) (continued top (continued top w xs) ys) (run_grew top w xs).transcript (run_grew top (continued top w xs) ys).transcript

-- ## Outcomes and refusals among entries

is_outcome_by : (node number : ℕ) (o : Outcome) → is_refusal (entry_by node number o) ≡ false
is_outcome_by node number (outcome.Wrote commit stamp) = refl
is_outcome_by node number (outcome.Read time answer) = refl
is_outcome_by node number outcome.Collected = refl
is_outcome_by node number (outcome.Moved dc floor) = refl

first_kept : (e : Entry) (es : List Entry) → is_refusal e ≡ false → filter is_outcome (e ∷ es) ≡ e ∷ filter is_outcome es
first_kept e es q = rw q refl

first_dropped : (e : Entry) (es : List Entry) → is_refusal e ≡ false → filter is_refusal (e ∷ es) ≡ filter is_refusal es
first_dropped e es q = rw q refl

pub outcomes_of_ended : (cs : List Completed) → filter is_outcome (map entry_of cs) ≡ map entry_of cs
outcomes_of_ended [] = refl
outcomes_of_ended (c ∷ cs) =
    first_kept (entry_of c) (map entry_of cs) (is_outcome_by c.node c.number c.outcome) ∙ ap (λ es. entry_of c ∷ es) (outcomes_of_ended cs)

pub refusals_of_ended : (cs : List Completed) → filter is_refusal (map entry_of cs) ≡ []
refusals_of_ended [] = refl
refusals_of_ended (c ∷ cs) =
    first_dropped (entry_of c) (map entry_of cs) (is_outcome_by c.node c.number c.outcome) ∙ refusals_of_ended cs

-- ## One event

abbrev some_of : Entry → Option Entry
some_of e = Some e

-- what is told of an event: what ended by it, and its refusal as a submission
record TellsOf (w : Run) (refusal : Option Refusal) (x : RunEvent) (v : Run) (es : List Entry) : Type 0 where
  outcomes : filter is_outcome es ≡ ended_between w v
  refusals : map some_of (filter is_refusal es) ≡ map refusal_entry (option_to_list (option_map (λ r. (x, r)) refusal))

submission_tells : (node : ℕ) (e : Fault) (es : List Entry) → submission_refused node e ≡ Ok es → es ≡ entry.Refused node e ∷ []
submission_tells node ClockSpent es h = absurd cc
submission_tells node e es h = let same : entry.Refused node e ∷ [] ≡ es = cc in sym same

one_refusal : (w : Run) (node : ℕ) (o : Op) (e : Fault) (es : List Entry) → es ≡ entry.Refused node e ∷ [] → TellsOf w (Some (Refused e)) (Submit node o) w es
one_refusal w node o e es is =
    record {
      outcomes = ap (filter is_outcome) is ∙ sym (none_ended w);
      refusals = ap (λ fs. map some_of (filter is_refusal fs)) is;
    }

refused_tells : (w : Run) (x : RunEvent) (r : Refusal) (es : List Entry) → refused_as x r ≡ Ok es → TellsOf w (Some r) x w es
refused_tells w (Submit node o) (Refused e) es h = one_refusal w node o e es (submission_tells node e es h)
refused_tells w (Submit node o) NotSent es h = absurd cc
refused_tells w (Submit node o) NoSuchActor es h = absurd cc
refused_tells w (Deliver k) (Refused e) es h = absurd cc
refused_tells w (Deliver k) NotSent es h = absurd cc
refused_tells w (Deliver k) NoSuchActor es h = absurd cc
refused_tells w (Collect node time) (Refused e) es h = absurd cc
refused_tells w (Collect node time) NotSent es h = absurd cc
refused_tells w (Collect node time) NoSuchActor es h = absurd cc

if_tells : (w : Run) (o : Option Refusal) (x : RunEvent) (v : Run) (es : List Entry) → ((r : Refusal) → o ≡ Some r → v ≡ w) → told_if o w x v ≡ Ok es → TellsOf w o x v es
if_tells w None x v es stays h =
    let same : ended_between w v ≡ es = cc in
    record {
      outcomes = ap (filter is_outcome) (sym same) ∙ outcomes_of_ended (drop (length w.transcript) v.transcript);
      refusals = ap (λ fs. map some_of (filter is_refusal fs)) (sym same) ∙ ap (map some_of) (refusals_of_ended (drop (length w.transcript) v.transcript));
    }
if_tells w (Some r) x v es stays h = subst (λ u. TellsOf w (Some r) x u es) (sym (stays r refl)) (refused_tells w x r es h)

one_tells : (top : TopologyValue) (w : Run) (x : RunEvent) (es : List Entry) → told_of top w x ≡ Ok es → TellsOf w (refusal_of top w x) x (step top w x) es
one_tells top w x es h = if_tells w (refusal_of top w x) x (step top w x) es (λ r. refused_stays top w x r) h

-- ## Events in order

record Both (r s : Result (List Entry) Fault) (es : List Entry) : Type 0 where
  first : List Entry
  rest : List Entry
  is_first : r ≡ Ok first
  is_rest : s ≡ Ok rest
  whole : es ≡ first ++ rest

both : (r s : Result (List Entry) Fault) (es : List Entry) → then_told r s ≡ Ok es → Both r s es
both (Ok a) (Ok b) es h = let same : a ++ b ≡ es = cc in record { first = a; rest = b; is_first = refl; is_rest = refl; whole = sym same }
both (Ok a) (Err e) es h = absurd cc
both (Err e) s es h = absurd cc

-- what is told of events, from one run to another
pub record Tells (w : Run) (xs : List (RunEvent × Refusal)) (v : Run) (es : List Entry) : Type 0 where
  pub outcomes : filter is_outcome es ≡ ended_between w v
  pub refusals : map some_of (filter is_refusal es) ≡ map refusal_entry xs

pub tells : (top : TopologyValue) (w : Run) (xs : List RunEvent) (es : List Entry) → told top w xs ≡ Ok es
    → Tells w (left_out top w xs) (continued top w xs) es
tells top w [] es h =
    let none : [] ≡ es = cc in
    record {
      outcomes = ap (filter is_outcome) (sym none) ∙ sym (none_ended w);
      refusals = ap (λ fs. map some_of (filter is_refusal fs)) (sym none);
    }
tells top w (x ∷ xs) es h =
    let v = step top w x in
    let b = both (told_of top w x) (told top v xs) es h in
    let one = one_tells top w x b.first b.is_first in
    let more = tells top v xs b.rest b.is_rest in
    let here = option_to_list (with_refusal top w x) in
    record {
      outcomes =
          ap (filter is_outcome) b.whole ∙ filter-append is_outcome b.first b.rest
          ∙ ap (λ fs. fs ++ filter is_outcome b.rest) one.outcomes
          ∙ ap (λ fs. ended_between w v ++ fs) more.outcomes
          ∙ sym (ended_after top w (x ∷ []) xs);
      refusals =
          ap (λ fs. map some_of (filter is_refusal fs)) b.whole
          ∙ ap (map some_of) (filter-append is_refusal b.first b.rest)
          ∙ map-append some_of (filter is_refusal b.first) (filter is_refusal b.rest)
          ∙ ap (λ fs. fs ++ map some_of (filter is_refusal b.rest)) one.refusals
          ∙ ap (λ fs. map refusal_entry here ++ fs) more.refusals
          ∙ sym (map-append refusal_entry here (left_out top v xs));
    }

-- what is told of events and then of others
pub told_after : (top : TopologyValue) (w : Run) (xs ys : List RunEvent)
    → told top w (xs ++ ys) ≡ then_told (told top w xs) (told top (continued top w xs) ys)
told_after top w [] ys = sym (nothing_first (told top w ys))
  where
    nothing_first : (r : Result (List Entry) Fault) → then_told (Ok []) r ≡ r
    nothing_first (Ok es) = refl
    nothing_first (Err e) = refl
told_after top w (x ∷ xs) ys =
    ap (then_told (told_of top w x)) (told_after top (step top w x) xs ys)
    ∙ regrouped (told_of top w x) (told top (step top w x) xs) (told top (continued top (step top w x) xs) ys)
  where
    regrouped : (a b c : Result (List Entry) Fault) → then_told a (then_told b c) ≡ then_told (then_told a b) c
    regrouped (Err e) b c = refl
    regrouped (Ok es) (Err e) c = refl
    regrouped (Ok es) (Ok fs) (Err e) = refl
    regrouped (Ok es) (Ok fs) (Ok gs) = ap Ok (sym (append_assoc es fs gs))
