-- What is known of an outcome stays known as the world goes on.
use Rattle.std.proofs.Common.{◌≡◌, ◌∙◌, ℕ, ◌+◌, ◌<◌, Bool, true, false, ◌&&◌, ◌==◌, List, [], ◌∷◌, ◌++◌, Option, Some, None, inl, inr, refl, ap, sym, subst, arith}
use Rattle.std.specs.Prelude.{Contains, if◌then◌else◌}
use Rattle.std.proofs.lemmas.Bool.{and_parts}
use Rattle.std.proofs.lemmas.Bool.Decides.{nat_tests}
use Rattle.messages.specs.declared.outcome.Outcome.{Outcome}
use Rattle.messages.specs.Topology.{TopologyValue}
use Rattle.world.specs.declared.completed.Completed.{Completed}
use Rattle.world.specs.declared.run_event.RunEvent.{RunEvent}
use Rattle.world.specs.Run.{Run, run}
use Rattle.world.specs.World.{WorldValue, run_of}
use Rattle.world.proofs.lists.Members.{Contains-push, Contains-append_left, last_or_old}
use Rattle.world.proofs.promised.Laws.{entries_are_of_submissions}
use Rattle.world.proofs.safety.Runs.{every_run}
use Rattle.present.specs.declared.ended.Ended.{Ended}
use Rattle.present.specs.Present.{IsEnd}
use Rattle.service.specs.Port.{EndedWith, IsOpen, CameTo}
use Rattle.service.specs.Awaited.{outcome_heard}

-- a session has no end of an operation that it didn't submit
pub not_yet : (top : TopologyValue) (events : List RunEvent) (session : ℕ) → 0 < top.shards → IsOpen (run top events) session (((run top events).sessions session).count + 1)
not_yet top events session some = λ c e.
    let of = entries_are_of_submissions top events some c e.listed in
    let low = (every_run top events some).submitted.number of.submission of.submitted in
    let same : ((run top events).sessions of.submission.session).count ≡ ((run top events).sessions session).count =
    ap (λ n. ((run top events).sessions n).count) (of.session ∙ e.node) in
    let number : of.submission.number ≡ ((run top events).sessions session).count + 1 = of.number ∙ e.numbered in
    absurd (omega arith)

module _ (before after : Run) (session number : ℕ) where
  -- what ended stays ended
  ended_still : (more : List Completed) → after.transcript ≡ before.transcript ++ more → (o : Outcome) → EndedWith before session number o → EndedWith after session number o
  ended_still more grew o e =
      let i = e.is_end in
      record {
        entry = e.entry;
        is_end = record { listed = subst (λ cs. Contains cs e.entry) (sym grew) (Contains-append_left before.transcript more e.entry i.listed); node = i.node; numbered = i.numbered };
        outcome_is = e.outcome_is;
      }

  -- it is open while no end of it comes
  open_still : (c : Completed) → after.transcript ≡ before.transcript ++ c ∷ [] → (c.node ≡ session → c.number ≡ number → ⊥) → IsOpen before session number → IsOpen after session number
  open_still c grew other still = λ e is.
      elim (last_or_old e c before.transcript (subst (λ cs. Contains cs e) grew is.listed)) [
        | inl had ↦ still e (record { listed = had; node = is.node; numbered = is.numbered })
        | inr last ↦ other (sym (ap (λ (x : Completed). x.node) last) ∙ is.node) (sym (ap (λ (x : Completed). x.number) last) ∙ is.numbered)
      ]

  same_still : after.transcript ≡ before.transcript → (had : Option Outcome) → CameTo before session number had → CameTo after session number had
  same_still same None came = λ e is. came e (record { listed = subst (λ cs. Contains cs e) same is.listed; node = is.node; numbered = is.numbered })
  same_still same (Some o) came =
      let i = came.is_end in
      record { entry = came.entry; is_end = record { listed = subst (λ cs. Contains cs came.entry) (sym same) i.listed; node = i.node; numbered = i.numbered }; outcome_is = came.outcome_is }

  other_still : (c : Completed) → after.transcript ≡ before.transcript ++ c ∷ [] → (c.node ≡ session → c.number ≡ number → ⊥) → (had : Option Outcome) → CameTo before session number had
      → CameTo after session number had
  other_still c grew other None came = open_still c grew other came
  other_still c grew other (Some o) came = ended_still (c ∷ []) grew o came

  apart : (a b : ℕ) → ((a == session) && (b == number)) ≡ false → a ≡ session → b ≡ number → ⊥
  apart a b is p q = grind (arith, nat_tests)

  heard_by : (x : Ended) (had : Option Outcome) → IsEnd before after (Some x) → CameTo before session number had → (b : Bool) → ((x.session == session) && (x.number == number)) ≡ b
      → CameTo after session number (if b then Some x.outcome else had)
  heard_by x had end came true is =
      let p = and_parts (x.session == session) (x.number == number) is in
      let c = end.0 in
      record {
        entry = c;
        is_end = record {
          listed = subst (λ cs. Contains cs c) (sym end.1) (Contains-push before.transcript c);
          node = end.2 ∙ (grind (arith, nat_tests));
          numbered = end.3 ∙ (grind (arith, nat_tests));
        };
        outcome_is = end.4;
      }
  heard_by x had end came false is = other_still end.0 end.1 (λ p q. apart x.session x.number is (sym end.2 ∙ p) (sym end.3 ∙ q)) had came

  -- once this ended, too
  pub heard : (ended : Option Ended) (had : Option Outcome) → IsEnd before after ended → CameTo before session number had → CameTo after session number (outcome_heard session number had ended)
  heard None had end came = same_still end had came
  heard (Some x) had end came = heard_by x had end came ((x.session == session) && (x.number == number)) refl

pub heard_of : (v w : WorldValue) (by which : ℕ) (had after : Option Outcome) (ended : Option Ended) → after ≡ outcome_heard by which had ended → IsEnd (run_of v) (run_of w) ended
    → (session number : ℕ) → by ≡ session → which ≡ number → CameTo (run_of v) session number had → CameTo (run_of w) session number after
heard_of v w by which had after ended is end session number s n came =
    subst (λ o. CameTo (run_of w) session number o) (sym (is ∙ (ap (λ i. outcome_heard i which had ended) s ∙ ap (λ j. outcome_heard session j had ended) n)))
    (heard (run_of v) (run_of w) session number ended had end came)

-- so from a submission on
pub heard_first : (v w : WorldValue) (session number : ℕ) (after : Option Outcome) (ended : Option Ended) → 0 < v.top.shards → number ≡ ((run_of v).sessions session).count + 1
    → after ≡ outcome_heard session number None ended → IsEnd (run_of v) (run_of w) ended → CameTo (run_of w) session number after
heard_first v w session number after ended some numbered is end =
    heard_of v w session number None after ended is end session number refl refl (subst (λ n. IsOpen (run_of v) session n) (sym numbered) (not_yet v.top v.events session some))
