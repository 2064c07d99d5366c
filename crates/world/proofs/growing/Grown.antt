-- Runs only grow: what was sent, submitted and completed stays, in order.
use Rattle.std.proofs.Common.{append-nil, ◌∙◌, ap, refl, sym, subst, List, [], ◌∷◌, ◌++◌}
use Rattle.std.proofs.lemmas.List.{append_assoc}
use Rattle.messages.specs.Topology.{TopologyValue}
use Rattle.world.specs.Run.{Run, RunEvent, opening, step, continued, run}
use Rattle.world.specs.Journals.{IsBeginning}
use Rattle.world.specs.Promises.{RunsGrow}
use Rattle.world.proofs.steps.EventCases.{event_cases}
use Rattle.world.proofs.safety.Runs.{run_after}
use Rattle.world.proofs.steps.Transcripts.{as_list}

itself : {X : Type 0} (xs : List X) → IsBeginning xs xs
itself xs = ([], sym (append-nil xs))

then_more : {X : Type 0} (xs ys zs : List X) → IsBeginning xs ys → IsBeginning ys zs → IsBeginning xs zs
then_more xs ys zs a b = (a.0 ++ b.0, b.1 ∙ ap (λ l. l ++ b.0) a.1 ∙ append_assoc xs a.0 b.0)

-- one run goes on as the other
pub record Grew (w v : Run) : Type 0 where
  pub sent : IsBeginning w.sent v.sent
  pub submitted : IsBeginning w.submitted v.submitted
  pub transcript : IsBeginning w.transcript v.transcript

same_grew : (w : Run) → Grew w w
same_grew w = record { sent = itself w.sent; submitted = itself w.submitted; transcript = itself w.transcript }

step_grew : (top : TopologyValue) (w : Run) (x : RunEvent) → Grew w (step top w x)
step_grew top w x =
    event_cases top w x (Grew w)
    (record {
      nothing = same_grew w;
      handled = λ k e n is sent to. record { sent = (_, refl); submitted = itself w.submitted; transcript = itself w.transcript };
      heard = λ k e n is sent other to. record { sent = (_, refl); submitted = itself w.submitted; transcript = (_, as_list w.transcript _) };
      begun = λ node o n is to. record { sent = (_, refl); submitted = (_, refl); transcript = (_, as_list w.transcript _) };
      collected = λ node time n is. record { sent = (_, refl); submitted = itself w.submitted; transcript = itself w.transcript };
    })

pub run_grew : (top : TopologyValue) (w : Run) (xs : List RunEvent) → Grew w (continued top w xs)
run_grew top w [] = same_grew w
run_grew top w (x ∷ xs) =
    let v = step top w x in
    let u = continued top v xs in
    let now = step_grew top w x in
    let later = run_grew top v xs in
    record {
      sent = then_more w.sent v.sent u.sent now.sent later.sent;
      submitted = then_more w.submitted v.submitted u.submitted now.submitted later.submitted;
      transcript = then_more w.transcript v.transcript u.transcript now.transcript later.transcript;
    }

pub runs_only_grow : (top : TopologyValue) (before after : List RunEvent) → RunsGrow top before after
runs_only_grow top before after =
    let w = run top before in
    let g = subst (λ (v : Run). Grew w v) (sym (run_after top (opening top) before after)) (run_grew top w after) in
    record { sent = g.sent; submitted = g.submitted; transcript = g.transcript }
