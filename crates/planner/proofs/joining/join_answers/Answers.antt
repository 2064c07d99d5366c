use Rattle.std.proofs.Common.{◌≡◌, ◌∙◌, ℕ, ap, List, map}
use Rattle.std.proofs.lemmas.Result.{IfOk-weaker}
use Rattle.column_family.specs.History.{History, up_to}
use Rattle.table.specs.Meaning.{each_once, meaning, shown_row}
use Rattle.planner.specs.Join.{joined, AreRight}
use Rattle.planner.proofs.Right.{right_joined}
use Rattle.planner.proofs.joining.join_answers.Goals as goal

pub returns-clause-right : goal.returns-clause-right
returns-clause-right c =
    IfOk-weaker c.join.result _ (λ answer. (history : List ℕ → History) (t : ℕ) → AreRight c.args.read.now history t c.args.rows.now → answer ≡ map (λ k. shown_row c.args.read.now (up_to t (history k)) k) (each_once c.args.read.now.keys))
    (λ answer e. right_joined c.args.read.now c.args.rows.now answer (e ∙ ap (λ ks. joined ks c.args.rows.now) c.as_slice.ensures)) c.join.ensures.exact

pub returns-clause-meaning : goal.returns-clause-meaning
returns-clause-meaning c =
    IfOk-weaker c.join.result _ (λ answer. (h : History) (t : ℕ) → AreRight c.args.read.now (λ k. h) t c.args.rows.now → answer ≡ meaning c.args.read.now h t)
    (λ answer e h t. right_joined c.args.read.now c.args.rows.now answer (e ∙ ap (λ ks. joined ks c.args.rows.now) c.as_slice.ensures) (λ k. h) t) c.join.ensures.exact
