use Rattle.std.proofs.Common.{◌≡◌, ◌∙◌, ◌++◌, List, ℕ, length, take, drop, ap, sym, subst, rules}
use Rattle.std.proofs.lemmas.List.{take-append-drop}
use Rattle.std.proofs.Math.Seq.{take-append_seam}
use Rattle.ledger.proofs.head.begin_with.Goals as goal

pub returns-then-bytes-head-clause-yes : goal.returns-then-bytes-head-clause-yes
returns-then-bytes-head-clause-yes c = λ equal.
    let bytes = c.args.bytes.now in
    let n = length c.args.head.now in
    let same : take n bytes ≡ c.args.head.now = search rules in
    sym (take-append-drop n bytes) ∙ ap (λ (t : List ℕ). t ++ drop n bytes) same

pub returns-then-bytes-head-clause-no : goal.returns-then-bytes-head-clause-no
returns-then-bytes-head-clause-no c = λ unequal rest is.
    let head = c.args.head.now in
    let n = length head in
    let same : take n c.args.bytes.now ≡ head = subst (λ (l : List ℕ). take n l ≡ head) (sym is) (take-append_seam head rest) in
    let different : take n c.args.bytes.now ≡ head → ⊥ = search rules in
    different same
