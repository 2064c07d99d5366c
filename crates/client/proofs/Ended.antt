-- A first round that ends with a second one had its last answer added.
use Rattle.std.proofs.Common.{◌≡◌, ◌∙◌, ◌<◌, ℕ, Bool, true, false, ap, List, [], ◌∷◌, ◌++◌, length, arith}
use Rattle.std.proofs.lemmas.List.{length-append}
use Rattle.messages.specs.declared.rows_now.RowNow.{RowNow}
use Rattle.messages.specs.Session.{HeardNow}
use Rattle.messages.specs.Rounds as rounds
use Rattle.read_txn.specs.declared.first_round.FirstTaken.{FirstTaken}
use Rattle.read_txn.specs.declared.first_round.FirstTaken.TheVariants as in_first
use Rattle.read_txn.specs.States.{First, Second}
use Rattle.read_txn.specs.Taken as taken

abbrev second_of : FirstTaken → Second → Second
second_of (in_first.More f) d = d
second_of (in_first.Second s) d = s
second_of (in_first.Done c) d = d

-- the second round is of this first round, in which these answers were heard
record IsAfter (f : First) (heard : List HeardNow) (s : Second) : Type 0 where
  read : s.read ≡ f.read
  asked : s.asked ≡ f.asked
  first : s.first ≡ heard

opened : (nodes : List ℕ) (f : First) (time : ℕ) (s : Second) → in_first.Second s ≡ taken.second_if nodes f time → IsAfter f f.heard s
opened [] f time s e = absurd (cc)
opened (n ∷ ns) f time s e =
    let same = ap (λ t. second_of t s) e in
    record {
      read = ap (λ (x : Second). x.read) same;
      asked = ap (λ (x : Second). x.asked) same;
      first = ap (λ (x : Second). x.first) same;
    }

over : (b : Bool) (f : First) (s : Second) → in_first.Second s ≡ taken.heard_if b f → IsAfter f f.heard s
over true f s e = let time : ℕ = rounds.effective_time f.floor f.heard in opened (rounds.late_nodes f.asked time f.heard) f time s e
over false f s e = absurd (cc)

ended_if : (b : Bool) (f : First) (from : ℕ) (rows : List RowNow) (s : Second) → in_first.Second s ≡ taken.first_taken_if b f from rows
    → IsAfter f (f.heard ++ record { from = from; rows = rows } ∷ []) s
ended_if true f from rows s e =
    let g : First = record f { heard = f.heard ++ record { from = from; rows = rows } ∷ [] } in
    let h = over (rounds.all_heard g.asked g.heard) g s e in
    record { read = h.read; asked = h.asked; first = h.first }
ended_if false f from rows s e = absurd (cc)

ended : (f : First) (from : ℕ) (rows : List RowNow) (s : Second) → in_first.Second s ≡ taken.first_taken f from rows
    → IsAfter f (f.heard ++ record { from = from; rows = rows } ∷ []) s
ended f from rows s e = ended_if (rounds.is_missing f.asked f.heard from) f from rows s e

pub ended_heard : (f : First) (from : ℕ) (rows : List RowNow) (s : Second) → in_first.Second s ≡ taken.first_taken f from rows
    → s.first ≡ f.heard ++ record { from = from; rows = rows } ∷ []
ended_heard f from rows s e = (ended f from rows s e).first

one_more : {X : Type 0} (xs : List X) (x : X) → 0 < length (xs ++ x ∷ [])
one_more xs x = rw (length-append xs (x ∷ [])) (omega arith)

-- so it heard one at least
pub ended_some : (f : First) (from : ℕ) (rows : List RowNow) (s : Second) → in_first.Second s ≡ taken.first_taken f from rows → 0 < length s.first
ended_some f from rows s e = rw (ended_heard f from rows s e) (one_more f.heard (record { from = from; rows = rows }))

abbrev pub back_at : Second → ℕ → List HeardNow → First
back_at s floor heard = record { read = s.read; floor = floor; asked = s.asked; heard = heard }

pub ended_back : (f : First) (from : ℕ) (rows : List RowNow) (s : Second) → in_first.Second s ≡ taken.first_taken f from rows
    → back_at s f.floor f.heard ≡ f
ended_back f from rows s e =
    let h = ended f from rows s e in
    ap (λ r. record f { read = r; asked = s.asked }) h.read ∙ ap (λ nodes. record f { asked = nodes }) h.asked
