-- The effective time is the greatest of the floor and the earliest valid times, and the latest valid time of a row the
-- least of the clock and its marks.
use Rattle.std.proofs.Common.{◌≡◌, ℕ, zero, suc, ◌≤◌, List, [], ◌∷◌, ap, refl, arith}
use Rattle.std.specs.Prelude.{Contains}
use Rattle.messages.specs.declared.rows_now.RowNow.{RowNow}
use Rattle.messages.specs.Shard.{PreparedPart}
use Rattle.messages.specs.Rows.{least_mark}
use Rattle.messages.specs.Session.{HeardNow}
use Rattle.messages.specs.Rounds.{greatest_evt, effective_time, rows_heard}

first : {X : Type 0} (x : X) (xs : List X) → Contains (x ∷ xs) x
first x xs = (zero, omega arith, refl)

later : {X : Type 0} (x z : X) (xs : List X) → Contains xs z → Contains (x ∷ xs) z
later x z xs (k, lt, e) = (suc k, omega arith, e)

above_floor : (floor : ℕ) (rs : List RowNow) → floor ≤ greatest_evt floor rs
above_floor floor [] = omega arith
above_floor floor (r ∷ rs) = let le = above_floor floor rs in omega arith

above_each : (floor : ℕ) (rs : List RowNow) (r : RowNow) → Contains rs r → r.evt ≤ greatest_evt floor rs
above_each floor [] r (k, lt, e) = absurd (omega arith)
above_each floor (x ∷ rs) r (zero, lt, e) = let same : x.evt ≡ r.evt = ap (λ z. z.evt) e in omega arith
above_each floor (x ∷ rs) r (suc k, lt, e) = let le = above_each floor rs r (k, omega arith, e) in omega arith

no_greater : (floor : ℕ) (rs : List RowNow) (t : ℕ) → floor ≤ t → ((r : RowNow) → Contains rs r → r.evt ≤ t) → greatest_evt floor rs ≤ t
no_greater floor [] t le each = le
no_greater floor (x ∷ rs) t le each =
    let head = each x (first x rs) in
    let rest = no_greater floor rs t le (λ r has. each r (later x r rs has)) in
    omega arith

pub effective_above_floor : (floor : ℕ) (heard : List HeardNow) → floor ≤ effective_time floor heard
effective_above_floor floor heard = above_floor floor (rows_heard heard)

pub effective_above_each : (floor : ℕ) (heard : List HeardNow) (r : RowNow) → Contains (rows_heard heard) r → r.evt ≤ effective_time floor heard
effective_above_each floor heard r has = above_each floor (rows_heard heard) r has

pub effective_no_greater : (floor : ℕ) (heard : List HeardNow) (t : ℕ) → floor ≤ t → ((r : RowNow) → Contains (rows_heard heard) r → r.evt ≤ t)
    → effective_time floor heard ≤ t
effective_no_greater floor heard t le each = no_greater floor (rows_heard heard) t le each

pub mark_below_clock : (n : ℕ) (ps : List PreparedPart) → least_mark n ps ≤ n
mark_below_clock n [] = omega arith
mark_below_clock n (p ∷ ps) = let le = mark_below_clock n ps in omega arith

pub mark_below_each : (n : ℕ) (ps : List PreparedPart) (p : PreparedPart) → Contains ps p → least_mark n ps ≤ p.time
mark_below_each n [] p (k, lt, e) = absurd (omega arith)
mark_below_each n (x ∷ ps) p (zero, lt, e) = let same : x.time ≡ p.time = ap (λ z. z.time) e in omega arith
mark_below_each n (x ∷ ps) p (suc k, lt, e) = let le = mark_below_each n ps p (k, omega arith, e) in omega arith

pub mark_no_less : (n : ℕ) (ps : List PreparedPart) (t : ℕ) → t ≤ n → ((p : PreparedPart) → Contains ps p → t ≤ p.time) → t ≤ least_mark n ps
mark_no_less n [] t le each = le
mark_no_less n (x ∷ ps) t le each =
    let head = each x (first x ps) in
    let rest = mark_no_less n ps t le (λ p has. each p (later x p ps has)) in
    omega arith
