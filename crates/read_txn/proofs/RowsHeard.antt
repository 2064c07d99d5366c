-- Rows of the answers heard, one answer after the other.
use Rattle.std.proofs.Common.{◌≡◌, ◌∙◌, ℕ, ap, sym, refl, Bool, true, false, List, [], ◌∷◌, ◌++◌, max, cond, ◌==◌, arith}
use Rattle.std.specs.Prelude.{◌&&◌, ◌||◌, nat_lt, filter}
use Rattle.std.specs.List.{list_any}
use Rattle.messages.specs.declared.rows_now.RowNow.{RowNow}
use Rattle.messages.specs.Session.{HeardNow}
use Rattle.messages.specs.Rounds.{rows_heard, rows_from, is_late, greatest_evt}

any_append : {X : Type 0} (p : X → Bool) (xs ys : List X) → list_any p (xs ++ ys) ≡ (list_any p xs || list_any p ys)
any_append p [] ys = refl
any_append p (x ∷ xs) ys = go (p x) (any_append p xs ys)
  where
    go : (b : Bool) → list_any p (xs ++ ys) ≡ (list_any p xs || list_any p ys) → (b || list_any p (xs ++ ys)) ≡ ((b || list_any p xs) || list_any p ys)
    go true e = refl
    go false e = e

-- a shard has a late row exactly where one of its answers has
pub late_answers : (time : ℕ) (heard : List HeardNow) (node : ℕ) → list_any (λ h. (h.from == node) && list_any (λ r. nat_lt r.lvt time) h.rows) heard ≡ is_late time heard node
late_answers time [] node = refl
late_answers time (h ∷ hs) node = go (h.from == node) (late_answers time hs node)
  where
    late : RowNow → Bool
    late r = nat_lt r.lvt time

    go : (b : Bool) → list_any (λ h. (h.from == node) && list_any (λ r. nat_lt r.lvt time) h.rows) hs ≡ is_late time hs node
        → ((b && list_any (λ r. nat_lt r.lvt time) h.rows) || list_any (λ h. (h.from == node) && list_any (λ r. nat_lt r.lvt time) h.rows) hs) ≡ list_any (λ r. nat_lt r.lvt time) (rows_heard (cond b (h ∷ filter (λ h. h.from == node) hs) (filter (λ h. h.from == node) hs)))
    go true e = ap (λ b. list_any (λ r. nat_lt r.lvt time) h.rows || b) e ∙ sym (any_append (λ r. nat_lt r.lvt time) h.rows (rows_from hs node))
    go false e = e

-- ---- earliest valid times
raised : (time other : ℕ) (rows : List RowNow) → greatest_evt (max time other) rows ≡ max time (greatest_evt other rows)
raised time other [] = refl
raised time other (r ∷ rs) = ap (λ n. max r.evt n) (raised time other rs) ∙ swapped r.evt time (greatest_evt other rs)
  where
    swapped : (a b c : ℕ) → max a (max b c) ≡ max b (max a c)
    swapped a b c = grind arith

-- one row after the other
pub evt_step : (time : ℕ) (r : RowNow) (rs : List RowNow) → greatest_evt (max r.evt time) rs ≡ greatest_evt time (r ∷ rs)
evt_step time r rs = raised r.evt time rs

-- one answer after the other
pub evt_append : (time : ℕ) (rows others : List RowNow) → greatest_evt (greatest_evt time rows) others ≡ greatest_evt time (rows ++ others)
evt_append time [] others = refl
evt_append time (r ∷ rs) others = raised r.evt (greatest_evt time rs) others ∙ ap (λ n. max r.evt n) (evt_append time rs others)
