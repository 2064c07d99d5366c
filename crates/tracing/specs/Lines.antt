-- The lines of a text, and where they stand.
use Rattle.std.specs.Prelude.{◌≡◌, ℕ, nat_eq, cond, List, [], ◌∷◌, ◌++◌}

-- this byte before the first of these lines
abbrev pub onto : ℕ → List (List ℕ) → List (List ℕ)
onto b [] = (b ∷ []) ∷ []
onto b (line ∷ lines) = (b ∷ line) ∷ lines

-- the lines of a text, without their ends
unfoldable pub lines_of : List ℕ → List (List ℕ)
lines_of [] = []
lines_of (b ∷ text) = cond (nat_eq b 10) ([] ∷ lines_of text) (onto b (lines_of text))

-- a line between quotes
abbrev pub quoted : List ℕ → List ℕ
quoted line = 34 ∷ (line ++ 34 ∷ [])

-- these pieces stand in the text, each behind the one before
unfoldable pub StandIn : List (List ℕ) → List ℕ → Type 0
StandIn [] text = Unit {0}
StandIn (piece ∷ pieces) text = (before : List ℕ) × (after : List ℕ) × (text ≡ before ++ (piece ++ after)) × StandIn pieces after
