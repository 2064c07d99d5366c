-- The lines of a text, one after the other, and texts in which they stand.
use Rattle.std.proofs.Common.{◌≡◌, ◌∙◌, ℕ, suc, ◌+◌, ◌<◌, nat_eq, Bool, true, false, cond, ◌||◌, List, [], ◌∷◌, ◌++◌, length, take, drop, get_or, refl, ap, sym, append_assoc, append-nil, add-one, drop-cons, arith}
use Rattle.std.proofs.lemmas.List.{take-append-drop}
use Rattle.program.specs.Lines.{has_end}
use Rattle.tracing.specs.Lines.{onto, lines_of, StandIn}

-- ## Lines

onto_line : (t : Bool) (b : ℕ) (line : List ℕ) (found more : List (List ℕ)) → (t || has_end line) ≡ false → found ≡ line ∷ more
    → cond t ([] ∷ found) (onto b found) ≡ (b ∷ line) ∷ more
onto_line true b line found more none is = cc
onto_line false b line found more none is = ap (onto b) is

or_false : (t u : Bool) → (t || u) ≡ false → u ≡ false
or_false true u is = cc
or_false false u is = is

-- a line that ends is the first
pub line_before : (line rest : List ℕ) → has_end line ≡ false → lines_of (line ++ 10 ∷ rest) ≡ line ∷ lines_of rest
unfolding lines_of
line_before [] rest none = refl
line_before (b ∷ line) rest none =
    onto_line (nat_eq b 10) b line (lines_of (line ++ 10 ∷ rest)) (lines_of rest) none (line_before line rest (or_false (nat_eq b 10) (has_end line) none))

onto_nothing : (t : Bool) (b : ℕ) → (t || false) ≡ false → cond t ([] ∷ []) (onto b []) ≡ (b ∷ []) ∷ []
onto_nothing true b none = cc
onto_nothing false b none = refl

-- a text in which no line ends is one
pub line_alone : (b : ℕ) (line : List ℕ) → has_end (b ∷ line) ≡ false → lines_of (b ∷ line) ≡ (b ∷ line) ∷ lines_of []
unfolding lines_of
line_alone b [] none = onto_nothing (nat_eq b 10) b none
line_alone b (d ∷ line) none =
    onto_line (nat_eq b 10) b (d ∷ line) (lines_of (d ∷ line)) [] none (line_alone d line (or_false (nat_eq b 10) (has_end (d ∷ line)) none))

-- the first line ends at this place
pub line_at : (text : List ℕ) (i : ℕ) → i < length text → has_end (take i text) ≡ false → get_or text i 0 ≡ 10 → lines_of text ≡ take i text ∷ lines_of (drop (i + 1) text)
line_at text i lt none is =
    let rest : drop i text ≡ 10 ∷ drop (i + 1) text = rw add-one (drop-cons text i 0 lt ∙ ap (λ b. b ∷ drop (suc i) text) is) in
    ap lines_of (sym (take-append-drop i text) ∙ ap (λ t. take i text ++ t) rest) ∙ line_before (take i text) (drop (i + 1) text) none

-- a text in which no line ends is one line, if it has a byte
pub line_whole : (text : List ℕ) → 0 < length text → has_end text ≡ false → lines_of text ≡ text ∷ lines_of []
line_whole [] some none = absurd (omega arith)
line_whole (b ∷ line) some none = line_alone b line none

pub no_lines : lines_of [] ≡ []
unfolding lines_of
no_lines = refl

-- ## Texts in which they stand

pub none_stand : (text : List ℕ) → StandIn [] text
unfolding StandIn
none_stand text = tt

-- behind more
pub stand_behind : (pieces : List (List ℕ)) (more text : List ℕ) → StandIn pieces text → StandIn pieces (more ++ text)
unfolding StandIn
stand_behind [] more text stand = tt
stand_behind (piece ∷ pieces) more text stand =
    (more ++ stand.0, stand.1, ap (λ t. more ++ t) stand.2 ∙ sym (append_assoc more stand.0 (piece ++ stand.1)), stand.3)

-- some, and others behind them
pub stand_then : (pieces others : List (List ℕ)) (text more : List ℕ) → StandIn pieces text → StandIn others more → StandIn (pieces ++ others) (text ++ more)
unfolding StandIn
stand_then [] others text more stand then = stand_behind others text more then
stand_then (piece ∷ pieces) others text more stand then = (
  stand.0,
  stand.1 ++ more,
  ap (λ t. t ++ more) stand.2 ∙ append_assoc stand.0 (piece ++ stand.1) more ∙ ap (λ t. stand.0 ++ t) (append_assoc piece stand.1 more),
  stand_then pieces others stand.1 more stand.3 then,
)

-- a piece stands in itself
pub stands_itself : (piece : List ℕ) → StandIn (piece ∷ []) piece
unfolding StandIn
stands_itself piece = ([], [], sym (append-nil piece), tt)

-- there is a text in which pieces stand
pub some_stand : (pieces : List (List ℕ)) → (text : List ℕ) × StandIn pieces text
some_stand [] = ([], none_stand [])
some_stand (piece ∷ pieces) =
    let others = some_stand pieces in (
      piece ++ others.0,
      stand_then (piece ∷ []) pieces piece others.0 (stands_itself piece) others.1,
    )
