-- What holds of a port as the story of its site goes on.
use Rattle.std.proofs.Common.{◌≡◌, ◌∙◌, ℕ, zero, suc, ◌<◌, List, [], ◌∷◌, ◌++◌, length, slice_get, Option, Some, None, refl, sym, ap, subst, arith, length-append, eq-eqb}
use Rattle.std.specs.Prelude.{All, filter_map, get_or, Contains}
use Rattle.std.proofs.lemmas.List.Elements.{All-nil, All-cons, All-append, filter_map-append, Contains-append_left, Contains-append_right}
use Rattle.std.proofs.Math.ListN.{get_or-append}
use Rattle.std.proofs.lemmas.Option.{slice_get_within, slice_get-get_or, get_or_from_slice_get}
use Rattle.store.proofs.lists.Lists.{contains_first}
use Rattle.messages.specs.declared.op.Op.{Op}
use Rattle.messages.specs.declared.outcome.Outcome.{Outcome}
use Rattle.actors.specs.Journals.{op_in}
use Rattle.site.specs.Story.{Story, Happening, Did, Heard, Given, event_of, end_of, journal, outcomes}
use Rattle.site.specs.Sites.{SiteValue}
use Rattle.site_port.specs.declared.waiting.Late.{Late}
use Rattle.site_port.specs.declared.waiting.Waiting.{Waiting}
use Rattle.site.specs.Ends.{op_at, HasEnded}
use Rattle.site_port.specs.Ends.{end_in, ends_in, GoesOnWith}
use Rattle.site_port.specs.Port.{sessions_of, AreEnds, Holds}

get_more : {X : Type 0} (xs ys : List X) (n : ℕ) (x : X) → slice_get xs n ≡ Some x → slice_get (xs ++ ys) n ≡ Some x
get_more xs ys n x at =
    let lt : n < length xs = slice_get_within xs n x at in
    let within : n < length (xs ++ ys) = grind (arith, length-append, lt) in
    slice_get-get_or (xs ++ ys) n x within ∙ ap Some (get_or-append xs ys x n lt ∙ get_or_from_slice_get xs n x x at)

pub op_at_on : (s more : Story) (node number : ℕ) (o : Op) → op_at s node number ≡ Some o → op_at (s ++ more) node number ≡ Some o
op_at_on s more node zero o at = absurd (none_some at)
  where
    none_some : None ≡ Some o → ⊥
    none_some h = cc
op_at_on s more node (suc n) o at =
    let parts : filter_map op_in (journal (s ++ more) node) ≡ filter_map op_in (journal s node) ++ filter_map op_in (journal more node) =
    ap (filter_map op_in) (filter_map-append (event_of node) s more) ∙ filter_map-append op_in (journal s node) (journal more node) in
    subst (λ l. slice_get l n ≡ Some o) (sym parts) (get_more (filter_map op_in (journal s node)) (filter_map op_in (journal more node)) n o at)

pub outcomes_on : (s more : Story) (node : ℕ) (p : ℕ × Outcome) → Contains (outcomes s node) p → Contains (outcomes (s ++ more) node) p
outcomes_on s more node p has = subst (λ l. Contains l p) (sym (filter_map-append (end_of node) s more)) (Contains-append_left (outcomes s node) (outcomes more node) p has)

outcomes_after : (s more : Story) (node : ℕ) (p : ℕ × Outcome) → Contains (outcomes more node) p → Contains (outcomes (s ++ more) node) p
outcomes_after s more node p has = subst (λ l. Contains l p) (sym (filter_map-append (end_of node) s more)) (Contains-append_right (outcomes s node) (outcomes more node) p has)

pub ended_on : (s more : Story) (node number : ℕ) (o : Op) (r : Outcome) → HasEnded s node number o r → HasEnded (s ++ more) node number o r
ended_on s more node number o r e = record { submitted = op_at_on s more node number o e.submitted; ended = outcomes_on s more node (number, r) e.ended }

-- ## Ends

abbrev IsIn : Story → Late → Type 0
IsIn s l = Contains (outcomes s l.session) (l.number, l.outcome)

head_end : (h : Happening) (l : Late) → end_in h ≡ Some l → IsIn (h ∷ []) l
head_end (Did node x sends None) l q = absurd (none_some q)
  where
    none_some : None ≡ Some l → ⊥
    none_some h = cc
head_end (Did node x sends (Some p)) l q = subst (λ z. IsIn (Did node x sends (Some p) ∷ []) z) same at
  where
    same : record { session = node; number = p.0; outcome = p.1 } ≡ l
    same = cc

    at : Contains (outcomes (Did node x sends (Some p) ∷ []) node) (p.0, p.1)
    at = rw (eq-eqb node node refl) (contains_first p [])
head_end (Heard from e) l q = absurd (none_some q)
  where
    none_some : None ≡ Some l → ⊥
    none_some h = cc
head_end (Given e) l q = absurd (none_some q)
  where
    none_some : None ≡ Some l → ⊥
    none_some h = cc

none_first : (h : Happening) (hs : List Happening) → end_in h ≡ None → ends_in (h ∷ hs) ≡ ends_in hs
none_first h hs z = rw z refl

some_first : (h : Happening) (hs : List Happening) (l : Late) → end_in h ≡ Some l → ends_in (h ∷ hs) ≡ l ∷ ends_in hs
some_first h hs l z = rw z refl

with_head : (h : Happening) (hs : List Happening) → All (IsIn (h ∷ hs)) (ends_in hs) → (o : Option Late) → end_in h ≡ o → All (IsIn (h ∷ hs)) (ends_in (h ∷ hs))
with_head h hs rest None q = subst (λ l. All (IsIn (h ∷ hs)) l) (sym (none_first h hs q)) rest
with_head h hs rest (Some l) q =
    subst (λ z. All (IsIn (h ∷ hs)) z) (sym (some_first h hs l q))
    (All-cons (IsIn (h ∷ hs)) l (ends_in hs) (outcomes_on (h ∷ []) hs l.session (l.number, l.outcome) (head_end h l q)) rest)

-- what ended in a story are outcomes of it
pub ends_right : (more : Story) → AreEnds more (ends_in more)
ends_right [] = All-nil (IsIn [])
ends_right (h ∷ hs) =
    with_head h hs
    (λ k d lt. outcomes_after (h ∷ []) hs (get_or (ends_in hs) k d).session ((get_or (ends_in hs) k d).number, (get_or (ends_in hs) k d).outcome) (ends_right hs k d lt))
    (end_in h) refl

pub ends_on : (s more : Story) (late : List Late) → AreEnds s late → AreEnds (s ++ more) late
ends_on s more late are = λ k d lt. outcomes_on s more (get_or late k d).session ((get_or late k d).number, (get_or late k d).outcome) (are k d lt)

pub ends_after : (s more : Story) (late : List Late) → AreEnds more late → AreEnds (s ++ more) late
ends_after s more late are = λ k d lt. outcomes_after s more (get_or late k d).session ((get_or late k d).number, (get_or late k d).outcome) (are k d lt)

-- those of the story and those of what happened then
pub ends_both : (s more : Story) (late : List Late) → AreEnds s late → AreEnds (s ++ more) (late ++ ends_in more)
ends_both s more late are = All-append (IsIn (s ++ more)) late (ends_in more) (ends_on s more late are) (ends_after s more (ends_in more) (ends_right more))

-- ## The whole

pub holds_on : (a b : SiteValue) (happened : List Happening) (sessions : List ℕ) (waits : List (Option Waiting)) (late kept : List Late) → Holds a sessions waits late → GoesOnWith a happened b → AreEnds b.story kept
    → Holds b sessions waits kept
holds_on a b happened sessions waits late kept h g ends =
    record {
      sessions_are = h.sessions_are ∙ (ap (λ t. sessions_of t a.dc) (sym g.topology) ∙ ap (λ d. sessions_of b.top d) (sym g.dc));
      places = h.places;
      submitted = λ place node w o at is has. subst (λ s. op_at s node w.number ≡ Some o) (sym g.story) (op_at_on a.story happened node w.number o (h.submitted place node w o at is has));
      ended = ends;
    }

-- the same ends
pub holds_same : (a b : SiteValue) (happened : List Happening) (sessions : List ℕ) (waits : List (Option Waiting)) (late : List Late) → Holds a sessions waits late → GoesOnWith a happened b → Holds b sessions waits late
holds_same a b happened sessions waits late h g = holds_on a b happened sessions waits late late h g (subst (λ s. AreEnds s late) (sym g.story) (ends_on a.story happened late h.ended))
