-- The last of a batch and the newest of a history, found from the end.
use Rattle.std.proofs.Common.{◌≡◌, Bool, true, false, cond, List, [], ◌∷◌, ◌++◌, Option, Some, None, reverse, option_map, refl, ap, ◌∙◌, sym}
use Rattle.std.specs.List.{find}
use Rattle.std.specs.Option.{option_or}
use Rattle.std.proofs.lemmas.Grind.{reverse_onto}
use Rattle.column_family.specs.declared.batch.Change.{Change}
use Rattle.column_family.specs.declared.batch.Committed.{Committed}
use Rattle.column_family.specs.History.{History, Stamped, newer_of, last_of, stamped, newest_of}

found_or : (b : Bool) (d : Change) (rest found last : Option Change) → rest ≡ option_or found last → cond b (Some d) rest ≡ option_or (cond b (Some d) found) last
found_or true d rest found last e = refl
found_or false d rest found last e = e

find_before : (p : Change → Bool) (ds : List Change) (c : Change) → find p (ds ++ c ∷ []) ≡ option_or (find p ds) (cond (p c) (Some c) None)
find_before p [] c = refl
find_before p (d ∷ ds) c = found_or (p d) d _ _ _ (find_before p ds c)

mutation_found : (found : Option Change) (b : Bool) (c : Change)
    → option_map (λ d. d.mutation) (option_or found (cond b (Some c) None)) ≡ option_or (option_map (λ d. d.mutation) found) (cond b (Some c.mutation) None)
mutation_found None true c = refl
mutation_found None false c = refl
mutation_found (Some d) b c = refl

-- the last that passes is the first from the end
pub last_found : (p : Change → Bool) (cs : List Change) → option_map (λ d. d.mutation) (find p (reverse cs)) ≡ last_of p cs
last_found p [] = refl
last_found p (c ∷ cs) =
    ap (λ ds. option_map (λ (d : Change). d.mutation) (find p ds)) (reverse_onto cs c [])
    ∙ (ap (option_map (λ (d : Change). d.mutation)) (find_before p (reverse cs) c)
    ∙ (mutation_found (find p (reverse cs)) (p c) c ∙ ap (λ o. option_or o (cond (p c) (Some c.mutation) None)) (last_found p cs)))

pub last_is_some : (p : Change → Bool) (cs : List Change) (c : Change) → find p (reverse cs) ≡ Some c → Some c.mutation ≡ last_of p cs
last_is_some p cs c e = ap (option_map (λ (d : Change). d.mutation)) (sym e) ∙ last_found p cs

pub last_is_none : (p : Change → Bool) (cs : List Change) → find p (reverse cs) ≡ None → None ≡ last_of p cs
last_is_none p cs e = ap (option_map (λ (d : Change). d.mutation)) (sym e) ∙ last_found p cs

-- the newest of a history before which this was the newest of what comes after
abbrev pub newest_before : (Change → Bool) → History → Option Stamped → Option Stamped
newest_before p [] o = o
newest_before p (c ∷ h) o = newer_of (option_map (stamped c) (last_of p c.batch)) (newest_before p h o)

pub newest_before_none : (p : Change → Bool) (h : History) → newest_before p h None ≡ newest_of p h
newest_before_none p [] = refl
newest_before_none p (c ∷ h) = ap (newer_of (option_map (stamped c) (last_of p c.batch))) (newest_before_none p h)

newest_before_last : (p : Change → Bool) (h : History) (c : Committed) (o : Option Stamped)
    → newest_before p (h ++ c ∷ []) o ≡ newest_before p h (newer_of (option_map (stamped c) (last_of p c.batch)) o)
newest_before_last p [] c o = refl
newest_before_last p (d ∷ h) c o = ap (newer_of (option_map (stamped d) (last_of p d.batch))) (newest_before_last p h c o)

-- the step of a walk from the end
pub newest_before_step : (p : Change → Bool) (all h : History) (c : Committed) (o last : Option Stamped)
    → all ≡ h ++ c ∷ [] → last ≡ newer_of (option_map (stamped c) (last_of p c.batch)) o → newest_before p all o ≡ newest_before p h last
newest_before_step p all h c o last e f = ap (λ k. newest_before p k o) e ∙ (newest_before_last p h c o ∙ ap (newest_before p h) (sym f))
