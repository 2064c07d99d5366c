-- Which process of each data centre was met last.
use Rattle.std.proofs.Common.{◌≡◌, ◌∙◌, ℕ, ◌+◌, ◌<◌, List, [], ◌∷◌, ◌++◌, Option, None, Some, length, take, get_or, filter_map, refl, ap, sym, arith}
use Rattle.std.specs.List.{last_or, cons_option}
use Rattle.std.specs.Option.{option_or}
use Rattle.std.proofs.lemmas.List.{take_more}
use Rattle.std.proofs.lemmas.List.Elements.{filter_map-append}
use Rattle.std.proofs.lemmas.List.FromFn.{map-range_with_len_more}
use Rattle.site_ledger.specs.declared.entry.Entry.{Entry}
use Rattle.durable_site.specs.Met.{met_by, last_met, last_met_of_each}

last_of_both : {X : Type 0} (o : Option X) (xs ys : List X) → last_or o (xs ++ ys) ≡ last_or (last_or o xs) ys
last_of_both o [] ys = refl
last_of_both o (x ∷ xs) ys = last_of_both (Some x) xs ys

last_given : {X : Type 0} (o p : Option X) → last_or p (cons_option o []) ≡ option_or o p
last_given None p = refl
last_given (Some x) p = refl

-- one entry more
pub met_then : (dc : ℕ) (es : List Entry) (i : ℕ) (e : Entry) → i < length es → e ≡ get_or es i e → last_met (take (i + 1) es) dc ≡ option_or (met_by dc e) (last_met (take i es) dc)
met_then dc es i e lt is =
    let before = take i es in
    ap (λ (l : List Entry). last_met l dc) (take_more es i e lt) ∙ ap (λ (l : List (List ℕ)). last_or None l) (filter_map-append (met_by dc) before (get_or es i e ∷ []))
    ∙ ap (λ (x : Entry). last_or None (filter_map (met_by dc) before ++ cons_option (met_by dc x) [])) (sym is)
    ∙ last_of_both None (filter_map (met_by dc) before) (cons_option (met_by dc e) []) ∙ last_given (met_by dc e) (last_met before dc)

-- one data centre more
pub met_more : (entries : List Entry) (n : ℕ) → last_met_of_each (n + 1) entries ≡ last_met_of_each n entries ++ last_met entries n ∷ []
met_more entries n = map-range_with_len_more (last_met entries) 0 n n (omega arith)
