-- How many envelopes came from a data centre, by what entries tell.
use Rattle.std.proofs.Common.{◌≡◌, ◌∙◌, ℕ, zero, suc, ◌+◌, Bool, true, false, List, [], ◌∷◌, ◌++◌, cond, refl, ap, sym, length, arith}
use Rattle.std.specs.Prelude.{replicate, count_by, filter, ◌==◌}
use Rattle.std.proofs.lemmas.List.Sums.{length-filter}
use Rattle.std.proofs.lemmas.List.FromFn.{map-range_with_len_more}
use Rattle.site.specs.Steps.{Step, Came, Turned}
use Rattle.site_ledger.specs.declared.entry.Entry.{Entry}
use Rattle.site_ledger.specs.declared.entry.Entry.TheVariants as entry
use Rattle.site_ledger.specs.Steps.{steps_told}
use Rattle.durable_site.specs.Heard.{comes_from, heard_from, heard_from_each, tells_of_one}

-- turns are none
turns_are_none : (dc n : ℕ) (more : List Step) → filter (comes_from dc) (replicate n Turned ++ more) ≡ filter (comes_from dc) more
turns_are_none dc zero more = refl
turns_are_none dc (suc n) more = turns_are_none dc n more

one_more : {X Y : Type 0} (b : Bool) (x : X) (y : Y) (xs : List X) (ys : List Y) → length xs ≡ length ys → length (cond b (x ∷ xs) xs) ≡ length (cond b (y ∷ ys) ys)
one_more true x y xs ys h = ap suc h
one_more false x y xs ys h = h

-- each entry that tells of one tells of no other
told_each : (dc : ℕ) (es : List Entry) → length (filter (tells_of_one dc) es) ≡ heard_from (steps_told es) dc
told_each dc [] = refl
told_each dc (entry.Whose whose incarnation digest ∷ es) = told_each dc es
told_each dc (entry.Met whose incarnation ∷ es) = told_each dc es
told_each dc (entry.Asked session op ∷ es) = told_each dc es
told_each dc (entry.Came from e ∷ es) = one_more (from == dc) (entry.Came from e) (Came from e) (filter (tells_of_one dc) es) (filter (comes_from dc) (steps_told es)) (told_each dc es)
told_each dc (entry.Turned count ∷ es) = told_each dc es ∙ ap length (sym (turns_are_none dc count (steps_told es)))
told_each dc (entry.Collected shard time ∷ es) = told_each dc es

pub told_heard : (dc : ℕ) (es : List Entry) → count_by (tells_of_one dc) es ≡ heard_from (steps_told es) dc
told_heard dc es = sym (length-filter (tells_of_one dc) es) ∙ told_each dc es

-- one data centre more
pub heard_more : (all : List Step) (n : ℕ) → heard_from_each (n + 1) all ≡ heard_from_each n all ++ heard_from all n ∷ []
heard_more all n = map-range_with_len_more (heard_from all) 0 n n (omega arith)
