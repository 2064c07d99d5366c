-- How many of the operations were found wrong is how many are.
use Rattle.std.proofs.Common.{◌≡◌, ◌∙◌, refl, sym, ap, ℕ, ◌+◌, Bool, cond, List, [], ◌∷◌, map}
use Rattle.std.specs.Prelude.{count_by}
use Rattle.std.proofs.lemmas.List.Sums.{sum_by-cons}
use Rattle.column_family.specs.History.{History}
use Rattle.world.specs.declared.completed.Completed.{Completed}
use Rattle.audit.specs.Audit.{is_wrong}

count_mapped : {X : Type 0} (p : X → Bool) (xs : List X) → count_by (λ b. b) (map p xs) ≡ count_by p xs
count_mapped p [] = refl
count_mapped p (x ∷ xs) =
    sum_by-cons (λ b. cond b 1 0) (p x) (map p xs) ∙ ap (λ n. cond (p x) 1 0 + n) (count_mapped p xs) ∙ sym (sum_by-cons (λ y. cond (p y) 1 0) x xs)

pub counts_wrong : (histories : List History) (completed : List Completed) (laid : List History) (wrong : List Bool) (n : ℕ) → n ≡ count_by (λ b. b) wrong
    → wrong ≡ map (is_wrong laid) completed → laid ≡ histories → n ≡ count_by (is_wrong histories) completed
counts_wrong histories completed laid wrong n counted judged same =
    counted ∙ ap (count_by (λ b. b)) judged ∙ ap (λ hs. count_by (λ b. b) (map (is_wrong hs) completed)) same ∙ count_mapped (is_wrong histories) completed
