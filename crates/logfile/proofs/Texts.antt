-- The lines that tell what is in a log, put together.
use Rattle.std.proofs.Common.{◌≡◌, ◌∙◌, ℕ, List, ◌++◌, ap}
use Rattle.std.specs.Prelude.{codes}
use Rattle.logfile.specs.declared.summary.Summary.{Summary}
use Rattle.logfile.specs.Told.{store_text, counts_text, summary_text}

pub told_so : (s : Summary) (store line counts whole : List ℕ) → ((names : List ℕ) × (store ≡ store_text s.topology names)) → line ≡ codes "the log of " ++ store ++ codes "\n" → counts ≡ counts_text s → whole ≡ line ++ counts
    → (names : List ℕ) × (whole ≡ summary_text s names)
told_so s store line counts whole named first last is = (
  named.0,
  is
      ∙ ap (λ (x : List ℕ). x ++ counts) first
      ∙ ap (λ (x : List ℕ). codes "the log of " ++ ((x ++ codes "\n") ++ counts)) named.1
      ∙ ap (λ (x : List ℕ). codes "the log of " ++ ((store_text s.topology named.0 ++ codes "\n") ++ x)) last,
)
