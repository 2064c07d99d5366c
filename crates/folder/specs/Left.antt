-- What is read of a file after what was done to it, and what a crash may leave.
use Rattle.std.specs.Prelude.{◌≡◌, ℕ, ◌≤◌, List, [], ◌∷◌, ◌++◌, length, take}
use Rattle.std.proofs.lemmas.List.{take_all}
use Rattle.std.proofs.Common.{subst, sym, arith}
use Rattle.disk.specs.Disk.{IsBeginning, Cut}
use Rattle.folder.specs.Deeds.{Deed, Added, Cut_to, Synced}

-- what is read after one deed, and after these, the oldest first
abbrev pub seen_once : Deed → List ℕ → List ℕ
seen_once (Added bytes) file = file ++ bytes
seen_once (Cut_to n) file = take n file
seen_once Synced file = file

abbrev pub seen_after : List ℕ → List Deed → List ℕ
seen_after file [] = file
seen_after file (d ∷ deeds) = seen_after (seen_once d file) deeds

-- what a crash may leave after a deed, by what is read then and what it might have left before
abbrev pub after : Deed → List ℕ → (List ℕ → Type 0) → List ℕ → Type 0
after (Added bytes) file left c = (d : List ℕ) × left d × IsBeginning d c
after (Cut_to n) file left c = (d : List ℕ) × left d × Cut n d c
after Synced file left c = c ≡ file

abbrev pub left_by : List ℕ → (List ℕ → Type 0) → List Deed → List ℕ → Type 0
left_by file left [] c = left c
left_by file left (d ∷ deeds) c = left_by (seen_once d file) (after d file left) deeds c

-- what it may leave of a file that held this at first
abbrev pub left_of : List ℕ → List Deed → List ℕ → Type 0
left_of first deeds c = left_by first (λ d. d ≡ first) deeds c

-- what it might have left since there were t deeds
pub record LeftSince (first : List ℕ) (deeds : List Deed) (t : ℕ) (c : List ℕ) : Type 0 where
  pub moment : ℕ
  pub later : t ≤ moment
  pub within : moment ≤ length deeds
  pub left : left_of first (take moment deeds) c

pub counts : (first : List ℕ) (deeds : List Deed) (t : ℕ) (c : List ℕ) → t ≤ length deeds → left_of first deeds c → LeftSince first deeds t c
counts first deeds t c le now =
    record {
      moment = length deeds;
      later = le;
      within = omega arith;
      left = subst (λ (s : List Deed). left_of first s c) (sym (take_all (length deeds) deeds (omega arith))) now;
    }

pub only : (first : List ℕ) (deeds : List Deed) (c : List ℕ) → LeftSince first deeds (length deeds) c → left_of first deeds c
only first deeds c since = subst (λ (s : List Deed). left_of first s c) (take_all since.moment deeds (let l = since.later in omega arith)) since.left
