-- A file in memory, of which a crash may leave all that the contract of a disk allows.
use Rattle.std.specs.Prelude.{◌≡◌, ℕ, Bool, ◌≤◌, List, [], ◌∷◌, length, take}
use Rattle.std.proofs.lemmas.List.{take_all}
use Rattle.std.proofs.Common.{subst, sym, arith}
use Rattle.disk.specs.Disk.{IsBeginning, Cut}
use Rattle.disk.specs.declared.memory.Step.{Step}
use Rattle.disk.specs.declared.memory.Step.TheVariants.{Added, Shortened, Synced}
use Rattle.disk.specs.declared.memory.Memory.{Memory}

-- what a crash may leave after a step, by what it might have left before
abbrev pub after : Step → (List ℕ → Type 0) → List ℕ → Type 0
after Added left c = (d : List ℕ) × left d × IsBeginning d c
after (Shortened n) left c = (d : List ℕ) × left d × Cut n d c
after (Synced file) left c = c ≡ file.items

-- what it may leave after these steps, the oldest first
abbrev pub left_by : (List ℕ → Type 0) → List Step → List ℕ → Type 0
left_by left [] c = left c
left_by left (s ∷ steps) c = left_by (after s left) steps c

-- what it may leave of a file that held this at first
abbrev pub left_of : List ℕ → List Step → List ℕ → Type 0
left_of first steps c = left_by (λ d. d ≡ first) steps c

-- what it might have left since there were t steps
pub record LeftSince (first : List ℕ) (steps : List Step) (t : ℕ) (c : List ℕ) : Type 0 where
  pub moment : ℕ
  pub later : t ≤ moment
  pub within : moment ≤ length steps
  pub left : left_of first (take moment steps) c

pub counts : (first : List ℕ) (steps : List Step) (t : ℕ) (c : List ℕ) → t ≤ length steps → left_of first steps c → LeftSince first steps t c
counts first steps t c le now =
    record {
      moment = length steps;
      later = le;
      within = omega arith;
      left = subst (λ (s : List Step). left_of first s c) (sym (take_all (length steps) steps (omega arith))) now;
    }

pub only : (first : List ℕ) (steps : List Step) (c : List ℕ) → LeftSince first steps (length steps) c → left_of first steps c
only first steps c since = subst (λ (s : List Step). left_of first s c) (take_all since.moment steps (let l = since.later in omega arith)) since.left

-- the bytes of a file in memory, what a crash may leave of it, and whether a call of it failed
abbrev pub memory_bytes : Memory → List ℕ
memory_bytes m = m.bytes.items

abbrev pub MemoryLeaves : Memory → List ℕ → Type 0
MemoryLeaves m = left_of m.first.items m.steps.items

abbrev pub memory_failed : Memory → Bool
memory_failed m = m.failed
