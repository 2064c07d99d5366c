-- What a file shows: its bytes behind the head, what a crash may leave of them, and whether a call of it failed.
use Rattle.std.specs.Prelude.{ℕ, Bool, List, length}
use Rattle.folder.specs.declared.file_disk.FileDisk.{FileDisk}
use Rattle.folder.specs.Left.{seen_after, left_of}

abbrev pub file_bytes : FileDisk → List ℕ
file_bytes h = seen_after h.first.value.items h.past

abbrev pub FileLeaves : FileDisk → List ℕ → Type 0
FileLeaves h = left_of h.first.value.items h.past

-- how much was done to it
abbrev pub file_moment : FileDisk → ℕ
file_moment h = length h.past

abbrev pub file_failed : FileDisk → Bool
file_failed h = h.failed
