-- Rows that are found are the machine's.
use Rattle.std.proofs.Common.{◌≡◌, ◌∙◌, sym, ap, ℕ, ◌+◌, ◌<◌, List, [], ◌∷◌, ◌++◌, map, take, length, get_or, Option}
use Rattle.std.proofs.lemmas.List.{take_more, map-append}
use Rattle.logical_time.specs.Stamps.{WriterValue}
use Rattle.slice.specs.declared.read.Read.{Read}
use Rattle.slice.specs.declared.column.Column.{Column}
use Rattle.store.specs.declared.part.Part.{Part}
use Rattle.store.specs.Stored.{StoreValue}
use Rattle.store.specs.Keeps.{Keeps}
use Rattle.store.specs.Part.{applied_by}
use Rattle.store.proofs.newest.SameParts.{same_part}
use Rattle.pending.specs.Marks.{MarkList}
use Rattle.messages.specs.declared.rows_at.RowAt.{RowAt}
use Rattle.messages.specs.declared.rows_now.RowNow.{RowNow}
use Rattle.messages.specs.Shard.{ShardState, PreparedPart}
use Rattle.slice.specs.Rows.{row_of}
use Rattle.messages.specs.Rows.{row_now, row_at}
use Rattle.messages.proofs.RowParts.{row_now_shown, row_at_shown}
use Rattle.commit_check.specs.declared.reading_at.ComingPart.{ComingPart}
use Rattle.commit_check.specs.Coming.{MayCome, after}
use Rattle.commit_check.specs.Found.{part_of, IsFoundNow, IsFoundAt}
use Rattle.commit_check.specs.Marked.{AreMarksOf}
use Rattle.messages.specs.Known.{AreOnce}
use Rattle.commit_check.proofs.LeastMarks.{latest_is}

pub found_now : (s : StoreValue) (ms : MarkList) (a : ShardState) (n : ℕ) (read : Read) (key : List ℕ) (r : RowNow) → Keeps s a.applied → AreMarksOf ms a → AreOnce (λ (x : PreparedPart). x.txn) a.prepared
    → IsFoundNow s ms n read key r → r ≡ row_now n a read key
found_now s ms a n read key r keeps marked once found =
    let w = row_now n a read key in
    let shown = row_now_shown n a read key in
    let newest = found.newest a.applied keeps in
    let is = same_part a.applied (row_of read key) read.predicate (part_of r) (part_of w) newest.shown shown.shown in
    (ap (λ (x : List ℕ). record { key = x; columns = r.columns; writers = r.writers; evt = r.evt; lvt = r.lvt }) found.key_is
    ∙ ap (λ (x : List Column). record { key = key; columns = x; writers = r.writers; evt = r.evt; lvt = r.lvt }) is.0
    ∙ ap (λ (x : List WriterValue). record { key = key; columns = w.columns; writers = x; evt = r.evt; lvt = r.lvt }) is.1
    ∙ ap (λ (x : ℕ). record { key = key; columns = w.columns; writers = w.writers; evt = x; lvt = r.lvt }) (newest.evt ∙ sym shown.evt)
    ∙ ap (λ (x : ℕ). record { key = key; columns = w.columns; writers = w.writers; evt = w.evt; lvt = x }) (latest_is ms a (row_of read key) n r.lvt marked once found.lvt_is))

pub found_at : (s : StoreValue) (coming : Option ComingPart) (a : ShardState) (time : ℕ) (read : Read) (key : List ℕ) (part : Part) (r : RowAt) → Keeps s a.applied
    → MayCome coming a.applied → IsFoundAt s coming time read key part → r ≡ record { key = key; columns = part.columns; writers = part.writers }
    → r ≡ row_at time (after coming a) read key
found_at s coming a time read key part r keeps may found is =
    let b = after coming a in
    let w = row_at time b read key in
    let same = same_part (applied_by time b.applied) (row_of read key) read.predicate part (record { columns = w.columns; writers = w.writers; evt = 0 }) (found a.applied keeps may) (row_at_shown time b read key) in
    is
    ∙ ap (λ (x : List Column). record { key = key; columns = x; writers = part.writers }) same.0
    ∙ ap (λ (x : List WriterValue). record { key = key; columns = w.columns; writers = x }) same.1

-- one row more
pub row_more : (f : List ℕ → RowAt) (keys listed : List (List ℕ)) (i : ℕ) (key : List ℕ) (rows more : List RowAt) (r : RowAt) → listed ≡ keys → i < length listed
    → key ≡ get_or listed i key → rows ≡ map f (take i keys) → more ≡ rows ++ r ∷ [] → r ≡ f key → more ≡ map f (take (i + 1) keys)
row_more f keys listed i key rows more r same lt is so_far pushed row =
    let next : take (i + 1) listed ≡ take i listed ++ key ∷ [] = take_more listed i key lt ∙ ap (λ (k : List ℕ). take i listed ++ k ∷ []) (sym is) in
    pushed
    ∙ ap (λ (rs : List RowAt). rs ++ r ∷ []) (so_far ∙ ap (λ (ks : List (List ℕ)). map f (take i ks)) (sym same))
    ∙ ap (λ (s : RowAt). map f (take i listed) ++ s ∷ []) row
    ∙ sym (ap (map f) next ∙ map-append f (take i listed) (key ∷ []))
    ∙ ap (λ (ks : List (List ℕ)). map f (take (i + 1) ks)) same
