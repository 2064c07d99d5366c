-- The changes of a batch, one after the other: room for each, and what each leaves.
use Rattle.std.proofs.Common.{◌≡◌, ℕ, ◌+◌, ◌≤◌, ◌<◌, ◌∙◌, ap, sym, subst, refl, inl, inr, Bool, true, false, ◌||◌, ◌⊎◌, List, [], ◌∷◌, ◌++◌, map, length, get_or, Some, None, arith}
use Rattle.std.specs.Prelude.{if◌then◌else◌, filter}
use Rattle.std.specs.List.{list_any}
use Rattle.std.specs.Ordering.{is_eq}
use Rattle.std.proofs.lemmas.Bool.Decides.{nat_tests}
use Rattle.std.proofs.lemmas.List.{map-append}
use Rattle.std.proofs.lemmas.List.Elements.{filter-append}
use Rattle.std.proofs.lemmas.List.Folds.{list_any-append, list_any_at}
use Rattle.logical_time.specs.Stamps.{StampValue, stamp_cmp, is_older}
use Rattle.column_family.specs.declared.batch.Row.{Row}
use Rattle.column_family.specs.declared.batch.Change.{Change}
use Rattle.versions.specs.declared.version.Version.{Version}
use Rattle.column_family.specs.Location.{is_same_row}
use Rattle.versions.specs.Chain.{Held, put_of}
use Rattle.versions.specs.Newest.{has_stamp}
use Rattle.store.specs.declared.origin.Origin.{Origin}
use Rattle.store.specs.Stored.{Place, Chains, chain_of, chain_at, column_held, is_of_place, is_at, version_of, written, put_all, HasRoomAtPlaces}
use Rattle.store.proofs.lists.Maps.{by_cases}
use Rattle.store.proofs.newest.Places.{IsReady}

-- each place that these changes write to is ready for a version of the stamp
abbrev pub AreReady : StampValue → List (Row × Chains) → List Change → Type 0
AreReady s rows changes = (r : Row) (p : Place) → list_any (is_at r p) changes ≡ true → IsReady s (chain_at rows r p)

either_true : (a b : Bool) → (a || b) ≡ true → (a ≡ true) ⊎ (b ≡ true)
either_true true b e = inl refl
either_true false b e = inr e

or_first : (a b : Bool) → a ≡ true → (a || b) ≡ true
or_first true b e = refl
or_first false b e = absurd (cc)

or_second : (a b : Bool) → b ≡ true → (a || b) ≡ true
or_second true b e = refl
or_second false b e = e

-- room for one change more
pub room_more : (old new : List (Row × Chains)) (changes : List Change) (c : Change) → HasRoomAtPlaces old changes
    → ((r : Row) (p : Place) → (chain_at old r p).room ≤ (chain_at new r p).room)
    → ((r : Row) (p : Place) → is_at r p c ≡ true → 0 < (chain_at new r p).room) → HasRoomAtPlaces new (changes ++ c ∷ [])
room_more old new changes c has grows here r p at =
    let split : (list_any (is_at r p) changes || list_any (is_at r p) (c ∷ [])) ≡ true = sym (list_any-append (is_at r p) changes (c ∷ [])) ∙ at in
    elim (either_true (list_any (is_at r p) changes) (list_any (is_at r p) (c ∷ [])) split) [
      | inl before ↦ (let room = has r p before in let more = grows r p in omega arith)
      | inr last ↦ elim (either_true (is_at r p c) false last) [ inl own ↦ here r p own | inr never ↦ absurd (cc) ]
    ]

-- where there is room for all there is room for each
pub room_at : (first now : List (Row × Chains)) (changes : List Change) (i : ℕ) (c : Change) → i < length changes → c ≡ get_or changes i c
    → HasRoomAtPlaces first changes → ((r : Row) (p : Place) → (chain_at first r p).room ≤ (chain_at now r p).room)
    → (r : Row) (p : Place) → is_at r p c ≡ true → 0 < (chain_at now r p).room
room_at first now changes i c lt is has grows r p at =
    let room = has r p (list_any_at (is_at r p) changes i c lt (ap (is_at r p) (sym is) ∙ at)) in
    let more = grows r p in
    omega arith

same_stamp : (s : StampValue) → is_eq (stamp_cmp s s) ≡ true
same_stamp s = grind (arith, nat_tests)

-- what was put is held
held_once_put : (xs : List Version) (v : Version) → has_stamp (put_of xs v) v.stamp ≡ true
held_once_put [] v = rw (same_stamp v.stamp) refl
held_once_put (x ∷ xs) v =
    by_cases (is_older v.stamp x.stamp)
    (λ older. rw older (or_second (is_eq (stamp_cmp v.stamp x.stamp)) (has_stamp (put_of xs v) v.stamp) (held_once_put xs v)))
    (λ not_older. by_cases (is_eq (stamp_cmp v.stamp x.stamp))
    (λ same. rw (not_older, same) (rw same refl))
    (λ other. rw (not_older, other) (rw (same_stamp v.stamp) refl)))

ready_by : (s : StampValue) (old_room new_room : ℕ) (old new : List Version) (own : Bool) (v : Version) → v.stamp ≡ s
    → new ≡ (if own then put_of old v else old) → old_room ≤ new_room + (if own then 1 else 0)
    → (0 < old_room) ⊎ (has_stamp old s ≡ true) → (0 < new_room) ⊎ (has_stamp new s ≡ true)
ready_by s old_room new_room old new true v is put room ready =
    inr (ap (λ xs. has_stamp xs s) put ∙ subst (λ (t : StampValue). has_stamp (put_of old v) t ≡ true) is (held_once_put old v))
ready_by s old_room new_room old new false v is put room (inl lt) = inl (omega arith)
ready_by s old_room new_room old new false v is put room (inr held) = inr (ap (λ xs. has_stamp xs s) put ∙ held)

-- what is left is ready after the first is put
pub ready_rest : (o : Origin) (old new : List (Row × Chains)) (c : Change) (cs : List Change)
    → ((r : Row) (p : Place) → (chain_at new r p).versions ≡ (if is_at r p c then put_of (chain_at old r p).versions (version_of o c.mutation) else (chain_at old r p).versions))
    → ((r : Row) (p : Place) → (chain_at old r p).room ≤ (chain_at new r p).room + (if is_at r p c then 1 else 0))
    → AreReady o.stamp old (c ∷ cs) → AreReady o.stamp new cs
ready_rest o old new c cs put room ready r p at =
    ready_by o.stamp (chain_at old r p).room (chain_at new r p).room (chain_at old r p).versions (chain_at new r p).versions (is_at r p c) (version_of o c.mutation) refl (put r p) (room r p)
    (ready r p (or_second (is_at r p c) (list_any (is_at r p) cs) at))

put_first : (own : Bool) (o : Origin) (xs vs : List Version) (c : Change)
    → put_all (if own then put_of xs (version_of o c.mutation) else xs) vs ≡ put_all xs (if own then version_of o c.mutation ∷ vs else vs)
put_first true o xs vs c = refl
put_first false o xs vs c = refl

written_first : (o : Origin) (r : Row) (p : Place) (c : Change) (cs : List Change)
    → written o r p (c ∷ cs) ≡ (if is_at r p c then version_of o c.mutation ∷ written o r p cs else written o r p cs)
written_first o r p c cs = by_cases (is_at r p c) (λ yes. rw yes refl) (λ no. rw no refl)

-- what is left to put, after the first
pub put_rest : (o : Origin) (old new : List (Row × Chains)) (c : Change) (cs : List Change)
    → ((r : Row) (p : Place) → (chain_at new r p).versions ≡ (if is_at r p c then put_of (chain_at old r p).versions (version_of o c.mutation) else (chain_at old r p).versions))
    → (r : Row) (p : Place) → put_all (chain_at new r p).versions (written o r p cs) ≡ put_all (chain_at old r p).versions (written o r p (c ∷ cs))
put_rest o old new c cs put r p =
    ap (λ xs. put_all xs (written o r p cs)) (put r p)
    ∙ put_first (is_at r p c) o (chain_at old r p).versions (written o r p cs) c
    ∙ ap (put_all (chain_at old r p).versions) (sym (written_first o r p c cs))

-- ---- what the changes of one row leave
put_all_after : (xs vs ws : List Version) → put_all xs (vs ++ ws) ≡ put_all (put_all xs vs) ws
put_all_after xs [] ws = refl
put_all_after xs (v ∷ vs) ws = put_all_after (put_of xs v) vs ws

-- after one change more
left_more : (o : Origin) (r : Row) (p : Place) (changes : List Change) (c : Change)
    → put_all [] (written o r p (changes ++ c ∷ [])) ≡ put_all (put_all [] (written o r p changes)) (written o r p (c ∷ []))
left_more o r p changes c =
    ap (λ (cs : List Change). put_all [] (map (λ d. version_of o d.mutation) cs)) (filter-append (is_at r p) changes (c ∷ []))
    ∙ ap (put_all []) (map-append (λ (d : Change). version_of o d.mutation) (filter (is_at r p) changes) (filter (is_at r p) (c ∷ [])))
    ∙ put_all_after [] (written o r p changes) (written o r p (c ∷ []))

pub none_left : (held : Chains) (p : Place) → held.columns ≡ [] → held.deletions.versions ≡ [] → (chain_of held p).versions ≡ []
none_left held None columns deletions = deletions
none_left held (Some n) columns deletions = ap (λ (es : List (List ℕ × Held)). (column_held es n).versions) columns

-- a change of the row
pub own_left : (o : Origin) (r : Row) (p : Place) (changes : List Change) (c : Change) (held ready new : Chains) → is_same_row r c.row ≡ true
    → (chain_of held p).versions ≡ put_all [] (written o r p changes) → (chain_of ready p).versions ≡ (chain_of held p).versions
    → (chain_of new p).versions ≡ (if is_of_place p c.mutation then put_of (chain_of ready p).versions (version_of o c.mutation) else (chain_of ready p).versions)
    → (chain_of new p).versions ≡ put_all [] (written o r p (changes ++ c ∷ []))
own_left o r p changes c held ready new own so_far same put =
    put
    ∙ ap (λ (xs : List Version). if is_of_place p c.mutation then put_of xs (version_of o c.mutation) else xs) (same ∙ so_far)
    ∙ by_cases (is_of_place p c.mutation) (λ yes. rw (own, yes) refl) (λ no. rw (own, no) refl)
    ∙ sym (left_more o r p changes c)

-- a change of another row
pub other_left : (o : Origin) (r : Row) (p : Place) (changes : List Change) (c : Change) (held : Chains) → is_same_row r c.row ≡ false
    → (chain_of held p).versions ≡ put_all [] (written o r p changes) → (chain_of held p).versions ≡ put_all [] (written o r p (changes ++ c ∷ []))
other_left o r p changes c held other so_far = so_far ∙ rw other refl ∙ sym (left_more o r p changes c)
