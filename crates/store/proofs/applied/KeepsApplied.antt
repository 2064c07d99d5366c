-- A store into whose chains a part's versions were put keeps that part too.
use Rattle.std.proofs.Common.{◌≡◌, ◌∙◌, sym, ap, subst, refl, ℕ, inl, inr, Bool, true, false, cond, nat_le, List, [], ◌∷◌, ◌++◌, map, Option, Some, None, option_map, if◌then◌else◌, arith}
use Rattle.std.specs.Prelude.{filter, Contains, ◌⊎◌}
use Rattle.std.specs.Ordering.{nat_cmp, is_eq}
use Rattle.std.specs.Cmp.Lexicographic.{slice_cmp}
use Rattle.std.specs.List.{AllByRecursion}
use Rattle.std.specs.Option.{option_or}
use Rattle.std.specs.Str.{bytes_eq}
use Rattle.std.proofs.lemmas.List.Elements.{Contains-append_left, Contains-append_cases, Contains-push}
use Rattle.std.proofs.lemmas.Slice.Eq.{bytes_eq-Decides}
use Rattle.logical_time.specs.Stamps.{StampValue, stamp_cmp, is_older}
use Rattle.column_family.specs.declared.batch.Row.{Row}
use Rattle.column_family.specs.declared.batch.Change.{Change}
use Rattle.column_family.specs.declared.batch.Mutation.{Mutation}
use Rattle.column_family.specs.declared.batch.Mutation.TheVariants.{Insert, DeleteColumn, DeleteRow, DeleteRange}
use Rattle.column_family.specs.Location.{is_same_row}
use Rattle.column_family.specs.History.{Stamped, up_to, newer_of, newest_of, last_of, stamped, inserted}
use Rattle.column_family.specs.Normal.{StandsBefore, IsBelow, IsInOrderOf, IsNormal}
use Rattle.column_family.proofs.Options.{by_cases, both_true, denied, or_none}
use Rattle.column_family.proofs.Joins.{newer_of_none}
use Rattle.versions.specs.declared.version.Version.{Version}
use Rattle.versions.specs.declared.range.RangeDeletion.{RangeDeletion}
use Rattle.versions.specs.Chain.{IsFalling, at_of, put_of}
use Rattle.versions.specs.Newest.{has_stamp, newer_of as newer_version}
use Rattle.versions.proofs.Falling.{falling_put}
use Rattle.versions.proofs.Held.{held_after_put}
use Rattle.versions.proofs.Seen.{at_after_put}
use Rattle.store.specs.declared.origin.Origin.{Origin}
use Rattle.store.specs.declared.part.Applied.{Applied}
use Rattle.store.specs.Part.{committed_of, history_of, applied_by}
use Rattle.store.specs.Stored.{Place, StoreValue, chain_at, is_of_place, is_at, version_of, written, put_all, ranges_in, HavePut, HavePutRanges}
use Rattle.store.specs.Keeps.{IsNewStamp, mutation_of, stamped_of, IsFrom, IsRangeFrom, is_row_newer, Keeps}
use Rattle.store.proofs.lists.Lists.{none_in_empty, contains_first, contains_rest, first_or_rest, kept, kept_only}
use Rattle.store.proofs.applied.Written.{IsRangeWritten, put_held}
use Rattle.store.proofs.newest.Passing.{row_newer_more}
use Rattle.store.proofs.newest.Newer.{history_by}
use Rattle.store.proofs.newest.Apart.{new_stamp, apart_more}
use Rattle.store.proofs.newest.Touched.{Precedes, after_first, rest_in_order, in_row, none_last, each_weaker}
use Rattle.slice.proofs.Changed.{own_name}
use Rattle.store.proofs.newest.Overtaken.{newest_more}

-- ---- a normal batch has at most one change at each place
not_below_itself : (a b n : List ℕ) → bytes_eq a n ≡ true → bytes_eq b n ≡ true → IsBelow a b → ⊥
not_below_itself a b n p q h =
    let same : a ≡ b = (bytes_eq-Decides a n).0 p ∙ sym ((bytes_eq-Decides b n).0 q) in
    let equal : is_eq (slice_cmp nat_cmp a b) ≡ true = ap (λ (x : List ℕ). is_eq (slice_cmp nat_cmp a x)) (sym same) ∙ own_name a in
    let less : is_eq (slice_cmp nat_cmp a b) ≡ false = ap is_eq h in
    cc

not_twice : (p : Place) (m k : Mutation) → is_of_place p m ≡ true → is_of_place p k ≡ true → StandsBefore m k → ⊥
not_twice None DeleteRow DeleteRow e f h = h
not_twice None (Insert a v) k e f h = cc
not_twice None (DeleteColumn a) k e f h = cc
not_twice None (DeleteRange a b) k e f h = cc
not_twice None m (Insert a v) e f h = cc
not_twice None m (DeleteColumn a) e f h = cc
not_twice None m (DeleteRange a b) e f h = cc
not_twice (Some n) (Insert a v) (Insert b w) e f h = not_below_itself a b n e f h
not_twice (Some n) (Insert a v) (DeleteColumn b) e f h = not_below_itself a b n e f h
not_twice (Some n) (DeleteColumn a) (Insert b w) e f h = not_below_itself a b n e f h
not_twice (Some n) (DeleteColumn a) (DeleteColumn b) e f h = not_below_itself a b n e f h
not_twice (Some n) DeleteRow k e f h = cc
not_twice (Some n) (DeleteRange a b) k e f h = cc
not_twice (Some n) m DeleteRow e f h = cc
not_twice (Some n) m (DeleteRange a b) e f h = cc

none_after : (batch : List Change) (r : Row) (p : Place) (c : Change) → is_at r p c ≡ true → (d : Change) → Precedes batch c d → is_at r p d ≡ false
none_after batch r p c is d before =
    let b = both_true (is_same_row r c.row) (is_of_place p c.mutation) is in
    by_cases (is_at r p d)
    (λ t.
    let e = both_true (is_same_row r d.row) (is_of_place p d.mutation) t in
    absurd (not_twice p c.mutation d.mutation b.1 e.1 (in_row batch r c d b.0 e.0 before)))
    (λ f. f)

none_kept : (q : Change → Bool) (cs : List Change) → AllByRecursion (λ d. q d ≡ false) cs → filter q cs ≡ []
none_kept q [] h = refl
none_kept q (c ∷ cs) h = rw h.0 (none_kept q cs h.1)

-- there is no change at the place, or one
abbrev AreFew : Row → Place → List Change → Type 0
AreFew r p cs =
    ((filter (is_at r p) cs ≡ []) × (last_of (is_at r p) cs ≡ None))
    ⊎ ((c : Change) × (is_at r p c ≡ true) × (filter (is_at r p) cs ≡ c ∷ []) × (last_of (is_at r p) cs ≡ Some c.mutation))

few : (batch : List Change) (r : Row) (p : Place) (cs : List Change) → IsInOrderOf batch cs → AreFew r p cs
few batch r p [] h = inl (refl, refl)
few batch r p (c ∷ cs) h =
    by_cases (is_at r p c)
    (λ is.
    let rest = each_weaker (Precedes batch c) (λ d. is_at r p d ≡ false) (none_after batch r p c is) cs (after_first batch c cs h) in
    inr (
      c,
      is,
      rw is (ap (λ (ds : List Change). c ∷ ds) (none_kept (is_at r p) cs rest)),
      rw is (ap (λ (o : Option Mutation). option_or o (Some c.mutation)) (none_last (is_at r p) cs rest)),
    ))
    (λ apart. later apart (few batch r p cs (rest_in_order batch c cs h)))
  where
    later : is_at r p c ≡ false → AreFew r p cs → AreFew r p (c ∷ cs)
    later apart (inl h) = inl (rw apart h.0, rw apart (sym (or_none (last_of (is_at r p) cs)) ∙ h.1))
    later apart (inr h) = inr (h.0, h.1, rw apart h.2, rw apart (sym (or_none (last_of (is_at r p) cs)) ∙ h.3))

-- so it leaves no version there, or one
pub by_few : (o : Origin) (r : Row) (p : Place) (batch : List Change) → IsNormal batch → (P : List Version → Option Mutation → Type 0) → P [] None
    → ((c : Change) → is_at r p c ≡ true → P (version_of o c.mutation ∷ []) (Some c.mutation)) → P (written o r p batch) (last_of (is_at r p) batch)
by_few o r p batch normal P none one = elim (few batch r p batch normal) [
  | inl h ↦
      subst (λ (l : Option Mutation). P (written o r p batch) l) (sym h.1)
      (subst (λ (cs : List Change). P (map (λ (c : Change). version_of o c.mutation) cs) None) (sym h.0) none)
  | inr h ↦
      subst (λ (l : Option Mutation). P (written o r p batch) l) (sym h.3)
      (subst (λ (cs : List Change). P (map (λ (c : Change). version_of o c.mutation) cs) (Some h.0.mutation)) (sym h.2) (one h.0 h.1))
]

-- ---- a version stands for its mutation
mutation_back : (p : Place) (m : Mutation) → is_of_place p m ≡ true → mutation_of p (inserted m) ≡ m
mutation_back None DeleteRow e = refl
mutation_back None (Insert a v) e = absurd (cc)
mutation_back None (DeleteColumn a) e = absurd (cc)
mutation_back None (DeleteRange a b) e = absurd (cc)
mutation_back (Some n) (Insert a v) e = ap (λ (x : List ℕ). Insert x v) (sym ((bytes_eq-Decides a n).0 e))
mutation_back (Some n) (DeleteColumn a) e = ap DeleteColumn (sym ((bytes_eq-Decides a n).0 e))
mutation_back (Some n) DeleteRow e = absurd (cc)
mutation_back (Some n) (DeleteRange a b) e = absurd (cc)

abbrev pub origin_of : Applied → Origin
origin_of a = record { writer = a.part.writer; stamp = a.stamp; evt = a.commit }

pub version_back : (r : Row) (p : Place) (a : Applied) (c : Change) → is_at r p c ≡ true → stamped_of p (version_of (origin_of a) c.mutation) ≡ stamped (committed_of a) c.mutation
version_back r p a c is =
    ap (λ (m : Mutation). record { stamp = a.stamp; commit = a.commit; mutation = m })
    (mutation_back p c.mutation (both_true (is_same_row r c.row) (is_of_place p c.mutation) is).1)

pub newer_alike : (p : Place) (v : Version) (o : Option Version) → option_map (stamped_of p) (newer_version v o) ≡ newer_of (option_map (stamped_of p) o) (Some (stamped_of p v))
newer_alike p v None = refl
newer_alike p v (Some u) = by_cases (is_older u.stamp v.stamp) (λ lt. rw lt refl) (λ ge. rw ge refl)

-- ---- what is held and seen after the put
not_held : (s : StampValue) (all : List Applied) → IsNewStamp s all → (xs : List Version) → ((v : Version) → Contains xs v → IsFrom all v) → has_stamp xs s ≡ false
not_held s all new [] from = refl
not_held s all new (x ∷ xs) from =
    let b = from x (contains_first x xs) in
    let apart : is_eq (stamp_cmp s x.stamp) ≡ false = ap (λ (t : StampValue). is_eq (stamp_cmp s t)) (sym b.2) ∙ new_stamp s all b.0 new b.1 in
    rw apart (not_held s all new xs (λ v has. from v (contains_rest x v xs has)))

pub seen_with_none : (b : Bool) (n : Option Stamped) → n ≡ newer_of n (cond b None None)
seen_with_none true n = sym (newer_of_none n)
seen_with_none false n = sym (newer_of_none n)

-- the newest by a time once one version is put
seen_with_one : (r : Row) (p : Place) (t : ℕ) (a : Applied) (c : Change) (xs : List Version) (n : Option Stamped) → is_at r p c ≡ true → IsFalling xs → has_stamp xs a.stamp ≡ false
    → option_map (stamped_of p) (at_of xs t) ≡ n
    → option_map (stamped_of p) (at_of (put_of xs (version_of (origin_of a) c.mutation)) t) ≡ newer_of n (cond (nat_le a.commit t) (Some (stamped (committed_of a) c.mutation)) None)
seen_with_one r p t a c xs n is falling new e =
    let v = version_of (origin_of a) c.mutation in
    ap (option_map (stamped_of p)) (at_after_put xs (put_of xs v) v falling refl t)
    ∙ ap (λ (b : Bool). option_map (stamped_of p) (if b then at_of xs t else (if nat_le a.commit t then newer_version v (at_of xs t) else at_of xs t))) new
    ∙ go (nat_le a.commit t)
  where
    go : (b : Bool) → option_map (stamped_of p) (if b then newer_version (version_of (origin_of a) c.mutation) (at_of xs t) else at_of xs t)
        ≡ newer_of n (cond b (Some (stamped (committed_of a) c.mutation)) None)
    go true =
        newer_alike p (version_of (origin_of a) c.mutation) (at_of xs t)
        ∙ ap (λ (o : Option Stamped). newer_of o (Some (stamped_of p (version_of (origin_of a) c.mutation)))) e
        ∙ ap (λ (x : Stamped). newer_of n (Some x)) (version_back r p a c is)
    go false = e ∙ sym (newer_of_none n)

pub from_more : (all : List Applied) (a : Applied) (v : Version) → IsFrom all v → IsFrom (all ++ a ∷ []) v
from_more all a v (b, has, stamp, commit, writer) = (b, Contains-append_left all (a ∷ []) b has, stamp, commit, writer)

from_put : (all : List Applied) (a : Applied) (c : Change) (xs : List Version) → IsFalling xs → ((v : Version) → Contains xs v → IsFrom all v)
    → (w : Version) → Contains (put_of xs (version_of (origin_of a) c.mutation)) w → IsFrom (all ++ a ∷ []) w
from_put all a c xs falling from w has =
    let v = version_of (origin_of a) c.mutation in
    elim ((held_after_put xs (put_of xs v) v falling refl w).0 has) [
      | inl old ↦ from_more all a w (from w old)
      | inr new ↦
          (let e = sym new.0 in
          (a, Contains-push all a, ap (λ (u : Version). u.stamp) e, ap (λ (u : Version). u.evt) e, ap (λ (u : Version). u.what.writer) e))
    ]

-- ---- deletions of ranges
pub range_from_more : (all : List Applied) (a : Applied) (r : Row) (x : RangeDeletion) → IsRangeFrom all r x → IsRangeFrom (all ++ a ∷ []) r x
range_from_more all a r x (b, has, stamp, commit, writer, at) = (b, Contains-append_left all (a ∷ []) b has, stamp, commit, writer, at)

-- what a part's change leaves came from it
pub range_from_own : (all : List Applied) (a : Applied) (r : Row) (x : RangeDeletion) → IsRangeWritten (origin_of a) r a.part.batch x → IsRangeFrom (all ++ a ∷ []) r x
range_from_own all a r x (at, stamp, evt, writer) = (a, Contains-push all a, sym stamp, sym evt, sym writer, at)

-- what comes from one part more comes from that one or was there by the time
pub range_from_either : (t : ℕ) (all : List Applied) (a : Applied) (r : Row) (x : RangeDeletion) → IsRangeFrom (applied_by t (all ++ a ∷ [])) r x
    → IsRangeFrom (applied_by t all) r x ⊎ IsRangeWritten (origin_of a) r a.part.batch x
range_from_either t all a r x (b, has, stamp, commit, writer, at) =
    let k = kept_only (λ (c : Applied). nat_le c.commit t) (all ++ a ∷ []) b has in
    elim (Contains-append_cases all (a ∷ []) b k.0) [
      | inl old ↦ inl (b, kept (λ (c : Applied). nat_le c.commit t) all b old k.1, stamp, commit, writer, at)
      | inr new ↦ elim (first_or_rest a b [] new) [
        | inl here ↦
            inr (
              subst (λ (c : Applied). Contains c.part.batch (record { row = r; mutation = DeleteRange x.start x.finish })) (sym here) at,
              sym stamp ∙ ap (λ (c : Applied). c.stamp) (sym here),
              sym commit ∙ ap (λ (c : Applied). c.commit) (sym here),
              sym writer ∙ ap (λ (c : Applied). c.part.writer) (sym here),
            )
        | inr none ↦ absurd (none_in_empty b none)
      ]
    ]

-- where no deletion of the row is newer once one part more is applied, none was
pub still_stands : (t : ℕ) (all : List Applied) (a : Applied) (r : Row) (s : StampValue) → is_row_newer (applied_by t (all ++ a ∷ [])) r s ≡ false → is_row_newer (applied_by t all) r s ≡ false
still_stands t all a r s stands =
    denied (is_row_newer (applied_by t all) r s)
    (λ e.
    let more = row_newer_more (applied_by t all) (applied_by t (all ++ a ∷ [])) r s
    (λ b has.
    let k = kept_only (λ (c : Applied). nat_le c.commit t) all b has in
    kept (λ (c : Applied). nat_le c.commit t) (all ++ a ∷ []) b (Contains-append_left all (a ∷ []) b k.0) k.1) e in
    cc)

put_keeps : (old new : StoreValue) (all : List Applied) (a : Applied) → new.low ≡ old.low → HavePut (origin_of a) a.part.batch old.rows new.rows
    → HavePutRanges (origin_of a) a.part.batch old.rows new.rows → IsNormal a.part.batch → IsNewStamp a.stamp all → Keeps old all → Keeps new (all ++ a ∷ [])
put_keeps old new all a low put put_also normal fresh k = record {
  apart = apart_more all a normal fresh k.apart;
  falling = λ r p.
      (let xs = (chain_at old.rows r p).versions in
      subst (λ (ys : List Version). IsFalling ys) (sym (put r p))
      (by_few (origin_of a) r p a.part.batch normal (λ vs l. IsFalling (put_all xs vs)) (k.falling r p) (λ c is. falling_put xs (version_of (origin_of a) c.mutation) (k.falling r p))));
  seen = λ r p t above.
      (let xs = (chain_at old.rows r p).versions in
      let n = newest_of (is_at r p) (up_to t (history_of all)) in
      let before : option_map (stamped_of p) (at_of xs t) ≡ n = k.seen r p t (omega (arith, above, low)) ∙ ap (newest_of (is_at r p)) (history_by t all) in
      ap (λ (ys : List Version). option_map (stamped_of p) (at_of ys t)) (put r p)
      ∙ by_few (origin_of a) r p a.part.batch normal
      (λ vs l. option_map (stamped_of p) (at_of (put_all xs vs) t) ≡ newer_of n (cond (nat_le a.commit t) (option_map (stamped (committed_of a)) l) None))
      (before ∙ seen_with_none (nat_le a.commit t) n)
      (λ c is. seen_with_one r p t a c xs n is (k.falling r p) (not_held a.stamp all fresh xs (k.from r p)) before)
      ∙ sym (ap (newest_of (is_at r p)) (history_by t (all ++ a ∷ [])) ∙ newest_more (is_at r p) t all a));
  from = λ r p w has.
      (let xs = (chain_at old.rows r p).versions in
      by_few (origin_of a) r p a.part.batch normal (λ vs l. Contains (put_all xs vs) w → IsFrom (all ++ a ∷ []) w)
      (λ held. from_more all a w (k.from r p w held))
      (λ c is held. from_put all a c xs (k.falling r p) (k.from r p) w held)
      (subst (λ (ys : List Version). Contains ys w) (put r p) has));
  ranges = λ r t x above from stands.
      (put_held (origin_of a) r a.part.batch (ranges_in old.rows r).ranges (ranges_in new.rows r).ranges x (put_also r)).1
      (elim (range_from_either t all a r x from) [
        | inl old_one ↦ inl (k.ranges r t x (omega (arith, above, low)) old_one (still_stands t all a r x.stamp stands))
        | inr new_one ↦ inr new_one
      ]);
  ranges_from = λ r x has. elim ((put_held (origin_of a) r a.part.batch (ranges_in old.rows r).ranges (ranges_in new.rows r).ranges x (put_also r)).0 has) [
    | inl old_one ↦ range_from_more all a r x (k.ranges_from r x old_one)
    | inr new_one ↦ range_from_own all a r x new_one
  ];
}

pub keeps_applied : (old new : StoreValue) (all : List Applied) (a : Applied) (o : Origin) → new.low ≡ old.low
    → o ≡ record { writer = a.part.writer; stamp = a.stamp; evt = a.commit } → HavePut o a.part.batch old.rows new.rows → HavePutRanges o a.part.batch old.rows new.rows
    → IsNormal a.part.batch → IsNewStamp a.stamp all → Keeps old all → Keeps new (all ++ a ∷ [])
keeps_applied old new all a o low is put put_also normal fresh k =
    put_keeps old new all a low (subst (λ (from : Origin). HavePut from a.part.batch old.rows new.rows) is put)
    (subst (λ (from : Origin). HavePutRanges from a.part.batch old.rows new.rows) is put_also) normal fresh k
