-- What is seen of a row where what a part leaves there is laid over it is right by all that the store keeps, and the part.
use Rattle.std.proofs.Common.{◌≡◌, ◌∙◌, sym, ap, subst, ℕ, ◌≤◌, Bool, true, false, not, ◌&&◌, cond, nat_le, List, [], ◌∷◌, ◌++◌, Option, Some, None, option_map, inl, inr}
use Rattle.std.specs.Prelude.{Contains, if◌then◌else◌, ◌⊎◌, ◌↔◌}
use Rattle.std.proofs.lemmas.List.Elements.{Contains-append_left, Contains-append_right, Contains-append_cases, Contains-push}
use Rattle.column_family.specs.declared.batch.Row.{Row}
use Rattle.column_family.specs.declared.batch.Change.{Change}
use Rattle.column_family.specs.History.{Stamped, up_to, newer_of, newest_of, last_of, stamped, is_older_than}
use Rattle.column_family.specs.Normal.{IsNormal}
use Rattle.column_family.specs.Places.{row_cmp}
use Rattle.column_family.proofs.Joins.{newer_of_none}
use Rattle.column_family.proofs.Options.{by_cases, both_true, both_hold}
use Rattle.logical_time.specs.Stamps.{is_older}
use Rattle.slice.specs.declared.predicate.Predicate.{Predicate}
use Rattle.versions.specs.declared.version.Version.{Version}
use Rattle.versions.specs.declared.range.RangeDeletion.{RangeDeletion}
use Rattle.versions.specs.Chain.{at_of}
use Rattle.versions.proofs.Members.{seen_is_contained}
use Rattle.store.specs.declared.part.Applied.{Applied}
use Rattle.store.specs.declared.part.Part.{Part}
use Rattle.store.specs.declared.sight.Moment.TheVariants.{At}
use Rattle.store.specs.Part.{committed_of, history_of, applied_by, IsRightPart}
use Rattle.store.specs.Stored.{Place, Chains, StoreValue, held_by, no_row, chain_of, chain_at, ranges_in, is_at, version_of, written, put_all}
use Rattle.store.proofs.applied.Written.{IsRangeWritten}
use Rattle.store.specs.Keeps.{IsNewStamp, stamped_of, IsFrom, IsRangeFrom, is_row_newer, Keeps}
use Rattle.store.specs.Sight.{Sight, sight_of, newer_seen, laid_over}
use Rattle.versions.specs.Ranges.{is_under}
use Rattle.store.specs.Struck.{standing, ranges_over, IsPartUnder}
use Rattle.store.proofs.lists.Lists.{kept as passes, kept_only, not_true, not_false}
use Rattle.store.proofs.newest.Newer.{history_by}
use Rattle.store.proofs.newest.Apart.{apart_by, apart_more}
use Rattle.store.proofs.applied.KeepsApplied.{by_few, origin_of, version_back, newer_alike, seen_with_none, from_more, range_from_more, range_from_own, range_from_either, still_stands}
use Rattle.store.proofs.newest.Overtaken.{newest_more}
use Rattle.store.proofs.seen.PartAt.{seen_by, from_by, range_from_by, range_by_then}
use Rattle.store.proofs.seen.View.{IsView, under_by, view_part}

-- what is seen by a time of what a chain shows and of versions that are put to an empty one
abbrev seen_with : Option Version → List Version → ℕ → Option Version
seen_with o vs t = newer_seen o (at_of (put_all [] vs) t)

newest_with : (r : Row) (q : Place) (t : ℕ) (a : Applied) (o : Option Version) (n : Option Stamped) → IsNormal a.part.batch → option_map (stamped_of q) o ≡ n
    → option_map (stamped_of q) (seen_with o (written (origin_of a) r q a.part.batch) t)
    ≡ newer_of n (cond (nat_le a.commit t) (option_map (stamped (committed_of a)) (last_of (is_at r q) a.part.batch)) None)
newest_with r q t a o n normal e =
    by_few (origin_of a) r q a.part.batch normal
    (λ vs l. option_map (stamped_of q) (seen_with o vs t) ≡ newer_of n (cond (nat_le a.commit t) (option_map (stamped (committed_of a)) l) None))
    (e ∙ seen_with_none (nat_le a.commit t) n)
    (λ c is. one c is (nat_le a.commit t))
  where
    one : (c : Change) → is_at r q c ≡ true → (b : Bool)
        → option_map (stamped_of q) (newer_seen o (if b then Some (version_of (origin_of a) c.mutation) else None))
        ≡ newer_of n (cond b (Some (stamped (committed_of a) c.mutation)) None)
    one c is true =
        newer_alike q (version_of (origin_of a) c.mutation) o
        ∙ ap (λ (x : Option Stamped). newer_of x (Some (stamped_of q (version_of (origin_of a) c.mutation)))) e
        ∙ ap (λ (x : Stamped). newer_of n (Some x)) (version_back r q a c is)
    one c is false = e ∙ sym (newer_of_none n)

-- what is seen of two is one of them
of_two : (o u : Option Version) (v : Version) → newer_seen o u ≡ Some v → (o ≡ Some v) ⊎ (u ≡ Some v)
of_two o None v e = inl e
of_two None (Some u) v e = inr e
of_two (Some w) (Some u) v e =
    by_cases (is_older w.stamp u.stamp)
    (λ older. inr (let k : Some u ≡ Some v = rw older at e in k))
    (λ not_older. inl (let k : Some w ≡ Some v = rw not_older at e in k))

-- what a part leaves comes from it
left_from : (all : List Applied) (r : Row) (q : Place) (t : ℕ) (a : Applied) (v : Version) → IsNormal a.part.batch
    → at_of (put_all [] (written (origin_of a) r q a.part.batch)) t ≡ Some v → IsFrom (all ++ a ∷ []) v
left_from all r q t a v normal =
    by_few (origin_of a) r q a.part.batch normal (λ vs l. at_of (put_all [] vs) t ≡ Some v → IsFrom (all ++ a ∷ []) v)
    (λ e. absurd (cc))
    (λ c is e. one c (nat_le a.commit t) e)
  where
    one : (c : Change) (b : Bool) → (if b then Some (version_of (origin_of a) c.mutation) else None) ≡ Some v → IsFrom (all ++ a ∷ []) v
    one c true e =
        let same : version_of (origin_of a) c.mutation ≡ v = cc in
        (a, Contains-push all a, ap (λ (u : Version). u.stamp) same, ap (λ (u : Version). u.evt) same, ap (λ (u : Version). u.what.writer) same)
    one c false e = absurd (cc)

seen_from : (all : List Applied) (r : Row) (q : Place) (t : ℕ) (a : Applied) (xs : List Version) (v : Version) → IsNormal a.part.batch
    → ((w : Version) → Contains xs w → IsFrom all w) → seen_with (at_of xs t) (written (origin_of a) r q a.part.batch) t ≡ Some v
    → IsFrom (applied_by t (all ++ a ∷ [])) v
seen_from all r q t a xs v normal from e = elim (of_two (at_of xs t) (at_of (put_all [] vs) t) v e) [
  | inl old ↦ from_by (all ++ a ∷ []) t v (seen_by xs t v old) (from_more all a v (from v (seen_is_contained xs t v old)))
  | inr new ↦ from_by (all ++ a ∷ []) t v (seen_by (put_all [] vs) t v new) (left_from all r q t a v normal new)
]
  where
    vs : List Version
    vs = written (origin_of a) r q a.part.batch

-- the deletions of ranges that are seen once the part is applied
ranges_with : (s : StoreValue) (all : List Applied) (a : Applied) (over : Chains) (r : Row) (t : ℕ) (d : Option Version) (x : RangeDeletion) → Keeps s all → s.low ≤ t
    → option_map (stamped_of None) d ≡ newest_of (is_at r None) (history_of (applied_by t (all ++ a ∷ [])))
    → ((y : RangeDeletion) → Contains over.ranges.ranges y ↔ IsRangeWritten (origin_of a) r a.part.batch y)
    → Contains (standing (At t) d ((ranges_in s.rows r).ranges ++ over.ranges.ranges)) x
    ↔ (IsRangeFrom (applied_by t (all ++ a ∷ [])) r x × (is_under d x ≡ false))
ranges_with s all a over r t d x k low is left = (
  λ has.
      let q = kept_only test both x has in
      let b = both_true (nat_le x.evt t) (not (is_under d x)) q.1 in (
        range_from_by (all ++ a ∷ []) t r x b.0
            (elim (Contains-append_cases (ranges_in s.rows r).ranges over.ranges.ranges x q.0) [
              | inl old ↦ range_from_more all a r x (k.ranges_from r x old)
              | inr new ↦ range_from_own all a r x ((left x).0 new)
            ]),
        not_true (is_under d x) b.1,
      ),
  λ has.
      let stands : is_row_newer (applied_by t (all ++ a ∷ [])) r x.stamp ≡ false =
      sym (under_by d x ∙ ap (λ (o : Option Stamped). is_older_than o x.stamp) is) ∙ has.1 in
      passes test both x
      (elim (range_from_either t all a r x has.0) [
        | inl old ↦ Contains-append_left (ranges_in s.rows r).ranges over.ranges.ranges x (k.ranges r t x low old (still_stands t all a r x.stamp stands))
        | inr new ↦ Contains-append_right (ranges_in s.rows r).ranges over.ranges.ranges x ((left x).1 new)
      ])
      (both_hold (nat_le x.evt t) (not (is_under d x)) (range_by_then (all ++ a ∷ []) t r x has.0).1 (not_false (is_under d x) has.1)),
)
  where
    both : List RangeDeletion
    both = (ranges_in s.rows r).ranges ++ over.ranges.ranges

    test : RangeDeletion → Bool
    test = λ y. nat_le y.evt t && not (is_under d y)

-- what is seen of each place once the part is applied
there_with : (s : StoreValue) (all : List Applied) (a : Applied) (r : Row) (t : ℕ) → Keeps s all → s.low ≤ t → IsNormal a.part.batch → (q : Place)
    → option_map (stamped_of q) (seen_with (at_of (chain_at s.rows r q).versions t) (written (origin_of a) r q a.part.batch) t) ≡ newest_of (is_at r q) (history_of (applied_by t (all ++ a ∷ [])))
there_with s all a r t k low normal q =
    newest_with r q t a (at_of (chain_at s.rows r q).versions t) (newest_of (is_at r q) (up_to t (history_of all))) normal
    (k.seen r q t low ∙ ap (newest_of (is_at r q)) (history_by t all))
    ∙ sym (ap (newest_of (is_at r q)) (history_by t (all ++ a ∷ [])) ∙ newest_more (is_at r q) t all a)

-- what is seen of the row's deletion once the part is applied
abbrev deletion_with : StoreValue → Applied → Row → ℕ → Option Version
deletion_with s a r t = seen_with (at_of (chain_at s.rows r None).versions t) (written (origin_of a) r None a.part.batch) t

view_with : (s : StoreValue) (all : List Applied) (a : Applied) (over : Chains) (r : Row) (t : ℕ) → Keeps s all → s.low ≤ t → IsNormal a.part.batch → IsNewStamp a.stamp all
    → ((y : RangeDeletion) → Contains over.ranges.ranges y ↔ IsRangeWritten (origin_of a) r a.part.batch y)
    → IsView (applied_by t (all ++ a ∷ [])) r (λ q. seen_with (at_of (chain_at s.rows r q).versions t) (written (origin_of a) r q a.part.batch) t)
    (standing (At t) (deletion_with s a r t) ((ranges_in s.rows r).ranges ++ over.ranges.ranges))
view_with s all a over r t k low normal fresh left = record {
  apart = apart_by t (all ++ a ∷ []) (apart_more all a normal fresh k.apart);
  newest_there = there_with s all a r t k low normal;
  from = λ q v e. seen_from all r q t a (chain_at s.rows r q).versions v normal (k.from r q) e;
  ranges = λ x. ranges_with s all a over r t (deletion_with s a r t) x k low (there_with s all a r t k low normal None) left;
}

-- what is seen at a time, from the horizon on, is right there once the part is applied
pub part_with : (s : StoreValue) (all : List Applied) (a : Applied) (over : Chains) (r : Row) (p : Predicate) (t : ℕ) (part : Part) → Keeps s all → s.low ≤ t
    → IsNormal a.part.batch → IsNewStamp a.stamp all → ((q : Place) → (chain_of over q).versions ≡ put_all [] (written (origin_of a) r q a.part.batch))
    → ((y : RangeDeletion) → Contains over.ranges.ranges y ↔ IsRangeWritten (origin_of a) r a.part.batch y)
    → IsPartUnder (laid_over (sight_of (At t) (held_by row_cmp no_row s.rows r)) (sight_of (At t) over)) (ranges_over (At t) (held_by row_cmp no_row s.rows r) over) p part
    → IsRightPart (all ++ a ∷ []) r p t part
part_with s all a over r p t part k low normal fresh left left_also seen =
    let f : Sight = λ q. seen_with (at_of (chain_at s.rows r q).versions t) (written (origin_of a) r q a.part.batch) t in
    let xs = λ (d : Option Version). standing (At t) d ((ranges_in s.rows r).ranges ++ over.ranges.ranges) in
    let same : laid_over (sight_of (At t) (held_by row_cmp no_row s.rows r)) (sight_of (At t) over) ≡ f =
    λ i. λ q. newer_seen (at_of (chain_at s.rows r q).versions t) (at_of (left q i) t) in
    (view_part (applied_by t (all ++ a ∷ [])) r f (xs (f None)) p part (view_with s all a over r t k low normal fresh left_also)
    (subst (λ (g : Sight). IsPartUnder g (xs (g None)) p part) same seen)).0
