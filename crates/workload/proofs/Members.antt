-- The members of ranges and of scripts, read one after the other.
use Rattle.std.proofs.Common.{◌≡◌, ℕ, suc, ◌+◌, ◌<◌, ◌≤◌, ◌-◌, ◌^◌, ◌==◌, Bool, true, false, List, [], ◌∷◌, length, Vec, Global, Option, Some, None, option_map, option_and_then, nat_cmp, Less, Equal, Greater, refl, sym, ap, subst, ◌∙◌, arith}
use Rattle.std.specs.Prelude.{⊤, IfSome, codes, is_some, if◌then◌else◌}
use Rattle.std.proofs.lemmas.Bool.Decides.{nat_tests}
use Rattle.std.specs.Str.{bytes_eq}
use Rattle.std.specs.Cmp.Lexicographic.{slice_cmp, bytes_decides}
use Rattle.json.specs.Token.{Token}
use Rattle.json.specs.Json.{read_key}
use Rattle.json.specs.Lex.{tokens}
use Rattle.json.specs.Json.{value}
use Rattle.serde_json.specs.Data.{Data, object, Items, Members, no_members, member, put}
use Rattle.serde_json.specs.Find.{get, get_member, as_str, as_array, as_bool}
use Rattle.serde_json.specs.Read.{read}
use Rattle.serde_json.proofs.Views.{get_member-put}
use Rattle.workload.proofs.Converted.{whole_read}
use Rattle.slice.specs.declared.predicate.Predicate.{Predicate}
use Rattle.slice.specs.declared.predicate.Predicate.TheVariants.{Range}
use Rattle.messages.specs.Topology.{TopologyValue}
use Rattle.workload.specs.declared.heading.Heading.{Heading}
use Rattle.workload.specs.declared.heading.Bounds.{Bounds}
use Rattle.workload.specs.declared.script.ScriptEvent.{ScriptEvent}
use Rattle.workload.specs.Gives.{◌>>=◌}
use Rattle.workload.specs.Shape.{members_len, whole_below, data_of, all_by, list_by, all_within, list_within, member_by, has_members}
use Rattle.workload.specs.Script.{end_of, reversed_of, count_of, range_members, range_of, small_of, families_of, topology_among, topology_of, event_of, script_of}
use Rattle.workload.specs.Streams.{value_at, Reads, AreFound, kept, RangeMembers, range_with, AreBounds, Bounded, BoundsSoFar, head_with, Headed, HeadingSoFar, BeginWith, AreOf, Tells, Begins}
use Rattle.workload.proofs.Lists.{all_within_short}
use Rattle.json.proofs.Grammar.{read_key-shorter}
use Rattle.workload.proofs.Streams.{shorter, named, if_some, none_found, one_more_found, all_found}

-- ---- a member that is put among those that are kept

here : (k : List ℕ) (d : Data) (o : Option Data) (ms : Members) → slice_cmp nat_cmp k k ≡ Equal → put k d ms ≡ member k d ms → put k d (kept k o ms) ≡ kept k (Some d) ms
here k d None ms e h = h
here k d (Some x) ms e h = rw e refl

ahead : (k l : List ℕ) (d : Data) (o : Option Data) (ms : Members) → slice_cmp nat_cmp k l ≡ Less → put k d ms ≡ member k d ms → put k d (kept l o ms) ≡ member k d (kept l o ms)
ahead k l d None ms e h = h
ahead k l d (Some x) ms e h = rw e refl

past : (k l : List ℕ) (d : Data) (o : Option Data) (ms : Members) → slice_cmp nat_cmp k l ≡ Greater → put k d (kept l o ms) ≡ kept l o (put k d ms)
past k l d None ms e = refl
past k l d (Some x) ms e = rw e refl

-- ---- a member that is looked up

seen : (k : List ℕ) (o : Option Data) (ms : Members) → slice_cmp nat_cmp k k ≡ Equal → get_member k ms ≡ None → get_member k (kept k o ms) ≡ o
seen k None ms e h = h
seen k (Some d) ms e h = rw e refl

before_it : (k l : List ℕ) (o : Option Data) (ms : Members) → slice_cmp nat_cmp k l ≡ Less → get_member k (kept l o ms) ≡ get_member k ms
before_it k l None ms e = refl
before_it k l (Some d) ms e = rw e refl

after_it : (k l : List ℕ) (o : Option Data) (ms : Members) → slice_cmp nat_cmp k l ≡ Greater → get_member k (kept l o ms) ≡ get_member k ms
after_it k l None ms e = refl
after_it k l (Some d) ms e = rw e refl

-- ---- ranges

abbrev its_start : List ℕ
its_start = codes "start"

abbrev its_finish : List ℕ
its_finish = codes "finish"

abbrev its_reversed : List ℕ
its_reversed = codes "reversed"

abbrev its_count : List ℕ
its_count = codes "count"

plus_none : (n : ℕ) → n + 0 ≡ n
plus_none n = omega arith

same_number : (n m : ℕ) → n ≡ m → (n == m) ≡ true
same_number n m e = grind (arith, nat_tests)

abbrev one_if : Option Data → ℕ
one_if o = if is_some o then 1 else 0

len_kept : (k : List ℕ) (o : Option Data) (ms : Members) → members_len (kept k o ms) ≡ one_if o + members_len ms
len_kept k None ms = omega arith
len_kept k (Some d) ms = omega arith

module _ (c f r s : Option Data) where
  abbrev m₁ : Members
  m₁ = kept its_start s no_members

  abbrev m₂ : Members
  m₂ = kept its_reversed r m₁

  abbrev m₃ : Members
  m₃ = kept its_finish f m₂

  put_count : (d : Data) → put its_count d (kept its_count c m₃) ≡ kept its_count (Some d) m₃
  put_count d = here its_count d c m₃ refl (ahead its_count its_finish d f m₂ refl (ahead its_count its_reversed d r m₁ refl (ahead its_count its_start d s no_members refl refl)))

  put_finish : (d : Data) → put its_finish d (kept its_count c m₃) ≡ kept its_count c (kept its_finish (Some d) m₂)
  put_finish d = past its_finish its_count d c m₃ refl ∙ ap (kept its_count c) (here its_finish d f m₂ refl (ahead its_finish its_reversed d r m₁ refl (ahead its_finish its_start d s no_members refl refl)))

  put_reversed : (d : Data) → put its_reversed d (kept its_count c m₃) ≡ kept its_count c (kept its_finish f (kept its_reversed (Some d) m₁))
  put_reversed d =
      past its_reversed its_count d c m₃ refl ∙ ap (kept its_count c) (past its_reversed its_finish d f m₂ refl ∙ ap (kept its_finish f) (here its_reversed d r m₁ refl (ahead its_reversed its_start d s no_members refl refl)))

  put_start : (d : Data) → put its_start d (kept its_count c m₃) ≡ kept its_count c (kept its_finish f (kept its_reversed r (kept its_start (Some d) no_members)))
  put_start d =
      past its_start its_count d c m₃ refl
      ∙ ap (kept its_count c) (past its_start its_finish d f m₂ refl ∙ ap (kept its_finish f) (past its_start its_reversed d r m₁ refl ∙ ap (kept its_reversed r) (here its_start d s no_members refl refl)))

  get_count : get_member its_count (kept its_count c m₃) ≡ c
  get_count = seen its_count c m₃ refl (before_it its_count its_finish f m₂ refl ∙ before_it its_count its_reversed r m₁ refl ∙ before_it its_count its_start s no_members refl)

  get_finish : get_member its_finish (kept its_count c m₃) ≡ f
  get_finish = after_it its_finish its_count c m₃ refl ∙ seen its_finish f m₂ refl (before_it its_finish its_reversed r m₁ refl ∙ before_it its_finish its_start s no_members refl)

  get_reversed : get_member its_reversed (kept its_count c m₃) ≡ r
  get_reversed = after_it its_reversed its_count c m₃ refl ∙ after_it its_reversed its_finish f m₂ refl ∙ seen its_reversed r m₁ refl (before_it its_reversed its_start s no_members refl)

  get_start : get_member its_start (kept its_count c m₃) ≡ s
  get_start = after_it its_start its_count c m₃ refl ∙ after_it its_start its_finish f m₂ refl ∙ after_it its_start its_reversed r m₁ refl ∙ seen its_start s no_members refl refl

  counted : has_members (range_members (object (kept its_count c m₃))) (object (kept its_count c m₃)) ≡ true
  counted =
      let len : members_len (kept its_count c m₃) ≡ one_if c + (one_if f + (one_if r + one_if s)) =
      len_kept its_count c m₃ ∙ ap (λ n. one_if c + n) (len_kept its_finish f m₂ ∙ ap (λ n. one_if f + n) (len_kept its_reversed r m₁ ∙ ap (λ n. one_if r + n) (len_kept its_start s no_members ∙ plus_none (one_if s)))) in
      let cs = ap one_if get_count in
      let fs = ap one_if get_finish in
      let rs = ap one_if get_reversed in
      let ss = ap one_if get_start in
      (λ i. len i == (ss i + fs i + rs i + cs i)) ∙ same_number (one_if c + (one_if f + (one_if r + one_if s))) (one_if s + one_if f + one_if r + one_if c) (omega arith)

range_is : (m : RangeMembers) (b : Bounds) → AreBounds b m → range_of (object (range_with m)) ≡ Some (Range b.start b.finish b.reversed b.count)
unfolding range_of
range_is m b are =
    let reversed_is : reversed_of (get its_reversed (object (range_with m))) ≡ Some b.reversed = ap reversed_of (get_reversed m.count m.finish m.reversed m.start) ∙ are.reversed in
    let count_is : count_of (get its_count (object (range_with m))) ≡ Some b.count = ap count_of (get_count m.count m.finish m.reversed m.start) ∙ are.count in
    let start_is : end_of (get its_start (object (range_with m))) ≡ Some b.start = ap end_of (get_start m.count m.finish m.reversed m.start) ∙ are.start in
    let finish_is : end_of (get its_finish (object (range_with m))) ≡ Some b.finish = ap end_of (get_finish m.count m.finish m.reversed m.start) ∙ are.finish in
    λ i. if (counted m.count m.finish m.reversed m.start i)
    then ((reversed_is i) >>= (λ v. (count_is i) >>= (λ n. (start_is i) >>= (λ s. (finish_is i) >>= (λ f. Some (Range s f v n))))))
    else None

-- a range of which nothing was read yet
pub no_bounds : (depth : ℕ) (first : List Token) → BoundsSoFar depth first first (record { start = []; finish = []; reversed = false; count = 100 })
no_bounds depth first = (
  record { start = None; finish = None; reversed = None; count = None },
  record { start = refl; finish = refl; reversed = refl; count = refl },
  none_found depth first,
)

pub more_bounds : (depth : ℕ) (first now s new : List Token) (k : List ℕ) (b b' : Bounds) → BoundsSoFar depth first now b → read_key now ≡ Some (Some k, s) → Bounded k depth s new b b' → BoundsSoFar depth first new b'
more_bounds depth first now s new k b b' (m, are, found) e (d, is, next) =
    let more = next m are in
    (more.0, more.1, subst (AreFound depth first new) more.2 (one_more_found depth first now s new (range_with m) k d found e is))

pub all_bounds : (depth : ℕ) (ts first now r : List Token) (b : Bounds) → 0 < depth → ts ≡ Token.begin_object ∷ first → BoundsSoFar (depth - 1) first now b → read_key now ≡ Some (None, r)
    → Reads range_of depth ts r (Range b.start b.finish b.reversed b.count)
all_bounds depth ts first now r b some e (m, are, found) end = (object (range_with m), all_found depth ts first now r (range_with m) some e found end, range_is m b are)

module _ (k : List ℕ) (depth : ℕ) (ts r : List Token) (b : Bounds) where
  pub bound_start : (x : List ℕ) → bytes_eq k its_start ≡ true → Reads as_str depth ts r x → Bounded k depth ts r b (record { start = x; finish = b.finish; reversed = b.reversed; count = b.count })
  bound_start x e h = named k its_start (λ n. Bounded n depth ts r b (record { start = x; finish = b.finish; reversed = b.reversed; count = b.count })) e (
    h.0,
    h.1,
    λ m are. (
      record { start = Some h.0; finish = m.finish; reversed = m.reversed; count = m.count },
      record { start = h.2; finish = are.finish; reversed = are.reversed; count = are.count },
      put_start m.count m.finish m.reversed m.start h.0,
    ),
  )

  pub bound_finish : (x : List ℕ) → bytes_eq k its_finish ≡ true → Reads as_str depth ts r x → Bounded k depth ts r b (record { start = b.start; finish = x; reversed = b.reversed; count = b.count })
  bound_finish x e h = named k its_finish (λ n. Bounded n depth ts r b (record { start = b.start; finish = x; reversed = b.reversed; count = b.count })) e (
    h.0,
    h.1,
    λ m are. (
      record { start = m.start; finish = Some h.0; reversed = m.reversed; count = m.count },
      record { start = are.start; finish = h.2; reversed = are.reversed; count = are.count },
      put_finish m.count m.finish m.reversed m.start h.0,
    ),
  )

  pub bound_reversed : (x : Bool) → bytes_eq k its_reversed ≡ true → Reads as_bool depth ts r x → Bounded k depth ts r b (record { start = b.start; finish = b.finish; reversed = x; count = b.count })
  bound_reversed x e h = named k its_reversed (λ n. Bounded n depth ts r b (record { start = b.start; finish = b.finish; reversed = x; count = b.count })) e (
    h.0,
    h.1,
    λ m are. (
      record { start = m.start; finish = m.finish; reversed = Some h.0; count = m.count },
      record { start = are.start; finish = are.finish; reversed = h.2; count = are.count },
      put_reversed m.count m.finish m.reversed m.start h.0,
    ),
  )

  pub bound_count : (x : ℕ) → bytes_eq k its_count ≡ true → Reads (whole_below (2 ^ 32)) depth ts r x → Bounded k depth ts r b (record { start = b.start; finish = b.finish; reversed = b.reversed; count = x })
  bound_count x e h = named k its_count (λ n. Bounded n depth ts r b (record { start = b.start; finish = b.finish; reversed = b.reversed; count = x })) e (
    h.0,
    h.1,
    λ m are. (
      record { start = m.start; finish = m.finish; reversed = m.reversed; count = Some h.0 },
      record { start = are.start; finish = are.finish; reversed = are.reversed; count = h.2 },
      put_count m.count m.finish m.reversed m.start h.0,
    ),
  )

-- ---- what a script tells before its events

abbrev its_dcs : List ℕ
its_dcs = codes "dcs"

abbrev its_families : List ℕ
its_families = codes "families"

abbrev its_homes : List ℕ
its_homes = codes "homes"

abbrev its_shards : List ℕ
its_shards = codes "shards"

module _ (c f h s : Option Data) where
  abbrev h₁ : Members
  h₁ = kept its_shards s no_members

  abbrev h₂ : Members
  h₂ = kept its_homes h h₁

  abbrev h₃ : Members
  h₃ = kept its_families f h₂

  put_dcs : (d : Data) → put its_dcs d (kept its_dcs c h₃) ≡ kept its_dcs (Some d) h₃
  put_dcs d = here its_dcs d c h₃ refl (ahead its_dcs its_families d f h₂ refl (ahead its_dcs its_homes d h h₁ refl (ahead its_dcs its_shards d s no_members refl refl)))

  put_families : (d : Data) → put its_families d (kept its_dcs c h₃) ≡ kept its_dcs c (kept its_families (Some d) h₂)
  put_families d = past its_families its_dcs d c h₃ refl ∙ ap (kept its_dcs c) (here its_families d f h₂ refl (ahead its_families its_homes d h h₁ refl (ahead its_families its_shards d s no_members refl refl)))

  put_homes : (d : Data) → put its_homes d (kept its_dcs c h₃) ≡ kept its_dcs c (kept its_families f (kept its_homes (Some d) h₁))
  put_homes d =
      past its_homes its_dcs d c h₃ refl ∙ ap (kept its_dcs c) (past its_homes its_families d f h₂ refl ∙ ap (kept its_families f) (here its_homes d h h₁ refl (ahead its_homes its_shards d s no_members refl refl)))

  put_shards : (d : Data) → put its_shards d (kept its_dcs c h₃) ≡ kept its_dcs c (kept its_families f (kept its_homes h (kept its_shards (Some d) no_members)))
  put_shards d =
      past its_shards its_dcs d c h₃ refl
      ∙ ap (kept its_dcs c) (past its_shards its_families d f h₂ refl ∙ ap (kept its_families f) (past its_shards its_homes d h h₁ refl ∙ ap (kept its_homes h) (here its_shards d s no_members refl refl)))

pub no_heading : (depth : ℕ) (first : List Token) → HeadingSoFar depth first first (record { dcs = None; shards = None; families = None; homes = None })
no_heading depth first = (
  record { dcs = None; shards = None; families = None; homes = None },
  record { dcs = tt; shards = tt; families = tt; homes = tt },
  none_found depth first,
)

pub more_heading : (depth : ℕ) (first now s new : List Token) (k : List ℕ) (h h' : Heading) → HeadingSoFar depth first now h → read_key now ≡ Some (Some k, s) → Headed k depth s new h h' → HeadingSoFar depth first new h'
more_heading depth first now s new k h h' (m, are, found) e (d, is, next) =
    let more = next m are in
    (more.0, more.1, subst (AreFound depth first new) more.2 (one_more_found depth first now s new (head_with m) k d found e is))

pub all_heading : (depth : ℕ) (first now new : List Token) (k : List ℕ) (h : Heading) → HeadingSoFar depth first now h → read_key now ≡ Some (Some k, new) → bytes_eq k (codes "events") ≡ true → BeginWith depth first new h
all_heading depth first now new k h so_far key e = (now, so_far, key ∙ ap (λ n. Some (Some n, new)) ((bytes_decides k (codes "events")).0 e))

module _ (k : List ℕ) (depth : ℕ) (ts r : List Token) (h : Heading) where
  pub head_dcs : (x : ℕ) → bytes_eq k its_dcs ≡ true → Reads small_of depth ts r x → Headed k depth ts r h (record { dcs = Some x; shards = h.shards; families = h.families; homes = h.homes })
  head_dcs x e g = named k its_dcs (λ n. Headed n depth ts r h (record { dcs = Some x; shards = h.shards; families = h.families; homes = h.homes })) e (
    g.0,
    g.1,
    λ m is. (
      record { dcs = Some g.0; shards = m.shards; families = m.families; homes = m.homes },
      record { dcs = g.2; shards = is.shards; families = is.families; homes = is.homes },
      put_dcs m.dcs m.families m.homes m.shards g.0,
    ),
  )

  pub head_shards : (x : ℕ) → bytes_eq k its_shards ≡ true → Reads small_of depth ts r x → Headed k depth ts r h (record { dcs = h.dcs; shards = Some x; families = h.families; homes = h.homes })
  head_shards x e g = named k its_shards (λ n. Headed n depth ts r h (record { dcs = h.dcs; shards = Some x; families = h.families; homes = h.homes })) e (
    g.0,
    g.1,
    λ m is. (
      record { dcs = m.dcs; shards = Some g.0; families = m.families; homes = m.homes },
      record { dcs = is.dcs; shards = g.2; families = is.families; homes = is.homes },
      put_shards m.dcs m.families m.homes m.shards g.0,
    ),
  )

  pub head_families : (x : List (List ℕ)) → bytes_eq k its_families ≡ true → Reads families_of depth ts r x → Headed k depth ts r h (record { dcs = h.dcs; shards = h.shards; families = Some x; homes = h.homes })
  head_families x e g = named k its_families (λ n. Headed n depth ts r h (record { dcs = h.dcs; shards = h.shards; families = Some x; homes = h.homes })) e (
    g.0,
    g.1,
    λ m is. (
      record { dcs = m.dcs; shards = m.shards; families = Some g.0; homes = m.homes },
      record { dcs = is.dcs; shards = is.shards; families = g.2; homes = is.homes },
      put_families m.dcs m.families m.homes m.shards g.0,
    ),
  )

  pub head_homes : (x : Vec ℕ Global) → bytes_eq k its_homes ≡ true → Reads (list_by small_of) depth ts r x.items → Headed k depth ts r h (record { dcs = h.dcs; shards = h.shards; families = h.families; homes = Some x })
  head_homes x e g = named k its_homes (λ n. Headed n depth ts r h (record { dcs = h.dcs; shards = h.shards; families = h.families; homes = Some x })) e (
    g.0,
    g.1,
    λ m is. (
      record { dcs = m.dcs; shards = m.shards; families = m.families; homes = Some g.0 },
      record { dcs = is.dcs; shards = is.shards; families = is.families; homes = g.2 },
      put_homes m.dcs m.families m.homes m.shards g.0,
    ),
  )

-- ---- the topology

abbrev Found : {A : Type 0} → Option A → Type 0
Found None = ⊥
Found (Some a) = ⊤

are_of : (c s f h : Option Data) (x y : ℕ) (z : List (List ℕ)) (w : List ℕ) (top : TopologyValue) (events : Data)
    → option_and_then small_of c ≡ Some x → option_and_then small_of s ≡ Some y → option_and_then families_of f ≡ Some z → option_and_then (list_by small_of) h ≡ Some w
    → topology_among (record { dcs = x; shards = y; schema = z; homes = w }) ≡ Some top → AreOf top (record { dcs = c; shards = s; families = f; homes = h }) events
unfolding topology_of
are_of None s f h x y z w top events cs ss fs hs is = absurd (subst Found (sym cs) tt)
are_of (Some c) None f h x y z w top events cs ss fs hs is = absurd (subst Found (sym ss) tt)
are_of (Some c) (Some s) None h x y z w top events cs ss fs hs is = absurd (subst Found (sym fs) tt)
are_of (Some c) (Some s) (Some f) None x y z w top events cs ss fs hs is = absurd (subst Found (sym hs) tt)
are_of (Some c) (Some s) (Some f) (Some h) x y z w top events cs ss fs hs is = (
  refl,
  (λ i. (cs i) >>= (λ d. (ss i) >>= (λ n. (fs i) >>= (λ k. (hs i) >>= (λ v. topology_among (record { dcs = d; shards = n; schema = k; homes = v })))))) ∙ is,
)

pub tells : (h : Heading) (x y : ℕ) (z : List (List ℕ)) (w : Vec ℕ Global) (o : Option TopologyValue) → h.dcs ≡ Some x → h.shards ≡ Some y → h.families ≡ Some z → h.homes ≡ Some w
    → IfSome o (λ top. topology_among (record { dcs = x; shards = y; schema = z; homes = w.items }) ≡ Some top) → IfSome o (Tells h)
tells h x y z w o cs ss fs hs told = if_some _ _ o (λ top is m heads events.
    are_of m.dcs m.shards m.families m.homes x y z w.items top events
    (subst (λ k. IfSome k (λ n. option_and_then small_of m.dcs ≡ Some n)) cs heads.dcs)
    (subst (λ k. IfSome k (λ n. option_and_then small_of m.shards ≡ Some n)) ss heads.shards)
    (subst (λ k. IfSome k (λ n. option_and_then families_of m.families ≡ Some n)) fs heads.families)
    (subst (λ k. IfSome k (λ v. option_and_then (list_by small_of) m.homes ≡ Some v.items)) hs heads.homes) is) told

-- a member that is read leaves fewer tokens
pub member_shorter : (depth : ℕ) (now s new : List Token) (k : List ℕ) (d : Data) → read_key now ≡ Some (Some k, s) → value_at depth s ≡ Some (d, new) → length new < length now
member_shorter depth now s new k d e is =
    let less = read_key-shorter now (Some k) s e in
    let lesser = shorter depth s new d is in
    omega (arith, less, lesser)

-- ---- the whole

abbrev get_or_empty : {A : Type 0} → Option (List A) → List A
get_or_empty None = []
get_or_empty (Some xs) = xs

more_length : {A : Type 0} (y : Option A) (ys : Option (List A)) (n : ℕ) (xs : List A) → ((zs : List A) → ys ≡ Some zs → n ≡ length zs) → option_and_then (λ x. option_map (λ zs. x ∷ zs) ys) y ≡ Some xs → suc n ≡ length xs
more_length None ys n xs rest h = absurd (subst Found (sym h) tt)
more_length (Some y) None n xs rest h = absurd (subst Found (sym h) tt)
more_length (Some y) (Some zs) n xs rest h = ap suc (rest zs refl) ∙ ap (λ o. length (get_or_empty o)) h

all_by_length : {A : Type 0} (f : Data → Option A) (ds : List Data) (xs : List A) → all_by f ds ≡ Some xs → length ds ≡ length xs
all_by_length f [] xs h = ap (λ o. length (get_or_empty o)) h
all_by_length f (d ∷ ds) xs h = more_length (f d) (all_by f ds) (length ds) xs (λ zs e. all_by_length f ds zs e) h

within : {A : Type 0} (f : Data → Option A) (most : ℕ) (o : Option Items) (xs : List A) → option_and_then (λ ds. all_by f (data_of ds)) o ≡ Some xs → length xs ≤ most
    → option_and_then (λ ds. all_within f most (data_of ds)) o ≡ Some xs
within f most None xs h le = absurd (subst Found (sym h) tt)
within f most (Some ds) xs h le = all_within_short f most (data_of ds) (omega (arith, all_by_length f (data_of ds) xs h)) ∙ h

script_reads : (text : List ℕ) (s u v : List Token) (h : Heading) (top : TopologyValue) (events : List ScriptEvent) → tokens text ≡ Token.begin_object ∷ s → BeginWith 126 s u h → Tells h top
    → Reads (list_by (event_of top)) 126 u v events → v ≡ Token.end_object ∷ [] → length events ≤ 100000 → option_and_then script_of (read text) ≡ Some (record { topology = top; events = events })
unfolding script_of
script_reads text s u v h top events e (now, (m, are, found), key) tells (d, is, stands) end le =
    let all = put (codes "events") d (head_with m) in
    let closes : read_key v ≡ Some (None, []) = ap read_key end in
    let value_is : value_at 127 (tokens text) ≡ Some (object all, []) = all_found 127 (tokens text) s v [] all (omega arith) e (one_more_found 126 s now u v (head_with m) (codes "events") d found key is) closes in
    let text_is : read text ≡ Some (object all) = whole_read (value 127 (tokens text)) (object all) value_is in
    let member_is : member_by (list_within (event_of top) 100000) (codes "events") (object all) ≡ Some events =
    ap (option_and_then (list_within (event_of top) 100000)) (get_member-put (codes "events") d (head_with m)) ∙ within (event_of top) 100000 (as_array d) events stands le in
    let begun = tells m are d in
    ap (option_and_then script_of) text_is
    ∙ (λ i. if (begun.0 i) then ((begun.1 i) >>= (λ t. (member_by (list_within (event_of t) 100000) (codes "events") (object all)) >>= (λ k. Some (record { topology = t; events = k })))) else None)
    ∙ ap (λ o. o >>= (λ k. Some (record { topology = top; events = k }))) member_is

pub begins : (ts s u : List Token) (h : Heading) (o : Option TopologyValue) → ts ≡ Token.begin_object ∷ s → BeginWith 126 s u h → IfSome o (Tells h) → IfSome o (Begins ts u)
begins ts s u h o e begin tell = if_some _ _ o (λ top told. (s, h, e, begin, told)) tell

pub begun_reads : (text : List ℕ) (u v : List Token) (top : TopologyValue) (events : List ScriptEvent) → Begins (tokens text) u top → Reads (list_by (event_of top)) 126 u v events → v ≡ Token.end_object ∷ []
    → length events ≤ 100000 → option_and_then script_of (read text) ≡ Some (record { topology = top; events = events })
begun_reads text u v top events (s, h, e, begin, told) reads end le = script_reads text s u v h top events e begin told reads end le
