-- Values that are read token by token.
use Rattle.std.proofs.Common.{◌≡◌, ℕ, ◌-◌, ◌<◌, Bool, true, false, List, [], ◌∷◌, ◌++◌, length, Option, Some, None, option_map, option_and_then, refl, sym, ap, subst, ◌∙◌, arith}
use Rattle.std.specs.Prelude.{⊤, IfSome, SomeIff, codes, nat_lt, if◌then◌else◌}
use Rattle.std.proofs.lemmas.Bool.Decides.{nat_tests}
use Rattle.std.proofs.lemmas.Bool.{false≢true}
use Rattle.std.specs.Str.{bytes_eq}
use Rattle.std.specs.Cmp.Lexicographic.{bytes_decides}
use Rattle.json.specs.Token.{Token}
use Rattle.json.specs.Json.{Json, parse_map, after_end_array, read_key, items, members, value}
use Rattle.json.proofs.Grammar.{value_is, value-begin_array, value-begin_object, read_key-shorter, skip_value-shorter}
use Rattle.serde_json.specs.Data.{Data, array, object, string, boolean, number as numbered, unsigned, Items, no_items, item, Members, no_members, member, put}
use Rattle.serde_json.specs.Find.{as_str, as_bool}
use Rattle.serde_json.specs.Read.{of_json, converted, number_of}
use Rattle.workload.proofs.Converted.{converted_some, converted-array, converted-object, item_read, items_over, member_read, members_over}
use Rattle.column_family.specs.declared.batch.Change.{Change}
use Rattle.column_family.specs.declared.batch.Mutation.{Mutation}
use Rattle.column_family.specs.declared.batch.Mutation.TheVariants.{Insert, DeleteColumn, DeleteRow, DeleteRange}
use Rattle.column_family.specs.Schema.{is_schema}
use Rattle.slice.specs.declared.predicate.Predicate.{Predicate}
use Rattle.slice.specs.declared.predicate.Predicate.TheVariants.{Names}
use Rattle.messages.specs.declared.op.Op.{Op}
use Rattle.messages.specs.declared.op.Op.TheVariants.{Batch, Read as Asks, Move}
use Rattle.messages.specs.Topology.{TopologyValue, shard_count, session_node}
use Rattle.workload.specs.declared.script.ScriptEvent.{ScriptEvent}
use Rattle.workload.specs.declared.script.ScriptEvent.TheVariants.{Submit, Deliver, Collect, Drain}
use Rattle.workload.specs.Gives.{◌>>=◌}
use Rattle.workload.specs.Shape.{data_of, all_by, list_by, whole_of, whole_below, if_below}
use Rattle.workload.specs.Script.{insert_of, delete_of, delete_row_of, delete_range_of, mutation_of, change_of, predicate_of, names_of, range_of, read_of, batch_of, move_of, op_of, event_of, submit_of, deliver_of, time_of, collect_of, drain_of, schema_among, families_of}
use Rattle.workload.specs.Streams.{value_at, Reads, ReadsRest, ItemsAre, MembersAre, AreFound, before, SoFar, IsStretch}
use Rattle.workload.proofs.Lists.{all_by_snoc, all_by_join}

abbrev Found : {A : Type 0} → Option A → Type 0
Found None = ⊥
Found (Some a) = ⊤

value_goes_on : (depth : ℕ) (ts r : List Token) (j : Json) → value depth ts ≡ Some (j, r) → after_end_array ts ≡ None
value_goes_on depth [] r j e = refl
value_goes_on depth (Token.begin_object ∷ ts) r j e = refl
value_goes_on depth (Token.end_object ∷ ts) r j e = refl
value_goes_on depth (Token.begin_array ∷ ts) r j e = refl
value_goes_on depth (Token.end_array ∷ ts) r j e = absurd (subst Found (sym e ∙ value_is depth (Token.end_array ∷ ts)) tt)
value_goes_on depth (Token.key s ∷ ts) r j e = refl
value_goes_on depth (Token.string s ∷ ts) r j e = refl
value_goes_on depth (Token.number s ∷ ts) r j e = refl
value_goes_on depth (Token.boolean b ∷ ts) r j e = refl
value_goes_on depth (Token.null ∷ ts) r j e = refl
value_goes_on depth (Token.bad ∷ ts) r j e = refl

-- a value is no bracket that closes a list
pub goes_on : (depth : ℕ) (ts r : List Token) (d : Data) → value_at depth ts ≡ Some (d, r) → after_end_array ts ≡ None
goes_on depth ts r d e = let j = converted_some of_json (value depth ts) d r e in value_goes_on depth ts r j.0 j.1

pub shorter : (depth : ℕ) (ts r : List Token) (d : Data) → value_at depth ts ≡ Some (d, r) → length r < length ts
shorter depth ts r d e =
    let j = converted_some of_json (value depth ts) d r e in
    skip_value-shorter depth ts r (ap (option_map (λ p. p.1)) j.1)

pub reads_shorter : {A : Type 0} (f : Data → Option A) (depth : ℕ) (ts r : List Token) (x : A) → Reads f depth ts r x → length r < length ts
reads_shorter f depth ts r x h = shorter depth ts r h.0 h.1

-- ---- items, one after the other

pub no_more_items : (depth : ℕ) (ts r : List Token) → after_end_array ts ≡ Some r → ItemsAre depth ts no_items r
no_more_items depth ts r e n le = items_over (value depth) n ts r le e

pub one_more_item : (depth : ℕ) (ts s r : List Token) (d : Data) (ds : Items) → value_at depth ts ≡ Some (d, s) → ItemsAre depth s ds r → ItemsAre depth ts (item d ds) r
one_more_item depth ts s r d ds e rest n le =
    let less = shorter depth ts s d e in
    item_read (value depth) n ts s d (omega (arith, less)) (goes_on depth ts s d e) e ∙ ap (parse_map (item d)) (rest (n - 1) (omega (arith, less)))

pub is_array : (depth : ℕ) (ts s r : List Token) (ds : Items) → 0 < depth → ts ≡ Token.begin_array ∷ s → ItemsAre (depth - 1) s ds r → value_at depth ts ≡ Some (array ds, r)
is_array depth ts s r ds h e are =
    ap (value_at depth) e ∙ ap (converted of_json) (value-begin_array depth s h) ∙ converted-array (items (value (depth - 1)) (length s) s) ∙ ap (parse_map array) (are (length s) (omega arith))

pub is_text : (depth : ℕ) (ts r : List Token) (t : List ℕ) → ts ≡ Token.string t ∷ r → value_at depth ts ≡ Some (string t, r)
is_text depth ts r t e = ap (value_at depth) e ∙ ap (converted of_json) (value_is depth (Token.string t ∷ r))

-- a list that begins with a text
pub is_tagged : (depth : ℕ) (ts s u r : List Token) (t : List ℕ) (ds : Items) → 0 < depth → ts ≡ Token.begin_array ∷ s → s ≡ Token.string t ∷ u → ItemsAre (depth - 1) u ds r
    → value_at depth ts ≡ Some (array (item (string t) ds), r)
is_tagged depth ts s u r t ds h e f are = is_array depth ts s r (item (string t) ds) h e (one_more_item (depth - 1) s u r (string t) ds (is_text (depth - 1) s u t f) are)

-- ---- members

pub no_more_members : (depth : ℕ) (found : Members) (ts r : List Token) → read_key ts ≡ Some (None, r) → MembersAre depth found ts found r
no_more_members depth found ts r e n le = members_over (value depth) found n ts r le e

pub one_more_member : (depth : ℕ) (found : Members) (ts s u r : List Token) (k : List ℕ) (d : Data) (ms : Members) → read_key ts ≡ Some (Some k, s) → value_at depth s ≡ Some (d, u) → MembersAre depth (put k d found) u ms r
    → MembersAre depth found ts ms r
one_more_member depth found ts s u r k d ms e f rest n le =
    let less = read_key-shorter ts (Some k) s e in
    let lesser = shorter depth s u d f in
    member_read (value depth) found n k ts s u d (omega (arith, less)) e f ∙ rest (n - 1) (omega (arith, less, lesser))

pub is_object : (depth : ℕ) (ts s r : List Token) (ms : Members) → 0 < depth → ts ≡ Token.begin_object ∷ s → MembersAre (depth - 1) no_members s ms r → value_at depth ts ≡ Some (object ms, r)
is_object depth ts s r ms h e are =
    ap (value_at depth) e ∙ ap (converted of_json) (value-begin_object depth s h) ∙ converted-object (members (value (depth - 1)) (length s) s) ∙ ap (parse_map object) (are (length s) (omega arith))

-- nothing is found at the start of an object
pub none_found : (depth : ℕ) (first : List Token) → AreFound depth first first no_members
none_found depth first ms r are = are

pub one_more_found : (depth : ℕ) (first now s new : List Token) (found : Members) (k : List ℕ) (d : Data) → AreFound depth first now found → read_key now ≡ Some (Some k, s) → value_at depth s ≡ Some (d, new)
    → AreFound depth first new (put k d found)
one_more_found depth first now s new found k d so_far e f ms r are = so_far ms r (one_more_member depth found now s new r k d ms e f are)

-- the members that were found make the object that ends
pub all_found : (depth : ℕ) (ts first now r : List Token) (found : Members) → 0 < depth → ts ≡ Token.begin_object ∷ first → AreFound (depth - 1) first now found → read_key now ≡ Some (None, r)
    → value_at depth ts ≡ Some (object found, r)
all_found depth ts first now r found some e so_far end = is_object depth ts first r found some e (so_far found r (no_more_members (depth - 1) found now r end))

-- ---- a list, item by item: what was read so far, and what comes

pub data_before : (js : List Data) → data_of (before js no_items) ≡ js
data_before [] = refl
data_before (j ∷ js) = ap (λ ks. j ∷ ks) (data_before js)

pub before_snoc : (js : List Data) (j : Data) (rest : Items) → before js (item j rest) ≡ before (js ++ j ∷ []) rest
before_snoc [] j rest = refl
before_snoc (k ∷ js) j rest = ap (item k) (before_snoc js j rest)

pub none_so_far : {A : Type 0} (f : Data → Option A) (depth : ℕ) (first : List Token) → SoFar f depth first first []
none_so_far f depth first = ([], refl, λ rest r are. are)

pub one_more_so_far : {A : Type 0} (f : Data → Option A) (depth : ℕ) (first now new : List Token) (xs : List A) (x : A) → SoFar f depth first now xs → Reads f depth now new x → SoFar f depth first new (xs ++ x ∷ [])
one_more_so_far f depth first now new xs x so_far h = (
  so_far.0 ++ h.0 ∷ [],
  all_by_snoc f so_far.0 xs h.0 x so_far.1 h.2,
  λ rest r are. rw (← before_snoc so_far.0 h.0 rest) (so_far.2 (item h.0 rest) r (one_more_item depth now new r h.0 rest h.1 are)),
)

before_join : (js ks : List Data) (rest : Items) → before js (before ks rest) ≡ before (js ++ ks) rest
before_join [] ks rest = refl
before_join (j ∷ js) ks rest = ap (item j) (before_join js ks rest)

-- a list that went on comes with its next items
pub stretched : {A : Type 0} (f : Data → Option A) (depth : ℕ) (first now new : List Token) (xs ys : List A) (last : Bool) → IsStretch f depth first now xs false → IsStretch f depth now new ys last
    → IsStretch f depth first new (xs ++ ys) last
stretched f depth first now new xs ys last (at, (js, are, leads), here) (to, (ks, also, further), ends) = (
  to,
  (
    js ++ ks,
    all_by_join f js ks xs ys are also,
    λ rest r h. rw (← before_join js ks rest) (leads (before ks rest) r (subst (λ ts. ItemsAre depth ts (before ks rest) r) (sym here) (further rest r h))),
  ),
  ends,
)

pub all_so_far : {A : Type 0} (f : Data → Option A) (depth : ℕ) (ts first now r : List Token) (xs : List A) → 0 < depth → ts ≡ Token.begin_array ∷ first → SoFar f (depth - 1) first now xs → after_end_array now ≡ Some r
    → Reads (list_by f) depth ts r xs
all_so_far f depth ts first now r xs h e so_far end = (
  array (before so_far.0 no_items),
  is_array depth ts first r (before so_far.0 no_items) h e (so_far.2 no_items r (no_more_items (depth - 1) now r end)),
  ap (all_by f) (data_before so_far.0) ∙ so_far.1,
)

pub text_reads : (depth : ℕ) (ts r : List Token) (t : List ℕ) → ts ≡ Token.string t ∷ r → Reads as_str depth ts r t
text_reads depth ts r t e = (string t, is_text depth ts r t e, refl)

-- ---- what stands behind a tag

one_item : {A : Type 0} (f : Data → Option A) (depth : ℕ) (ts s r : List Token) (x : A) → Reads f depth ts s x → after_end_array s ≡ Some r → (j : Data) × ItemsAre depth ts (item j no_items) r × (f j ≡ Some x)
one_item f depth ts s r x h end = (h.0, one_more_item depth ts s r h.0 no_items h.1 (no_more_items depth s r end), h.2)

two_items : {A B : Type 0} (f : Data → Option A) (g : Data → Option B) (depth : ℕ) (ts s u r : List Token) (x : A) (y : B) → Reads f depth ts s x → Reads g depth s u y → after_end_array u ≡ Some r
    → (j k : Data) × ItemsAre depth ts (item j (item k no_items)) r × (f j ≡ Some x) × (g k ≡ Some y)
two_items f g depth ts s u r x y h more end =
    let rest = one_item g depth s u r y more end in
    (h.0, rest.0, one_more_item depth ts s r h.0 (item rest.0 no_items) h.1 rest.1, h.2, rest.2)

pub delete_row_reads : (depth : ℕ) (ts r : List Token) → after_end_array ts ≡ Some r → ReadsRest delete_row_of depth ts r DeleteRow
unfolding delete_row_of
delete_row_reads depth ts r end = (no_items, no_more_items depth ts r end, λ j. refl)

pub drain_reads : (depth : ℕ) (ts r : List Token) → after_end_array ts ≡ Some r → ReadsRest drain_of depth ts r Drain
unfolding drain_of
drain_reads depth ts r end = (no_items, no_more_items depth ts r end, λ j. refl)

pub delete_reads : (depth : ℕ) (ts s r : List Token) (name : List ℕ) → Reads as_str depth ts s name → after_end_array s ≡ Some r → ReadsRest delete_of depth ts r (DeleteColumn name)
unfolding delete_of
delete_reads depth ts s r name h end =
    let one = one_item as_str depth ts s r name h end in
    (item one.0 no_items, one.1, λ j. ap (λ o. o >>= (λ n. Some (DeleteColumn n))) one.2)

pub insert_reads : (depth : ℕ) (ts s u r : List Token) (name bytes : List ℕ) → Reads as_str depth ts s name → Reads as_str depth s u bytes → after_end_array u ≡ Some r → ReadsRest insert_of depth ts r (Insert name bytes)
unfolding insert_of
insert_reads depth ts s u r name bytes h more end =
    let two = two_items as_str as_str depth ts s u r name bytes h more end in
    (item two.0 (item two.1 no_items), two.2, λ j i. (two.3 i) >>= (λ n. (two.4 i) >>= (λ v. Some (Insert n v))))

pub delete_range_reads : (depth : ℕ) (ts s u r : List Token) (start finish : List ℕ) → Reads as_str depth ts s start → Reads as_str depth s u finish → after_end_array u ≡ Some r → ReadsRest delete_range_of depth ts r (DeleteRange start finish)
unfolding delete_range_of
delete_range_reads depth ts s u r start finish h more end =
    let two = two_items as_str as_str depth ts s u r start finish h more end in
    (item two.0 (item two.1 no_items), two.2, λ j i. (two.3 i) >>= (λ n. (two.4 i) >>= (λ v. Some (DeleteRange n v))))

pub deliver_reads : (depth : ℕ) (ts s r : List Token) (number : ℕ) → Reads whole_of depth ts s number → after_end_array s ≡ Some r → ReadsRest deliver_of depth ts r (Deliver number)
unfolding deliver_of
deliver_reads depth ts s r number h end =
    let one = one_item whole_of depth ts s r number h end in
    (item one.0 no_items, one.1, λ j. ap (λ o. o >>= (λ n. Some (Deliver n))) one.2)

pub submit_reads : (top : TopologyValue) (depth : ℕ) (ts s u r : List Token) (session : ℕ) (op : Op) → Reads (whole_below (length top.homes)) depth ts s session → Reads (op_of top) depth s u op → after_end_array u ≡ Some r
    → ReadsRest (submit_of top) depth ts r (Submit (session_node top session) op)
unfolding submit_of
submit_reads top depth ts s u r session op h more end =
    let two = two_items (whole_below (length top.homes)) (op_of top) depth ts s u r session op h more end in
    (item two.0 (item two.1 no_items), two.2, λ j i. (two.3 i) >>= (λ n. (two.4 i) >>= (λ o. Some (Submit (session_node top n) o))))

pub collect_reads : (top : TopologyValue) (depth : ℕ) (ts s u r : List Token) (shard time : ℕ) → Reads (whole_below (shard_count top)) depth ts s shard → Reads time_of depth s u time → after_end_array u ≡ Some r
    → ReadsRest (collect_of top) depth ts r (Collect shard time)
unfolding collect_of
collect_reads top depth ts s u r shard time h more end =
    let two = two_items (whole_below (shard_count top)) time_of depth ts s u r shard time h more end in
    (item two.0 (item two.1 no_items), two.2, λ j i. (two.3 i) >>= (λ n. (two.4 i) >>= (λ t. Some (Collect n t))))

-- ---- lists of three

three_items : {A B C : Type 0} (f : Data → Option A) (g : Data → Option B) (h : Data → Option C) (depth : ℕ) (ts s u v w r : List Token) (x : A) (y : B) (z : C)
    → 0 < depth → ts ≡ Token.begin_array ∷ s → Reads f (depth - 1) s u x → Reads g (depth - 1) u v y → Reads h (depth - 1) v w z → after_end_array w ≡ Some r
    → (j k l : Data) × (value_at depth ts ≡ Some (array (item j (item k (item l no_items))), r)) × (f j ≡ Some x) × (g k ≡ Some y) × (h l ≡ Some z)
three_items f g h depth ts s u v w r x y z some e a b c end =
    let rest = two_items g h (depth - 1) u v w r y z b c end in
    (a.0, rest.0, rest.1, is_array depth ts s r (item a.0 (item rest.0 (item rest.1 no_items))) some e (one_more_item (depth - 1) s u r a.0 (item rest.0 (item rest.1 no_items)) a.1 rest.2), a.2, rest.3, rest.4)

pub change_reads : (depth : ℕ) (ts s u v w r : List Token) (family key : List ℕ) (mutation : Mutation)
    → 0 < depth → ts ≡ Token.begin_array ∷ s → Reads as_str (depth - 1) s u family → Reads as_str (depth - 1) u v key → Reads mutation_of (depth - 1) v w mutation → after_end_array w ≡ Some r
    → Reads change_of depth ts r (record { row = record { family = family; key = key }; mutation = mutation })
unfolding change_of
change_reads depth ts s u v w r family key mutation some e a b c end =
    let all = three_items as_str as_str mutation_of depth ts s u v w r family key mutation some e a b c end in
    (array (item all.0 (item all.1 (item all.2 no_items))), all.3, λ i. (all.4 i) >>= (λ f. (all.5 i) >>= (λ k. (all.6 i) >>= (λ m. Some (record { row = record { family = f; key = k }; mutation = m })))))

pub read_reads : (depth : ℕ) (ts s u v w r : List Token) (family : List ℕ) (keys : List (List ℕ)) (predicate : Predicate)
    → 0 < depth → ts ≡ Token.begin_array ∷ s → Reads as_str (depth - 1) s u family → Reads (list_by as_str) (depth - 1) u v keys → Reads predicate_of (depth - 1) v w predicate → after_end_array w ≡ Some r
    → Reads read_of depth ts r (Asks (record { family = family; keys = keys; predicate = predicate }))
unfolding read_of
read_reads depth ts s u v w r family keys predicate some e a b c end =
    let all = three_items as_str (list_by as_str) predicate_of depth ts s u v w r family keys predicate some e a b c end in
    (array (item all.0 (item all.1 (item all.2 no_items))), all.3, λ i. (all.4 i) >>= (λ f. (all.5 i) >>= (λ k. (all.6 i) >>= (λ p. Some (Asks (record { family = f; keys = k; predicate = p }))))))

-- ---- tags

pub pick : {A : Type 0} (b : Bool) (x y : A) → b ≡ true → (if b then x else y) ≡ x
pick true x y h = refl
pick false x y h = absurd (false≢true h)

skip : {A : Type 0} (b : Bool) (x y : A) → b ≡ false → (if b then x else y) ≡ y
skip false x y h = refl
skip true x y h = absurd (false≢true (sym h))

pub if_some : {A : Type 0} (P Q : A → Type 0) (o : Option A) → ((x : A) → P x → Q x) → IfSome o P → IfSome o Q
if_some P Q None f h = tt
if_some P Q (Some x) f h = f x h

tagged_reads : {A : Type 0} (whole f : Data → Option A) (depth : ℕ) (ts s u r : List Token) (t : List ℕ) (x : A) → 0 < depth → ts ≡ Token.begin_array ∷ s → s ≡ Token.string t ∷ u → ReadsRest f (depth - 1) u r x
    → ((js : Items) → whole (array (item (string t) js)) ≡ f (array (item (string t) js))) → Reads whole depth ts r x
tagged_reads whole f depth ts s u r t x some e g h same = (array (item (string t) h.0), is_tagged depth ts s u r t h.0 some e g h.1, same h.0 ∙ h.2 (string t))

-- whatever stands behind a tag, where the tag says what it is
tagged : {A : Type 0} (whole f : Data → Option A) (o : Option A) (depth : ℕ) (ts s u r : List Token) (t : List ℕ) → 0 < depth → ts ≡ Token.begin_array ∷ s → s ≡ Token.string t ∷ u
    → ((js : Items) → whole (array (item (string t) js)) ≡ f (array (item (string t) js))) → IfSome o (ReadsRest f (depth - 1) u r) → IfSome o (Reads whole depth ts r)
tagged whole f o depth ts s u r t some e g same h = if_some _ _ o (λ x k. tagged_reads whole f depth ts s u r t x some e g k same) h

-- a tag is not two words
delivered : (t : List ℕ) → bytes_eq t (codes "deliver") ≡ true → bytes_eq t (codes "submit") ≡ false
delivered t e =
    let is : t ≡ codes "deliver" = (bytes_decides t (codes "deliver")).0 e in
    ap (λ u. bytes_eq u (codes "submit")) is

module _ (depth : ℕ) (ts s u r : List Token) (t : List ℕ) (some : 0 < depth) (e : ts ≡ Token.begin_array ∷ s) (g : s ≡ Token.string t ∷ u) where
  pub inserts : (o : Option Mutation) → bytes_eq t (codes "insert") ≡ true → IfSome o (ReadsRest insert_of (depth - 1) u r) → IfSome o (Reads mutation_of depth ts r)
  unfolding mutation_of
  inserts o a = tagged mutation_of insert_of o depth ts s u r t some e g (λ js. pick _ _ _ a)

  pub deletes : (o : Option Mutation) → bytes_eq t (codes "insert") ≡ false → bytes_eq t (codes "delete") ≡ true → IfSome o (ReadsRest delete_of (depth - 1) u r) → IfSome o (Reads mutation_of depth ts r)
  unfolding mutation_of
  deletes o a b = tagged mutation_of delete_of o depth ts s u r t some e g (λ js. skip _ _ _ a ∙ pick _ _ _ b)

  pub deletes_row : (o : Option Mutation) → bytes_eq t (codes "insert") ≡ false → bytes_eq t (codes "delete") ≡ false → bytes_eq t (codes "delete_row") ≡ true → IfSome o (ReadsRest delete_row_of (depth - 1) u r) → IfSome o (Reads mutation_of depth ts r)
  unfolding mutation_of
  deletes_row o a b c = tagged mutation_of delete_row_of o depth ts s u r t some e g (λ js. skip _ _ _ a ∙ skip _ _ _ b ∙ pick _ _ _ c)

  pub deletes_range : (o : Option Mutation) → bytes_eq t (codes "insert") ≡ false → bytes_eq t (codes "delete") ≡ false → bytes_eq t (codes "delete_row") ≡ false → bytes_eq t (codes "delete_range") ≡ true
      → IfSome o (ReadsRest delete_range_of (depth - 1) u r) → IfSome o (Reads mutation_of depth ts r)
  unfolding mutation_of
  deletes_range o a b c d = tagged mutation_of delete_range_of o depth ts s u r t some e g (λ js. skip _ _ _ a ∙ skip _ _ _ b ∙ skip _ _ _ c ∙ pick _ _ _ d)

  pub submits : (top : TopologyValue) (o : Option ScriptEvent) → bytes_eq t (codes "submit") ≡ true → IfSome o (ReadsRest (submit_of top) (depth - 1) u r) → IfSome o (Reads (event_of top) depth ts r)
  unfolding event_of
  submits top o a = tagged (event_of top) (submit_of top) o depth ts s u r t some e g (λ js. pick _ _ _ a)

  pub delivers : (top : TopologyValue) (o : Option ScriptEvent) → bytes_eq t (codes "deliver") ≡ true → IfSome o (ReadsRest deliver_of (depth - 1) u r) → IfSome o (Reads (event_of top) depth ts r)
  unfolding event_of
  delivers top o a = tagged (event_of top) deliver_of o depth ts s u r t some e g (λ js. skip _ _ _ (delivered t a) ∙ pick _ _ _ a)

  pub collects : (top : TopologyValue) (o : Option ScriptEvent) → bytes_eq t (codes "submit") ≡ false → bytes_eq t (codes "deliver") ≡ false → bytes_eq t (codes "collect") ≡ true → IfSome o (ReadsRest (collect_of top) (depth - 1) u r) → IfSome o (Reads (event_of top) depth ts r)
  unfolding event_of
  collects top o a b c = tagged (event_of top) (collect_of top) o depth ts s u r t some e g (λ js. skip _ _ _ a ∙ skip _ _ _ b ∙ pick _ _ _ c)

  pub drains : (top : TopologyValue) (o : Option ScriptEvent) → bytes_eq t (codes "submit") ≡ false → bytes_eq t (codes "deliver") ≡ false → bytes_eq t (codes "collect") ≡ false → bytes_eq t (codes "drain") ≡ true
      → IfSome o (ReadsRest drain_of (depth - 1) u r) → IfSome o (Reads (event_of top) depth ts r)
  unfolding event_of
  drains top o a b c d = tagged (event_of top) drain_of o depth ts s u r t some e g (λ js. skip _ _ _ a ∙ skip _ _ _ b ∙ skip _ _ _ c ∙ pick _ _ _ d)

-- ---- operations

-- a name that is the same
pub named : (k name : List ℕ) (f : List ℕ → Type 0) → bytes_eq k name ≡ true → f name → f k
named k name f h x = subst f (sym ((bytes_decides k name).0 h)) x

module _ (top : TopologyValue) where
  batch_under : (d : Data) (changes : List Change) → list_by change_of d ≡ Some changes → op_of top (object (member (codes "batch") d no_members)) ≡ Some (Batch changes)
  unfolding op_of batch_of
  batch_under d changes e = ap (λ o. o >>= (λ c. Some (Batch c))) e

  read_under : (d : Data) → op_of top (object (member (codes "read") d no_members)) ≡ read_of d
  unfolding op_of
  read_under d = refl

  move_under : (d : Data) → op_of top (object (member (codes "move") d no_members)) ≡ move_of top d
  unfolding op_of
  move_under d = refl

  -- the member of a name, as an operation
  abbrev op_named : List ℕ → Data → Option Op
  op_named k d = op_of top (object (member k d no_members))

  pub batch_reads : (k : List ℕ) (depth : ℕ) (ts r : List Token) (changes : List Change) → bytes_eq k (codes "batch") ≡ true → Reads (list_by change_of) depth ts r changes
      → Reads (op_named k) depth ts r (Batch changes)
  batch_reads k depth ts r changes e h =
      named k (codes "batch") (λ n. Reads (op_named n) depth ts r (Batch changes)) e (h.0, h.1, batch_under h.0 changes h.2)

  pub reads_read : (k : List ℕ) (depth : ℕ) (ts r : List Token) (o : Option Op) → bytes_eq k (codes "read") ≡ true → IfSome o (Reads read_of depth ts r)
      → IfSome o (Reads (op_named k) depth ts r)
  reads_read k depth ts r o e h =
      if_some _ _ o (λ x g. named k (codes "read") (λ n. Reads (op_named n) depth ts r x) e (g.0, g.1, read_under g.0 ∙ g.2)) h

  pub moves_read : (k : List ℕ) (depth : ℕ) (ts r : List Token) (o : Option Op) → bytes_eq k (codes "move") ≡ true → IfSome o (Reads (move_of top) depth ts r)
      → IfSome o (Reads (op_named k) depth ts r)
  moves_read k depth ts r o e h =
      if_some _ _ o (λ x g. named k (codes "move") (λ n. Reads (op_named n) depth ts r x) e (g.0, g.1, move_under g.0 ∙ g.2)) h

  -- the number of a data centre, as a move there
  pub move_reads : (depth : ℕ) (ts r : List Token) (dc : ℕ) → Reads (whole_below top.dcs) depth ts r dc → Reads (move_of top) depth ts r (Move dc)
  unfolding move_of
  move_reads depth ts r dc h = (h.0, h.1, ap (λ o. o >>= (λ n. Some (Move n))) h.2)

-- an object of one member
pub member_reads : {A : Type 0} (f : Data → Option A) (depth : ℕ) (ts s u v r : List Token) (k : List ℕ) (x : A) → 0 < depth → ts ≡ Token.begin_object ∷ s → read_key s ≡ Some (Some k, u)
    → Reads (λ d. f (object (member k d no_members))) (depth - 1) u v x → read_key v ≡ Some (None, r) → Reads f depth ts r x
member_reads f depth ts s u v r k x some e key h end =
    let ms = member k h.0 no_members in
    (object ms, all_found depth ts s v r ms some e (one_more_found (depth - 1) s s u v no_members k h.0 (none_found (depth - 1) s) key h.1) end, h.2)

-- ---- predicates

names_under : (d : Data) (names : List (List ℕ)) → list_by as_str d ≡ Some names → predicate_of (object (member (codes "names") d no_members)) ≡ Some (Names names)
unfolding predicate_of names_of
names_under d names e = ap (λ o. o >>= (λ ns. Some (Names ns))) e

range_under : (d : Data) → predicate_of (object (member (codes "range") d no_members)) ≡ range_of d
unfolding predicate_of
range_under d = refl

pub names_read : (k : List ℕ) (depth : ℕ) (ts r : List Token) (names : List (List ℕ)) → bytes_eq k (codes "names") ≡ true → Reads (list_by as_str) depth ts r names
    → Reads (λ d. predicate_of (object (member k d no_members))) depth ts r (Names names)
names_read k depth ts r names e h =
    named k (codes "names") (λ n. Reads (λ d. predicate_of (object (member n d no_members))) depth ts r (Names names)) e (h.0, h.1, names_under h.0 names h.2)

pub range_reads : (k : List ℕ) (depth : ℕ) (ts r : List Token) (o : Option Predicate) → bytes_eq k (codes "range") ≡ true → IfSome o (Reads range_of depth ts r)
    → IfSome o (Reads (λ d. predicate_of (object (member k d no_members))) depth ts r)
range_reads k depth ts r o e h =
    if_some _ _ o (λ x g. named k (codes "range") (λ n. Reads (λ d. predicate_of (object (member n d no_members))) depth ts r x) e (g.0, g.1, range_under g.0 ∙ g.2)) h

-- ---- numbers and flags

pub number_reads : (depth : ℕ) (ts r : List Token) (digits : List ℕ) (o : Option ℕ) → ts ≡ Token.number digits ∷ r → IfSome o (λ n. number_of digits ≡ Some (unsigned n)) → IfSome o (Reads whole_of depth ts r)
number_reads depth ts r digits o e h = if_some _ _ o (λ n is. (
  numbered (unsigned n),
  ap (value_at depth) e ∙ ap (converted of_json) (value_is depth (Token.number digits ∷ r)) ∙ ap (λ x. option_map (λ d. (d, r)) (option_map numbered x)) is,
  refl,
)) h

pub flag_reads : (depth : ℕ) (ts r : List Token) (b : Bool) → ts ≡ Token.boolean b ∷ r → Reads as_bool depth ts r b
flag_reads depth ts r b e = (boolean b, ap (value_at depth) e ∙ ap (converted of_json) (value_is depth (Token.boolean b ∷ r)), refl)

pub below_reads : (end depth : ℕ) (ts r : List Token) (n : ℕ) → Reads whole_of depth ts r n → n < end → Reads (whole_below end) depth ts r n
below_reads end depth ts r n h lt =
    let below : nat_lt n end ≡ true = grind (arith, nat_tests) in
    (h.0, h.1, ap (option_and_then (if_below end)) h.2 ∙ pick (nat_lt n end) (Some n) None below)

-- ---- families

pub families_read : (depth : ℕ) (ts r : List Token) (xs : List (List ℕ)) (o : Option (List (List ℕ))) → Reads (list_by as_str) depth ts r xs → SomeIff o (is_schema xs ≡ true) xs → IfSome o (Reads families_of depth ts r)
unfolding families_of
families_read depth ts r xs None h e = tt
families_read depth ts r xs (Some x) h e = (h.0, h.1, ap (option_and_then schema_among) h.2 ∙ pick (is_schema xs) (Some xs) None e.0 ∙ ap Some (sym e.1))
