-- What the parts of a record that were written stand for.
use Rattle.std.proofs.Common.{◌≡◌, ◌∙◌, ap, refl, ℕ, ◌+◌, ◌<◌, ◌≤◌, ◌^◌, Bool, true, List, [], ◌∷◌, ◌++◌, length, Option, Some, None, codes, arith}
use Rattle.std.proofs.lemmas.Bool.Decides.{nat_tests}
use Rattle.serde_json.specs.Data.{Data, boolean, number, unsigned, string, array, object, item, no_items, member, no_members, depth, items_depth}
use Rattle.serde_json.specs.Find.{as_str}
use Rattle.serde_json.specs.View.{items_of}
use Rattle.column_family.specs.declared.batch.Change.{Change}
use Rattle.column_family.specs.declared.batch.Committed.{Committed}
use Rattle.column_family.specs.declared.batch.Mutation.{Mutation}
use Rattle.column_family.specs.declared.batch.Mutation.TheVariants.{Insert, DeleteColumn, DeleteRow, DeleteRange}
use Rattle.column_family.specs.Schema.{is_schema}
use Rattle.column_family.specs.History.{History}
use Rattle.slice.specs.declared.column.Column.{Column}
use Rattle.slice.specs.declared.predicate.Predicate.TheVariants.{Names, Range}
use Rattle.slice.specs.declared.read.Read.{Read}
use Rattle.slice.specs.declared.read.AnsweredRow.{AnsweredRow}
use Rattle.planner.specs.Checks.{batch_fault, read_fault}
use Rattle.audit.specs.declared.judging.Answered.{Answered}
use Rattle.workload.specs.Gives.{◌>>=◌}
use Rattle.workload.specs.Shape.{if_below, data_of, all_by, list_by}
use Rattle.workload.specs.Script.{mutation_of, insert_of, delete_of, delete_row_of, delete_range_of, change_of, predicate_of, names_of, range_of, schema_among, families_of}
use Rattle.recorded.specs.Recorded.{RecordedValue}
use Rattle.recorded.specs.Reading.{unless_refused, stamp_of, entry_of, history_of, column_of, row_of, answer_of, read_of, answered_of, recorded_of}
use Rattle.recorded.specs.Writing.{Spells, mutation_json}

-- ## Steps that each give something

two : {A B D : Type 0} (f : A → B → Option D) (o : Option A) (p : Option B) (a : A) (b : B) → o ≡ Some a → p ≡ Some b
    → (o >>= (λ x. p >>= (λ y. f x y))) ≡ f a b
two f o p a b e g = rw (e, g) refl

three : {A B C D : Type 0} (f : A → B → C → Option D) (o : Option A) (p : Option B) (q : Option C) (a : A) (b : B) (c : C) → o ≡ Some a → p ≡ Some b → q ≡ Some c
    → (o >>= (λ x. p >>= (λ y. q >>= (λ z. f x y z)))) ≡ f a b c
three f o p q a b c e g h = rw (e, g, h) refl

four : {A B C E D : Type 0} (f : A → B → C → E → Option D) (o : Option A) (p : Option B) (q : Option C) (r : Option E) (a : A) (b : B) (c : C) (d : E)
    → o ≡ Some a → p ≡ Some b → q ≡ Some c → r ≡ Some d
    → (o >>= (λ x. p >>= (λ y. q >>= (λ z. r >>= (λ w. f x y z w))))) ≡ f a b c d
four f o p q r a b c d e g h i = rw (e, g, h, i) refl

below_end : (n end : ℕ) → n < end → if_below end n ≡ Some n
below_end n end lt = grind (arith, nat_tests)

not_refused : {A : Type 0} (o : Option _) (x : A) → o ≡ None → unless_refused o x ≡ Some x
not_refused o x e = rw e refl

-- ## Parts

pub text_spelled : (d : Data) (s : List ℕ) → d ≡ string s → Spells as_str 0 d s
text_spelled d s e = rw e (record { stands = refl; nests = omega arith })

pub mutation_spelled : (d : Data) (m : Mutation) → d ≡ mutation_json m → Spells mutation_of 1 d m
unfolding mutation_of insert_of delete_of delete_row_of delete_range_of
mutation_spelled d (Insert n v) e = rw e (record { stands = refl; nests = omega arith })
mutation_spelled d (DeleteColumn n) e = rw e (record { stands = refl; nests = omega arith })
mutation_spelled d DeleteRow e = rw e (record { stands = refl; nests = omega arith })
mutation_spelled d (DeleteRange start finish) e = rw e (record { stands = refl; nests = omega arith })

pub change_spelled : (d m : Data) (c : Change) → d ≡ array (item (string c.row.family) (item (string c.row.key) (item m no_items))) → Spells mutation_of 1 m c.mutation → Spells change_of 2 d c
unfolding change_of
change_spelled d m c e s =
    rw e (record {
      stands = three (λ family key mutation. Some (record { row = record { family = family; key = key }; mutation = mutation })) _ _ (mutation_of m) c.row.family c.row.key c.mutation refl refl s.stands;
      nests = omega (arith, s.nests);
    })

pub stamp_spelled : (d : Data) (time node : ℕ) → d ≡ array (item (number (unsigned time)) (item (number (unsigned node)) no_items)) → time < 2 ^ 48 → node < 2 ^ 16
    → Spells stamp_of 1 d (record { time = time; node = node })
unfolding stamp_of
stamp_spelled d time node e t n =
    rw e (record {
      stands = two (λ time node. Some (record { time = time; node = node })) _ _ time node (below_end time (2 ^ 48) t) (below_end node (2 ^ 16) n);
      nests = omega arith;
    })

pub column_spelled : (d : Data) (c : Column) → d ≡ array (item (string c.name) (item (string c.value) no_items)) → Spells column_of 1 d c
unfolding column_of
column_spelled d c e = rw e (record { stands = refl; nests = omega arith })

pub row_spelled : (d cs : Data) (r : AnsweredRow) → d ≡ array (item (string r.key) (item cs no_items)) → Spells (list_by column_of) 2 cs r.columns → Spells row_of 3 d r
unfolding row_of
row_spelled d cs r e s =
    rw e (record {
      stands = two (λ key columns. Some (record { key = key; columns = columns })) _ (list_by column_of cs) r.key r.columns refl s.stands;
      nests = omega (arith, s.nests);
    })

pub entry_spelled : (d b s : Data) (families : List (List ℕ)) (c : Committed)
    → d ≡ object (member (codes "batch") b (member (codes "commit") (number (unsigned c.commit)) (member (codes "stamp") s no_members)))
    → Spells (list_by change_of) 3 b c.batch → Spells stamp_of 1 s c.stamp → c.commit < 2 ^ 48 → batch_fault families c.batch ≡ None → Spells (entry_of families) 4 d c
unfolding entry_of
entry_spelled d b s families c e batch stamp commit accepted =
    rw e (record {
      stands =
          three (λ batch stamp commit. unless_refused (batch_fault families batch) (record { batch = batch; stamp = stamp; commit = commit })) (list_by change_of b) (stamp_of s) _ c.batch c.stamp c.commit
          batch.stands stamp.stands (below_end c.commit (2 ^ 48) commit)
          ∙ not_refused (batch_fault families c.batch) c accepted;
      nests = omega (arith, batch.nests, stamp.nests);
    })

pub names_spelled : (d ns : Data) (names : List (List ℕ)) → d ≡ object (member (codes "names") ns no_members) → Spells (list_by as_str) 1 ns names → Spells predicate_of 2 d (Names names)
unfolding predicate_of names_of
names_spelled d ns names e s =
    rw e (record {
      stands = ap (λ (o : Option (List (List ℕ))). o >>= (λ names. Some (Names names))) s.stands;
      nests = omega (arith, s.nests);
    })

pub range_spelled : (d : Data) (start finish : List ℕ) (reversed : Bool) (count : ℕ)
    → d ≡ object (member (codes "range") (object (member (codes "count") (number (unsigned count)) (member (codes "finish") (string finish) (member (codes "reversed") (boolean reversed) (member (codes "start") (string start) no_members))))) no_members)
    → count < 2 ^ 32 → Spells predicate_of 2 d (Range start finish reversed count)
unfolding predicate_of range_of
range_spelled d start finish reversed count e lt =
    rw e (record {
      stands = four (λ reversed count start finish. Some (Range start finish reversed count)) (Some reversed) _ (Some start) (Some finish) reversed count start finish refl (below_end count (2 ^ 32) lt) refl refl;
      nests = omega arith;
    })

pub read_spelled : (d ks p : Data) (families : List (List ℕ)) (r : Read) → d ≡ array (item (string r.family) (item ks (item p no_items)))
    → Spells (list_by as_str) 1 ks r.keys → Spells predicate_of 2 p r.predicate → read_fault families r ≡ None → Spells (read_of families) 3 d r
unfolding read_of
read_spelled d ks p families r e keys predicate accepted =
    rw e (record {
      stands =
          three (λ family keys predicate. unless_refused (read_fault families (record { family = family; keys = keys; predicate = predicate })) (record { family = family; keys = keys; predicate = predicate }))
          (Some r.family) (list_by as_str ks) (predicate_of p) r.family r.keys r.predicate refl keys.stands predicate.stands
          ∙ not_refused (read_fault families r) r accepted;
      nests = omega (arith, keys.nests, predicate.nests);
    })

pub answered_spelled : (d q a : Data) (families : List (List ℕ)) (homes : ℕ) (r : Answered)
    → d ≡ object (member (codes "answer") a (member (codes "at") (number (unsigned r.time)) (member (codes "home") (number (unsigned r.home)) (member (codes "read") q no_members))))
    → Spells (read_of families) 3 q r.read → Spells answer_of 4 a r.answer → r.home < homes → r.time < 2 ^ 48 → Spells (answered_of families homes) 5 d r
unfolding answered_of
answered_spelled d q a families homes r e read answer home time =
    rw e (record {
      stands =
          four (λ home read time answer. Some (record { home = home; read = read; time = time; answer = answer })) _ (read_of families q) _ (answer_of a) r.home r.read r.time r.answer
          (below_end r.home homes home) read.stands (below_end r.time (2 ^ 48) time) answer.stands;
      nests = omega (arith, read.nests, answer.nests);
    })

among : (families : List (List ℕ)) → is_schema families ≡ true → schema_among families ≡ Some families
among families e = rw e refl

families_found : (fs : Data) (families : List (List ℕ)) → list_by as_str fs ≡ Some families → is_schema families ≡ true → families_of fs ≡ Some families
unfolding families_of
families_found fs families e sound = rw e (among families sound)

pub recorded_spelled : (d fs hs rs : Data) (r : RecordedValue)
    → d ≡ object (member (codes "families") fs (member (codes "histories") hs (member (codes "reads") rs no_members)))
    → Spells (list_by as_str) 1 fs r.families → is_schema r.families ≡ true → Spells (list_by (history_of r.families)) 6 hs r.histories
    → Spells (list_by (answered_of r.families (length r.histories))) 6 rs r.reads → Spells recorded_of 7 d r
unfolding recorded_of
recorded_spelled d fs hs rs r e families sound histories reads =
    rw e (record {
      stands =
          ap (λ (o : Option (List (List ℕ))). o >>= (λ families. list_by (history_of families) hs >>= (λ histories. list_by (answered_of families (length histories)) rs >>= (λ reads. Some (record { families = families; histories = histories; reads = reads })))))
          (families_found fs r.families families.stands sound)
          ∙ ap (λ (o : Option (List History)). o >>= (λ histories. list_by (answered_of r.families (length histories)) rs >>= (λ reads. Some (record { families = r.families; histories = histories; reads = reads })))) histories.stands
          ∙ ap (λ (o : Option (List Answered)). o >>= (λ reads. Some (record { families = r.families; histories = r.histories; reads = reads }))) reads.stands;
      nests = omega (arith, families.nests, histories.nests, reads.nests);
    })

-- ## Lists

data_of_items : (ds : List Data) → data_of (items_of ds) ≡ ds
data_of_items [] = refl
data_of_items (d ∷ ds) = ap (λ es. d ∷ es) (data_of_items ds)

pub depth_snoc : (ds : List Data) (d : Data) (most : ℕ) → items_depth (items_of ds) ≤ most → depth d ≤ most → items_depth (items_of (ds ++ d ∷ [])) ≤ most
depth_snoc [] d most h g = omega (arith, g)
depth_snoc (e ∷ ds) d most h g = let rest = depth_snoc ds d most (omega (arith, h)) g in omega (arith, h, rest)

-- a list of values that stand for the xs
pub list_spelled : {A : Type 0} (f : Data → Option A) (most : ℕ) (d : Data) (ds : List Data) (xs : List A) → d ≡ array (items_of ds) → all_by f ds ≡ Some xs → items_depth (items_of ds) ≤ most
    → Spells (list_by f) (most + 1) d xs
list_spelled f most d ds xs e all deep = rw e (record { stands = ap (all_by f) (data_of_items ds) ∙ all; nests = omega (arith, deep) })
