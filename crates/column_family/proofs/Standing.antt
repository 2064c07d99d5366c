-- A batch stands for another where its last mutation of each location is the same, and its last deletion of each row.
use Rattle.std.proofs.Common.{◌≡◌, ◌∙◌, ℕ, ap, sym, subst, refl, inl, inr, Bool, true, false, cond, List, [], ◌∷◌, ◌++◌, Option, Some, None, arith}
use Rattle.std.specs.Prelude.{if◌then◌else◌, ◌&&◌, ◌||◌, not, is_some, option_map, nat_le}
use Rattle.std.specs.Option.{option_or}
use Rattle.std.specs.List.{list_any}
use Rattle.std.specs.Ordering.{is_eq}
use Rattle.std.proofs.lemmas.Cmp.{tied_itself, nat_cmp_total}
use Rattle.std.specs.Str.{bytes_eq}
use Rattle.std.proofs.lemmas.Bool.Decides.{nat_tests}
use Rattle.logical_time.specs.Stamps.{StampValue, stamp_cmp, is_older}
use Rattle.column_family.specs.declared.batch.Row.{Row}
use Rattle.column_family.specs.declared.batch.Change.{Change}
use Rattle.column_family.specs.declared.batch.Committed.{Committed}
use Rattle.column_family.specs.declared.batch.Mutation.{Mutation}
use Rattle.column_family.specs.declared.batch.Mutation.TheVariants.{Insert, DeleteColumn, DeleteRow, DeleteRange}
use Rattle.column_family.specs.Location.{Location, is_same_row, changes_name, touches_name, ranges_over, deletes_row, is_column_change, is_row_deletion, strikes, touches}
use Rattle.column_family.specs.Names.{is_between}
use Rattle.column_family.specs.History.{History, up_to, Stamped, newer_of, last_of, stamped, newest_of, newest, stamp_of, keeps_row, leaves_range, is_older_than, ranges_at, RestsOn}
use Rattle.column_family.specs.Normal.{committed, StandsFor}
use Rattle.column_family.proofs.Options.{some_left, some_right, both_hold, first_holds, second_holds}

-- ---- the newest of a history hangs on a batch by its last change alone
kept_or_not : (p : Change → Bool) (b : Bool) (c d : Committed) (h g : History) → newest_of p (c ∷ h) ≡ newest_of p (d ∷ g) → newest_of p h ≡ newest_of p g → newest_of p (cond b (c ∷ h) h) ≡ newest_of p (cond b (d ∷ g) g)
kept_or_not p true c d h g with_it without = with_it
kept_or_not p false c d h g with_it without = without

newest_same : (p : Change → Bool) (kept given : List Change) → last_of p kept ≡ last_of p given → (before after : History) (s : StampValue) (commit time : ℕ) → newest_of p (up_to time (before ++ committed kept s commit ∷ after)) ≡ newest_of p (up_to time (before ++ committed given s commit ∷ after))
newest_same p kept given e [] after s commit time =
    let h = up_to time after in
    kept_or_not p (nat_le commit time) (committed kept s commit) (committed given s commit) h h
    (ap (λ (o : Option Mutation). newer_of (option_map (stamped (committed kept s commit)) o) (newest_of p h)) e)
    refl
newest_same p kept given e (c ∷ before) after s commit time =
    let ih = newest_same p kept given e before after s commit time in
    kept_or_not p (nat_le c.commit time) c c (up_to time (before ++ committed kept s commit ∷ after)) (up_to time (before ++ committed given s commit ∷ after))
    (ap (λ (o : Option Stamped). newer_of (option_map (stamped c) (last_of p c.batch)) o) ih)
    ih

-- ---- the newer of two
newer_left : (a b : Option Stamped) → is_some a ≡ true → is_some (newer_of a b) ≡ true
newer_left None b h = absurd (cc)
newer_left (Some a) None h = refl
newer_left (Some a) (Some b) h = go (is_older a.stamp b.stamp)
  where
    go : (t : Bool) → is_some (if t then Some b else Some a) ≡ true
    go true = refl
    go false = refl

newer_right : (a b : Option Stamped) → is_some b ≡ true → is_some (newer_of a b) ≡ true
newer_right None b h = h
newer_right (Some a) b h = newer_left (Some a) b refl

-- ---- where the newest that touches a location is of one column, a column change touches it
abbrev is_of_column : Mutation → Bool
is_of_column (Insert n v) = true
is_of_column (DeleteColumn n) = true
is_of_column DeleteRow = false
is_of_column (DeleteRange s f) = false

changes-touches : (m : Mutation) (name : List ℕ) → is_of_column m ≡ true → changes_name m name ≡ touches_name m name
changes-touches (Insert n v) name h = refl
changes-touches (DeleteColumn n) name h = refl
changes-touches DeleteRow name h = absurd (cc)
changes-touches (DeleteRange s f) name h = absurd (cc)

column_in_batch : (l : Location) (cs : List Change) (m : Mutation) → last_of (touches l) cs ≡ Some m → is_of_column m ≡ true → is_some (last_of (is_column_change l) cs) ≡ true
column_in_batch l [] m e h = absurd (cc)
column_in_batch l (c ∷ cs) m e h = go (λ f. column_in_batch l cs m f h) (last_of (touches l) cs) refl e
  where
    here : (b : Bool) → touches l c ≡ b → (if b then Some c.mutation else None) ≡ Some m → is_some (if is_column_change l c then Some c.mutation else None) ≡ true
    here true t f =
        let same : c.mutation ≡ m = cc in
        let column : is_column_change l c ≡ true = ap (λ (b : Bool). is_same_row l.row c.row && b) (changes-touches c.mutation l.name (ap (λ (x : Mutation). is_of_column x) same ∙ h)) ∙ t in
        rw column refl
    here false t f = absurd (cc)

    go : (last_of (touches l) cs ≡ Some m → is_some (last_of (is_column_change l) cs) ≡ true) → (o : Option Mutation) → last_of (touches l) cs ≡ o → option_or o (if touches l c then Some c.mutation else None) ≡ Some m → is_some (option_or (last_of (is_column_change l) cs) (if is_column_change l c then Some c.mutation else None)) ≡ true
    go ih (Some x) f g = some_left (last_of (is_column_change l) cs) (if is_column_change l c then Some c.mutation else None) (ih (f ∙ g))
    go ih None f g = some_right (last_of (is_column_change l) cs) (if is_column_change l c then Some c.mutation else None) (here (touches l c) refl g)

column_in_history : (l : Location) (h : History) (x : Stamped) → newest h l ≡ Some x → is_of_column x.mutation ≡ true → is_some (newest_of (is_column_change l) h) ≡ true
column_in_history l [] x e d = absurd (cc)
column_in_history l (c ∷ h) x e d = go (λ f. column_in_history l h x f d) (last_of (touches l) c.batch) (newest h l) refl refl e
  where
    mapped : (o : Option Mutation) → is_some o ≡ true → is_some (option_map (stamped c) o) ≡ true
    mapped (Some m) s = refl
    mapped None s = absurd (cc)

    left : (m : Mutation) → last_of (touches l) c.batch ≡ Some m → stamped c m ≡ x → is_some (newest_of (is_column_change l) (c ∷ h)) ≡ true
    left m f s = newer_left (option_map (stamped c) (last_of (is_column_change l) c.batch)) (newest_of (is_column_change l) h) (mapped (last_of (is_column_change l) c.batch) (column_in_batch l c.batch m f (ap (λ (y : Stamped). is_of_column y.mutation) s ∙ d)))

    right : is_some (newest_of (is_column_change l) h) ≡ true → is_some (newest_of (is_column_change l) (c ∷ h)) ≡ true
    right s = newer_right (option_map (stamped c) (last_of (is_column_change l) c.batch)) (newest_of (is_column_change l) h) s

    either : (newest h l ≡ Some x → is_some (newest_of (is_column_change l) h) ≡ true) → (t : Bool) (m : Mutation) (y : Stamped) → last_of (touches l) c.batch ≡ Some m → newest h l ≡ Some y → (if t then Some y else Some (stamped c m)) ≡ Some x → is_some (newest_of (is_column_change l) (c ∷ h)) ≡ true
    either ih true m y f g k = right (ih (g ∙ k))
    either ih false m y f g k = left m f (cc)

    go : (newest h l ≡ Some x → is_some (newest_of (is_column_change l) h) ≡ true) → (a : Option Mutation) (b : Option Stamped) → last_of (touches l) c.batch ≡ a → newest h l ≡ b → newer_of (option_map (stamped c) a) b ≡ Some x → is_some (newest_of (is_column_change l) (c ∷ h)) ≡ true
    go ih None b f g k = right (ih (g ∙ k))
    go ih (Some m) None f g k = left m f (cc)
    go ih (Some m) (Some y) f g k = either ih (is_older c.stamp y.stamp) m y f g k

-- ---- where it is a row deletion, the newest deletion of the row has its stamp
older_not_back : (a b : StampValue) → is_older a b ≡ true → is_older b a ≡ false
older_not_back a b h = grind (arith, nat_tests)

older_not_itself : (a : StampValue) → is_older a a ≡ false
older_not_itself a = grind (arith, nat_tests)

not_older_trans : (a b c : StampValue) → is_older a b ≡ false → is_older b c ≡ false → is_older a c ≡ false
not_older_trans a b c h k = grind (arith, nat_tests)

-- of the newest deletion of a row, and the newest that touches a location of the row: the second is no older, and no row deletion if it is newer
abbrev Accords : Option Stamped → Option Stamped → Type 0
Accords None None = Unit {0}
Accords None (Some x) = deletes_row x.mutation ≡ false
Accords (Some y) None = ⊥
Accords (Some y) (Some x) = (is_older x.stamp y.stamp ≡ false) × (deletes_row x.mutation ≡ true → y.stamp ≡ x.stamp)

accords_newer : (d b e f : Option Stamped) → Accords d b → Accords e f → Accords (newer_of d e) (newer_of b f)
accords_newer None None e f g h = h
accords_newer None (Some x) None None g h = g
accords_newer None (Some x) None (Some x') g h = go (is_older x.stamp x'.stamp)
  where
    go : (t : Bool) → Accords None (if t then Some x' else Some x)
    go true = h
    go false = g
accords_newer None (Some x) (Some y') None g h = absurd h
accords_newer None (Some x) (Some y') (Some x') g h = go (is_older x.stamp x'.stamp) refl
  where
    go : (t : Bool) → is_older x.stamp x'.stamp ≡ t → Accords (Some y') (if t then Some x' else Some x)
    go true lt = h
    go false ge = (not_older_trans x.stamp x'.stamp y'.stamp ge h.0, λ d. absurd (cc))
accords_newer (Some y) None e f g h = absurd g
accords_newer (Some y) (Some x) None None g h = g
accords_newer (Some y) (Some x) None (Some x') g h = go (is_older x.stamp x'.stamp) refl
  where
    go : (t : Bool) → is_older x.stamp x'.stamp ≡ t → Accords (Some y) (if t then Some x' else Some x)
    go true lt = (not_older_trans x'.stamp x.stamp y.stamp (older_not_back x.stamp x'.stamp lt) g.0, λ d. absurd (cc))
    go false ge = g
accords_newer (Some y) (Some x) (Some y') None g h = absurd h
accords_newer (Some y) (Some x) (Some y') (Some x') g h = go (is_older y.stamp y'.stamp) (is_older x.stamp x'.stamp) refl refl
  where
    go : (s t : Bool) → is_older y.stamp y'.stamp ≡ s → is_older x.stamp x'.stamp ≡ t → Accords (if s then Some y' else Some y) (if t then Some x' else Some x)
    go true true u v = h
    go false false u v = g
    go true false u v =
        let far : is_older x.stamp y'.stamp ≡ false = not_older_trans x.stamp x'.stamp y'.stamp v h.0 in
        (far, λ d. let same = g.1 d in absurd (cc))
    go false true u v =
        let back = older_not_back x.stamp x'.stamp v in (
          not_older_trans x'.stamp x.stamp y.stamp back g.0,
          λ d.
              let same : y'.stamp ≡ x'.stamp = h.1 d in
              let far : is_older x.stamp y'.stamp ≡ false = not_older_trans x.stamp y.stamp y'.stamp g.0 u in
              absurd (cc),
        )

named_column : (c : Committed) (t : Bool) (m : Mutation) → deletes_row m ≡ false → Accords None (option_map (stamped c) (if t then Some m else None))
named_column c true m h = h
named_column c false m h = tt

accords_change : (c : Committed) (name : List ℕ) (b : Bool) (m : Mutation) → Accords (option_map (stamped c) (if b && deletes_row m then Some m else None)) (option_map (stamped c) (if b && touches_name m name then Some m else None))
accords_change c name true (Insert n v) = named_column c (bytes_eq n name) (Insert n v) refl
accords_change c name true (DeleteColumn n) = named_column c (bytes_eq n name) (DeleteColumn n) refl
accords_change c name true DeleteRow = (older_not_itself c.stamp, λ d. refl)
accords_change c name true (DeleteRange s f) = named_column c (is_between s f name) (DeleteRange s f) refl
accords_change c name false m = tt

accords_more : (c : Committed) (name : List ℕ) (d o : Option Mutation) (b : Bool) (m : Mutation) → Accords (option_map (stamped c) d) (option_map (stamped c) o) → Accords (option_map (stamped c) (option_or d (if b && deletes_row m then Some m else None))) (option_map (stamped c) (option_or o (if b && touches_name m name then Some m else None)))
accords_more c name None None b m h = accords_change c name b m
accords_more c name None (Some p) true (Insert n v) h = h
accords_more c name None (Some p) true (DeleteColumn n) h = h
accords_more c name None (Some p) true DeleteRow h = (older_not_itself c.stamp, λ d. refl)
accords_more c name None (Some p) true (DeleteRange s f) h = h
accords_more c name None (Some p) false m h = h
accords_more c name (Some q) None b m h = absurd h
accords_more c name (Some q) (Some p) b m h = h

accords_batch : (l : Location) (cs : List Change) (c : Committed) → Accords (option_map (stamped c) (last_of (is_row_deletion l.row) cs)) (option_map (stamped c) (last_of (touches l) cs))
accords_batch l [] c = tt
accords_batch l (x ∷ cs) c = accords_more c l.name (last_of (is_row_deletion l.row) cs) (last_of (touches l) cs) (is_same_row l.row x.row) x.mutation (accords_batch l cs c)

accords : (l : Location) (h : History) → Accords (newest_of (is_row_deletion l.row) h) (newest h l)
accords l [] = tt
accords l (c ∷ h) = accords_newer (option_map (stamped c) (last_of (is_row_deletion l.row) c.batch)) (option_map (stamped c) (last_of (touches l) c.batch)) (newest_of (is_row_deletion l.row) h) (newest h l) (accords_batch l c.batch c) (accords l h)

deletion_stamp : (d : Option Stamped) (x : Stamped) → Accords d (Some x) → deletes_row x.mutation ≡ true → stamp_of d ≡ Some x.stamp
deletion_stamp None x g h = absurd (cc)
deletion_stamp (Some y) x g h = ap (λ (s : StampValue). Some s) (g.1 h)

-- ---- where it is a deletion of a range, its transaction is one of those
abbrev is_of_range : Mutation → Bool
is_of_range (Insert n v) = false
is_of_range (DeleteColumn n) = false
is_of_range DeleteRow = false
is_of_range (DeleteRange s f) = true

strikes_touches : (l : Location) (c : Change) → touches l c ≡ false → strikes l c ≡ false
strikes_touches l c h = go (is_same_row l.row c.row) c.mutation h
  where
    go : (b : Bool) (m : Mutation) → (b && touches_name m l.name) ≡ false → (b && (deletes_row m || ranges_over m l.name)) ≡ false
    go false m t = refl
    go true (Insert n v) t = refl
    go true (DeleteColumn n) t = refl
    go true DeleteRow t = t
    go true (DeleteRange s f) t = t

none_touches : (l : Location) (cs : List Change) → last_of (touches l) cs ≡ None → last_of (strikes l) cs ≡ None
none_touches l [] h = refl
none_touches l (c ∷ cs) h = go (λ f. none_touches l cs f) (last_of (touches l) cs) (touches l c) refl refl h
  where
    go : (last_of (touches l) cs ≡ None → last_of (strikes l) cs ≡ None) → (o : Option Mutation) (b : Bool) → last_of (touches l) cs ≡ o → touches l c ≡ b
        → option_or o (if b then Some c.mutation else None) ≡ None → option_or (last_of (strikes l) cs) (if strikes l c then Some c.mutation else None) ≡ None
    go ih (Some m) b f t e = absurd (cc)
    go ih None true f t e = absurd (cc)
    go ih None false f t e = rw (ih f, strikes_touches l c t) refl

striking : (l : Location) (c : Change) → touches l c ≡ true → is_of_range c.mutation ≡ true → strikes l c ≡ true
striking l c t r = go (is_same_row l.row c.row) c.mutation t r
  where
    go : (b : Bool) (m : Mutation) → (b && touches_name m l.name) ≡ true → is_of_range m ≡ true → (b && (deletes_row m || ranges_over m l.name)) ≡ true
    go false m t r = t
    go true (Insert n v) t r = absurd (cc)
    go true (DeleteColumn n) t r = absurd (cc)
    go true DeleteRow t r = absurd (cc)
    go true (DeleteRange s f) t r = t

range_in_batch : (l : Location) (cs : List Change) (m : Mutation) → last_of (touches l) cs ≡ Some m → is_of_range m ≡ true → last_of (strikes l) cs ≡ Some m
range_in_batch l [] m e r = absurd (cc)
range_in_batch l (c ∷ cs) m e r = go (λ f. range_in_batch l cs m f r) (last_of (touches l) cs) (touches l c) refl refl e
  where
    go : (last_of (touches l) cs ≡ Some m → last_of (strikes l) cs ≡ Some m) → (o : Option Mutation) (b : Bool) → last_of (touches l) cs ≡ o → touches l c ≡ b
        → option_or o (if b then Some c.mutation else None) ≡ Some m → option_or (last_of (strikes l) cs) (if strikes l c then Some c.mutation else None) ≡ Some m
    go ih (Some x) b f t g = rw (ih (f ∙ g)) refl
    go ih None true f t g =
        let same : c.mutation ≡ m = cc in
        rw (none_touches l cs f, striking l c t (ap is_of_range same ∙ r)) (ap (λ (x : Mutation). Some x) same)
    go ih None false f t g = absurd (cc)

range_keeps_row : (m : Mutation) → is_of_range m ≡ true → keeps_row (Some m) ≡ true
range_keeps_row (Insert n v) h = absurd (cc)
range_keeps_row (DeleteColumn n) h = absurd (cc)
range_keeps_row DeleteRow h = absurd (cc)
range_keeps_row (DeleteRange s f) h = refl

-- whether an entry has the stamp, and deletes a range with the location and no row later
abbrev has_range : Location → StampValue → Committed → Bool
has_range l w c = is_eq (stamp_cmp c.stamp w) && leaves_range l c.batch

same_stamp : (a b : StampValue) → a ≡ b → is_eq (stamp_cmp a b) ≡ true
same_stamp a b e = subst (λ (z : StampValue). is_eq (stamp_cmp a z) ≡ true) e (tied a)
  where
    tied : (a : StampValue) → is_eq (stamp_cmp a a) ≡ true
    tied a = rw (tied_itself nat_cmp_total a.time, tied_itself nat_cmp_total a.node) refl

range_in_history : (l : Location) (h : History) (x : Stamped) → newest h l ≡ Some x → is_of_range x.mutation ≡ true → list_any (has_range l x.stamp) h ≡ true
range_in_history l [] x e r = absurd (cc)
range_in_history l (c ∷ h) x e r = go (λ f. range_in_history l h x f r) (last_of (touches l) c.batch) (newest h l) refl refl e
  where
    left : (m : Mutation) → last_of (touches l) c.batch ≡ Some m → stamped c m ≡ x → list_any (has_range l x.stamp) (c ∷ h) ≡ true
    left m f s =
        let of_range : is_of_range m ≡ true = ap (λ (y : Stamped). is_of_range y.mutation) s ∙ r in
        let stamp : is_eq (stamp_cmp c.stamp x.stamp) ≡ true = same_stamp c.stamp x.stamp (ap (λ (y : Stamped). y.stamp) s) in
        let leaves : leaves_range l c.batch ≡ true = ap keeps_row (range_in_batch l c.batch m f of_range) ∙ range_keeps_row m of_range in
        first_holds (has_range l x.stamp c) (list_any (has_range l x.stamp) h) (both_hold (is_eq (stamp_cmp c.stamp x.stamp)) (leaves_range l c.batch) stamp leaves)

    right : list_any (has_range l x.stamp) h ≡ true → list_any (has_range l x.stamp) (c ∷ h) ≡ true
    right s = second_holds (has_range l x.stamp c) (list_any (has_range l x.stamp) h) s

    either : (newest h l ≡ Some x → list_any (has_range l x.stamp) h ≡ true) → (t : Bool) (m : Mutation) (y : Stamped) → last_of (touches l) c.batch ≡ Some m → newest h l ≡ Some y → (if t then Some y else Some (stamped c m)) ≡ Some x → list_any (has_range l x.stamp) (c ∷ h) ≡ true
    either ih true m y f g k = right (ih (g ∙ k))
    either ih false m y f g k = left m f (cc)

    go : (newest h l ≡ Some x → list_any (has_range l x.stamp) h ≡ true) → (a : Option Mutation) (b : Option Stamped) → last_of (touches l) c.batch ≡ a → newest h l ≡ b → newer_of (option_map (stamped c) a) b ≡ Some x → list_any (has_range l x.stamp) (c ∷ h) ≡ true
    go ih None b f g k = right (ih (g ∙ k))
    go ih (Some m) None f g k = left m f (cc)
    go ih (Some m) (Some y) f g k = either ih (is_older c.stamp y.stamp) m y f g k

not_older : (d : Option Stamped) (x : Stamped) → Accords d (Some x) → is_older_than d x.stamp ≡ false
not_older None x g = refl
not_older (Some y) x g = g.0

ranges_from : (l : Location) (g : History) (x : Stamped) → newest g l ≡ Some x → is_of_range x.mutation ≡ true → ranges_at g l x.stamp ≡ true
ranges_from l g x e r =
    let older = not_older (newest_of (is_row_deletion l.row) g) x (subst (λ (o : Option Stamped). Accords (newest_of (is_row_deletion l.row) g) o) e (accords l g)) in
    both_hold (list_any (has_range l x.stamp) g) (not (is_older_than (newest_of (is_row_deletion l.row) g) x.stamp)) (range_in_history l g x e r) (ap (λ (b : Bool). not b) older)

-- ---- what a read rests on hangs on the newest mutation, the newest row deletion and the transactions of ranges alone
rests_by : (l : Location) (g : History) (w : StampValue) (x : Stamped) (m : Mutation) → x.mutation ≡ m → newest g l ≡ Some x → x.stamp ≡ w → RestsOn g l w
rests_by l g w x (Insert n v) is e s = inl (column_in_history l g x e (ap is_of_column is), ap (λ (o : Option Stamped). stamp_of o) e ∙ ap (λ (z : StampValue). Some z) s)
rests_by l g w x (DeleteColumn n) is e s = inl (column_in_history l g x e (ap is_of_column is), ap (λ (o : Option Stamped). stamp_of o) e ∙ ap (λ (z : StampValue). Some z) s)
rests_by l g w x DeleteRow is e s =
    inr (inl (deletion_stamp (newest_of (is_row_deletion l.row) g) x (subst (λ (o : Option Stamped). Accords (newest_of (is_row_deletion l.row) g) o) e (accords l g)) (ap (λ (y : Mutation). deletes_row y) is) ∙ ap (λ (z : StampValue). Some z) s))
rests_by l g w x (DeleteRange a b) is e s = inr (inr (subst (λ (z : StampValue). ranges_at g l z ≡ true) s (ranges_from l g x e (ap is_of_range is))))

rests_from : (l : Location) (g : History) (w : StampValue) (o : Option Stamped) → newest g l ≡ o → stamp_of o ≡ Some w → RestsOn g l w
rests_from l g w None e s = absurd (cc)
rests_from l g w (Some x) e s = let same : x.stamp ≡ w = cc in rests_by l g w x x.mutation refl e same

pub rests_alike : (l : Location) (h g : History) (w : StampValue) → newest h l ≡ newest g l → newest_of (is_row_deletion l.row) h ≡ newest_of (is_row_deletion l.row) g → ranges_at h l w ≡ ranges_at g l w → RestsOn h l w → RestsOn g l w
rests_alike l h g w e d t (inl c) = rests_from l g w (newest h l) (sym e) c.1
rests_alike l h g w e d t (inr (inl s)) = inr (inl (ap (λ (o : Option Stamped). stamp_of o) (sym d) ∙ s))
rests_alike l h g w e d t (inr (inr r)) = inr (inr (sym t ∙ r))

-- ---- the transactions of ranges hang on a batch by its last change that strikes the location
any_or_not : (f : Committed → Bool) (b : Bool) (c d : Committed) (h g : History) → list_any f (c ∷ h) ≡ list_any f (d ∷ g) → list_any f h ≡ list_any f g → list_any f (cond b (c ∷ h) h) ≡ list_any f (cond b (d ∷ g) g)
any_or_not f true c d h g with_it without = with_it
any_or_not f false c d h g with_it without = without

any_same : (l : Location) (w : StampValue) (kept given : List Change) → last_of (strikes l) kept ≡ last_of (strikes l) given → (before after : History) (s : StampValue) (commit time : ℕ)
    → list_any (has_range l w) (up_to time (before ++ committed kept s commit ∷ after)) ≡ list_any (has_range l w) (up_to time (before ++ committed given s commit ∷ after))
any_same l w kept given e [] after s commit time =
    let h = up_to time after in
    any_or_not (has_range l w) (nat_le commit time) (committed kept s commit) (committed given s commit) h h
    (ap (λ (o : Option Mutation). (is_eq (stamp_cmp s w) && keeps_row o) || list_any (has_range l w) h) e)
    refl
any_same l w kept given e (c ∷ before) after s commit time =
    let ih = any_same l w kept given e before after s commit time in
    any_or_not (has_range l w) (nat_le c.commit time) c c (up_to time (before ++ committed kept s commit ∷ after)) (up_to time (before ++ committed given s commit ∷ after))
    (ap (λ (b : Bool). has_range l w c || b) ih)
    ih

ranges_same : (kept given : List Change) (l : Location) (w : StampValue) → last_of (strikes l) kept ≡ last_of (strikes l) given → last_of (is_row_deletion l.row) kept ≡ last_of (is_row_deletion l.row) given → (before after : History) (s : StampValue) (commit time : ℕ)
    → ranges_at (up_to time (before ++ committed kept s commit ∷ after)) l w ≡ ranges_at (up_to time (before ++ committed given s commit ∷ after)) l w
ranges_same kept given l w e d before after s commit time =
    ap (λ (b : Bool). b && not (is_older_than (newest_of (is_row_deletion l.row) (up_to time (before ++ committed kept s commit ∷ after))) w)) (any_same l w kept given e before after s commit time)
    ∙ ap (λ (o : Option Stamped). list_any (has_range l w) (up_to time (before ++ committed given s commit ∷ after)) && not (is_older_than o w)) (newest_same (is_row_deletion l.row) kept given d before after s commit time)

pub stands_for : (kept given : List Change) → ((l : Location) → last_of (touches l) kept ≡ last_of (touches l) given) → ((r : Row) → last_of (is_row_deletion r) kept ≡ last_of (is_row_deletion r) given) → ((l : Location) → last_of (strikes l) kept ≡ last_of (strikes l) given) → StandsFor kept given
stands_for kept given t d k = record {
  table = λ before after s commit time l. ap (option_map (λ (x : Stamped). x.mutation)) (newest_same (touches l) kept given (t l) before after s commit time);
  newest = λ before after s commit time l. newest_same (touches l) kept given (t l) before after s commit time;
  deletion = λ before after s commit time r. newest_same (is_row_deletion r) kept given (d r) before after s commit time;
  struck = λ before after s commit time l. newest_same (strikes l) kept given (k l) before after s commit time;
  ranges = λ before after s commit time l w. ranges_same kept given l w (k l) (d l.row) before after s commit time;
  rests = λ before after s commit time l w. (
    rests_alike l (up_to time (before ++ committed kept s commit ∷ after)) (up_to time (before ++ committed given s commit ∷ after)) w (newest_same (touches l) kept given (t l) before after s commit time) (newest_same (is_row_deletion l.row) kept given (d l.row) before after s commit time) (ranges_same kept given l w (k l) (d l.row) before after s commit time),
    rests_alike l (up_to time (before ++ committed given s commit ∷ after)) (up_to time (before ++ committed kept s commit ∷ after)) w (newest_same (touches l) given kept (sym (t l)) before after s commit time) (newest_same (is_row_deletion l.row) given kept (sym (d l.row)) before after s commit time) (ranges_same given kept l w (sym (k l)) (sym (d l.row)) before after s commit time),
  );
}
