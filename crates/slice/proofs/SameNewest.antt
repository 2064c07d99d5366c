-- Two histories have one newest mutation where each mutation of one stands in the other, with its stamp and its commit
-- time, and a stamp names one entry.
use Rattle.std.proofs.Common.{◌≡◌, ◌∙◌, ℕ, sym, ap, ap₂, subst, refl, Bool, true, false, [], ◌∷◌, Option, Some, None, inl, inr, arith}
use Rattle.std.specs.Prelude.{Contains, if◌then◌else◌, option_map}
use Rattle.std.proofs.lemmas.Bool.Decides.{nat_tests}
use Rattle.logical_time.specs.Stamps.{StampValue, is_older}
use Rattle.column_family.specs.declared.batch.Change.{Change}
use Rattle.column_family.specs.declared.batch.Committed.{Committed}
use Rattle.column_family.specs.declared.batch.Mutation.{Mutation}
use Rattle.column_family.specs.History.{History, Stamped, newer_of, last_of, stamped, newest_of}
use Rattle.slice.specs.Parts.{AreStampedApart}
use Rattle.slice.proofs.Lists.{none_in_empty, contains_first, contains_rest, first_or_rest}

not_itself : (s : StampValue) → is_older s s ≡ false
not_itself s = grind (arith, nat_tests)

not_back : (s t : StampValue) → is_older s t ≡ true → is_older t s ≡ false
not_back s t h = grind (arith, nat_tests)

not_over : (s t u : StampValue) → is_older s t ≡ false → is_older t u ≡ false → is_older s u ≡ false
not_over s t u h k = grind (arith, nat_tests)

-- of two stamps neither of which is older both are one
pub neither_older : (s t : StampValue) → is_older s t ≡ false → is_older t s ≡ false → s ≡ t
neither_older s t h k =
    let time : s.time ≡ t.time = grind (arith, nat_tests) in
    let node : s.node ≡ t.node = grind (arith, nat_tests) in
    ap₂ (λ (a b : ℕ). let r : StampValue = record { time = a; node = b } in r) time node

-- ---- where the newest mutation comes from
pub record IsNewest (q : Change → Bool) (h : History) (x : Stamped) : Type 0 where
  pub entry : Committed
  pub among : Contains h entry
  pub mutation : last_of q entry.batch ≡ Some x.mutation
  pub stamp : entry.stamp ≡ x.stamp
  pub commit : entry.commit ≡ x.commit
  pub top : (c : Committed) (m : Mutation) → Contains h c → last_of q c.batch ≡ Some m → is_older x.stamp c.stamp ≡ false

none_go : (q : Change → Bool) (c : Committed) (o : Option Mutation) (n : Option Stamped) → newer_of (option_map (stamped c) o) n ≡ None
    → (o ≡ None) × (n ≡ None)
none_go q c None n e = (refl, e)
none_go q c (Some m) None e = absurd (cc)
none_go q c (Some m) (Some y) e = by (is_older c.stamp y.stamp) e
  where
    by : (t : Bool) → (if t then Some y else Some (stamped c m)) ≡ None → (Some m ≡ None) × (Some y ≡ None)
    by true f = absurd (cc)
    by false f = absurd (cc)

pub newest_none : (q : Change → Bool) (h : History) → newest_of q h ≡ None → (c : Committed) → Contains h c → last_of q c.batch ≡ None
newest_none q [] e c m = absurd (none_in_empty c m)
newest_none q (b ∷ h) e c m = elim (first_or_rest b c h m) [
  | inl i ↦ ap (λ (d : Committed). last_of q d.batch) (sym i) ∙ (none_go q b (last_of q b.batch) (newest_of q h) e).0
  | inr j ↦ newest_none q h (none_go q b (last_of q b.batch) (newest_of q h) e).1 c j
]

-- the first entry's own mutation is the newest
own : (q : Change → Bool) (b : Committed) (h : History) (m : Mutation) (x : Stamped) → last_of q b.batch ≡ Some m → stamped b m ≡ x
    → ((c : Committed) (k : Mutation) → Contains h c → last_of q c.batch ≡ Some k → is_older b.stamp c.stamp ≡ false) → IsNewest q (b ∷ h) x
own q b h m x e is no_newer =
    let st : b.stamp ≡ x.stamp = ap (λ (y : Stamped). y.stamp) is in
    record {
      entry = b;
      among = contains_first b h;
      mutation = e ∙ ap (λ (y : Stamped). Some y.mutation) is;
      stamp = st;
      commit = ap (λ (y : Stamped). y.commit) is;
      top = by st;
    }
  where
    by : b.stamp ≡ x.stamp → (c : Committed) (k : Mutation) → Contains (b ∷ h) c → last_of q c.batch ≡ Some k → is_older x.stamp c.stamp ≡ false
    by st c k m f = elim (first_or_rest b c h m) [
      | inl i ↦ ap (λ (d : Committed). is_older x.stamp d.stamp) (sym i) ∙ ap (λ (s : StampValue). is_older x.stamp s) st ∙ not_itself x.stamp
      | inr j ↦ ap (λ (s : StampValue). is_older s c.stamp) (sym st) ∙ no_newer c k j f
    ]

-- or it is that of the rest
of_rest : (q : Change → Bool) (b : Committed) (h : History) (x : Stamped)
    → ((m : Mutation) → last_of q b.batch ≡ Some m → is_older x.stamp b.stamp ≡ false)
    → IsNewest q h x → IsNewest q (b ∷ h) x
of_rest q b h x first n =
    record {
      entry = n.entry;
      among = contains_rest b n.entry h n.among;
      mutation = n.mutation;
      stamp = n.stamp;
      commit = n.commit;
      top = by;
    }
  where
    by : (c : Committed) (k : Mutation) → Contains (b ∷ h) c → last_of q c.batch ≡ Some k → is_older x.stamp c.stamp ≡ false
    by c k m f = elim (first_or_rest b c h m) [
      | inl i ↦ ap (λ (d : Committed). is_older x.stamp d.stamp) (sym i) ∙ first k (ap (λ (d : Committed). last_of q d.batch) i ∙ f)
      | inr j ↦ n.top c k j f
    ]

pub newest_some : (q : Change → Bool) (h : History) (x : Stamped) → newest_of q h ≡ Some x → IsNewest q h x
newest_some q [] x e = absurd (cc)
newest_some q (b ∷ h) x e = go (last_of q b.batch) (newest_of q h) refl refl (newest_some q h) e
  where
    choose : (m : Mutation) (y : Stamped) (t : Bool) → is_older b.stamp y.stamp ≡ t → last_of q b.batch ≡ Some m → IsNewest q h y
        → (if t then Some y else Some (stamped b m)) ≡ Some x → IsNewest q (b ∷ h) x
    choose m y true lt f n g =
        let same : y ≡ x = cc in
        subst (λ z. IsNewest q (b ∷ h) z) same (of_rest q b h y (λ k is. not_back b.stamp y.stamp lt) n)
    choose m y false ge f n g =
        let same : stamped b m ≡ x = cc in
        own q b h m x f same (λ c k j is. not_over b.stamp y.stamp c.stamp ge (n.top c k j is))

    go : (o : Option Mutation) (n : Option Stamped) → last_of q b.batch ≡ o → newest_of q h ≡ n
        → ((y : Stamped) → newest_of q h ≡ Some y → IsNewest q h y)
        → newer_of (option_map (stamped b) o) n ≡ Some x → IsNewest q (b ∷ h) x
    go None n f g ih k = of_rest q b h x (λ m is. absurd (cc)) (ih x (g ∙ k))
    go (Some m) None f g ih k =
        let same : stamped b m ≡ x = cc in
        own q b h m x f same (λ c l j is. let none = newest_none q h g c j in absurd (cc))
    go (Some m) (Some y) f g ih k = choose m y (is_older b.stamp y.stamp) refl f (ih y g) k

-- ---- two histories
-- each mutation of the first history stands in the second
abbrev pub HasEach : (Change → Bool) → History → History → Type 0
HasEach q h g =
    (c : Committed) (m : Mutation) → Contains h c → last_of q c.batch ≡ Some m
    → (d : Committed) × Contains g d × (d.stamp ≡ c.stamp) × (d.commit ≡ c.commit) × (last_of q d.batch ≡ Some m)

none_both : (q : Change → Bool) (h g : History) (x : Stamped) → HasEach q h g → newest_of q g ≡ None → IsNewest q h x → ⊥
none_both q h g x into e n =
    let d = into n.entry x.mutation n.among n.mutation in
    let none = newest_none q g e d.0 d.1 in
    let some = d.4 in
    cc

one_newest : (q : Change → Bool) (h g : History) (x y : Stamped) → HasEach q h g → HasEach q g h → AreStampedApart h → IsNewest q h x → IsNewest q g y → x ≡ y
one_newest q h g x y into back one n k =
    let d = into n.entry x.mutation n.among n.mutation in
    let c = back k.entry y.mutation k.among k.mutation in
    let over : is_older y.stamp x.stamp ≡ false = ap (λ (s : StampValue). is_older y.stamp s) (sym (d.2 ∙ n.stamp)) ∙ k.top d.0 x.mutation d.1 d.4 in
    let under : is_older x.stamp y.stamp ≡ false = ap (λ (s : StampValue). is_older x.stamp s) (sym (c.2 ∙ k.stamp)) ∙ n.top c.0 y.mutation c.1 c.4 in
    let stamp : x.stamp ≡ y.stamp = neither_older x.stamp y.stamp under over in
    let entry : n.entry ≡ c.0 = one n.entry c.0 n.among c.1 (n.stamp ∙ stamp ∙ sym (c.2 ∙ k.stamp)) in
    let commit : x.commit ≡ y.commit = sym n.commit ∙ ap (λ (e : Committed). e.commit) entry ∙ c.3 ∙ k.commit in
    let some : Some x.mutation ≡ Some y.mutation = sym n.mutation ∙ ap (λ (e : Committed). last_of q e.batch) entry ∙ c.4 in
    let mutation : x.mutation ≡ y.mutation = cc in
    λ i. record { stamp = stamp i; commit = commit i; mutation = mutation i }

-- so both have one newest mutation
pub same_newest : (q : Change → Bool) (h g : History) → HasEach q h g → HasEach q g h → AreStampedApart h → newest_of q h ≡ newest_of q g
same_newest q h g into back one = go (newest_of q h) (newest_of q g) refl refl
  where
    go : (a b : Option Stamped) → newest_of q h ≡ a → newest_of q g ≡ b → a ≡ b
    go None None e f = refl
    go (Some x) None e f = absurd (none_both q h g x into f (newest_some q h x e))
    go None (Some y) e f = absurd (none_both q g h y back e (newest_some q g y f))
    go (Some x) (Some y) e f = ap Some (one_newest q h g x y into back one (newest_some q h x e) (newest_some q g y f))

-- a mutation of an entry is no newer than the newest
pub no_newer : (q : Change → Bool) (h : History) (c : Committed) (m : Mutation) → Contains h c → last_of q c.batch ≡ Some m
    → (n : Stamped) × (newest_of q h ≡ Some n) × (is_older n.stamp c.stamp ≡ false)
no_newer q h c m has e = go (newest_of q h) refl
  where
    go : (o : Option Stamped) → newest_of q h ≡ o → (n : Stamped) × (newest_of q h ≡ Some n) × (is_older n.stamp c.stamp ≡ false)
    go None f = let none = sym e ∙ newest_none q h f c has in absurd (cc)
    go (Some n) f = (n, f, (newest_some q h n f).top c m has e)
