-- The ways of a seat, where one changes.
use Rattle.std.proofs.Common.{◌≡◌, ℕ, zero, suc, ◌+◌, ◌-◌, ◌≤◌, ◌<◌, ◌==◌, Bool, true, false, cond, List, [], ◌∷◌, ◌++◌, length, get_or, set, take, drop, All, Some, refl, ap, sym, subst, ◌∙◌, add-one, append_assoc, inl, inr, arith}
use Rattle.std.specs.Prelude.{◌≢◌, nat_lt}
use Rattle.std.specs.List.{slice_get, list_any}
use Rattle.std.proofs.lemmas.List.{append-nil, length-append, length-take-le, length-drop, take_all}
use Rattle.std.proofs.lemmas.List.Sums.{sum_by-set, sum_by_more, sum_by-cons}
use Rattle.std.proofs.Math.Seq.{map-set_same}
use Rattle.std.proofs.lemmas.Bool.Decides.{eqb_tells, nat_tests}
use Rattle.messages.specs.declared.envelope.Envelope.{Envelope}
use Rattle.actors.specs.Journals.{sends_to, followed_by}
use Rattle.actors.specs.Seats.{LaneValue, through, ends_of, rings}
use Rattle.actors.specs.Ways.{has_way, IsFirstWay}
use Rattle.actors.specs.Resting.{waiting_on, IsSorted, IsFlushed}
use Rattle.actors.proofs.Lists.{here, either_false, true_or, all_of}
use Rattle.actors.proofs.Sending.{test_true, test_false, taken_out, none_next, none_kept}

pub same_ends : (ls : List LaneValue) (k : ℕ) (d l : LaneValue) → d ≡ get_or ls k d → l.to ≡ d.to → ends_of (set ls k l) ≡ ends_of ls
same_ends ls k d l is to = map-set_same (λ (x : LaneValue). x.to) ls k l d (to ∙ ap (λ (x : LaneValue). x.to) is)

pub same_rings : (ls : List LaneValue) (k : ℕ) (d l : LaneValue) → d ≡ get_or ls k d → l.sent ≡ d.sent → rings (set ls k l) ≡ rings ls
same_rings ls k d l is sent = map-set_same (λ (x : LaneValue). x.sent) ls k l d (sent ∙ ap (λ (x : LaneValue). x.sent) is)

pub way_there : (node : ℕ) (ls : List LaneValue) (k : ℕ) (l : LaneValue) → slice_get ls k ≡ Some l → l.to ≡ node → has_way node ls ≡ true
way_there node [] k l at to = absurd cc
way_there node (x ∷ ls) zero l at to =
    let is : x ≡ l = cc in
    rw (ap (λ (y : LaneValue). y.to) is, test_true l.to node to) refl
way_there node (x ∷ ls) (suc k) l at to = true_or (x.to == node) _ (way_there node ls k l at to)

pub no_way_yet : (node : ℕ) (ls : List LaneValue) (k : ℕ) (d : LaneValue) → k < length ls → d ≡ get_or ls k d → d.to ≢ node → has_way node (take k ls) ≡ false
    → has_way node (take (k + 1) ls) ≡ false
no_way_yet node ls k d lt is ne none = rw add-one (go node ls k d lt is ne none)
  where
    go : (node : ℕ) (ls : List LaneValue) (k : ℕ) (d : LaneValue) → k < length ls → d ≡ get_or ls k d → d.to ≢ node → has_way node (take k ls) ≡ false
        → has_way node (take (suc k) ls) ≡ false
    go node [] k d lt is ne none = absurd (omega arith)
    go node (x ∷ ls) zero d lt is ne none = rw (← ap (λ (y : LaneValue). y.to) is, test_false d.to node ne) refl
    go node (x ∷ ls) (suc k) d lt is ne none =
        let p = either_false (x.to == node) _ none in
        rw (p.0) (go node ls k d (omega arith) is ne p.1)

pub still_through : (ls : List LaneValue) (k : ℕ) (d l : LaneValue) (node : ℕ) → k < length ls → d ≡ get_or ls k d → l.to ≡ d.to → l.sent ++ l.waiting ≡ d.sent ++ d.waiting
    → through (set ls k l) node ≡ through ls node
still_through [] k d l node lt is to whole = absurd (omega arith)
still_through (x ∷ ls) zero d l node lt is to whole = rw (to, whole, is) refl
still_through (x ∷ ls) (suc k) d l node lt is to whole =
    ap (λ t. cond (x.to == node) (x.sent ++ x.waiting) t) (still_through ls k d l node (omega arith) is to whole)

one_more : (b : Bool) (e : Envelope) (xs ys t : List Envelope) → cond b (xs ++ (ys ++ e ∷ [])) t ≡ cond b (xs ++ ys) t ++ cond b (e ∷ []) []
one_more true e xs ys t = sym (append_assoc xs ys (e ∷ []))
one_more false e xs ys t = sym (append-nil t)

passed : (a b : Bool) (e : Envelope) (xs t u : List Envelope) → (a ≡ true → b ≡ false) → u ≡ t ++ cond b (e ∷ []) [] → cond a xs u ≡ cond a xs t ++ cond b (e ∷ []) []
passed true b e xs t u apart more = rw (apart refl) (sym (append-nil xs))
passed false b e xs t u apart more = more

other_end : (x e node : ℕ) → (x == e) ≡ false → (x == node) ≡ true → (e == node) ≡ false
other_end x e node apart is = elim (eqb_tells e node) [
  | inl same ↦ absurd (let h : (x == e) ≡ true = ap (λ n. x == n) same.1 ∙ is in cc)
  | inr away ↦ away.0
]

pub more_through : (ls : List LaneValue) (k : ℕ) (d l : LaneValue) (e : Envelope) (node : ℕ) → k < length ls → d ≡ get_or ls k d → has_way e.to (take k ls) ≡ false
    → d.to ≡ e.to → l.to ≡ d.to → l.sent ≡ d.sent → l.waiting ≡ d.waiting ++ e ∷ []
    → through (set ls k l) node ≡ through ls node ++ sends_to node (e ∷ [])
more_through [] k d l e node lt is first leads to sent waiting = absurd (omega arith)
more_through (x ∷ ls) zero d l e node lt is first leads to sent waiting =
    let x_to : x.to ≡ e.to = ap (λ (y : LaneValue). y.to) (sym is) ∙ leads in
    rw (to, leads, sent, waiting, is, x_to) (one_more (e.to == node) e x.sent x.waiting (through ls node))
more_through (x ∷ ls) (suc k) d l e node lt is first leads to sent waiting =
    let p = either_false (x.to == e.to) _ first in
    passed (x.to == node) (e.to == node) e _ _ _ (other_end x.to e.to node p.0) (more_through ls k d l e node (omega arith) is p.1 leads to sent waiting)

-- how many wait, where one way is put in the place of another
pub waiting_set : (ls : List LaneValue) (k : ℕ) (d l : LaneValue) → k < length ls → d ≡ get_or ls k d → waiting_on (set ls k l) + length d.waiting ≡ waiting_on ls + length l.waiting
waiting_set ls k d l lt is =
    subst (λ (x : LaneValue). waiting_on (set ls k l) + length x.waiting ≡ waiting_on ls + length l.waiting) (sym is) (sum_by-set (λ (x : LaneValue). length x.waiting) ls k l d lt)

length_without : (es : List Envelope) (number : ℕ) → number < length es → length (take number es ++ drop (number + 1) es) + 1 ≡ length es
length_without es number lt = rw (length-append (take number es) (drop (number + 1) es), length-take-le number es (omega (arith, lt)), length-drop (number + 1) es) (omega (arith, lt))

-- what is held of ways and outbox while it is sorted
pub record Sorted (ls start : List LaneValue) (outbox first : List Envelope) (number : ℕ) : Type 0 where
  pub ends : ends_of ls ≡ ends_of start
  pub rings : rings ls ≡ rings start
  pub whole : (node : ℕ) → followed_by (through ls) outbox node ≡ followed_by (through start) first node
  pub count : waiting_on ls + length outbox ≡ waiting_on start + length first
  pub passed : (node : ℕ) → has_way node ls ≡ true → sends_to node (take number outbox) ≡ []

pub begun : (ls : List LaneValue) (outbox : List Envelope) → Sorted ls ls outbox outbox 0
begun ls outbox = record { ends = refl; rings = refl; whole = λ node. refl; count = refl; passed = λ node way. refl }

pub taken_one : (ls start : List LaneValue) (outbox first next : List Envelope) (number k : ℕ) (d l : LaneValue) (e : Envelope)
    → Sorted ls start outbox first number → number < length outbox → slice_get outbox number ≡ Some e
    → IsFirstWay e.to ls k → d ≡ get_or ls k d → l.to ≡ d.to → l.sent ≡ d.sent → l.waiting ≡ d.waiting ++ e ∷ []
    → next ≡ take number outbox ++ drop (number + 1) outbox
    → Sorted (set ls k l) start next first number
taken_one ls start outbox first next number k d l e so_far lt at way is to sent waiting rest =
    let d_at = here ls k d way.within is in
    let leads : d.to ≡ e.to = way.leads d d_at in
    let ends = same_ends ls k d l is to in
    record {
      ends = ends ∙ so_far.ends;
      rings = same_rings ls k d l is sent ∙ so_far.rings;
      whole = λ node.
          let none : e.to ≡ node → sends_to node (take number outbox) ≡ [] = λ h. so_far.passed node (way_there node ls k d d_at (leads ∙ h)) in
          rw (more_through ls k d l e node way.within is way.first leads to sent waiting, rest, append_assoc, taken_out node outbox number e at none) (so_far.whole node);
      count =
          let ways = waiting_set ls k d l way.within is in
          let one : length l.waiting ≡ length d.waiting + 1 = rw waiting (length-append d.waiting (e ∷ [])) in
          let left : length next + 1 ≡ length outbox = rw rest (length_without outbox number lt) in
          omega (arith, ways, one, left, so_far.count);
      passed = λ node there.
          let was : has_way node ls ≡ true = ap (λ ns. list_any (λ to. to == node) ns) (sym ends) ∙ there in
          rw (rest, add-one) (none_kept node outbox number lt (so_far.passed node was));
    }

pub passed_one : (ls start : List LaneValue) (outbox first : List Envelope) (number : ℕ) (e : Envelope)
    → Sorted ls start outbox first number → slice_get outbox number ≡ Some e → has_way e.to ls ≡ false
    → Sorted ls start outbox first (number + 1)
passed_one ls start outbox first number e so_far at none = record {
  ends = so_far.ends;
  rings = so_far.rings;
  whole = so_far.whole;
  count = so_far.count;
  passed = λ node there.
      let away : e.to ≢ node = λ h. let both : has_way node ls ≡ false = ap (λ n. has_way n ls) (sym h) ∙ none in cc in
      rw add-one (none_next node outbox number e at away (so_far.passed node there));
}

pub sorted_all : (ls start : List LaneValue) (outbox first : List Envelope) (number : ℕ) → Sorted ls start outbox first number → length outbox ≤ number → IsSorted ls outbox
sorted_all ls start outbox first number so_far past node way = subst (λ (es : List Envelope). sends_to node es ≡ []) (take_all number outbox past) (so_far.passed node way)

-- something waits where not all went into the ring
pub some_wait : (es : List Envelope) (gone : ℕ) → nat_lt gone (length es) ≡ nat_lt 0 (length (drop gone es))
some_wait es gone =
    let left : length (drop gone es) ≡ length es - gone = length-drop gone es in
    alike _ _ (λ h. grind (arith, nat_tests, left)) (λ h. grind (arith, nat_tests, left))
  where
    alike : (a b : Bool) → (a ≡ true → b ≡ true) → (b ≡ true → a ≡ true) → a ≡ b
    alike true b f g = sym (f refl)
    alike false true f g = g refl
    alike false false f g = refl

none_waits : (es : List Envelope) → nat_lt 0 (length es) ≡ false → es ≡ []
none_waits [] none = refl
none_waits (e ∷ es) none = absurd (grind (arith, nat_tests))

-- one more way on which nothing waits
pub idle_more : (ls : List LaneValue) (place : ℕ) (l : LaneValue) → place < length ls → l ≡ get_or ls place l → waiting_on (take place ls) ≡ 0 → nat_lt 0 (length l.waiting) ≡ false
    → waiting_on (take (place + 1) ls) ≡ 0
idle_more ls place l lt is none empty =
    let more = sum_by_more (λ (x : LaneValue). length x.waiting) ls place l lt in
    let zero_here : length (get_or ls place l).waiting ≡ 0 = ap (λ (x : LaneValue). length x.waiting) (sym is) ∙ ap (λ (es : List Envelope). length es) (none_waits l.waiting empty) in
    omega (arith, more, none, zero_here)

-- where nothing waits on all ways together, nothing waits on any of them
pub idle_each : (ls : List LaneValue) → waiting_on ls ≡ 0 → (k : ℕ) (l : LaneValue) → slice_get ls k ≡ Some l → l.waiting ≡ []
idle_each [] none k l at = absurd cc
idle_each (x ∷ ls) none zero l at =
    let is : x ≡ l = cc in
    let more = sum_by-cons (λ (y : LaneValue). length y.waiting) x ls in
    ap (λ (y : LaneValue). y.waiting) (sym is) ∙ empty x.waiting (omega (arith, more, none))
  where
    empty : (es : List Envelope) → length es ≡ 0 → es ≡ []
    empty [] h = refl
    empty (e ∷ es) h = absurd (omega arith)
idle_each (x ∷ ls) none (suc k) l at =
    let more = sum_by-cons (λ (y : LaneValue). length y.waiting) x ls in
    idle_each ls (omega (arith, more, none)) k l at

pub idle_flushed : (ls : List LaneValue) → waiting_on ls ≡ 0 → All IsFlushed ls
idle_flushed ls none = all_of IsFlushed ls (λ k l lt at. inl (idle_each ls none k l at))
