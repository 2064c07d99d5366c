-- Seats get what a script asks of their actors.
use Rattle.std.proofs.Common.{◌≡◌, ◌∙◌, ℕ, zero, suc, ◌+◌, ◌<◌, ◌≤◌, true, List, [], ◌∷◌, ◌++◌, length, take, drop, set, get_or, Option, Some, inl, inr, refl, sym, ap, arith}
use Rattle.std.specs.List.{slice_get}
use Rattle.std.proofs.lemmas.List.{append-nil, length-set}
use Rattle.std.proofs.lemmas.Bool.Decides.{eqb_tells}
use Rattle.std.proofs.lemmas.Option.{slice_get_within, slice_get-get_or}
use Rattle.messages.specs.Topology.{node_count}
use Rattle.actors.specs.Seats.{SeatValue}
use Rattle.links.specs.Links.{may_exchange}
use Rattle.actors.specs.Building.{ring_to, ring_from, AreNewSeats}
use Rattle.actors.proofs.Lists.{here, set_at, set_away}
use Rattle.workload.specs.declared.script.ScriptEvent.{ScriptEvent}
use Rattle.workload.specs.declared.script.Script.{Script}
use Rattle.running.specs.Asked.{asked_in}
use Rattle.running.proofs.ToldMore.{drop_past}
use Rattle.running.specs.Loaded.{with_asked, HaveAsked, IsLoadedSeat, AreLoadedSeats}

-- so it is of the seats before a place, and the others are as they were
pub record HaveFirstAsked (events : List ScriptEvent) (old now : List SeatValue) (place : ℕ) : Type 0 where
  pub count : length now ≡ length old
  pub loaded : (k : ℕ) (s : SeatValue) → k < place → slice_get old k ≡ Some s → slice_get now k ≡ Some (with_asked events s)
  pub waiting : (k : ℕ) → place ≤ k → slice_get now k ≡ slice_get old k

pub none_asked : (events : List ScriptEvent) (seats : List SeatValue) → HaveFirstAsked events seats seats 0
none_asked events seats = record { count = refl; loaded = λ k s lt at. absurd (omega (arith, lt)); waiting = λ k le. refl }

-- one seat more
pub one_more_asked : (events : List ScriptEvent) (old now : List SeatValue) (place : ℕ) (d n : SeatValue) → place < length now → d ≡ get_or now place d
    → n ≡ with_asked events d → HaveFirstAsked events old now place → HaveFirstAsked events old (set now place n) (place + 1)
one_more_asked events old now place d n lt is given first =
    record { count = length-set now place n ∙ first.count; loaded = loaded; waiting = waiting }
  where
    loaded : (k : ℕ) (s : SeatValue) → k < place + 1 → slice_get old k ≡ Some s → slice_get (set now place n) k ≡ Some (with_asked events s)
    loaded k s before at = elim (eqb_tells k place) [ inl same ↦ this same.1 | inr away ↦ other away.1 ]
      where
        this : k ≡ place → slice_get (set now place n) k ≡ Some (with_asked events s)
        this same =
            let le : place ≤ place = omega arith in
            let both : Some s ≡ Some d = sym at ∙ ap (slice_get old) same ∙ sym (first.waiting place le) ∙ here now place d lt is in
            let one : s ≡ d = cc in
            ap (slice_get (set now place n)) same ∙ set_at now place n lt ∙ ap Some (given ∙ ap (with_asked events) (sym one))

        other : (k ≡ place → ⊥) → slice_get (set now place n) k ≡ Some (with_asked events s)
        other away =
            let less : k < place = omega (arith, before, away) in
            set_away now place k n away ∙ first.loaded k s less at

    waiting : (k : ℕ) → place + 1 ≤ k → slice_get (set now place n) k ≡ slice_get old k
    waiting k le =
        let away : k ≡ place → ⊥ = λ same. omega (arith, same, le) in
        set_away now place k n away ∙ first.waiting k (omega (arith, le))

pub all_asked : (events : List ScriptEvent) (old now : List SeatValue) (place : ℕ) → length now ≤ place → HaveFirstAsked events old now place → HaveAsked events old now
all_asked events old now place le first =
    let count = first.count in
    record {
      count = count;
      each = λ k s at. let lt = slice_get_within old k s at in first.loaded k s (omega (arith, lt, le, count)) at;
    }

-- new seats with what the script asks of them
pub new_asked : (s : Script) (ring limit : ℕ) (old new : List SeatValue) → AreNewSeats s.topology ring limit (node_count s.topology) old → HaveAsked s.events old new
    → AreLoadedSeats s ring limit new
new_asked s ring limit old new are have = record { all = have.count ∙ are.all; each = each; one_ring = one_ring }
  where
    -- what a seat had been before it was asked
    before : (node : ℕ) (seat : SeatValue) → slice_get new node ≡ Some seat → (b : SeatValue) × (slice_get old node ≡ Some b) × (seat ≡ with_asked s.events b)
    before node seat at =
        let lt = slice_get_within new node seat at in
        let count = have.count in
        let shorter : node < length old = omega (arith, lt, count) in
        let b = get_or old node seat in
        let some : slice_get old node ≡ Some b = slice_get-get_or old node seat shorter in
        let both : Some seat ≡ Some (with_asked s.events b) = sym at ∙ have.each node b some in
        let same : seat ≡ with_asked s.events b = cc in
        (b, some, same)

    one_ring : (a b : ℕ) (x y : SeatValue) → slice_get new a ≡ Some x → slice_get new b ≡ Some y → may_exchange s.topology a b ≡ true → ring_to x.outgoing b ≡ ring_from y.incoming a
    one_ring a b x y at_a at_b may =
        let (u, was_u, x_is) = before a x at_a in
        let (v, was_v, y_is) = before b y at_b in
        ap (λ (z : SeatValue). ring_to z.outgoing b) x_is ∙ are.one_ring a b u v was_u was_v may ∙ ap (λ (z : SeatValue). ring_from z.incoming a) (sym y_is)

    each : (node : ℕ) (seat : SeatValue) → slice_get new node ≡ Some seat → IsLoadedSeat s ring limit node seat
    each node seat at =
        let (b, some, same) = before node seat at in
        let is = are.each node b some in
        record {
          empty = b;
          is_new = is;
          loaded =
              same ∙ ap (λ l. let r : SeatValue = record b { backlog = l } in r)
              (ap (λ (z : SeatValue). z.backlog ++ asked_in z.node s.events) is);
        }

-- what is left in a list whose elements were written to through a slice
pub written_back : {X : Type 0} (new old : List X) (n : ℕ) → length new ≡ length old → n ≡ length old → take n (new ++ drop (length new) old) ≡ new
written_back new old n count is =
    let le : length old ≤ length new = omega (arith, count) in
    ap (λ l. take n (new ++ l)) (drop_past old (length new) le) ∙ ap (take n) (append-nil new) ∙ all_taken new n (is ∙ sym count)
  where
    all_taken : {X : Type 0} (xs : List X) (n : ℕ) → n ≡ length xs → take n xs ≡ xs
    all_taken [] zero is = refl
    all_taken [] (suc n) is = refl
    all_taken (x ∷ xs) zero is = absurd (omega (arith, is))
    all_taken (x ∷ xs) (suc n) is = ap (λ l. x ∷ l) (all_taken xs n (omega (arith, is)))
