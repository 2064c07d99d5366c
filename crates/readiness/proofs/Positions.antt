-- Turns at places.
use Rattle.std.proofs.Common.{◌≡◌, ℕ, ◌<◌, ◌==◌, List, [], ◌∷◌, ◌++◌, map, length, Option, Some, None, IfSome, refl, sym, ap, subst, ◌∙◌, inl, inr, arith}
use Rattle.std.specs.Prelude.{slice_get, slice_set, slice_index_or}
use Rattle.std.specs.List.{filter}
use Rattle.std.proofs.lemmas.Bool.{cases_eq, eq-eqb, ne_eqb}
use Rattle.std.proofs.lemmas.List.{map-append}
use Rattle.std.proofs.lemmas.List.Elements.{filter-append}
use Rattle.messages.specs.declared.op.Op.{Op}
use Rattle.wire.specs.Replies.{Reply}
use Rattle.front.specs.Ports.{Chain}
use Rattle.readiness.specs.declared.connection.Connection.{Connection}
use Rattle.readiness.specs.Lines.{ReadyValue}
use Rattle.readiness.specs.Exchanges.{Exchange, Entry, LogChain, only, requests, answers}
use Rattle.readiness.specs.Kept.{view}
use Rattle.readiness.specs.Turns.{Turned, IsBounded, IsOver}
use Rattle.readiness.specs.Places.{TurnedAt, PlaceTurned, Turns, AreBounded}
use Rattle.readiness.proofs.Lists.{get_set_same, get_set_other, set_set, set_same, got_within, place_is}
use Rattle.readiness.proofs.Turned.{extends-none, extends-then}

-- these exchanges, all of one place
abbrev pub tag : ℕ → List Exchange → List Entry
tag k more = map (λ (x : Exchange). record { place = k; exchange = x }) more

pub logged : {P : Type 0} (steps : ℕ → P → Op → Reply → P → Type 0) (k : ℕ) (p : P) (more : List Exchange) (q : P) → Chain (steps k) p (requests more) (answers more) q → LogChain steps p (tag k more) q
logged steps k p [] q h = h
logged steps k p (x ∷ more) q h = (h.0, h.1, logged steps k h.0 more q h.2)

pub log-then : {P : Type 0} (steps : ℕ → P → Op → Reply → P → Type 0) (p : P) (a : List Entry) (q : P) (b : List Entry) (r : P) → LogChain steps p a q → LogChain steps q b r → LogChain steps p (a ++ b) r
log-then steps p [] q b r h k = subst (λ (z : _). LogChain steps z b r) (sym h) k
log-then steps p (e ∷ a) q b r h k = (h.0, h.1, log-then steps h.0 a q b r h.2 k)

pub only-same : (j k : ℕ) (more : List Exchange) → j ≡ k → only j (tag k more) ≡ more
only-same j k [] e = refl
only-same j k (x ∷ more) e = rw (eq-eqb k j (sym e)) (ap (λ (xs : List Exchange). x ∷ xs) (only-same j k more e))

pub only-other : (j k : ℕ) (more : List Exchange) → (k ≡ j → ⊥) → only j (tag k more) ≡ []
only-other j k [] e = refl
only-other j k (x ∷ more) e = rw (ne_eqb k j e) (only-other j k more e)

pub only-append : (k : ℕ) (a b : List Entry) → only k (a ++ b) ≡ only k a ++ only k b
only-append k a b = ap (λ (log : List Entry). map (λ (e : Entry). e.exchange) log) (filter-append (λ (e : Entry). e.place == k) a b) ∙ map-append (λ (e : Entry). e.exchange) (filter (λ (e : Entry). e.place == k) a) (filter (λ (e : Entry). e.place == k) b)

pub place-none : {L : Type 0} (seen : L → ReadyValue) (x : Option (Option (Connection L))) → PlaceTurned seen [] x x
place-none seen None = (refl, refl)
place-none seen (Some None) = (refl, refl)
place-none seen (Some (Some c)) = extends-none (view seen c)

pub place-then : {L : Type 0} (seen : L → ReadyValue) (a b : List Exchange) (x y z : Option (Option (Connection L))) → PlaceTurned seen a x y → PlaceTurned seen b y z → PlaceTurned seen (a ++ b) x z
place-then {L = L} seen a b None y z h k =
    let t : PlaceTurned seen b None z = subst (λ (u : Option (Option (Connection L))). PlaceTurned seen b u z) h.0 k in
    (t.0, ap (λ (u : List Exchange). u ++ b) h.1 ∙ t.1)
place-then {L = L} seen a b (Some None) y z h k =
    let t : PlaceTurned seen b (Some None) z = subst (λ (u : Option (Option (Connection L))). PlaceTurned seen b u z) h.0 k in
    (t.0, ap (λ (u : List Exchange). u ++ b) h.1 ∙ t.1)
place-then seen a b (Some (Some c)) None z h k = absurd h
place-then seen a b (Some (Some c)) (Some None) z h k = absurd h
place-then seen a b (Some (Some c)) (Some (Some d)) None h k = absurd k
place-then seen a b (Some (Some c)) (Some (Some d)) (Some None) h k = absurd k
place-then seen a b (Some (Some c)) (Some (Some d)) (Some (Some e)) h k = extends-then a b (view seen c) (view seen d) (view seen e) h k

pub turns-none : {L : Type 0} {P : Type 0} (seen : L → ReadyValue) (steps : ℕ → P → Op → Reply → P → Type 0) (old : List (Option (Connection L))) (p : P) → (log : List Entry) × Turns seen steps log old p old p
turns-none {L = L} {P = P} seen steps old p = ([], record { chain = refl; places = λ k. place-none seen (slice_get old k) })

turns-then : {L : Type 0} {P : Type 0} (seen : L → ReadyValue) (steps : ℕ → P → Op → Reply → P → Type 0) (x : List (Option (Connection L))) (p : P) (y : List (Option (Connection L))) (q : P) (z : List (Option (Connection L))) (r : P)
    → ((log : List Entry) × Turns seen steps log x p y q) → ((log : List Entry) × Turns seen steps log y q z r) → (log : List Entry) × Turns seen steps log x p z r
turns-then seen steps x p y q z r h k = (
  h.0 ++ k.0,
  record {
    chain = log-then steps p h.0 q k.0 r h.1.chain k.1.chain;
    places = λ j. subst (λ (u : List Exchange). PlaceTurned seen u (slice_get x j) (slice_get z j)) (sym (only-append j h.0 k.0)) (place-then seen (only j h.0) (only j k.0) (slice_get x j) (slice_get y j) (slice_get z j) (h.1.places j) (k.1.places j));
  },
)

-- one place is changed, as these exchanges of its connection make it
turns-at : {L : Type 0} {P : Type 0} (seen : L → ReadyValue) (steps : ℕ → P → Op → Reply → P → Type 0) (old : List (Option (Connection L))) (at : ℕ) (p q : P) (c d : Connection L)
    → slice_get old at ≡ Some (Some c) → Turned (steps at) (view seen c) p (view seen d) q → (log : List Entry) × Turns seen steps log old p (slice_set old at (Some d)) q
turns-at {L = L} seen steps old at p q c d was turned = (
  tag at turned.0,
  record {
    chain = logged steps at p turned.0 q turned.1;
    places = λ j. elim (cases_eq at j) [
      | inl e ↦
          let here : slice_get (slice_set old at (Some d)) j ≡ Some (Some d) = subst (λ (i : ℕ). slice_get (slice_set old at (Some d)) i ≡ Some (Some d)) e (get_set_same old at (Some d) (got_within old at (Some c) was)) in
          let there : slice_get old j ≡ Some (Some c) = subst (λ (i : ℕ). slice_get old i ≡ Some (Some c)) e was in
          subst (λ (u : List Exchange). PlaceTurned seen u (slice_get old j) (slice_get (slice_set old at (Some d)) j)) (sym (only-same j at turned.0 (sym e)))
          (subst (λ (u : Option (Option (Connection L))). PlaceTurned seen turned.0 u (slice_get (slice_set old at (Some d)) j)) (sym there)
          (subst (λ (u : Option (Option (Connection L))). PlaceTurned seen turned.0 (Some (Some c)) u) (sym here) turned.2))
      | inr ne ↦
          subst (λ (u : List Exchange). PlaceTurned seen u (slice_get old j) (slice_get (slice_set old at (Some d)) j)) (sym (only-other j at turned.0 ne))
          (subst (λ (u : Option (Option (Connection L))). PlaceTurned seen [] (slice_get old j) u) (sym (get_set_other old at j (Some d) ne)) (place-none seen (slice_get old j)))
    ];
  },
)

-- one turn more
pub turns-more : {L : Type 0} {P : Type 0} (seen : L → ReadyValue) (steps : ℕ → P → Op → Reply → P → Type 0) (at : ℕ) (x : List (Option (Connection L))) (p : P) (y : List (Option (Connection L))) (q : P) (z : List (Option (Connection L))) (r : P)
    → ((log : List Entry) × Turns seen steps log x p y q) → TurnedAt seen steps at y q z r → (log : List Entry) × Turns seen steps log x p z r
turns-more {L = L} seen steps at x p y q z r h turned =
    elim turned [
      | inl e ↦
          subst (λ (u : List (Option (Connection L))). (log : List Entry) × Turns seen steps log x p u r) (sym e.0)
          (subst (λ (u : _). (log : List Entry) × Turns seen steps log x p y u) (sym e.1) h)
      | inr e ↦
          subst (λ (u : List (Option (Connection L))). (log : List Entry) × Turns seen steps log x p u r) (sym e.3)
          (turns-then seen steps x p y q (slice_set y at (Some e.1)) r h (turns-at seen steps y at q r e.0 e.1 e.2 e.4))
    ]

-- no steps yet
pub chain_none : {P : Type 0} (steps : ℕ → P → Op → Reply → P → Type 0) (p : P) → (log : List Entry) × LogChain steps p log p
chain_none steps p = ([], refl)

pub chain_then : {P : Type 0} (steps : ℕ → P → Op → Reply → P → Type 0) (p q r : P) → ((log : List Entry) × LogChain steps p log q) → ((log : List Entry) × LogChain steps q log r) → (log : List Entry) × LogChain steps p log r
chain_then steps p q r h k = (h.0 ++ k.0, log-then steps p h.0 q k.0 r h.1 k.1)

turned_chain : {L : Type 0} {P : Type 0} (seen : L → ReadyValue) (steps : ℕ → P → Op → Reply → P → Type 0) (at : ℕ) (y : List (Option (Connection L))) (q : P) (z : List (Option (Connection L))) (r : P) → TurnedAt seen steps at y q z r → (log : List Entry) × LogChain steps q log r
turned_chain seen steps at y q z r turned =
    elim turned [
      | inl e ↦ ([], sym e.1)
      | inr e ↦ (tag at e.4.0, logged steps at q e.4.0 r e.4.1)
    ]

-- the steps of one turn, behind which the port has settled, or hasn't
pub settled_chain : {L : Type 0} {P : Type 0} (seen : L → ReadyValue) (steps : ℕ → P → Op → Reply → P → Type 0) (at : ℕ) (y : List (Option (Connection L))) (q : P) (z : List (Option (Connection L))) (r s : P) → s ≡ r → TurnedAt seen steps at y q z r → (log : List Entry) × LogChain steps q log s
settled_chain {P = P} seen steps at y q z r s same turned = subst (λ (u : P). (log : List Entry) × LogChain steps q log u) (sym same) (turned_chain seen steps at y q z r turned)

-- a place is read and emptied, and the connection has a turn and is put back
pub turned_at : {L : Type 0} {P : Type 0} (seen : L → ReadyValue) (steps : ℕ → P → Op → Reply → P → Type 0) (old : List (Option (Connection L))) (at n : ℕ) (p q : P) (x left : Option (Connection L)) (c d : Connection L)
    → n ≡ length old → at < n → x ≡ slice_index_or old at x → x ≡ Some c → Turned (steps at) (view seen c) p (view seen d) q → TurnedAt seen steps at old p (slice_set (slice_set old at left) at (Some d)) q
turned_at seen steps old at n p q x left c d len lt is some h = inr (c, d, place_is old n at x (Some c) len lt is some, set_set old at left (Some d), h)

-- a place is read, and none stands there
pub none_at : {L : Type 0} (old : List (Option (Connection L))) (at n : ℕ) (x left : Option (Connection L)) → n ≡ length old → at < n → x ≡ slice_index_or old at x → x ≡ None → left ≡ None → slice_set old at left ≡ old
none_at {L = L} old at n x left len lt is some none = ap (λ (u : Option (Connection L)). slice_set old at u) none ∙ set_same old at None (place_is old n at x None len lt is some)

some_one : {A : Type 0} (x y : A) → Some (Some x) ≡ Some (Some y) → x ≡ y
some_one x y e = cc

bounded_at : {L : Type 0} (limit : ℕ) (seen : L → ReadyValue) (old : List (Option (Connection L))) (at : ℕ) (d : Connection L) → at < length old → IsBounded limit (view seen d) → AreBounded limit seen old → AreBounded limit seen (slice_set old at (Some d))
bounded_at {L = L} limit seen old at d lt bounded h k c is =
    elim (cases_eq at k) [
      | inl e ↦
          let here : slice_get (slice_set old at (Some d)) k ≡ Some (Some d) = subst (λ (i : ℕ). slice_get (slice_set old at (Some d)) i ≡ Some (Some d)) e (get_set_same old at (Some d) lt) in
          subst (λ (x : Connection L). IsBounded limit (view seen x)) (some_one d c (sym here ∙ is)) bounded
      | inr ne ↦ h k c (sym (get_set_other old at k (Some d) ne) ∙ is)
    ]

-- what waits is bounded as before, when the connection at a place has had a turn
pub bounded_turned : {L : Type 0} (limit : ℕ) (seen : L → ReadyValue) (old : List (Option (Connection L))) (at n : ℕ) (x left : Option (Connection L)) (c d : Connection L)
    → n ≡ length old → at < n → x ≡ slice_index_or old at x → x ≡ Some c → (IsBounded limit (view seen c) → IsBounded limit (view seen d)) → AreBounded limit seen old → AreBounded limit seen (slice_set (slice_set old at left) at (Some d))
bounded_turned {L = L} limit seen old at n x left c d len lt is some turned h =
    subst (λ (u : List (Option (Connection L))). AreBounded limit seen u) (sym (set_set old at left (Some d)))
    (bounded_at limit seen old at d (omega arith) (turned (h at c (place_is old n at x (Some c) len lt is some))) h)

-- a connection is taken off a place, where this one was found to be over
pub over_at : {L : Type 0} (seen : L → ReadyValue) (items : List (Option (Connection L))) (place : ℕ) (taken x : Option (Connection L)) (c : Connection L)
    → slice_get items place ≡ Some (Some c) → IsOver (view seen c) → taken ≡ x → x ≡ slice_index_or items place x → IfSome taken (λ d. (slice_get items place ≡ Some (Some d)) × IsOver (view seen d))
over_at seen items place None x c was over e is = tt
over_at {L = L} seen items place (Some d) x c was over e is =
    let there : slice_get items place ≡ Some (Some d) = place_is items (length items) place x (Some d) refl (got_within items place (Some c) was) is (sym e) in
    (there, subst (λ (u : Connection L). IsOver (view seen u)) (some_one c d (sym was ∙ there)) over)

-- what waits is bounded as before, where the places are the same
pub bounded_same : {L : Type 0} (limit : ℕ) (seen : L → ReadyValue) (old new : List (Option (Connection L))) → new ≡ old → AreBounded limit seen old → AreBounded limit seen new
bounded_same {L = L} limit seen old new same h = subst (λ (u : List (Option (Connection L))). AreBounded limit seen u) (sym same) h
