-- The ranks and the costs of lists of messages.
use Rattle.std.proofs.Common.{◌≡◌, ℕ, ◌+◌, ◌*◌, ◌<◌, ◌≤◌, List, [], ◌∷◌, ◌++◌, map, length, inl, inr, sym, subst, arith}
use Rattle.std.specs.Prelude.{Contains}
use Rattle.std.proofs.lemmas.List.Sums.{sum_by-cons, sum_by-append}
use Rattle.messages.specs.declared.body.Body.{Body}
use Rattle.messages.specs.declared.body.Body.TheVariants.{Begin, Prepare, Yes, Commit, At, NotBy, Check, Read, ReadAt, ReplBegin, ReplPart, Notify, PrepareRemote, DepCheck, DepOk, Done, PartNow, PartAt}
use Rattle.messages.specs.declared.envelope.Envelope.{Envelope}
use Rattle.messages.specs.Topology.{TopologyValue}
use Rattle.world.specs.Drains.{rank, Sizes, cost, cost_of_all}
use Rattle.world.proofs.lists.Members.{none_in_empty, contains_one, Contains-append_cases, mapped_from}

-- ## Ranks

-- all of these are of a lower rank
abbrev pub Low : ℕ → List Envelope → Type 0
Low r es = (e : Envelope) → Contains es e → rank e.body < r

pub low_none : (r : ℕ) → Low r []
low_none r e m = absurd (none_in_empty e m)

pub low_one : (r : ℕ) (e : Envelope) → rank e.body < r → Low r (e ∷ [])
low_one r e lt u m = subst (λ (z : Envelope). rank z.body < r) (sym (contains_one e u m)) lt

pub low_map : {X : Type 0} (r : ℕ) (f : X → Envelope) (xs : List X) → ((x : X) → rank (f x).body < r) → Low r (map f xs)
low_map r f xs lt u m = let x = mapped_from f xs u m in subst (λ (z : Envelope). rank z.body < r) (sym x.2) (lt x.0)

pub low_both : (r : ℕ) (xs ys : List Envelope) → Low r xs → Low r ys → Low r (xs ++ ys)
low_both r xs ys f g u m = elim (Contains-append_cases xs ys u m) [ inl o ↦ f u o | inr o ↦ g u o ]

-- ## Costs

pub cost_some : (top : TopologyValue) (s : Sizes) (b : Body) → 0 < cost top s b
cost_some top s (Read number read) = omega arith
cost_some top s (PartNow number rows) = omega arith
cost_some top s (ReadAt number time read) = omega arith
cost_some top s (Check txn time) = omega arith
cost_some top s (At txn commit stamp) = omega arith
cost_some top s (Commit txn commit stamp) = omega arith
cost_some top s (ReplBegin cohorts txn rows stamp dependencies) = omega arith
cost_some top s (ReplPart txn rows stamp coordinator) = omega arith
cost_some top s (DepCheck dependency waiter) = omega arith
cost_some top s (Notify txn) = omega arith
cost_some top s (DepOk dependency waiter commit) = omega arith
cost_some top s (PrepareRemote txn) = omega arith
cost_some top s (Prepare txn rows coordinator) = omega arith
cost_some top s (NotBy txn time) = omega arith
cost_some top s (Begin txn rows cohorts dependencies) = omega arith
cost_some top s (Yes txn) = omega arith
cost_some top s (Done txn commit stamp) = omega arith
cost_some top s (PartAt number time answer) = omega arith

module _ (top : TopologyValue) (s : Sizes) where
  pub cost_each : {X : Type 0} (f : X → Envelope) (m : ℕ) (xs : List X) → ((x : X) → cost top s (f x).body ≤ m) → cost_of_all top s (map f xs) ≤ length xs * m
  cost_each f m [] le = omega arith
  cost_each f m (x ∷ xs) le =
      let split = sum_by-cons (λ (e : Envelope). cost top s e.body) (f x) (map f xs) in
      let first = le x in
      let rest = cost_each f m xs le in
      omega arith

  pub cost_both : (xs ys : List Envelope) → cost_of_all top s (xs ++ ys) ≡ cost_of_all top s xs + cost_of_all top s ys
  cost_both xs ys = sum_by-append (λ (e : Envelope). cost top s e.body) xs ys

  pub cost_cons : (e : Envelope) (es : List Envelope) → cost_of_all top s (e ∷ es) ≡ cost top s e.body + cost_of_all top s es
  cost_cons e es = sum_by-cons (λ (e : Envelope). cost top s e.body) e es

  pub cost_three : (xs ys zs : List Envelope) (k l m : ℕ) → cost_of_all top s xs ≤ k → cost_of_all top s ys ≤ l → cost_of_all top s zs ≤ m
      → cost_of_all top s (xs ++ ys ++ zs) ≤ k + l + m
  cost_three xs ys zs k l m f g h = let split = cost_both (xs ++ ys) zs in let rest = cost_both xs ys in omega arith
