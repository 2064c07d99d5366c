-- Worked runs against forms that resemble what is promised of local answers.
use Rattle.std.proofs.Common.{◌≡◌, ◌∙◌, ℕ, zero, suc, ◌+◌, Bool, true, false, ◌||◌, ◌&&◌, not, List, [], ◌∷◌, Some, None, slice_get, ◌⊎◌, inl, inr, refl, sym, ap, subst, arith, eqb-true, eq-eqb}
use Rattle.std.specs.Prelude.{◌==◌, Contains}
use Rattle.std.specs.List.{list_any}
use Rattle.std.proofs.lemmas.Bool.{false≢true, and_parts}
use Rattle.std.proofs.lemmas.List.Folds.{Any-from_list_any}
use Rattle.messages.specs.declared.envelope.Envelope.{Envelope}
use Rattle.messages.specs.Topology.{TopologyValue, dc_of, home_of}
use Rattle.messages.specs.Session.{Open, Idle, is_idle}
use Rattle.shard.proofs.lists.Lists.{any_found}
use Rattle.shard.proofs.worked.Closed.{differ}
use Rattle.world.specs.Run.{Run}
use Rattle.world.specs.Quiet.{handled, WasHandled, IsQuietAmong}
use Rattle.world.specs.Local.{IsActorOf, IsLocallyQuiet, MovesAtMost}
use Rattle.world.specs.WorkedLocal.{moves_on, reads_away, asks_about}
use Rattle.world.specs.WorkedMoves.{one_mover}
use Rattle.world.specs.Lookalikes.{LocallyQuietMeansIdle, LocallyQuietAnswersAway, OwnMessagesAreEnough}
use Rattle.world.proofs.lists.Members.{contains_at}
use Rattle.world.proofs.worked.Closed.{not_there}

-- ## A run whose messages were handled, but for some

-- each message was handled, or passes the test
abbrev passes : List ℕ → (Envelope → Bool) → ℕ → List Envelope → Bool
passes hs test k [] = true
passes hs test k (e ∷ es) = (list_any (λ j. j == k) hs || test e) && passes hs test (k + 1) es

passed : (hs : List ℕ) (test : Envelope → Bool) (k : ℕ) (es : List Envelope) → passes hs test k es ≡ true → (i : ℕ) (e : Envelope) → slice_get es i ≡ Some e
    → Contains hs (k + i) ⊎ (test e ≡ true)
passed hs test k [] all i e is = absurd (cc)
passed hs test k (x ∷ es) all zero e is =
    let same : x ≡ e = cc in
    by (list_any (λ j. j == k) hs) refl (and_parts (list_any (λ j. j == k) hs || test x) (passes hs test (k + 1) es) all).0 same
  where
    by : (b : Bool) → list_any (λ j. j == k) hs ≡ b → (b || test x) ≡ true → x ≡ e → Contains hs (k + zero) ⊎ (test e ≡ true)
    by true q f same =
        let r = any_found (λ j. j == k) hs q in
        let at : r.0 ≡ k + zero = eqb-true r.0 k r.2 ∙ omega arith in
        inl (subst (λ z. Contains hs z) at r.1)
    by false q f same = inr (ap test (sym same) ∙ f)
passed hs test k (x ∷ es) all (suc i) e is =
    elim (passed hs test (k + 1) es (and_parts (list_any (λ j. j == k) hs || test x) (passes hs test (k + 1) es) all).1 i e is) [
      | inl m ↦ (let at : (k + 1) + i ≡ k + suc i = omega arith in inl (subst (λ z. Contains hs z) at m))
      | inr t ↦ inr t
    ]

-- each message but those was handled
handled_but : (w : Run) (test : Envelope → Bool) → passes (handled w) test 0 w.sent ≡ true → (e : Envelope) → Contains w.sent e → (test e ≡ true → ⊥) → WasHandled w e
handled_but w test all e m apart =
    let g = contains_at w.sent e m in
    let at : 0 + g.0 ≡ g.0 = omega arith in
    elim (passed (handled w) test 0 w.sent all g.0 e g.1) [ inl has ↦ (g.0, subst (λ z. Contains (handled w) z) at has, g.1) | inr t ↦ absurd (apart t) ]

-- ## Two data centres of one shard each

-- it is from the second data centre's shard, or for it
abbrev far : Envelope → Bool
far e = (e.to == 1) || (e.from == 1)

not_here : IsActorOf one_mover 0 1 → ⊥
not_here (inl is) = differ (λ (n : ℕ). n) 1 0 refl is.1
not_here (inr is) = not_there (home_of one_mover 1) 0 refl is

quiet_here : (w : Run) → passes (handled w) far 0 w.sent ≡ true → IsLocallyQuiet one_mover 0 w
quiet_here w all e m from to = handled_but w far all e m (λ t. by (e.to == 1) refl t)
  where
    by : (b : Bool) → (e.to == 1) ≡ b → (b || (e.from == 1)) ≡ true → ⊥
    by true q t = not_here (subst (λ n. IsActorOf one_mover 0 n) (eqb-true e.to 1 q) to)
    by false q t = not_here (subst (λ n. IsActorOf one_mover 0 n) (eqb-true e.from 1 t) from)

pub moves_stay : ¬ (LocallyQuietMeansIdle one_mover moves_on 0 2)
moves_stay all = false≢true (ap is_idle (all (quiet_here moves_on refl) refl refl))

pub away : ¬ (LocallyQuietAnswersAway one_mover reads_away 0 2)
away all = (all (quiet_here reads_away refl) refl).current

-- ## One data centre of two shards

-- it is neither from session 3 nor for it
abbrev of_others : Envelope → Bool
of_others e = not (e.from == 3) && not (e.to == 3)

pub own_messages : ¬ (OwnMessagesAreEnough asks_about 3)
own_messages all =
    (all (λ e m its.
    handled_but asks_about of_others refl e m
    (λ t.
    let p = and_parts (not (e.from == 3)) (not (e.to == 3)) t in
    elim its [
      | inl from ↦ false≢true (sym (ap not (eq-eqb e.from 3 from)) ∙ p.0)
      | inr to ↦ false≢true (sym (ap not (eq-eqb e.to 3 to)) ∙ p.1)
    ]))).current
