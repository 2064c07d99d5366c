-- What a step adds to the journals: its event to its own actor's, and to no other.
use Rattle.std.proofs.Common.{append-nil, ◌≡◌, ◌∙◌, ℕ, Bool, true, false, List, [], ◌∷◌, ◌++◌, Option, Some, None, ◌⊎◌, inl, inr, refl, sym, ap, subst, slice_get, eqb-true, eq-eqb}
use Rattle.std.specs.Prelude.{◌==◌, if◌then◌else◌, filter_map, option_and_then, Contains}
use Rattle.std.specs.List.{cons_option}
use Rattle.std.proofs.lemmas.Bool.{false≢true}
use Rattle.std.proofs.lemmas.List.Elements.{filter_map-append}
use Rattle.messages.specs.declared.envelope.Envelope.{Envelope}
use Rattle.messages.specs.declared.event.ActorEvent.{ActorEvent}
use Rattle.messages.specs.declared.event.ActorEvent.TheVariants.{Handle}
use Rattle.messages.specs.Topology.{TopologyValue}
use Rattle.messages.specs.Actors.{ActorStep}
use Rattle.world.specs.Run.{Run, RunEvent, Submit, Deliver, Collect}
use Rattle.world.specs.Journals.{event_at, journal_in}
use Rattle.world.proofs.lists.Members.{contains_first, contains_rest, last_or_old}
use Rattle.world.proofs.growing.Prefixes.{get_first}
use Rattle.world.proofs.steps.Moves.{KnowsNumber, Moves}

-- two numbers that differ, in either order
pub apart_too : (n m : ℕ) → (n == m) ≡ false → (m == n) ≡ false
apart_too n m apart = by (m == n) refl
  where
    by : (b : Bool) → (m == n) ≡ b → b ≡ false
    by false q = refl
    by true q = absurd (false≢true (sym apart ∙ eq-eqb n m (sym (eqb-true m n q))))

-- each message that was delivered was sent
abbrev pub AreKnown : Run → Type 0
AreKnown w = (k : ℕ) → Contains w.events (Deliver k) → (e : Envelope) × (slice_get w.sent k ≡ Some e)

pub same_told : {X Y : Type 0} (f g : X → Option Y) (xs : List X) → ((x : X) → Contains xs x → f x ≡ g x) → filter_map f xs ≡ filter_map g xs
same_told f g [] e = refl
same_told f g (x ∷ xs) e = ap (λ o. cons_option o (filter_map f xs)) (e x (contains_first x xs)) ∙ ap (cons_option (g x)) (same_told f g xs (λ y m. e y (contains_rest x y xs m)))

module _ {top : TopologyValue} {w v : Run} {ev : RunEvent} {n : ℕ} {x : ActorEvent} {s : ActorStep} (f : Moves top w v ev n x s) (known : AreKnown w) where
  known_go : (k : ℕ) → Contains w.events (Deliver k) ⊎ (Deliver k ≡ ev) → (e : Envelope) × (slice_get w.sent k ≡ Some e)
  known_go k (inl m) = known k m
  known_go k (inr q) = f.known k (sym q)

  pub known_later : AreKnown v
  known_later k m =
      let e = known_go k (last_or_old (Deliver k) ev w.events (subst (λ l. Contains l (Deliver k)) f.events m)) in
      (e.0, ap (λ l. slice_get l k) f.sent ∙ get_first w.sent s.sends k e.0 e.1)

  same_at : (m : ℕ) (y : RunEvent) → KnowsNumber w y → event_at v m y ≡ event_at w m y
  same_at m (Submit session o) k = refl
  same_at m (Deliver j) k =
      let e = k j refl in
      ap (option_and_then (λ (z : Envelope). if z.to == m then Some (Handle z) else None)) ((ap (λ l. slice_get l j) f.sent ∙ get_first w.sent s.sends j e.0 e.1) ∙ sym e.1)
  same_at m (Collect shard time) k = refl

  pub journal_later : (m : ℕ) → journal_in v m ≡ journal_in w m ++ cons_option (if n == m then Some x else None) []
  journal_later m =
      ap (filter_map (event_at v m)) f.events ∙ filter_map-append (event_at v m) w.events (ev ∷ [])
      ∙ ap (λ l. l ++ cons_option (event_at v m ev) []) (same_told (event_at v m) (event_at w m) w.events (λ y i. same_at m y (λ k q. known k (subst (λ z. Contains w.events z) q i))))
      ∙ ap (λ o. journal_in w m ++ cons_option o []) (same_at m ev f.known ∙ f.told m)

  pub journal_here : journal_in v n ≡ journal_in w n ++ x ∷ []
  journal_here = journal_later n ∙ ap (λ b. journal_in w n ++ cons_option (if b then Some x else None) []) (eq-eqb n n refl)

  pub journal_there : (m : ℕ) → (n == m) ≡ false → journal_in v m ≡ journal_in w m
  journal_there m apart =
      journal_later m ∙ ap (λ b. journal_in w m ++ cons_option (if b then Some x else None) []) apart ∙ append-nil (journal_in w m)
