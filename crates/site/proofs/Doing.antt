-- What a member's event made of the members.
use Rattle.std.proofs.Common.{◌≡◌, ℕ, zero, suc, List, [], ◌∷◌, slice_get, Option, Some, Result, Ok, Err, ◌⊎◌, refl, sym, ap}
use Rattle.std.specs.Prelude.{◌==◌, ◌&&◌, slice_set, slice_index_or, IfOk, IfErr, OnErr}
use Rattle.std.specs.List.{list_all}
use Rattle.logical_time.specs.declared.fault.Fault.{Fault}
use Rattle.logical_time.specs.declared.fault.Fault.TheVariants.{Memory}
use Rattle.messages.specs.declared.envelope.Envelope.{Envelope}
use Rattle.messages.specs.declared.outcome.Outcome.{Outcome}
use Rattle.messages.specs.declared.event.ActorEvent.{ActorEvent}
use Rattle.messages.specs.Topology.{TopologyValue}
use Rattle.actors.specs.CameFrom.{CameFrom}
use Rattle.actors.specs.Journals.{number_after}
use Rattle.actors.specs.Machines.{Refuses}
use Rattle.actors.specs.Members.{HasPast, GoesOn, HasSamePast}
use Rattle.actors.specs.declared.member.Member.{Member}
use Rattle.actors.specs.declared.member.Happened.{Happened}
use Rattle.site.specs.Keeping.{MemberDid, MemberRefused}

-- what stands at a place where something does
pub at_place : {A : Type 0} (xs : List A) (i : ℕ) (x z : A) → slice_get xs i ≡ Some z → x ≡ slice_index_or xs i x → slice_get xs i ≡ Some x
at_place [] i x z at is = absurd (cc)
at_place (y ∷ ys) zero x z at is = ap Some (sym is)
at_place (y ∷ ys) (suc i) x z at is = at_place ys i x z at is

module _ {M : Type 0} (came_from : CameFrom M) (untaken : M → Option (ℕ × Outcome)) (refuses : Refuses) (before : List (Option (Member M))) (place : ℕ) (event : ActorEvent) (sends : List Envelope) (old new : Member M)
    (at : slice_get before place ≡ Some (Some old)) (node : new.node ≡ old.node) where
  pub did : {F : Type 0} (r : Result Happened F) → IfOk r (λ h. GoesOn came_from untaken event h.ended sends old new)
      → IfOk r (λ h. h.sound ≡ (list_all (λ (e : Envelope). e.from == old.node) sends && list_all (λ (e : Envelope). e.time == new.clock) sends))
      → IfOk r (λ h. new.timed ≡ (old.timed && list_all (λ (e : Envelope). e.time == new.clock) sends))
      → ((top : TopologyValue) (js : List ActorEvent) (os : List (ℕ × Outcome)) (es : List Envelope) → HasPast came_from untaken top js os es old → IfOk r (λ h. h.number ≡ number_after js event))
      → IfOk r (λ h. MemberDid came_from untaken before place event h sends (slice_set before place (Some new)))
  did (Ok h) past sound timed number = record {
    old = old;
    new = new;
    at = at;
    set = refl;
    node = node;
    past = past;
    sound = sound;
    timed = timed;
    number = number;
  }
  did (Err e) past sound timed number = tt

  pub refused : {T : Type 0} (r : Result T (Fault × ActorEvent)) → OnErr r (HasSamePast came_from untaken old new) → OnErr r (new.timed ≡ old.timed)
      → ((top : TopologyValue) (js : List ActorEvent) (os : List (ℕ × Outcome)) (es : List Envelope) → HasPast came_from untaken top js os es old → IfErr r (λ e. (e.0 ≡ Memory) ⊎ refuses top old.node js event e.0))
      → IfErr r (λ e. MemberRefused came_from untaken refuses before place event e.0 (slice_set before place (Some new)))
  refused (Ok h) same still why = tt
  refused (Err e) same still why = record {
    old = old;
    new = new;
    at = at;
    set = refl;
    node = node;
    timed = still;
    past = same;
    refused = why;
  }
