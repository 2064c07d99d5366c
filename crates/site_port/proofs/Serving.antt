-- A request at a place, by what is open there.
use Rattle.std.proofs.Common.{◌≡◌, ◌∙◌, ℕ, zero, suc, ◌<◌, ◌≤◌, true, List, [], ◌∷◌, ◌++◌, length, slice_get, Option, Some, None, inl, inr, refl, sym, ap, subst}
use Rattle.std.specs.Prelude.{get_or, slice_set, Contains, Ok, Err}
use Rattle.std.proofs.lemmas.List.Elements.{All-append}
use Rattle.std.proofs.lemmas.Option.{slice_get_past, slice_get-get_or}
use Rattle.logical_time.specs.declared.fault.Fault.TheVariants.{Busy}
use Rattle.messages.specs.declared.op.Op.{Op}
use Rattle.messages.specs.declared.outcome.Outcome.{Outcome}
use Rattle.wire.specs.Replies.{Reply}
use Rattle.actors.specs.Machines.{Refuses}
use Rattle.site.specs.Story.{Story, outcomes}
use Rattle.site.specs.Sites.{SiteValue}
use Rattle.site_port.specs.declared.waiting.Late.{Late}
use Rattle.site_port.specs.declared.waiting.Waiting.{Waiting}
use Rattle.site.specs.Ends.{op_at}
use Rattle.site_port.specs.Port.{PortValue, Asks, HasTaken, AsksAt, IsItsEnd, IsStep, AreEnds, Holds}
use Rattle.site_port.proofs.Lists.{get_mid, all_at, all_first, all_rest, set_back}
use Rattle.site_port.proofs.Going.{WentOn, went_same}
use Rattle.site_port.proofs.Begun.{holds_put}

-- ## What is there

-- what was taken out of a place was there
pub at_place : {X : Type 0} (xs : List X) (n : ℕ) (item taken : X) → n < length xs → item ≡ get_or xs n item → taken ≡ item → slice_get xs n ≡ Some taken
at_place xs n item taken lt is same = slice_get-get_or xs n item lt ∙ ap Some (sym (same ∙ is))

set_same : {X : Type 0} (xs : List X) (i : ℕ) (z : X) → slice_get xs i ≡ Some z → slice_set xs i z ≡ xs
set_same [] i z at = refl
set_same (x ∷ xs) zero z at = (let same : x ≡ z = cc in ap (λ w. w ∷ xs) (sym same))
set_same (x ∷ xs) (suc i) z at = ap (λ l. x ∷ l) (set_same xs i z at)

-- ## An end that is taken

abbrev IsIn : Story → Late → Type 0
IsIn s l = Contains (outcomes s l.session) (l.number, l.outcome)

taken_ended : (s : Story) (node number : ℕ) (outcome : Outcome) (late rest : List Late) → AreEnds s late → HasTaken node number late (Some outcome) rest → Contains (outcomes s node) (number, outcome)
taken_ended s node number outcome late rest e (before, after, is, now) =
    all_at (IsIn s) (before ++ record { session = node; number = number; outcome = outcome } ∷ after) (length before) (record { session = node; number = number; outcome = outcome })
    (get_mid before (record { session = node; number = number; outcome = outcome }) after) (subst (λ z. AreEnds s z) is e)

taken_rest : (s : Story) (node number : ℕ) (outcome : Outcome) (late rest : List Late) → AreEnds s late → HasTaken node number late (Some outcome) rest → AreEnds s rest
taken_rest s node number outcome late rest e (before, after, is, now) =
    let all = subst (λ z. AreEnds s z) is e in
    subst (λ z. AreEnds s z) (sym now)
    (All-append (IsIn s) before after (all_first (IsIn s) before (record { session = node; number = number; outcome = outcome } ∷ after) all)
    (all_rest (IsIn s) (record { session = node; number = number; outcome = outcome } ∷ []) after (all_rest (IsIn s) before (record { session = node; number = number; outcome = outcome } ∷ after) all)))

pub holds_taken : (b : SiteValue) (sessions : List ℕ) (waits : List (Option Waiting)) (late rest : List Late) (place node number : ℕ) (outcome : Outcome) (y z : Option Waiting) → Holds b sessions waits late → slice_get sessions place ≡ Some node
    → slice_get waits place ≡ Some z → y ≡ None → HasTaken node number late (Some outcome) rest → Holds b sessions (slice_set waits place y) rest
holds_taken b sessions waits late rest place node number outcome y z h session there none taken =
    let put = holds_put b sessions waits late place node y z h session there (λ v o q has. absurd (no_wait v q)) in
    record { sessions_are = put.sessions_are; places = put.places; submitted = put.submitted; ended = taken_rest b.story node number outcome late rest h.ended taken }
  where
    no_wait : (v : Waiting) → y ≡ Some v → ⊥
    no_wait v q = cc

pub holds_back : (b : SiteValue) (sessions : List ℕ) (waits : List (Option Waiting)) (late rest : List Late) (place node number : ℕ) (y z : Option Waiting) → Holds b sessions waits late → slice_get waits place ≡ Some z
    → HasTaken node number late None rest → Holds b sessions (slice_set (slice_set waits place y) place z) rest
holds_back b sessions waits late rest place node number y z h there taken =
    subst (λ ws. Holds b sessions ws rest) (sym (set_back waits place y z there)) (subst (λ l. Holds b sessions waits l) (sym taken.1) h)

-- ## Steps

module _ (refuses : Refuses) (place : ℕ) (v old : PortValue) (o : Op) (sessions : List ℕ) (view : v ≡ old) (h : Holds v.site sessions v.waiting v.late) where
  pub step_past : length sessions ≤ place → IsStep refuses place old o (Err Busy) old
  step_past le =
      subst (λ p. IsStep refuses place p o (Err Busy) p) view
      (record { serves = inl (subst (λ l. slice_get l place ≡ None) h.sessions_are (slice_get_past sessions place le), refl, refl); ends = tt; on = went_same v.site v.site refl })

  module _ (node : ℕ) (session : slice_get sessions place ≡ Some node) where
    served : (answer : Reply) (new : PortValue) → AsksAt refuses place node v o answer new → IsItsEnd place new o answer → WentOn v.site new.site → IsStep refuses place old o answer new
    served answer new asks ends on =
        subst (λ p. IsStep refuses place p o answer new) view
        (record { serves = inr (inr (node, subst (λ l. slice_get l place ≡ Some node) h.sessions_are session, asks)); ends = ends; on = on })

    -- nothing is open
    pub step_free : (taken y : Option Waiting) (answer : Reply) (new : PortValue) → slice_get v.waiting place ≡ Some taken → taken ≡ None → y ≡ None → Asks refuses place node (record v { waiting = slice_set v.waiting place y }) o answer new
        → IsItsEnd place new o answer → WentOn v.site new.site → IsStep refuses place old o answer new
    step_free taken y answer new there is none asks ends on =
        let free : slice_get v.waiting place ≡ Some None = there ∙ ap Some is in
        let same : slice_set v.waiting place y ≡ v.waiting = set_same v.waiting place y (there ∙ ap Some (is ∙ sym none)) in
        served answer new (inl (free, subst (λ ws. Asks refuses place node (record v { waiting = ws }) o answer new) same asks)) ends on

    -- the operation hasn't ended
    pub step_open : (taken y : Option Waiting) (w : Waiting) (late : List Late) → slice_get v.waiting place ≡ Some taken → taken ≡ Some w → HasTaken node w.number v.late None late
        → IsStep refuses place old o (Err Busy) (record v { waiting = slice_set (slice_set v.waiting place y) place (Some w); late = late })
    step_open taken y w late there is none_taken =
        let at : slice_get v.waiting place ≡ Some (Some w) = there ∙ ap Some is in
        subst (λ ws. IsStep refuses place old o (Err Busy) (record v { waiting = ws; late = late })) (sym (set_back v.waiting place y (Some w) at))
        (subst (λ l. IsStep refuses place old o (Err Busy) (record v { late = l })) (sym none_taken.1)
        (served (Err Busy) v (inr (w, at, inl ((none_taken.0, refl), refl, refl))) tt (went_same v.site v.site refl)))

    -- it has, and is told
    pub step_told : (taken y : Option Waiting) (w : Waiting) (outcome : Outcome) (late : List Late) → slice_get v.waiting place ≡ Some taken → taken ≡ Some w → y ≡ None → HasTaken node w.number v.late (Some outcome) late → w.op ≡ Some o
        → v.site.sound ≡ true → IsStep refuses place old o (Ok outcome) (record v { waiting = slice_set v.waiting place y; late = late })
    step_told taken y w outcome late there is none is_taken same sound =
        let at : slice_get v.waiting place ≡ Some (Some w) = there ∙ ap Some is in
        subst (λ z. IsStep refuses place old o (Ok outcome) (record v { waiting = slice_set v.waiting place z; late = late })) (sym none)
        (served (Ok outcome) (record v { waiting = slice_set v.waiting place None; late = late }) (inr (w, at, inr (outcome, late, is_taken, inl (same, refl, refl)))) (
          node,
          w.number,
          subst (λ l. slice_get l place ≡ Some node) h.sessions_are session,
          record {
            submitted = h.submitted place node w o session at same;
            ended = taken_ended v.site.story node w.number outcome v.late late h.ended is_taken;
          },
          sound,
        )
        (went_same v.site v.site refl))

    -- it has, and another is asked for
    pub step_other : (taken y : Option Waiting) (w : Waiting) (outcome : Outcome) (late : List Late) (answer : Reply) (new : PortValue) → slice_get v.waiting place ≡ Some taken → taken ≡ Some w → y ≡ None
        → HasTaken node w.number v.late (Some outcome) late → (w.op ≡ Some o → ⊥) → Asks refuses place node (record v { waiting = slice_set v.waiting place y; late = late }) o answer new
        → IsItsEnd place new o answer → WentOn v.site new.site → IsStep refuses place old o answer new
    step_other taken y w outcome late answer new there is none is_taken other asks ends on =
        let at : slice_get v.waiting place ≡ Some (Some w) = there ∙ ap Some is in
        served answer new
        (inr (w, at, inr (outcome, late, is_taken, inr (other, subst (λ z. Asks refuses place node (record v { waiting = slice_set v.waiting place z; late = late }) o answer new) none asks))))
        ends on
