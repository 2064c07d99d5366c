-- A request, from its start to its answer.
use Rattle.std.proofs.Common.{◌≡◌, ◌∙◌, ℕ, suc, ◌⊎◌, List, [], ◌∷◌, ◌++◌, length, slice_get, Option, Some, None, inl, inr, refl, sym, ap, subst, add-one, eq-eqb}
use Rattle.std.specs.Prelude.{filter_map, slice_set, Contains, Result, Ok, Err, OnOk}
use Rattle.logical_time.specs.declared.fault.Fault.{Fault}
use Rattle.logical_time.specs.declared.fault.Fault.TheVariants.{Busy}
use Rattle.messages.specs.declared.op.Op.{Op}
use Rattle.messages.specs.declared.outcome.Outcome.{Outcome}
use Rattle.messages.specs.declared.event.ActorEvent.{ActorEvent}
use Rattle.messages.specs.declared.event.ActorEvent.TheVariants.{Submit}
use Rattle.actors.specs.Journals.{op_in, submissions}
use Rattle.actors.specs.Machines.{Refuses}
use Rattle.site.specs.Story.{Story, Happening, Did, event_of, journal, outcomes}
use Rattle.site.specs.Sites.{SiteValue}
use Rattle.site.proofs.Lists.{get_set, get_elsewhere, same_or_not, mapped_more}
use Rattle.site_port.specs.declared.waiting.Late.{Late}
use Rattle.site_port.specs.declared.waiting.Waiting.{Waiting}
use Rattle.site.specs.Ends.{op_at}
use Rattle.site_port.specs.Ends.{end_by, end_in, ends_in, GoesOnWith, AreTold}
use Rattle.site_port.specs.Port.{PortValue, HasSubmittedAs, HasBegun, IsAnswer, IsTaken, AreEnds, Holds}
use Rattle.site_port.proofs.Lists.{get_mid, length_set}
use Rattle.site_port.proofs.Going.{WentOn, went_then, did_one, op_went, told_ends, told_its, turns_went, turns_ends, stopped_went, stopped_ends}

-- ## The submission

next_op : (s : Story) (node : ℕ) (h : Happening) (x : ActorEvent) (o : Op) → event_of node h ≡ Some x → op_in x ≡ Some o → op_at (s ++ h ∷ []) node (suc (submissions (journal s node))) ≡ Some o
next_op s node h x o is submits =
    let parts : filter_map op_in (journal (s ++ h ∷ []) node) ≡ filter_map op_in (journal s node) ++ o ∷ [] =
    ap (filter_map op_in) (mapped_more (event_of node) s h (Some x) is) ∙ mapped_more op_in (journal s node) x (Some o) submits in
    subst (λ l. slice_get l (length (filter_map op_in (journal s node))) ≡ Some o) (sym parts) (get_mid (filter_map op_in (journal s node)) o [])

did_event : (node : ℕ) (x : ActorEvent) (sends : List _) (ended : Option (ℕ × Outcome)) → event_of node (Did node x sends ended) ≡ Some x
did_event node x sends ended = rw (eq-eqb node node refl) refl

module _ (node : ℕ) (a : SiteValue) (o : Op) (number : ℕ) (late : List Late) (told : Option Outcome) (b : SiteValue) (kept : List Late) (s : HasSubmittedAs node a o number late told b kept) where
  abbrev the_one : Happening
  the_one = Did node (Submit o) s.sends s.ended

  submit_goes : GoesOnWith a (the_one ∷ []) b
  submit_goes = subst (λ z. GoesOnWith a (the_one ∷ []) z) (sym s.went) (record { topology = refl; dc = refl; story = refl; sound = λ q. q })

  submit_went : WentOn a b
  submit_went = did_one a b the_one tt submit_goes

  submit_op : op_at b.story node number ≡ Some o
  submit_op =
      subst (λ z. op_at z node number ≡ Some o) (sym submit_goes.story)
      (subst (λ n. op_at (a.story ++ the_one ∷ []) node n ≡ Some o) (sym (s.numbered ∙ add-one (submissions (journal a.story node))))
      (next_op a.story node the_one (Submit o) o (did_event node (Submit o) s.sends s.ended) refl))

  submit_told : AreTold (Some (node, number)) (ends_in (the_one ∷ [])) late told kept
  submit_told = subst (λ z. AreTold (Some (node, number)) z late told kept) (sym (mapped_more end_in [] the_one (end_by node s.ended) refl)) s.is_told

  submit_ends : AreEnds a.story late → AreEnds b.story kept
  submit_ends e = told_ends a b (the_one ∷ []) submit_goes (Some (node, number)) late told kept submit_told e

-- ## The whole

pub record Began (node number : ℕ) (a : SiteValue) (o : Op) (late : List Late) (told : Result (Option Outcome) Fault) (b : SiteValue) (kept : List Late) : Type 0 where
  pub on : WentOn a b
  pub op : op_at b.story node number ≡ Some o
  pub ends : AreEnds a.story late → AreEnds b.story kept
  pub its : (outcome : Outcome) → told ≡ Ok (Some outcome) → Contains (outcomes b.story node) (number, outcome)

same_told : (told : Option Outcome) (outcome : Outcome) → ◌≡◌ {A = Result (Option Outcome) Fault} (Ok told) (Ok (Some outcome)) → told ≡ Some outcome
same_told told outcome q = cc

not_both : (fault : Fault) (outcome : Outcome) → ◌≡◌ {A = Result (Option Outcome) Fault} (Err fault) (Ok (Some outcome)) → ⊥
not_both fault outcome q = cc

pub begun : (refuses : Refuses) (node : ℕ) (a : SiteValue) (o : Op) (number : ℕ) (late : List Late) (told : Result (Option Outcome) Fault) (b : SiteValue) (kept : List Late) → HasBegun refuses node a o number late told b kept
    → Began node number a o late told b kept
begun refuses node a o number late (Ok told) b kept (inl (some, s)) =
    record {
      on = submit_went node a o number late told b kept s;
      op = submit_op node a o number late told b kept s;
      ends = submit_ends node a o number late told b kept s;
      its = λ outcome q. told_its a b (the_one node a o number late told b kept s ∷ []) (submit_goes node a o number late told b kept s) node number late outcome kept
          (subst (λ t. AreTold (Some (node, number)) (ends_in (the_one node a o number late told b kept s ∷ [])) late t kept) (same_told told outcome q) (submit_told node a o number late told b kept s));
    }
begun refuses node a o number late (Ok told) b kept (inr (between, ends, s, t)) =
    record {
      on = went_then a between b (submit_went node a o number late None between ends s) on_turns;
      op = op_went between b node number o on_turns (submit_op node a o number late None between ends s);
      ends = λ e. turns_ends (Some (node, number)) 1000000 between b ends kept told t (submit_ends node a o number late None between ends s e);
      its = λ outcome q. told_its between b t.happened t.went node number ends outcome kept
          (subst (λ r. AreTold (Some (node, number)) (ends_in t.happened) ends r kept) (same_told told outcome q) t.is_told);
    }
  where
    on_turns : WentOn between b
    on_turns = turns_went (Some (node, number)) 1000000 between b ends kept told t
begun refuses node a o number late (Err fault) b kept (between, ends, s, t) =
    record {
      on = went_then a between b (submit_went node a o number late None between ends s) on_turns;
      op = op_went between b node number o on_turns (submit_op node a o number late None between ends s);
      ends = λ e. stopped_ends refuses (Some (node, number)) between b ends kept fault t (submit_ends node a o number late None between ends s e);
      its = λ outcome q. absurd (not_both fault outcome q);
    }
  where
    on_turns : WentOn between b
    on_turns = stopped_went refuses (Some (node, number)) between b ends kept fault t

-- ## What is open at a place

pub holds_put : (b : SiteValue) (sessions : List ℕ) (waits : List (Option Waiting)) (late : List Late) (place node : ℕ) (y z : Option Waiting) → Holds b sessions waits late → slice_get sessions place ≡ Some node → slice_get waits place ≡ Some z
    → ((v : Waiting) (o : Op) → y ≡ Some v → v.op ≡ Some o → op_at b.story node v.number ≡ Some o) → Holds b sessions (slice_set waits place y) late
holds_put b sessions waits late place node y z h session there right =
    record {
      sessions_are = h.sessions_are;
      places = length_set waits place y ∙ h.places;
      submitted = λ p n v o at is has. by (same_or_not place p) n v o at is has;
      ended = h.ended;
    }
  where
    by : {p : ℕ} → (place ≡ p) ⊎ (place ≡ p → ⊥) → (n : ℕ) (v : Waiting) (o : Op) → slice_get sessions p ≡ Some n → slice_get (slice_set waits place y) p ≡ Some (Some v) → v.op ≡ Some o → op_at b.story n v.number ≡ Some o
    by {p} (inl q) n v o at is has =
        let put : slice_get (slice_set waits place y) place ≡ Some y = get_set waits place y z there in
        let put_p : slice_get (slice_set waits place y) p ≡ Some y = subst (λ j. slice_get (slice_set waits place y) j ≡ Some y) q put in
        let session_p : slice_get sessions p ≡ Some node = subst (λ j. slice_get sessions j ≡ Some node) q session in
        let same_y : y ≡ Some v = cc in
        let same_n : node ≡ n = cc in
        subst (λ m. op_at b.story m v.number ≡ Some o) same_n (right v o same_y has)
    by {p} (inr ne) n v o at is has = h.submitted p n v o at (sym (get_elsewhere waits place p y ne) ∙ is) has

-- ## Answers

pub taken_told : (refuses : Refuses) (place node number : ℕ) (v old new : PortValue) (o : Op) (told : Result (Option Outcome) Fault) (outcome : Outcome) → v ≡ old → HasBegun refuses node v.site o number v.late told new.site new.late
    → told ≡ Ok (Some outcome) → new.waiting ≡ v.waiting → new.behind ≡ v.behind → IsTaken refuses place node old o (Ok outcome) new
taken_told refuses place node number v old new o told outcome view b is waits still =
    subst (λ p. IsTaken refuses place node p o (Ok outcome) new) view
    (record { number = number; told = told; begun = b; answered = subst (λ t. IsAnswer place number o v.waiting t (Ok outcome) new.waiting) (sym is) (refl, waits); still = still })

pub taken_busy : (refuses : Refuses) (place node number : ℕ) (v old new : PortValue) (o : Op) (told : Result (Option Outcome) Fault) (fault : Fault) → v ≡ old → HasBegun refuses node v.site o number v.late told new.site new.late
    → told ≡ Ok None → fault ≡ Busy → new.waiting ≡ slice_set v.waiting place (Some (record { number = number; op = Some o })) → new.behind ≡ v.behind → IsTaken refuses place node old o (Err fault) new
taken_busy refuses place node number v old new o told fault view b is busy waits still =
    subst (λ p. IsTaken refuses place node p o (Err fault) new) view
    (record { number = number; told = told; begun = b; answered = subst (λ t. IsAnswer place number o v.waiting t (Err fault) new.waiting) (sym is) (ap Err busy, waits); still = still })

pub taken_fault : (refuses : Refuses) (place node number : ℕ) (v old new : PortValue) (o : Op) (told : Result (Option Outcome) Fault) (fault : Fault) → v ≡ old → HasBegun refuses node v.site o number v.late told new.site new.late
    → told ≡ Err fault → new.waiting ≡ slice_set v.waiting place (Some (record { number = number; op = Some o })) → new.behind ≡ v.behind → IsTaken refuses place node old o (Err fault) new
taken_fault refuses place node number v old new o told fault view b is waits still =
    subst (λ p. IsTaken refuses place node p o (Err fault) new) view
    (record { number = number; told = told; begun = b; answered = subst (λ t. IsAnswer place number o v.waiting t (Err fault) new.waiting) (sym is) (refl, waits); still = still })

pub on_told : (told : Result (Option Outcome) Fault) (outcome : Outcome) (P : Type 0) → told ≡ Ok (Some outcome) → OnOk told P → P
on_told told outcome P is on = subst (λ t. OnOk t P) is on

pub waits_right : (b : SiteValue) (node : ℕ) (o : Op) (w : Waiting) → w.op ≡ Some o → op_at b.story node w.number ≡ Some o → (v : Waiting) (x : Op) → Some w ≡ Some v → v.op ≡ Some x → op_at b.story node v.number ≡ Some x
waits_right b node o w is at v x q has =
    let same : w ≡ v = cc in
    let it : Some o ≡ Some x = sym is ∙ ap (λ (z : Waiting). z.op) same ∙ has in
    subst (λ (z : Waiting). op_at b.story node z.number ≡ Some x) same (at ∙ it)
