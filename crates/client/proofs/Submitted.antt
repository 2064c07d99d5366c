-- An accepted operation is the machine's step at a submission, and a refused one is refused as by the machine.
use Rattle.std.proofs.Common.{◌≡◌, ◌∙◌, ℕ, ◌+◌, ◌^◌, ◌<◌, max, Bool, true, false, ap, refl, sym, subst, List, [], ◌∷◌, ◌++◌, map, Option, Some, None, append-nil, arith}
use Rattle.std.specs.Prelude.{nat_lt, if◌then◌else◌, Result, Ok, Err, ◌≤◌, IsOk, IfErr}
use Rattle.std.proofs.lemmas.Bool.Decides.{nat_tests}
use Rattle.std.proofs.lemmas.Bool.{false≢true}
use Rattle.logical_time.specs.declared.fault.Fault.{Fault}
use Rattle.logical_time.specs.Stamps.{WriterValue}
use Rattle.messages.specs.declared.envelope.Envelope.{Envelope}
use Rattle.messages.specs.declared.op.Op.{Op}
use Rattle.messages.specs.declared.op.Op.TheVariants as op
use Rattle.messages.specs.Clock.{ticked, on_clock}
use Rattle.messages.specs.Topology.{TopologyValue}
use Rattle.messages.specs.Words.{in_writer_order}
use Rattle.messages.specs.Session.{SessionState, SessionStep, is_idle}
use Rattle.messages.specs.Submitting.{begun, move_if, check_of, busy_or, plan_fault, submit_fault, submit_if, session_submit}
use Rattle.client.specs.declared.kept.SessionKept.{SessionKept}
use Rattle.client.specs.Accepted.{fault_of, settled, leaves, accepted, posted}
use Rattle.client.specs.Current.{open_of}
use Rattle.client.specs.Represents.{Represents, IsStep, IsStepOf, IsRefusalOf}
use Rattle.client.specs.State.{dependencies_of, state_of, topology_of}
use Rattle.dependencies.proofs.Ordered.{ordered_stay}

-- a topology with what is kept of it
abbrev pub kept_in : SessionKept → List ℕ → TopologyValue
kept_in k homes = record { dcs = k.home.dcs; shards = k.home.shards; schema = k.schema; homes = homes }

pub ticked_some : (clock time n : ℕ) → n ≡ max clock time + 1 → n < 2 ^ 48 → ticked clock time ≡ Some n
ticked_some clock time n e lt = go (nat_lt (max clock time + 1) (2 ^ 48)) (grind (arith, nat_tests))
  where
    go : (b : Bool) → b ≡ true → (if b then Some (max clock time + 1) else None) ≡ Some n
    go true h = ap Some (sym e)
    go false h = absurd (cc)

same_plan : (k : SessionKept) (homes : List ℕ) (o : Op) → plan_fault (kept_in k homes) k.home.dc o ≡ plan_fault (topology_of k) k.home.dc o
same_plan k homes (op.Batch batch) = refl
same_plan k homes (op.Read read) = refl
same_plan k homes (op.Move dc) = refl

same_fault : (k : SessionKept) (homes : List ℕ) (o : Op) → submit_fault (kept_in k homes) (state_of k) o ≡ submit_fault (topology_of k) (state_of k) o
same_fault k homes o = ap (busy_or (is_idle (open_of k.current))) (same_plan k homes o)

ordered_kept : (k : SessionKept) → dependencies_of k ≡ in_writer_order (dependencies_of k ++ [])
ordered_kept k = sym (ap in_writer_order (append-nil (dependencies_of k)) ∙ ordered_stay (k.dependencies ++ k.added))

-- a move that is accepted, by what it asks for
left_stands : (ws : List WriterValue) (k : SessionKept) (homes : List ℕ) (n dc : ℕ)
    → Represents (leaves ws (settled k) n (record k.home { dc = dc })) (kept_in k homes) (move_if ws (kept_in k homes) k.node n (state_of k) dc).state
left_stands [] k homes n dc = record {
  topology = refl;
  state = ap (λ ds. record (state_of (leaves [] (settled k) n (record k.home { dc = dc }))) { dependencies = ds }) (ordered_kept k);
  current = tt;
  ordered = ordered_stay (k.dependencies ++ k.added);
}
left_stands (w ∷ ws) k homes n dc = record {
  topology = refl;
  state = ap (λ ds. record (state_of (leaves (w ∷ ws) (settled k) n (record k.home { dc = dc }))) { dependencies = ds }) (ordered_kept k);
  current = (refl, refl, refl);
  ordered = ordered_stay (k.dependencies ++ k.added);
}

begun_stands : (k : SessionKept) (homes : List ℕ) (n : ℕ) (o : Op) → Represents (accepted k n o) (kept_in k homes) (begun (kept_in k homes) k.node n (state_of k) o).state
begun_stands k homes n (op.Batch batch) = record {
  topology = refl;
  state = ap (λ ds. record (state_of (accepted k n (op.Batch batch))) { dependencies = ds }) (ordered_kept k);
  current = refl;
  ordered = ordered_stay (k.dependencies ++ k.added);
}
begun_stands k homes n (op.Read read) = record {
  topology = refl;
  state = ap (λ ds. record (state_of (accepted k n (op.Read read))) { dependencies = ds }) (ordered_kept k);
  current = (refl, refl, refl);
  ordered = ordered_stay (k.dependencies ++ k.added);
}
begun_stands k homes n (op.Move dc) = left_stands (dependencies_of k) k homes n dc

left_sends : (ws : List WriterValue) (k : SessionKept) (homes : List ℕ) (n dc : ℕ)
    → (move_if ws (kept_in k homes) k.node n (state_of k) dc).sends ≡ map (check_of (topology_of k) k.node n (state_of k) dc) ws
left_sends [] k homes n dc = refl
left_sends (w ∷ ws) k homes n dc = refl

begun_sends : (k : SessionKept) (homes : List ℕ) (n : ℕ) (o : Op)
    → (begun (kept_in k homes) k.node n (state_of k) o).sends ≡ posted k n o
begun_sends k homes n (op.Batch batch) = refl
begun_sends k homes n (op.Read read) = refl
begun_sends k homes n (op.Move dc) = left_sends (dependencies_of k) k homes n dc

accepts : (k : SessionKept) (homes : List ℕ) (n : ℕ) (o : Op) → fault_of k o ≡ None → ticked k.clock k.clock ≡ Some n
    → session_submit (kept_in k homes) k.node (state_of k) o ≡ Ok (begun (kept_in k homes) k.node n (state_of k) o)
accepts k homes n o allowed time =
    ap (λ f. submit_if f (kept_in k homes) k.node (state_of k) o) (same_fault k homes o ∙ allowed)
    ∙ ap (λ t. on_clock t (λ m. begun (kept_in k homes) k.node m (state_of k) o)) time

kept_step : (k : SessionKept) (homes : List ℕ) (n : ℕ) (o : Op) (before : List Envelope)
    → IsStep (begun (kept_in k homes) k.node n (state_of k) o) (kept_in k homes) (accepted k n o) before (before ++ posted k n o)
kept_step k homes n o before =
    record {
      state = begun_stands k homes n o;
      sends = ap (λ es. before ++ es) (sym (begun_sends k homes n o));
    }

kept_accepts : (k : SessionKept) (homes : List ℕ) (n : ℕ) (o : Op) (before : List Envelope) → fault_of k o ≡ None
    → ticked k.clock k.clock ≡ Some n
    → IsStepOf (session_submit (kept_in k homes) k.node (state_of k) o) (kept_in k homes) (accepted k n o) before (before ++ posted k n o)
kept_accepts k homes n o before allowed time =
    subst (λ r. IsStepOf r (kept_in k homes) (accepted k n o) before (before ++ posted k n o)) (sym (accepts k homes n o allowed time))
    (kept_step k homes n o before)

pub submitted : (k l : SessionKept) (before after : List Envelope) (o : Op) → fault_of k o ≡ None → max k.clock k.clock + 1 < 2 ^ 48
    → l ≡ accepted k (max k.clock k.clock + 1) o → after ≡ before ++ posted k (max k.clock k.clock + 1) o
    → (top : TopologyValue) (a : SessionState) → Represents k top a → IsStepOf (session_submit top k.node a o) top l before after
submitted k l before after o allowed lt state sends top a r =
    let n = max k.clock k.clock + 1 in
    subst (λ m. IsStepOf (session_submit top k.node a o) top m before after) (sym state)
    (subst (λ es. IsStepOf (session_submit top k.node a o) top (accepted k n o) before es) (sym sends)
    (subst (λ t. IsStepOf (session_submit t k.node a o) t (accepted k n o) before (before ++ posted k n o)) (sym r.topology)
    (subst (λ b. IsStepOf (session_submit (kept_in k top.homes) k.node b o) (kept_in k top.homes) (accepted k n o) before (before ++ posted k n o)) (sym r.state)
    (kept_accepts k top.homes n o before allowed (ticked_some k.clock k.clock n refl lt)))))

refused_if : (f : Option Fault) (t : Option ℕ) (e : Fault) (x y : ℕ → SessionStep) (P : Option Fault → Result SessionStep Fault)
    (Q : Option Fault → Result SessionStep Fault) → ((g : Fault) → P (Some g) ≡ Err g) → ((g : Fault) → Q (Some g) ≡ Err g) → P None ≡ on_clock t x → Q None ≡ on_clock t y
    → IsRefusalOf (P f) e → IsRefusalOf (Q f) e
refused_if (Some g) t e x y P Q p q pn qn h = subst (λ r. IsRefusalOf r e) (sym (q g)) (subst (λ r. IsRefusalOf r e) (p g) h)
refused_if None None e x y P Q p q pn qn h = subst (λ r. IsRefusalOf r e) (sym qn) (subst (λ r. IsRefusalOf r e) pn h)
refused_if None (Some n) e x y P Q p q pn qn h = subst (λ r. IsRefusalOf r e) (sym qn) (subst (λ r. IsRefusalOf r e) pn h)

kept_refuses : (k : SessionKept) (homes : List ℕ) (o : Op) (e : Fault)
    → IsRefusalOf (session_submit (topology_of k) k.node (state_of k) o) e → IsRefusalOf (session_submit (kept_in k homes) k.node (state_of k) o) e
kept_refuses k homes o e h =
    subst (λ f. IsRefusalOf (submit_if f (kept_in k homes) k.node (state_of k) o) e) (sym (same_fault k homes o))
    (refused_if (fault_of k o) (ticked k.clock k.clock) e (λ n. begun (topology_of k) k.node n (state_of k) o) (λ n. begun (kept_in k homes) k.node n (state_of k) o)
    (λ f. submit_if f (topology_of k) k.node (state_of k) o) (λ f. submit_if f (kept_in k homes) k.node (state_of k) o)
    (λ g. refl) (λ g. refl) refl refl h)

pub submit_refused : (k : SessionKept) (o : Op) (e : Fault) → IsRefusalOf (session_submit (topology_of k) k.node (state_of k) o) e
    → (top : TopologyValue) (a : SessionState) → Represents k top a → IsRefusalOf (session_submit top k.node a o) e
submit_refused k o e h top a r =
    subst (λ t. IsRefusalOf (session_submit t k.node a o) e) (sym r.topology)
    (subst (λ b. IsRefusalOf (session_submit (kept_in k top.homes) k.node b o) e) (sym r.state) (kept_refuses k top.homes o e h))

-- ## Whether it would be accepted

spent_none : (clock : ℕ) → 2 ^ 48 ≤ max clock clock + 1 → ticked clock clock ≡ None
spent_none clock le = go (nat_lt (max clock clock + 1) (2 ^ 48)) (grind (arith, nat_tests))
  where
    go : (b : Bool) → b ≡ false → (if b then Some (max clock clock + 1) else None) ≡ None
    go false h = refl
    go true h = absurd (cc)

pub would_accept : (k : SessionKept) (o : Op) → fault_of k o ≡ None → max k.clock k.clock + 1 < 2 ^ 48 → IsOk (session_submit (topology_of k) k.node (state_of k) o)
would_accept k o allowed lt =
    subst IsOk
    (sym (ap (λ f. submit_if f (topology_of k) k.node (state_of k) o) allowed ∙ ap (λ t. on_clock t (λ n. begun (topology_of k) k.node n (state_of k) o)) (ticked_some k.clock k.clock (max k.clock k.clock + 1) refl lt)))
    refl

-- the machine's step at a submission, whatever of the topology isn't kept
ends_alike : (f : Option Fault) (t : Option ℕ) (x y : ℕ → SessionStep) (P Q : Option Fault → Result SessionStep Fault) → ((g : Fault) → P (Some g) ≡ Err g)
    → ((g : Fault) → Q (Some g) ≡ Err g) → P None ≡ on_clock t x → Q None ≡ on_clock t y → (IsOk (P f) → IsOk (Q f)) × ((e : Fault) → P f ≡ Err e → Q f ≡ Err e)
ends_alike (Some g) t x y P Q p q pn qn =
    (λ h. absurd (false≢true (subst IsOk (p g) h)), λ e h. q g ∙ sym (p g) ∙ h)
ends_alike None None x y P Q p q pn qn =
    (λ h. absurd (false≢true (subst IsOk pn h)), λ e h. qn ∙ sym pn ∙ h)
ends_alike None (Some n) x y P Q p q pn qn =
    (λ h. subst IsOk (sym qn) refl, λ e h. absurd (let z = sym pn ∙ h in cc))

stands_alike : (k : SessionKept) (o : Op) (top : TopologyValue) (a : SessionState) → Represents k top a
    → (IsOk (session_submit (topology_of k) k.node (state_of k) o) → IsOk (session_submit top k.node a o))
    × ((e : Fault) → session_submit (topology_of k) k.node (state_of k) o ≡ Err e → session_submit top k.node a o ≡ Err e)
stands_alike k o top a r =
    subst (λ t. Alike (session_submit t k.node a o)) (sym r.topology)
    (subst (λ b. Alike (session_submit (kept_in k top.homes) k.node b o)) (sym r.state)
    (subst (λ f. Alike (submit_if f (kept_in k top.homes) k.node (state_of k) o)) (sym (same_fault k top.homes o))
    (ends_alike (fault_of k o) (ticked k.clock k.clock) (λ n. begun (topology_of k) k.node n (state_of k) o) (λ n. begun (kept_in k top.homes) k.node n (state_of k) o)
    (λ f. submit_if f (topology_of k) k.node (state_of k) o) (λ f. submit_if f (kept_in k top.homes) k.node (state_of k) o)
    (λ g. refl) (λ g. refl) refl refl)))
  where
    Alike : Result SessionStep Fault → Type 0
    Alike s =
        (IsOk (session_submit (topology_of k) k.node (state_of k) o) → IsOk s)
        × ((e : Fault) → session_submit (topology_of k) k.node (state_of k) o ≡ Err e → s ≡ Err e)

pub refused_so : {X : Type 0} (r : Result X Fault) (k : SessionKept) (o : Op) → IfErr r (λ e. session_submit (topology_of k) k.node (state_of k) o ≡ Err e)
    → (top : TopologyValue) (a : SessionState) → Represents k top a → IfErr r (λ e. session_submit top k.node a o ≡ Err e)
refused_so (Ok x) k o h top a is = tt
refused_so (Err e) k o h top a is = (stands_alike k o top a is).1 e h
