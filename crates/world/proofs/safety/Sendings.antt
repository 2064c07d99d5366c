-- Each message of a run was sent at an event, and delivered after it.
use Rattle.std.proofs.Common.{◌≡◌, ◌∙◌, ℕ, ◌<◌, ◌≤◌, ap, sym, refl, subst, arith, Bool, true, false, inl, inr, List, [], ◌∷◌, ◌++◌, length, Some, slice_get}
use Rattle.std.specs.Prelude.{nat_lt, ◌⊎◌}
use Rattle.std.proofs.lemmas.Bool.Decides.{nat_tests}
use Rattle.std.proofs.lemmas.Option.{slice_get_within}
use Rattle.messages.specs.declared.envelope.Envelope.{Envelope}
use Rattle.messages.specs.Topology.{TopologyValue}
use Rattle.world.specs.Run.{Run, RunEvent, Deliver, opening, step, continued, run}
use Rattle.world.specs.Collected.{WasSent}
use Rattle.world.proofs.safety.Runs.{run_after}
use Rattle.world.proofs.growing.Prefixes.{get_there, one_begins, number_later, sent_no_less, splits, accepted}
use Rattle.world.proofs.fresh.HeardRuns.{one_message, delivered_sent}

-- ## The event

-- the event of a list at which the message of this number is added to what a run has sent
record IsSentIn (top : TopologyValue) (w : Run) (k : ℕ) (events : List RunEvent) : Type 0 where
  before : List RunEvent
  event : RunEvent
  after : List RunEvent
  split : events ≡ before ++ event ∷ after
  not_sent : length (continued top w before).sent ≤ k
  by_then : k < length (step top (continued top w before) event).sent

above : (k n : ℕ) → nat_lt k n ≡ true → k < n
above k n e = grind (arith, nat_tests)

not_above : (k n : ℕ) → nat_lt k n ≡ false → n ≤ k
not_above k n e = grind (arith, nat_tests)

sent_in : (top : TopologyValue) (w : Run) (k : ℕ) (events : List RunEvent) → length w.sent ≤ k → k < length (continued top w events).sent
    → IsSentIn top w k events
sent_in top w k [] le lt = absurd (omega arith)
sent_in top w k (x ∷ xs) le lt = go (nat_lt k (length (step top w x).sent)) refl (λ le. sent_in top (step top w x) k xs le lt)
  where
    go : (b : Bool) → nat_lt k (length (step top w x).sent) ≡ b → (length (step top w x).sent ≤ k → IsSentIn top (step top w x) k xs)
        → IsSentIn top w k (x ∷ xs)
    go true e more =
        record {
          before = [];
          event = x;
          after = xs;
          split = refl;
          not_sent = le;
          by_then = above k (length (step top w x).sent) e;
        }
    go false e more =
        let r = more (not_above k (length (step top w x).sent) e) in
        record {
          before = x ∷ r.before;
          event = r.event;
          after = r.after;
          split = ap (λ l. x ∷ l) r.split;
          not_sent = r.not_sent;
          by_then = r.by_then;
        }

pub was_sent : (top : TopologyValue) (w : Run) → run top w.events ≡ w → (k : ℕ) → k < length w.sent
    → (before : List RunEvent) × (event : RunEvent) × WasSent top w k before event
was_sent top w replayed k lt =
    let r = sent_in top (opening top) k w.events (omega arith) (subst (λ (z : Run). k < length z.sent) (sym replayed) lt) in (
      r.before,
      r.event,
      record { after = r.after; sending = r.split; not_sent = r.not_sent; by_then = r.by_then },
    )

-- ## The message

-- it stood in the network after that event
pub sent_then : (top : TopologyValue) (w : Run) → run top w.events ≡ w → (k : ℕ) (e : Envelope) → slice_get w.sent k ≡ Some e
    → (before : List RunEvent) (event : RunEvent) → WasSent top w k before event → slice_get (step top (run top before) event).sent k ≡ Some e
sent_then top w replayed k e is before event was =
    let f = get_there (step top (run top before) event).sent k was.by_then in
    let whole = splits top w replayed before event was.after was.sending in
    let last : slice_get w.sent k ≡ Some f.0 =
    ap (λ (z : Run). slice_get z.sent k) (sym whole) ∙ number_later top (step top (run top before) event) was.after k f.0 f.1 in
    f.1 ∙ sym last ∙ is

-- and before each event that delivered it
pub sent_before : (top : TopologyValue) (w : Run) → run top w.events ≡ w → (k : ℕ) (e : Envelope) → slice_get w.sent k ≡ Some e
    → (before after : List RunEvent) → w.events ≡ before ++ Deliver k ∷ after → slice_get (run top before).sent k ≡ Some e
sent_before top w replayed k e is before after split =
    let f = delivered_sent top (run top before) k (accepted top w replayed before (Deliver k) after split) in
    f.1 ∙ ap Some (one_message top w replayed before (Deliver k) after split k e f.0 is f.1)

-- a message is sent before it is delivered
pub sent_first : (top : TopologyValue) (w : Run) → run top w.events ≡ w → (k : ℕ) (e : Envelope) → slice_get w.sent k ≡ Some e
    → (before : List RunEvent) (event : RunEvent) → WasSent top w k before event
    → (later after : List RunEvent) → w.events ≡ later ++ Deliver k ∷ after → (zs : List RunEvent) × (later ≡ before ++ zs)
sent_first top w replayed k e is before event was later after split =
    by (one_begins before (event ∷ was.after) later (Deliver k ∷ after) (sym was.sending ∙ split))
  where
    by : ((zs : List RunEvent) × (later ≡ before ++ zs)) ⊎ ((zs : List RunEvent) × (before ≡ later ++ zs)) → (zs : List RunEvent) × (later ≡ before ++ zs)
    by (inl first) = first
    by (inr (zs, q)) =
        let no_less = sent_no_less top (run top later) zs in
        let same : length (run top before).sent ≡ length (continued top (run top later) zs).sent =
        ap (λ (z : Run). length z.sent) (ap (run top) q ∙ run_after top (opening top) later zs) in
        let le = was.not_sent in
        let lt = slice_get_within (run top later).sent k e (sent_before top w replayed k e is later after split) in
        absurd (omega arith)
