-- A session is always in a data centre that there is: only accepted moves change its home.
use Rattle.std.proofs.Common.{◌≡◌, ◌∙◌, refl, sym, ap, subst, arith, ℕ, ◌<◌, Bool, true, false, List, [], ◌∷◌, nat_lt, None}
use Rattle.std.specs.Prelude.{◌==◌, filter, if◌then◌else◌, Contains}
use Rattle.std.proofs.lemmas.Bool.Decides.{nat_tests}
use Rattle.messages.specs.declared.op.Op.{Op}
use Rattle.messages.specs.declared.op.Op.TheVariants as op
use Rattle.messages.specs.declared.outcome.Outcome.{Outcome}
use Rattle.messages.specs.declared.outcome.Outcome.TheVariants as outcome
use Rattle.messages.specs.Topology.{TopologyValue, is_topology}
use Rattle.messages.specs.Actors.{opening_home, home_after, home_before}
use Rattle.messages.specs.Session.{Finished}
use Rattle.messages.specs.Submitting.{move_fault_if, plan_fault}
use Rattle.world.specs.Run.{Run, RunEvent, Completed, run}
use Rattle.world.specs.Journals.{finished_as, ended_at}
use Rattle.world.specs.Promises.{Fits}
use Rattle.world.proofs.lists.Members.{contains_first, contains_rest, mapped_from, filter_contains}
use Rattle.world.proofs.safety.Invariant.{Inv}
use Rattle.world.proofs.envelopes.Addresses.{stands}
use Rattle.world.proofs.safety.Runs.{every_run}

-- ## Outcomes

-- a move is to a data centre that there is
abbrev IsThere : ℕ → Outcome → Type 0
IsThere dcs (outcome.Moved dc floor) = dc < dcs
IsThere dcs (outcome.Wrote commit stamp) = Unit {0}
IsThere dcs (outcome.Read time answer) = Unit {0}
IsThere dcs outcome.Collected = Unit {0}

after_there : (dcs home : ℕ) (o : Outcome) → home < dcs → IsThere dcs o → home_after home o < dcs
after_there dcs home (outcome.Moved dc floor) lt there = there
after_there dcs home (outcome.Wrote commit stamp) lt there = lt
after_there dcs home (outcome.Read time answer) lt there = lt
after_there dcs home outcome.Collected lt there = lt

before_there : (dcs home : ℕ) (fs : List Finished) (n : ℕ) → home < dcs → ((f : Finished) → Contains fs f → IsThere dcs f.outcome) → home_before home fs n < dcs
before_there dcs home [] n lt there = lt
before_there dcs home (f ∷ fs) n lt there = before_there dcs (if nat_lt f.number n then home_after home f.outcome else home) fs n (by (nat_lt f.number n)) (λ g i. there g (contains_rest f g fs i))
  where
    by : (b : Bool) → (if b then home_after home f.outcome else home) < dcs
    by true = after_there dcs home f.outcome lt (there f (contains_first f fs))
    by false = lt

-- ## Accepted moves

accepted_there : (top : TopologyValue) (home dc : ℕ) → plan_fault top home (op.Move dc) ≡ None → dc < top.dcs
accepted_there top home dc none = go (nat_lt dc top.dcs) refl none
  where
    below : (m n : ℕ) → nat_lt m n ≡ true → m < n
    below m n e = grind (arith, nat_tests)

    go : (b : Bool) → nat_lt dc top.dcs ≡ b → move_fault_if b (dc == home) ≡ None → dc < top.dcs
    go true e q = below dc top.dcs e
    go false e q = absurd (cc)

ended_there : (top : TopologyValue) (home : ℕ) (o : Op) (r : Outcome) → Fits o r → plan_fault top home o ≡ None → IsThere top.dcs r
ended_there top home (op.Batch batch) (outcome.Wrote commit stamp) fits none = tt
ended_there top home (op.Read read) (outcome.Read time answer) fits none = tt
ended_there top home (op.Read read) outcome.Collected fits none = tt
ended_there top home (op.Move dc) (outcome.Moved there floor) fits none = subst (λ z. z < top.dcs) (sym fits) (accepted_there top home dc none)
ended_there top home (op.Batch batch) (outcome.Read time answer) fits none = absurd fits
ended_there top home (op.Batch batch) outcome.Collected fits none = absurd fits
ended_there top home (op.Batch batch) (outcome.Moved there floor) fits none = absurd fits
ended_there top home (op.Read read) (outcome.Wrote commit stamp) fits none = absurd fits
ended_there top home (op.Read read) (outcome.Moved there floor) fits none = absurd fits
ended_there top home (op.Move dc) (outcome.Wrote commit stamp) fits none = absurd fits
ended_there top home (op.Move dc) (outcome.Read time answer) fits none = absurd fits
ended_there top home (op.Move dc) outcome.Collected fits none = absurd fits

-- what ended in a run moved to data centres that there are
all_there : (top : TopologyValue) (w : Run) → Inv top w → (node : ℕ) (f : Finished) → Contains (ended_at w node) f → IsThere top.dcs f.outcome
all_there top w inv node f m =
    let own = filter (λ (z : Completed). z.node == node) w.transcript in
    let c = mapped_from finished_as own f m in
    let among = (filter_contains (λ (z : Completed). z.node == node) w.transcript c.0 c.1).0 in
    let k = inv.transcript c.0 among in
    let o = k.opened in
    let none = inv.submitted.accepted o.submission o.among in
    subst (λ (z : Finished). IsThere top.dcs z.outcome) (sym c.2)
    (ended_there top o.submission.home c.0.op c.0.outcome k.fits (ap (plan_fault top o.submission.home) (sym o.op) ∙ none))

-- ## Runs

pub home_is_there : (top : TopologyValue) (events : List RunEvent) → is_topology top.dcs top.shards top.homes ≡ true → (node n : ℕ)
    → home_before (opening_home top node) (ended_at (run top events) node) n < top.dcs
home_is_there top events ok node n =
    let s = stands top ok in
    let w = run top events in
    before_there top.dcs (opening_home top node) (ended_at w node) n (s.home node) (all_there top w (every_run top events s.some) node)
