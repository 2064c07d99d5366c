-- What a session hears of what its open move asked for is the machine's step.
use Rattle.std.proofs.Common.{◌≡◌, ◌∙◌, ℕ, max, Bool, true, false, ap, refl, sym, List, [], ◌∷◌}
use Rattle.std.specs.Prelude.{◌&&◌}
use Rattle.logical_time.specs.Stamps.{TxnValue, WriterValue}
use Rattle.messages.specs.declared.envelope.Envelope.{Envelope}
use Rattle.messages.specs.Words.{is_same_txn}
use Rattle.messages.specs.SessionEvents as machine
use Rattle.dependencies.specs.Moving.{MoveValue, none_left}
use Rattle.dependencies.specs.MoveTaken.{counted_if, move_taken_if}
use Rattle.client.specs.declared.kept.SessionKept.{SessionKept}
use Rattle.client.specs.declared.current.Current.{Current}
use Rattle.client.specs.declared.current.Current.TheVariants as now
use Rattle.client.specs.Current.{open_of}
use Rattle.client.specs.Home.{HomeValue}
use Rattle.client.specs.Represents.{FitsIn}
use Rattle.client.specs.State.{state_of}
use Rattle.client.specs.Steps as steps
use Rattle.client.proofs.Heard.{IsOrdered, Does, calms}
use Rattle.client.proofs.Submitted.{kept_in}

-- the topology stays as it is where a session moves
still_there : (k : SessionKept) (homes : List ℕ) (home : HomeValue) → home.dcs ≡ k.home.dcs → home.shards ≡ k.home.shards
    → kept_in k homes ≡ record (kept_in k homes) { dcs = home.dcs; shards = home.shards }
still_there k homes home dcs shards =
    ap (λ d. record (kept_in k homes) { dcs = d }) (sym dcs) ∙ ap (λ s. record (kept_in k homes) { dcs = home.dcs; shards = s }) (sym shards)

-- a missing answer is counted, by what is left
counts : (left : List WriterValue) (k : SessionKept) (homes : List ℕ) (n : ℕ) (before : List Envelope) (home : HomeValue) (floor : ℕ) → k.added ≡ []
    → home.dcs ≡ k.home.dcs → home.shards ≡ k.home.shards → IsOrdered k
    → Does (machine.moving_on left n (state_of k) home.dc floor) homes k (steps.after_ok (counted_if (none_left left) left floor) n k home) before []
counts [] k homes n before home floor none dcs shards ordered = record {
  state = record { topology = still_there k homes home dcs shards; state = refl; current = tt; ordered = ordered };
  sends = refl;
}
counts (w ∷ ws) k homes n before home floor none dcs shards ordered = record {
  state = record { topology = refl; state = refl; current = (none, dcs, shards); ordered = ordered };
  sends = refl;
}

awaits_ok : (b : Bool) (k : SessionKept) (homes : List ℕ) (n : ℕ) (before : List Envelope) (home : HomeValue) (m : MoveValue) (dependency : TxnValue) (commit : ℕ)
    → now.Move home m ≡ k.current → k.added ≡ [] → home.dcs ≡ k.home.dcs → home.shards ≡ k.home.shards → IsOrdered k
    → Does (machine.dep_ok_if b n (state_of k) home.dc m.left m.floor dependency commit) homes k (steps.after_ok (move_taken_if b m dependency commit) n k home) before []
awaits_ok true k homes n before home m dependency commit e none dcs shards ordered =
    counts (machine.left_after dependency m.left) k homes n before home (max m.floor commit) none dcs shards ordered
awaits_ok false k homes n before home m dependency commit e none dcs shards ordered = record {
  state = record {
    topology = refl;
    state = ap (λ c. record (state_of k) { clock = n; current = open_of c }) (sym e);
    current = (none, dcs, shards);
    ordered = ordered;
  };
  sends = refl;
}

parts_ok : (b : Bool) (k : SessionKept) (homes : List ℕ) (n : ℕ) (before : List Envelope) (home : HomeValue) (m : MoveValue) (dependency : TxnValue) (commit : ℕ)
    → now.Move home m ≡ k.current → FitsIn k k.current → k.added ≡ [] → home.dcs ≡ k.home.dcs → home.shards ≡ k.home.shards → IsOrdered k
    → Does (machine.dep_ok_if (b && machine.is_left dependency m.left) n (state_of k) home.dc m.left m.floor dependency commit) homes k
    (steps.ok_if b n k home m dependency commit) before []
parts_ok false k homes n before home m dependency commit e fits none dcs shards ordered = calms k homes n before fits ordered
parts_ok true k homes n before home m dependency commit e fits none dcs shards ordered =
    awaits_ok (machine.is_left dependency m.left) k homes n before home m dependency commit e none dcs shards ordered

pub hear_ok : (c : Current) (k : SessionKept) (homes : List ℕ) (n : ℕ) (before : List Envelope) (dependency waiter : TxnValue) (commit : ℕ) → c ≡ k.current
    → FitsIn k c → FitsIn k k.current → IsOrdered k
    → Does (machine.dep_ok_in (open_of c) k.node n (state_of k) dependency waiter commit) homes k (steps.ok_in c n k dependency waiter commit) before []
hear_ok now.Idle k homes n before dependency waiter commit e fit fits ordered = calms k homes n before fits ordered
hear_ok (now.Write coordinator) k homes n before dependency waiter commit e fit fits ordered = calms k homes n before fits ordered
hear_ok (now.First f) k homes n before dependency waiter commit e fit fits ordered = calms k homes n before fits ordered
hear_ok (now.Second s) k homes n before dependency waiter commit e fit fits ordered = calms k homes n before fits ordered
hear_ok (now.Move home m) k homes n before dependency waiter commit e fit fits ordered =
    parts_ok (is_same_txn waiter (record { session = k.node; number = k.count })) k homes n before home m dependency commit e fits fit.0 fit.1 fit.2 ordered
