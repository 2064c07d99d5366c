-- An envelope leaves a session's node as it is.
use Rattle.std.proofs.Common.{◌≡◌, ◌∙◌, ℕ, Bool, true, false, ap, refl, List}
use Rattle.std.specs.Prelude.{◌==◌}
use Rattle.logical_time.specs.Stamps.{StampValue, TxnValue}
use Rattle.messages.specs.declared.rows_now.RowNow.{RowNow}
use Rattle.messages.specs.declared.rows_at.AtTime.{AtTime}
use Rattle.messages.specs.declared.body.Body.{Body}
use Rattle.messages.specs.declared.body.Body.TheVariants as body
use Rattle.messages.specs.Words.{is_same_txn}
use Rattle.dependencies.specs.declared.moving.MoveTaken.{MoveTaken}
use Rattle.dependencies.specs.declared.moving.MoveTaken.TheVariants as in_move
use Rattle.dependencies.specs.MoveTaken.{move_taken}
use Rattle.read_txn.specs.declared.first_round.FirstTaken.{FirstTaken}
use Rattle.read_txn.specs.declared.first_round.FirstTaken.TheVariants as in_first
use Rattle.read_txn.specs.declared.second_round.SecondTaken.{SecondTaken}
use Rattle.read_txn.specs.declared.second_round.SecondTaken.TheVariants as in_second
use Rattle.read_txn.specs.Taken.{first_taken, second_taken}
use Rattle.client.specs.declared.kept.SessionKept.{SessionKept}
use Rattle.client.specs.declared.current.Current.{Current}
use Rattle.client.specs.declared.current.Current.TheVariants as now
use Rattle.client.specs.Home.{HomeValue}
use Rattle.client.specs.Steps as steps

done_node : (c : Current) (n : ℕ) (k : SessionKept) (t : TxnValue) (commit : ℕ) (stamp : StampValue) → (steps.done_in c n k t commit stamp).node ≡ k.node
done_node now.Idle n k t commit stamp = refl
done_node (now.First f) n k t commit stamp = refl
done_node (now.Second s) n k t commit stamp = refl
done_node (now.Move home m) n k t commit stamp = refl
done_node (now.Write coordinator) n k t commit stamp = go (is_same_txn t (record { session = k.node; number = k.count }))
  where
    go : (b : Bool) → (steps.done_if b n k coordinator t commit stamp).node ≡ k.node
    go true = refl
    go false = refl

after_at_node : (taken : SecondTaken) (n : ℕ) (k : SessionKept) → (steps.after_at taken n k).node ≡ k.node
after_at_node (in_second.More s) n k = refl
after_at_node (in_second.Done c) n k = refl
after_at_node in_second.Collected n k = refl

at_node : (c : Current) (n : ℕ) (k : SessionKept) (from number : ℕ) (answer : AtTime) → (steps.at_in c n k from number answer).node ≡ k.node
at_node now.Idle n k from number answer = refl
at_node (now.Write coordinator) n k from number answer = refl
at_node (now.First f) n k from number answer = refl
at_node (now.Move home m) n k from number answer = refl
at_node (now.Second s) n k from number answer = go (number == k.count)
  where
    go : (b : Bool) → (steps.at_if b n k s from answer).node ≡ k.node
    go true = after_at_node (second_taken s from answer) n k
    go false = refl

after_now_node : (taken : FirstTaken) (n : ℕ) (k : SessionKept) → (steps.after_now taken n k).node ≡ k.node
after_now_node (in_first.More f) n k = refl
after_now_node (in_first.Second s) n k = refl
after_now_node (in_first.Done c) n k = refl

now_node : (c : Current) (n : ℕ) (k : SessionKept) (from number : ℕ) (rows : List RowNow) → (steps.now_in c n k from number rows).node ≡ k.node
now_node now.Idle n k from number rows = refl
now_node (now.Write coordinator) n k from number rows = refl
now_node (now.Second s) n k from number rows = refl
now_node (now.Move home m) n k from number rows = refl
now_node (now.First f) n k from number rows = go (number == k.count)
  where
    go : (b : Bool) → (steps.now_if b n k f from rows).node ≡ k.node
    go true = after_now_node (first_taken f from rows) n k
    go false = refl

after_ok_node : (taken : MoveTaken) (n : ℕ) (k : SessionKept) (home : HomeValue) → (steps.after_ok taken n k home).node ≡ k.node
after_ok_node (in_move.More m) n k home = refl
after_ok_node (in_move.Ended floor) n k home = refl

ok_node : (c : Current) (n : ℕ) (k : SessionKept) (dependency waiter : TxnValue) (commit : ℕ) → (steps.ok_in c n k dependency waiter commit).node ≡ k.node
ok_node now.Idle n k dependency waiter commit = refl
ok_node (now.Write coordinator) n k dependency waiter commit = refl
ok_node (now.First f) n k dependency waiter commit = refl
ok_node (now.Second s) n k dependency waiter commit = refl
ok_node (now.Move home m) n k dependency waiter commit = go (is_same_txn waiter (record { session = k.node; number = k.count }))
  where
    go : (b : Bool) → (steps.ok_if b n k home m dependency commit).node ≡ k.node
    go true = after_ok_node (move_taken m dependency commit) n k home
    go false = refl

node_kept : (n : ℕ) (k : SessionKept) (from : ℕ) (b : Body) → (steps.heard_kept n k from b).node ≡ k.node
node_kept n k from (body.Done txn commit stamp) = done_node k.current n k txn commit stamp
node_kept n k from (body.PartNow number rows) = now_node k.current n k from number rows
node_kept n k from (body.PartAt number time answer) = at_node k.current n k from number answer
node_kept n k from (body.DepOk dependency waiter commit) = ok_node k.current n k dependency waiter commit
node_kept n k from b = refl

pub node_stays : (k l : SessionKept) (n from : ℕ) (b : Body) → l ≡ steps.heard_kept n k from b → l.node ≡ k.node
node_stays k l n from b e = ap (λ (m : SessionKept). m.node) e ∙ node_kept n k from b
