-- A step that is about one transaction leaves what the state says of the others.
use Rattle.std.proofs.Common.{◌≡◌, ap, false, List, map}
use Rattle.logical_time.specs.Stamps.{TxnValue}
use Rattle.messages.specs.Words.{is_same_txn}
use Rattle.messages.specs.Shard.{ShardState, Vote, Met}
use Rattle.write_txn.specs.View.{view_of, nodes_for, met_for}
use Rattle.write_txn.specs.Moves.{IsExtended, IsAbout}
use Rattle.write_txn.proofs.Finds.{of_another, find_extended, filter_extended, any_extended}

nodes_extended : (t u : TxnValue) (xs ys : List Vote) → is_same_txn t u ≡ false → IsExtended (λ v. is_same_txn v.txn t) xs ys → nodes_for ys u ≡ nodes_for xs u
nodes_extended t u xs ys d i = ap (map (λ (v : Vote). v.node)) (filter_extended (λ v. is_same_txn v.txn t) (λ v. is_same_txn v.txn u) xs ys (λ v e. of_another t u v.txn e d) i)

met_extended : (t u : TxnValue) (xs ys : List Met) → is_same_txn t u ≡ false → IsExtended (λ m. is_same_txn m.waiter t) xs ys → met_for ys u ≡ met_for xs u
met_extended t u xs ys d i = ap (map (λ (m : Met). m.dependency)) (filter_extended (λ m. is_same_txn m.waiter t) (λ m. is_same_txn m.waiter u) xs ys (λ m e. of_another t u m.waiter e d) i)

pub view_of_others : (t u : TxnValue) (a b : ShardState) → is_same_txn t u ≡ false → IsAbout t a b → view_of u b ≡ view_of u a
view_of_others t u a b d i =
    let p = find_extended (λ p. is_same_txn p.txn t) (λ p. is_same_txn p.txn u) a.prepared b.prepared (λ p e. of_another t u p.txn e d) i.prepared in
    let q = find_extended (λ p. is_same_txn p.txn t) (λ p. is_same_txn p.txn u) a.ballots b.ballots (λ p e. of_another t u p.txn e d) i.ballots in
    let r = find_extended (λ p. is_same_txn p.txn t) (λ p. is_same_txn p.txn u) a.kept_parts b.kept_parts (λ p e. of_another t u p.txn e d) i.kept_parts in
    let s = find_extended (λ p. is_same_txn p.txn t) (λ p. is_same_txn p.txn u) a.kept_ballots b.kept_ballots (λ p e. of_another t u p.txn e d) i.kept_ballots in
    let v = find_extended (λ p. is_same_txn p.txn t) (λ p. is_same_txn p.txn u) a.decided b.decided (λ p e. of_another t u p.txn e d) i.decided in
    let w = any_extended (λ x. is_same_txn x.part.writer.txn t) (λ x. is_same_txn x.part.writer.txn u) a.applied b.applied (λ x e. of_another t u x.part.writer.txn e d) i.applied in
    let x = nodes_extended t u a.early b.early d i.early in
    let y = nodes_extended t u a.votes b.votes d i.votes in
    let z = nodes_extended t u a.notices b.notices d i.notices in
    let m = met_extended t u a.met b.met d i.met in
    cc
