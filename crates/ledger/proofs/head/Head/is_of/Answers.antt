use Rattle.std.proofs.Common.{◌≡◌, Bool, true, false, ap, rules}
use Rattle.std.proofs.lemmas.Slice.Eq.{bytes_eq-Decides, slice_eq-Decides}
use Rattle.messages.specs.Topology.{TopologyValue}
use Rattle.ledger.proofs.Heads.{top_same}
use Rattle.ledger.proofs.head.Head.is_of.Goals as goal

pub returns-clause-yes : goal.returns-clause-yes
returns-clause-yes c = λ equal.
    let a = c.args.self.now.topology in
    let b = c.args.topology.now in
    let d : a.dcs ≡ b.dcs = search rules in
    let s : a.shards ≡ b.shards = search rules in
    let g : c.families.result.now ≡ c.families-2.result.now = (slice_eq-Decides bytes_eq-Decides c.families.result.now c.families-2.result.now c.eq.result c.eq.ensures).0 equal in
    let f : a.schema ≡ b.schema = search rules in
    let h : a.homes ≡ b.homes = search rules in
    top_same a b d s f h

true_false : {b : Bool} → b ≡ true → b ≡ false → ⊥
true_false p q = cc

pub returns-clause-no : goal.returns-clause-no
returns-clause-no c = λ differ same.
    let f : c.args.self.now.topology.schema ≡ c.args.topology.now.schema = ap (λ (t : TopologyValue). t.schema) same in
    let g : c.families.result.now ≡ c.families-2.result.now = search rules in
    true_false ((slice_eq-Decides bytes_eq-Decides c.families.result.now c.families-2.result.now c.eq.result c.eq.ensures).1 g) differ
