-- An entry of a history has one stamp everywhere: each data centre decides a transaction with the stamp of its home.
use Rattle.std.proofs.Common.{◌∙◌, sym, ap}
use Rattle.std.specs.Prelude.{Contains}
use Rattle.messages.specs.Topology.{TopologyValue, shard_node}
use Rattle.messages.specs.Shard.{Decision}
use Rattle.messages.proofs.Numbering.{dc_of_shard}
use Rattle.world.specs.Run.{Run, Submission}
use Rattle.world.specs.Histories.{decisions_in}
use Rattle.world.specs.Entries.{IsOf, IsHomeStamp, StampsAgree}
use Rattle.world.proofs.safety.Facts.{IsWritten}
use Rattle.world.proofs.safety.Invariant.{Inv}
use Rattle.world.proofs.histories.Decisions.{sound, one_stamp, own_stamp, home_stamp}
use Rattle.world.proofs.histories.Entries.{decided_by_one}

home_of_decision : (top : TopologyValue) (w : Run) (d : Decision) (s : Submission) → Inv top w → Contains (decisions_in top w s.home) d → IsOf w d s
    → IsHomeStamp top d s
home_of_decision top w d s inv has is =
    let a = decided_by_one top w s.home d has in
    let x = shard_node top s.home a.0 in
    let p = sound top w x d inv a.2 in
    let same = inv.submitted.one p.submission s p.written.among is.among (p.written.txn ∙ is.txn) in
    let kind = sym (ap (λ (z : Submission). z.op) same) ∙ p.written.op in
    let written : IsWritten w d.txn s p.batch = record { among = is.among; txn = sym is.txn; op = kind } in
    let stamp = home_stamp top w x d s p.batch inv a.2 written (dc_of_shard top s.home a.0 a.1) in
    record { time = stamp.0; batch = p.batch; op = kind; node = stamp.1 }

pub stamps_agree : (top : TopologyValue) (w : Run) → Inv top w → StampsAgree top w
stamps_agree top w inv = record {
  one = λ dc ec d e m n same.
      let a = decided_by_one top w dc d m in
      let b = decided_by_one top w ec e n in
      one_stamp top w (shard_node top dc a.0) (shard_node top ec b.0) d e inv a.2 b.2 same;
  own = λ dc ec d e m n same.
      let a = decided_by_one top w dc d m in
      let b = decided_by_one top w ec e n in
      own_stamp top w (shard_node top dc a.0) (shard_node top ec b.0) d e inv a.2 b.2 same;
  home = λ d s has is. home_of_decision top w d s inv has is;
}
