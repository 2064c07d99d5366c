use Rattle.std.proofs.lemmas.Grind.{common_steps}
use Rattle.std.proofs.Common.{arith}
use Rattle.std.proofs.Common.{◌≡◌, ◌∙◌, drop}
use Rattle.wire.proofs.Fed.{fed_ok, fed_fault}
use Rattle.wire.proofs.reader.Reader.feed.Goals.{in-None, in-Some-fault}
use Rattle.wire.proofs.reader.Reader.feed.Goals as goal

pub returns-after-fault-clause-feeds : goal.returns-after-fault-clause-feeds
returns-after-fault-clause-feeds c = λ before.
    let h0 = c.self.inside.held.items in
    let h1 = c.take_frames.new.held.items in
    let r0 = c.self.inside.rest.items in
    let r1 = c.advance.new.self.items in
    let bytes = c.as_slice.result.now in
    let all = c.as_slice.ensures ∙ c.in_ok-extend_from_slice.ensures.ok in
    let rest : r1 ≡ drop c.in-Ok.used bytes = rw c.as_slice.ensures c.advance.ensures.items in
    rw (← c.self.view_is) (elim c.match-fault.branch [
      | in-None w ↦ fed_ok _ c.args.piece.now h0 h1 r0 r1 bytes c.in-Ok.used c.self.inside.fault c.in-Ok.fault c.match-fault.result _ all rest c.in-Ok.ensures.text c.in-Ok.ensures.front w.in-None.is w.result-is
      | in-Some-fault w ↦ fed_fault _ c.args.piece.now h0 h1 r0 r1 bytes c.in-Ok.used c.self.inside.fault c.in-Ok.fault c.match-fault.result w.in-Some-fault.fault all rest c.in-Ok.ensures.text c.in-Ok.ensures.front w.in-Some-fault.is w.result-is
    ])

pub invariant_of-self-in-Err : goal.invariant_of-self-in-Err
invariant_of-self-in-Err c = grind (arith, common_steps)

pub returns-in-Err-clause-feeds : goal.returns-in-Err-clause-feeds
returns-in-Err-clause-feeds c = grind (arith, common_steps)
