use Rattle.std.proofs.Common.{◌≡◌, ◌∙◌, ◌+◌, ◌-◌, ◌++◌, ◌≤◌, length, take, drop, ap, subst, sym, arith}
use Rattle.std.specs.Prelude.{reverse}
use Rattle.site.proofs.Turned.{turned, one_fewer, none_left}
use Rattle.site.proofs.queues.turn_over.Goals as goal

pub loop-number-preserved : goal.loop-number-preserved
loop-number-preserved c =
    let sent = c.loop-number.fresh.sent in
    let k = c.len-count.result - 1 - c.loop-number.number in
    let left = c.loop-number.invariant.left in
    let lt = c.loop-number-test.true in
    let long : k + 1 ≡ length sent = omega (arith, left, lt) in
    let fewer = one_fewer sent k c.remove.result long c.remove.ensures.value in
    let now : length c.remove.new.self.sent ≡ length (take k sent ++ drop (k + 1) sent) = ap length c.remove.ensures.rest in
    let more = c.push_reserved.ensures.len in
    let before = c.loop-number.invariant.turned in
    record {
      kept =
          ap (λ l. l ++ reverse c.push_reserved.new.self.items) c.remove.ensures.rest
          ∙ ap (λ l. (take k sent ++ drop (k + 1) sent) ++ reverse l) c.push_reserved.ensures.items
          ∙ turned sent c.loop-number.turn.items k c.remove.result long c.remove.ensures.value
          ∙ c.loop-number.invariant.kept;
      left = omega (arith, left, fewer, now);
      turned = omega (arith, more, before);
      room = subst (λ n. c.args.turn.now.len + c.len-count.result ≤ n) (sym c.push_reserved.ensures.capacity) c.loop-number.invariant.room;
    }

pub returns-clause-turned : goal.returns-clause-turned
returns-clause-turned c =
    let i = c.loop-number.invariant in
    let left = i.left in
    let no = c.loop-number-test.false in
    let none = none_left c.loop-number.fresh.sent (omega (arith, left, no)) in
    ap (λ l. l ++ reverse c.loop-number.turn.items) (sym none) ∙ i.kept

pub returns-clause-empty : goal.returns-clause-empty
returns-clause-empty c =
    let left = c.loop-number.invariant.left in
    let no = c.loop-number-test.false in
    none_left c.loop-number.fresh.sent (omega (arith, left, no))
