use Rattle.std.proofs.Common.{◌≡◌, ◌-◌, ◌≤◌, length, take, drop, refl, rules}
use Rattle.front.proofs.Buffers.{told_more}
use Rattle.readiness.proofs.memory.MemoryLine.give.Goals as goal

pub returns-clause-line : goal.returns-clause-line
returns-clause-line c =
    let n = c.min-n.result in
    let at = c.self.inside.at in
    let input = c.self.inside.input.items in
    let copied = c.copy_from_slice.new.self in
    let shown = c.deref.ensures.value in
    let le : n ≤ length input - at = search rules in
    let len : length copied ≡ n = search rules in
    let came : copied ≡ take n (take (length input - at) (drop at input)) = rw (← shown) c.copy_from_slice.ensures.after in
    let told = told_more input copied c.args.buffer.now at n came le len in
    let was = c.self.view_is in
    rw (← was, told) refl
