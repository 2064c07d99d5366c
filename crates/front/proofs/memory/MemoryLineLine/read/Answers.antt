use Rattle.std.proofs.Common.{◌≡◌, ◌-◌, ◌<◌, ◌≤◌, ◌+◌, [], ◌∷◌, ◌++◌, length, take, drop, rules}
use Rattle.front.specs.Memory.{line_of}
use Rattle.front.proofs.Buffers.{reads-some, told_more}
use Rattle.front.proofs.Moments.{heard_more}
use Rattle.front.proofs.memory.MemoryLineLine.read.Goals as goal

pub returns-clause-line : goal.returns-clause-line
returns-clause-line c =
    let n = c.min-n.result in
    let at = c.self.inside.at in
    let input = c.self.inside.input.items in
    let copied = c.copy_from_slice.new.self in
    let shown = c.deref.ensures.value in
    let le : n ≤ length input - at = search rules in
    let some : 0 < n = search rules in
    let len : length copied ≡ n = search rules in
    let came : copied ≡ take n (take (length input - at) (drop at input)) = rw (← shown) c.copy_from_slice.ensures.after in
    let told = told_more input copied c.args.buffer.now at n came le len in
    let was = c.self.view_is in
    let output = c.self.inside.output.items in
    let marks = c.self.inside.marks.items in
    let pushed : c.push.new.self.items ≡ marks ++ (record { heard = at; said = length output }) ∷ [] = search rules in
    rw (reads-some n (copied ++ drop n c.args.buffer.now) (line_of c.args.self.now) some, ← was, told)
    (heard_more input output (take (at + n) input) marks c.push.new.self.items at c.self.inside.endings c.self.inside.failures pushed)
