use Rattle.std.proofs.Common.{◌≡◌, ◌++◌, take, rules}
use Rattle.front.proofs.Moments.{FitIn, said_more}
use Rattle.front.proofs.memory.MemoryLineLine.write.Goals as goal

pub returns-clause-line : goal.returns-clause-line
returns-clause-line c =
    let input = c.self.inside.input.items in
    let output = c.self.inside.output.items in
    let marks = c.self.inside.marks.items in
    let piece = take c.min-n.result c.args.piece.now in
    let fit : FitIn output marks = search rules in
    let more : c.extend_from_slice.new.self.items ≡ output ++ piece = search rules in
    let was = c.self.view_is in
    rw (← was) (said_more input output piece c.extend_from_slice.new.self.items (take c.self.inside.at input) marks c.self.inside.endings c.self.inside.failures fit more)
