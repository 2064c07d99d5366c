use Rattle.std.proofs.Common.{List, ℕ, Bool, true, false, subst}
use Rattle.front.specs.Parts.{Wrote}
use Rattle.front.proofs.Held.{puts-waits, puts-cut, puts-after}
use Rattle.front.proofs.writing.put.Goals as goal

pub returns-then-add-clause-puts : goal.returns-then-add-clause-puts
returns-then-add-clause-puts g c = puts-waits c.args.frame.now c.args.waiting.now.items c.add.new.waiting.items (g.L.Line.seen c.args.line.now) (c.add.ensures.yes c.if-add.true)

pub returns-then-not-write_waiting-clause-puts : goal.returns-then-not-write_waiting-clause-puts
returns-then-not-write_waiting-clause-puts g c =
    let same = c.add.ensures.no c.if-add.false in
    let wrote = subst (λ (b : Bool). Wrote c.add.new.waiting.items b (g.L.Line.seen c.args.line.now) (g.L.Line.seen c.write_waiting.new.line)) c.if-not-write_waiting.true c.write_waiting.ensures.wrote in
    puts-cut c.args.frame.now c.args.waiting.now.items c.write_waiting.new.waiting.items (g.L.Line.seen c.args.line.now) (g.L.Line.seen c.write_waiting.new.line)
    (subst (λ (t : List ℕ). Wrote t false (g.L.Line.seen c.args.line.now) (g.L.Line.seen c.write_waiting.new.line)) same wrote)

pub returns-clause-puts : goal.returns-clause-puts
returns-clause-puts g c =
    let same = c.add.ensures.no c.if-add.false in
    let wrote = subst (λ (b : Bool). Wrote c.add.new.waiting.items b (g.L.Line.seen c.args.line.now) (g.L.Line.seen c.write_waiting.new.line)) c.if-not-write_waiting.false c.write_waiting.ensures.wrote in
    puts-after c.args.frame.now c.args.waiting.now.items c.write_waiting.new.waiting.items c.write_all.result (g.L.Line.seen c.args.line.now) (g.L.Line.seen c.write_waiting.new.line) (g.L.Line.seen c.write_all.new.line)
    (subst (λ (t : List ℕ). Wrote t true (g.L.Line.seen c.args.line.now) (g.L.Line.seen c.write_waiting.new.line)) same wrote) c.write_waiting.ensures.none c.write_all.ensures
