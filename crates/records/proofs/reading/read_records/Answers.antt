use Rattle.std.proofs.Common.{◌≡◌, ◌∙◌, ◌+◌, Some, sym, ap, subst, arith, rules, length, take, drop, List, ℕ}
use Rattle.std.proofs.lemmas.List.{length-drop}
use Rattle.records.specs.Records.{Entry, size, view, front_at}
use Rattle.records.specs.declared.record.Record.{Record}
use Rattle.records.specs.Records.{spelled, recovered}
use Rattle.records.proofs.Spelled.{parts, cut_is, cut_same}
use Rattle.records.proofs.Found.{Reads, front_within, reads_on, reads_end}
use Rattle.records.proofs.reading.read_records.Goals as goal

pub returns-in-None-clause-records : goal.returns-in-None-clause-records
returns-in-None-clause-records c = reads_end c.args.secret c.args.bytes.now c.loop-at.records.items c.loop-at.at c.loop-at.invariant (sym c.in-None.ensures)

pub overflow_add-at-in-Some : goal.overflow_add-at-in-Some
overflow_add-at-in-Some c =
    let same : c.in_ok-body-in-Some.body.items ≡ c.in-Some.body.now = search rules in
    let found : front_at c.args.secret c.loop-at.at (drop c.loop-at.at c.args.bytes.now) ≡ Some (record { first = c.in-Some.first; body = c.in-Some.body.now }) = sym c.in-Some.ensures in
    let within = front_within c.args.secret c.loop-at.at (drop c.loop-at.at c.args.bytes.now) (record { first = c.in-Some.first; body = c.in-Some.body.now }) found in
    let long : c.len.result ≡ length c.in_ok-body-in-Some.body.items = search rules in
    omega (arith, within, long, ap length same, length-drop c.loop-at.at c.args.bytes.now, c.loop-at.invariant.within)

pub loop-at-preserved : goal.loop-at-preserved
loop-at-preserved c =
    let same : c.in_ok-body-in-Some.body.items ≡ c.in-Some.body.now = search rules in
    let r : Record = record { first = c.in-Some.first; body = c.in_ok-body-in-Some.body } in
    let found : front_at c.args.secret c.loop-at.at (drop c.loop-at.at c.args.bytes.now) ≡ Some (view r) =
    sym c.in-Some.ensures ∙ ap (λ (t : List ℕ). Some (record { first = c.in-Some.first; body = t })) (sym same) in
    let long : c.len.result ≡ length c.in_ok-body-in-Some.body.items = search rules in
    let whole : 21 + c.len.result ≡ size (view r) = omega (arith, long) in
    subst (λ (l : List Record). Reads c.args.secret c.args.bytes.now l (c.loop-at.at + (21 + c.len.result))) (sym c.in_ok-push-in-Some.ensures.items)
    (reads_on c.args.secret c.args.bytes.now c.loop-at.records.items c.loop-at.at r (21 + c.len.result) c.loop-at.invariant found whole)

pub returns-in-None-clause-spelled : goal.returns-in-None-clause-spelled
returns-in-None-clause-spelled c =
    let all = reads_end c.args.secret c.args.bytes.now c.loop-at.records.items c.loop-at.at c.loop-at.invariant (sym c.in-None.ensures) in
    let at : c.loop-at.at ≡ length (spelled c.args.secret 0 (recovered c.args.secret 0 0 c.args.bytes.now)) = c.loop-at.invariant.end ∙ ap (λ (l : List Entry). length (spelled c.args.secret 0 l)) all in
    ap (λ (n : ℕ). take n c.args.bytes.now) at ∙ cut_is c.args.secret c.args.bytes.now (λ i. omega (arith, c.type_inv.bytes i))

pub returns-in-None-clause-fit : goal.returns-in-None-clause-fit
returns-in-None-clause-fit c = (parts c.args.secret 0 c.args.bytes.now (λ i. omega (arith, c.type_inv.bytes i))).fit

pub returns-in-None-clause-cut : goal.returns-in-None-clause-cut
returns-in-None-clause-cut c =
    let all = reads_end c.args.secret c.args.bytes.now c.loop-at.records.items c.loop-at.at c.loop-at.invariant (sym c.in-None.ensures) in
    let at : c.loop-at.at ≡ length (spelled c.args.secret 0 (recovered c.args.secret 0 0 c.args.bytes.now)) = c.loop-at.invariant.end ∙ ap (λ (l : List Entry). length (spelled c.args.secret 0 l)) all in
    λ k le. cut_same c.args.secret k c.args.bytes.now (λ i. omega (arith, c.type_inv.bytes i)) (omega (arith, at, le))
