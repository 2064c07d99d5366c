use Rattle.std.proofs.Common.{◌≡◌, ◌∙◌, ◌<◌, ◌+◌, length, Some, None, sym, arith, rules}
use Rattle.std.proofs.lemmas.Bool.Decides.{nat_tests}
use Rattle.std.specs.Prelude.{slice_index_or}
use Rattle.world.specs.Threads.{op_in}
use Rattle.threaded.proofs.Gathering.{one_more_passed, none_passed, next_found, not_found}
use Rattle.threaded.proofs.entries.find_from.Goals.{in-Some+else-passed-number, in_default}
use Rattle.threaded.proofs.entries.find_from.Goals as goal

pub returns-then-passed-number-clause-some : goal.returns-then-passed-number-clause-some
returns-then-passed-number-clause-some c =
    let journal = c.args.journal.now in
    let place = c.loop-place.place in
    let x = c.index-journal-place.result in
    let o = c.in-Some.op.now in
    let passed = c.loop-place.passed in
    let lt : place < length journal = c.loop-place-test.true in
    let at : x ≡ slice_index_or journal place x = c.index-journal-place.is in
    let is : Some o ≡ op_in x = search rules in
    let next : passed + 1 ≡ c.args.number = search rules in
    record {
      op = next_found journal place x lt at o passed c.args.number is c.loop-place.invariant.passed next;
      within = lt;
      passed = sym (one_more_passed journal place x lt at o passed is c.loop-place.invariant.passed) ∙ next;
    }

pub loop-place-preserved : goal.loop-place-preserved
loop-place-preserved c =
    let journal = c.args.journal.now in
    let place = c.loop-place.place in
    let x = c.index-journal-place.result in
    let lt : place < length journal = c.loop-place-test.true in
    let at : x ≡ slice_index_or journal place x = c.index-journal-place.is in
    elim c.match-submitted.branch [
      | in-Some+else-passed-number w ↦
          let is : Some w.in-Some.op.now ≡ op_in x = search rules in
          record {
            passed = w.passed-is ∙ one_more_passed journal place x lt at w.in-Some.op.now c.loop-place.passed is c.loop-place.invariant.passed;
            lower = grind (arith, nat_tests);
          }
      | in_default w ↦
          let is : None ≡ op_in x = search rules in
          record {
            passed = w.passed-is ∙ none_passed journal place x lt at c.loop-place.passed is c.loop-place.invariant.passed;
            lower = grind (arith, nat_tests);
          }
    ]

pub returns-clause-none : goal.returns-clause-none
returns-clause-none c =
    not_found c.args.journal.now c.loop-place.place c.loop-place.passed c.args.number c.loop-place-test.false c.loop-place.invariant.passed c.loop-place.invariant.lower
