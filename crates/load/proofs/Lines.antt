-- The lines of a report, one after the other, are the report.
use Rattle.std.proofs.Common.{◌≡◌, ℕ, List, ◌++◌}
use Rattle.std.specs.Prelude.{codes}
use native.Mathlib.Omega.{arith}
use Rattle.load.specs.Told.{IsLine, IsReport, asked_text, unanswered_text, refusals_text}
use Rattle.load.specs.declared.told.Report.{Report}

pub told : (r : Report) (text first a b c d e reads writes together refusals last : List ℕ) → text ≡ first ++ a ++ b ++ c ++ d ++ e → a ≡ reads → b ≡ writes → c ≡ together → d ≡ refusals → e ≡ last → first ≡ asked_text r → refusals ≡ refusals_text 0 r.refused.items → last ≡ unanswered_text r → IsLine (codes "reads") r.reads r.time reads → IsLine (codes "writes") r.writes r.time writes → IsLine (codes "together") r.together r.time together → IsReport r text
told r text first a b c d e reads writes together refusals last whole a_is b_is c_is d_is e_is first_is refusals_is last_is r_line w_line t_line =
    let same : text ≡ asked_text r ++ reads ++ writes ++ together ++ refusals_text 0 r.refused.items ++ unanswered_text r = grind arith in
    record {
      reads = reads;
      writes = writes;
      together = together;
      reads_line = r_line;
      writes_line = w_line;
      together_line = t_line;
      whole = same;
    }
