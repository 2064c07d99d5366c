use Rattle.std.proofs.Common.{◌≡◌, ◌++◌, ◌∷◌, [], Err, rules, arith, length}
use Rattle.std.proofs.lemmas.Grind.{common_steps}
use Rattle.durable_site.proofs.Read.{tell_read}
use Rattle.logfile.proofs.Sites.{refused_by}
use Rattle.logfile.proofs.site_reading.read_entries.Goals as goal

pub returns-in_err-entry-clause-refused : goal.returns-in_err-entry-clause-refused
returns-in_err-entry-clause-refused c =
    let all = c.args.records.items in
    let same : c.from_residual-in_err-entry.result ≡ Err c.in_err-entry.field-0.0 = search rules in
    let number : c.len-in-loop-record.result ≡ length c.loop-record.entries.items = search rules in
    let parts : all ≡ c.loop-record.yielded ++ c.in-Some.record ∷ c.next.new.self.rest.items = grind (arith, common_steps) in
    refused_by c.loop-record.entries.items c.loop-record.yielded c.next.new.self.rest.items all c.in-Some.record c.len-in-loop-record.result c.in_err-entry.field-0.0 _ same c.loop-record.invariant.tell number parts c.in_err-entry.ensures.refused

pub loop-record-preserved : goal.loop-record-preserved
loop-record-preserved c =
    let more : c.push.new.self.items ≡ c.loop-record.entries.items ++ c.in_ok-entry.entry ∷ [] = search rules in
    record {
      tell = tell_read c.loop-record.entries.items c.push.new.self.items c.loop-record.yielded c.in_ok-entry.entry c.in-Some.record more c.loop-record.invariant.tell c.in_ok-entry.ensures.tells.0 c.in_ok-entry.ensures.tells.1;
      parts = grind (arith, common_steps);
    }
