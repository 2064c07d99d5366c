use Rattle.std.proofs.Common.{refl}
use Rattle.workload.specs.Audited.{told_text}
use Rattle.workload.specs.declared.tail.Tail.TheVariants.{Nothing}
use Rattle.workload.proofs.Refused.{cut_ends}
use Rattle.by_sites.specs.Performing.{IsSitesTextFor, IsSitesRefused}
use Rattle.by_sites.proofs.performing.perform_by_sites.Goals as goal

pub returns-clause-ended : goal.returns-clause-ended
returns-clause-ended g c = λ one. record {
  fault = c.in-Err-written.fault;
  more = c.line.result;
  cause =
      cut_ends IsSitesTextFor IsSitesRefused g.R.Read.remaining g.W.Write.contents g.E.Write.contents c.args.input.now c.read_all.new.self c.args.output.now
      c.write_transcript-written.new.output c.in-Err-written.fault c.in-Ok.bytes.items (told_text c.in-Ok-transcript_by_sites.transcript Nothing) c.in-Ok.ensures.whole (rw c.deref.ensures.value at c.in-Ok-transcript_by_sites.ensures.text)
      c.in-Err-written.ensures.failed c.in-Err-written.ensures.part;
  tells = c.tell-in-Err-written.ensures.told;
}

pub returns-in-Ok-written-clause-printed : goal.returns-in-Ok-written-clause-printed
returns-in-Ok-written-clause-printed g c = λ none. record {
  bytes = c.in-Ok.bytes.items;
  text = told_text c.in-Ok-transcript_by_sites.transcript Nothing;
  are_read = c.in-Ok.ensures.whole;
  text_for = rw c.deref.ensures.value at c.in-Ok-transcript_by_sites.ensures.text;
  is_written = c.in-Ok-written.ensures.whole;
  nothing_told = refl;
}
