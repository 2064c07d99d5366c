use Rattle.std.proofs.Common.{◌∙◌, ap, string_bytes}
use Rattle.load.specs.Told.{refusals_text}
use Rattle.load.proofs.Lines.{told}
use Rattle.load.proofs.told.Report.text.Goals as goal

pub returns : goal.returns
returns c =
    told c.args.self.now (string_bytes c.in_ok-text.text) (string_bytes c.in_ok-first.first)
    c.as_str.result.now c.as_str-2.result.now c.as_str-3.result.now c.as_str-4.result.now c.as_str-5.result.now
    (string_bytes c.in_ok-reads.reads) (string_bytes c.in_ok-writes.writes) (string_bytes c.in_ok-together.together) (string_bytes c.in_ok-refusals.refusals) (string_bytes c.in_ok-last.last)
    c.in_ok-text.ensures c.as_str.ensures.value c.as_str-2.ensures.value c.as_str-3.ensures.value c.as_str-4.ensures.value c.as_str-5.ensures.value
    c.in_ok-first.ensures (c.in_ok-refusals.ensures ∙ ap (refusals_text 0) c.deref.ensures.value) c.in_ok-last.ensures c.in_ok-reads.ensures c.in_ok-writes.ensures c.in_ok-together.ensures
