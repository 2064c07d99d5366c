use Rattle.std.proofs.Common.{◌∙◌}
use Rattle.recorded.proofs.Recordings.{is_record}
use Rattle.recorded.proofs.recording.record_run.Goals as goal

pub returns-clause-of_run : goal.returns-clause-of_run
returns-clause-of_run c =
    is_record c.record_of.result c.args.script.now c.schema.result.now c.in_ok-histories.histories.items c.as_slice.result.now
    c.schema.ensures c.in_ok-histories.ensures.histories (c.as_slice.ensures.value ∙ c.in_ok-histories.ensures.completed) c.record_of.ensures.ok
