use Rattle.std.proofs.Common.{refl, inl, subst, ℕ, List}
use Rattle.logfile.specs.Told.{CantTell}
use Rattle.logfile.proofs.performing.perform_log.Goals as goal

pub returns-in-Err-text_of-clause-ended : goal.returns-in-Err-text_of-clause-ended
returns-in-Err-text_of-clause-ended g c = λ one. record {
  fault = c.fault_of.result;
  more = c.line-more-in-Err-text_of.result;
  cause =
      inl
      (record {
        bytes = c.in-Ok.bytes.items;
        are_read = c.in-Ok.ensures.whole;
        refused = (c.in-Err-text_of.why, subst (λ (l : List ℕ). CantTell c.args.history l c.in-Err-text_of.why) c.deref.ensures.value c.in-Err-text_of.ensures.refused, c.fault_of.ensures);
        nothing_written = refl;
      });
  tells = c.tell-in-Err-text_of.ensures.told;
}
