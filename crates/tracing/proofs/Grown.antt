-- What is only added to, and the lines that stand in it.
use Rattle.std.proofs.Common.{◌≡◌, ◌∙◌, ℕ, List, [], ◌∷◌, ◌++◌, map, Option, Result, Ok, Err, OnOk, OnErr, ap, sym, subst, refl, append_assoc, append-nil}
use Rattle.std.proofs.lemmas.List.{map-append}
use Rattle.std.specs.Io.KnownBytes.{Appends, Keeps}
use Rattle.logical_time.specs.declared.fault.Fault.{Fault}
use Rattle.program.specs.declared.output.Output.{Output}
use Rattle.program.specs.Outputs.{Adds}
use Rattle.program.proofs.Written.{nothing_appended, then_appended, then_kept}
use Rattle.tracing.specs.Lines.{lines_of, quoted, StandIn}
use Rattle.tracing.specs.Tracing.{HasShown, Shows, HasGrown, TellsLines, TellsPart}
use Rattle.tracing.proofs.Standing.{none_stand, stand_then, stands_itself, some_stand, no_lines}

-- bytes were added
added_more : (before mid now : Option (List ℕ)) (all : List (List ℕ)) (rest bytes : List ℕ) → Appends mid now bytes → HasShown before all rest mid → HasShown before all rest now
added_more before mid now all rest bytes adds h = record {
  shown = h.shown;
  more = h.more ++ bytes;
  split = h.split;
  is_added = then_appended before mid now h.more bytes h.is_added adds;
  stand = subst (λ ls. StandIn ls (h.more ++ bytes)) (append-nil (map quoted h.shown)) (stand_then (map quoted h.shown) [] h.more bytes h.stand (none_stand bytes));
}

-- a line was added
line_more : (before mid now : Option (List ℕ)) (all : List (List ℕ)) (text line rest : List ℕ) → lines_of text ≡ line ∷ lines_of rest → Appends mid now (quoted line)
    → HasShown before all text mid → HasShown before all rest now
line_more before mid now all text line rest is adds h = record {
  shown = h.shown ++ line ∷ [];
  more = h.more ++ quoted line;
  split = h.split ∙ ap (λ ls. h.shown ++ ls) is ∙ sym (append_assoc h.shown (line ∷ []) (lines_of rest));
  is_added = then_appended before mid now h.more (quoted line) h.is_added adds;
  stand =
      subst (λ ls. StandIn ls (h.more ++ quoted line)) (sym (map-append quoted h.shown (line ∷ [])))
      (stand_then (map quoted h.shown) (quoted line ∷ []) h.more (quoted line) h.stand (stands_itself (quoted line)));
}

module _ {W : Type 0} (contents : W → Option (List ℕ)) where
  -- bytes were written, or a beginning of them
  pub grown_by : {T : Type 0} (old new : Output W) (r : Result T Fault) (bytes : List ℕ) → Adds contents old new r bytes → HasGrown contents old new
  grown_by old new (Ok x) bytes adds = λ rest before all h. added_more before (contents old.writer) (contents new.writer) all rest bytes adds.whole h
  grown_by old new (Err e) bytes adds = λ rest before all h. added_more before (contents old.writer) (contents new.writer) all rest adds.cut.1.0 adds.cut.1.3 h

  -- a line was written
  pub shown_by : (old new : Output W) (line text rest : List ℕ) → Appends (contents old.writer) (contents new.writer) (quoted line) → lines_of text ≡ line ∷ lines_of rest
      → Shows contents old new text rest
  shown_by old new line text rest adds is = λ before all h. line_more before (contents old.writer) (contents new.writer) all text line rest is adds h

  -- nothing was shown yet
  first_shown : (o : Output W) (text : List ℕ) → HasShown (contents o.writer) (lines_of text) text (contents o.writer)
  first_shown o text = record {
    shown = [];
    more = [];
    split = refl;
    is_added = nothing_appended (contents o.writer);
    stand = none_stand [];
  }

  -- all lines were shown, and passed on
  pub all_told : (old mid new : Output W) (text : List ℕ) → Shows contents old mid text [] → Keeps (contents mid.writer) (contents new.writer) → TellsLines contents old new text
  all_told old mid new text shows kept =
      let h = shows (contents old.writer) (lines_of text) (first_shown old text) in (
        h.more,
        subst (λ ls. StandIn (map quoted ls) h.more) (sym (h.split ∙ ap (λ ls. h.shown ++ ls) no_lines ∙ append-nil h.shown)) h.stand,
        then_kept (contents old.writer) (contents mid.writer) (contents new.writer) h.more h.is_added kept,
      )

  -- some bytes were added, with which a trace may begin
  pub part_told : (old mid new : Output W) (text : List ℕ) → HasGrown contents old mid → Keeps (contents mid.writer) (contents new.writer) → TellsPart contents old new text
  part_told old mid new text grown kept =
      let h = grown text (contents old.writer) (lines_of text) (first_shown old text) in
      let others = some_stand (map quoted (lines_of text)) in (
        h.more ++ others.0,
        stand_then [] (map quoted (lines_of text)) h.more others.0 (none_stand h.more) others.1,
        (h.more, others.0, refl, then_kept (contents old.writer) (contents mid.writer) (contents new.writer) h.more h.is_added kept),
      )

-- what holds in any case holds where a call succeeds, and where it fails
pub if_ok : {T U : Type 0} {P : Type 0} (r : Result T U) → P → OnOk r P
if_ok (Ok x) p = p
if_ok (Err e) p = tt

pub if_err : {T U : Type 0} {P : Type 0} (r : Result T U) → P → OnErr r P
if_err (Ok x) p = tt
if_err (Err e) p = p
