-- What is written in several steps.
use Rattle.std.proofs.Common.{◌≡◌, ◌∙◌, ℕ, ◌+◌, List, [], ◌∷◌, ◌++◌, take, drop, Option, Some, None, Result, Ok, Err, IsSome, IsNone, OnOk, OnErr, IfErr, refl, ap, sym, subst, append_assoc, append-nil, ◌⊎◌, inl, inr}
use Rattle.std.proofs.Math.Seq.{take-add}
use Rattle.std.proofs.lemmas.List.{take-append-drop}
use Rattle.std.specs.Io.KnownBytes.{Appends, Keeps}
use Rattle.logical_time.specs.declared.fault.Fault.{Fault}
use Rattle.logical_time.specs.declared.fault.Fault.TheVariants.{WriteFailed}
use Rattle.program.specs.declared.output.Output.{Output}
use Rattle.program.specs.Outputs.{AppendsPart, Adds}
use Rattle.program.specs.Telling.{fault_line, told_text}

pub nothing_appended : (old : Option (List ℕ)) → Appends old old []
nothing_appended None = tt
nothing_appended (Some xs) = sym (append-nil xs)

pub then_appended : (old mid new : Option (List ℕ)) (a b : List ℕ) → Appends old mid a → Appends mid new b → Appends old new (a ++ b)
then_appended None mid new a b p q = tt
then_appended (Some xs) None new a b p q = absurd p
then_appended (Some xs) (Some ys) None a b p q = absurd q
then_appended (Some xs) (Some ys) (Some zs) a b p q = q ∙ ap (λ ws. ws ++ b) p ∙ append_assoc xs a b

pub then_kept : (old mid new : Option (List ℕ)) (a : List ℕ) → Appends old mid a → Keeps mid new → Appends old new a
then_kept None mid new a p q = tt
then_kept (Some xs) None new a p q = absurd p
then_kept (Some xs) (Some ys) None a p q = absurd q
then_kept (Some xs) (Some ys) (Some zs) a p q = q ∙ p

pub kept_part : (old new : Option (List ℕ)) (bs : List ℕ) → Keeps old new → AppendsPart old new bs
kept_part old new bs k = ([], bs, refl, then_kept old old new [] (nothing_appended old) k)

-- a whole and then a part of what follows
pub then_part : (old mid new : Option (List ℕ)) (a b : List ℕ) → Appends old mid a → AppendsPart mid new b → AppendsPart old new (a ++ b)
then_part old mid new a b p q =
    (a ++ q.0, q.1, ap (λ ws. a ++ ws) q.2 ∙ sym (append_assoc a q.0 q.1), then_appended old mid new a q.0 p q.3)

-- a part of the first is a part of both
pub part_before : (old new : Option (List ℕ)) (a b : List ℕ) → AppendsPart old new a → AppendsPart old new (a ++ b)
part_before old new a b p = (p.0, p.1 ++ b, ap (λ ws. ws ++ b) p.2 ∙ append_assoc p.0 p.1 b, p.3)

-- so many bytes are written, and then more of the rest
pub more_written : (old mid new : Option (List ℕ)) (bytes rest : List ℕ) (n m : ℕ) → rest ≡ drop n bytes → Appends old mid (take n bytes)
    → Appends mid new (take m rest) → Appends old new (take (n + m) bytes)
more_written old mid new bytes rest n m is p q =
    subst (λ ws. Appends old new ws) (sym (take-add n m bytes))
    (then_appended old mid new (take n bytes) (take m (drop n bytes)) p (subst (λ ws. Appends mid new (take m ws)) is q))

-- so many bytes are written, and no more
pub part_written : (old mid new : Option (List ℕ)) (bytes : List ℕ) (n : ℕ) → Appends old mid (take n bytes) → Keeps mid new → AppendsPart old new bytes
part_written old mid new bytes n p k = (take n bytes, drop n bytes, sym (take-append-drop n bytes), then_kept old mid new (take n bytes) p k)

-- what is left to write is written, or the writer fails
pub written : {T : Type 0} {F : Type 0} (r : Result T Fault) (f : Fault) (old mid new : Option (List ℕ)) (a b whole : List ℕ) → whole ≡ a ++ b → Appends old mid a
    → OnOk r (Appends mid new b) → OnErr r (AppendsPart mid new b) → IfErr r (λ e. (e ≡ f) × F) → Appends old new whole ⊎ (F × AppendsPart old new whole)
written (Ok x) f old mid new a b whole is p done part failed = inl (subst (λ ws. Appends old new ws) (sym is) (then_appended old mid new a b p done))
written (Err e) f old mid new a b whole is p done part failed = inr (failed.1, subst (λ ws. AppendsPart old new ws) (sym is) (then_part old mid new a b p part))

pub nothing_kept : (known : Option (List ℕ)) → Keeps known known
nothing_kept None = tt
nothing_kept (Some xs) = refl

-- a part of the first line
pub told_part : (e : Fault) (more : Option (List ℕ)) (old new : Option (List ℕ)) → AppendsPart old new (fault_line e) → AppendsPart old new (told_text e more)
told_part e None old new p = p
told_part e (Some line) old new p = part_before old new (fault_line e) (line ++ 10 ∷ []) p

-- ## Steps

-- the writer has failed after so many bytes
pub fails_after : {W T : Type 0} (contents : W → Option (List ℕ)) (old new : Output W) (mid : W) (e : Fault) (bytes : List ℕ) (n : ℕ) → (e ≡ WriteFailed) × IsSome new.failure
    → Appends (contents old.writer) (contents mid) (take n bytes) → Keeps (contents mid) (contents new.writer) → Adds {T = T} contents old new (Err e) bytes
fails_after contents old new mid e bytes n failed p k = record {
  whole = tt;
  sound = tt;
  refused = failed.0;
  cut = (failed.1, part_written (contents old.writer) (contents mid) (contents new.writer) bytes n p k);
}

module _ {W : Type 0} (contents : W → Option (List ℕ)) where
  pub adds_nothing : {T : Type 0} (old : Output W) (done : T) → IsNone old.failure → Adds {T = T} contents old old (Ok done) []
  adds_nothing old done sound = record {
    whole = nothing_appended (contents old.writer);
    sound = sound;
    refused = tt;
    cut = tt;
  }

  -- a step that failed is a whole that failed
  pub fails_first : {T U : Type 0} (old new : Output W) (e : Fault) (a b : List ℕ) → Adds {T = T} contents old new (Err e) a
      → Adds {T = U} contents old new (Err e) (a ++ b)
  fails_first old new e a b step = record {
    whole = tt;
    sound = tt;
    refused = step.refused;
    cut = (step.cut.0, part_before (contents old.writer) (contents new.writer) a b step.cut.1);
  }

  -- a step and then a step
  pub then_adds : {T U : Type 0} (old mid new : Output W) (done : T) (result : Result U Fault) (a b : List ℕ)
      → Adds contents old mid (Ok done) a → Adds contents mid new result b → Adds contents old new result (a ++ b)
  then_adds old mid new done (Ok x) a b first step = record {
    whole = then_appended (contents old.writer) (contents mid.writer) (contents new.writer) a b first.whole step.whole;
    sound = step.sound;
    refused = tt;
    cut = tt;
  }
  then_adds old mid new done (Err e) a b first step = record {
    whole = tt;
    sound = tt;
    refused = step.refused;
    cut = (step.cut.0, then_part (contents old.writer) (contents mid.writer) (contents new.writer) a b first.whole step.cut.1);
  }
