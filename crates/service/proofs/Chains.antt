-- What a line was served by, seen as steps of another kind.
use Rattle.std.proofs.Common.{ℕ, List, [], inl, inr}
use Rattle.logical_time.specs.declared.fault.Fault.{Fault}
use Rattle.messages.specs.declared.op.Op.{Op}
use Rattle.wire.specs.Replies.{Reply}
use Rattle.front.specs.declared.ended.Ended.{Ended}
use Rattle.front.specs.declared.ended.Ended.TheVariants.{Clean, Refused, ReadFailed, WriteFailed}
use Rattle.front.specs.Lines.{LineValue}
use Rattle.front.specs.Ports.{Chain}
use Rattle.front.specs.Served.{Answered, UpToDate, AtFault, AtPiece, RefusedAt, Begun, EndsAs, any_need, Served}
use Rattle.std.specs.Prelude.{Bool}

module _ {P Q : Type 0} (steps : P → Op → Reply → P → Type 0) (others : Q → Op → Reply → Q → Type 0) (p q : P) (r s : Q)
    (chain : (ops : List Op) (answers : List Reply) → Chain steps p ops answers q → Chain others r ops answers s) where
  answered : (ops : List Op) (replies : List ℕ) → Answered any_need steps p ops replies q → Answered any_need others r ops replies s
  answered ops replies a = record { answers = a.answers; chain = chain ops a.answers a.chain; encoded = a.encoded }

  up_to_date : (bytes rest replies : List ℕ) → UpToDate any_need steps p bytes rest replies q → UpToDate any_need others r bytes rest replies s
  up_to_date bytes rest replies u = record { ops = u.ops; begins = u.begins; waiting = u.waiting; answered = answered u.ops replies u.answered }

  at_fault : (ended : Bool) (f : Fault) (bytes replies : List ℕ) → AtFault any_need steps p ended f bytes replies q → AtFault any_need others r ended f bytes replies s
  at_fault ended f bytes replies a = record { ops = a.ops; rest = a.rest; begins = a.begins; number = a.number; fault = a.fault; answered = answered a.ops replies a.answered }

  at_piece : (f : Fault) (bytes replies : List ℕ) → AtPiece any_need steps p f bytes replies q → AtPiece any_need others r f bytes replies s
  at_piece f bytes replies a =
      record { memory = a.memory; before = a.before; piece = a.piece; some = a.some; cut = a.cut; rest = a.rest; why = a.why; answered = up_to_date a.before a.rest replies a.answered }

  refused_at : (ended : Bool) (f : Fault) (bytes told : List ℕ) → RefusedAt any_need steps p ended f bytes told q → RefusedAt any_need others r ended f bytes told s
  refused_at ended f bytes told a =
      record {
        replies = a.replies;
        last = a.last;
        refusal = a.refusal;
        written = a.written;
        stopped = elim a.stopped [ inl x ↦ inl (at_fault ended f bytes a.replies x) | inr x ↦ inr (x.0, at_piece f bytes a.replies x.1) ];
      }

  begun : (bytes replies : List ℕ) → Begun any_need steps p bytes replies q → Begun any_need others r bytes replies s
  begun bytes replies b = record { ops = b.ops; rest = b.rest; begins = b.begins; answered = answered b.ops replies b.answered }

  ends_as : (result : Ended) (ended : Bool) (bytes told : List ℕ) → EndsAs any_need steps result ended p bytes told q → EndsAs any_need others result ended r bytes told s
  ends_as Clean ended bytes told e = (e.0, up_to_date bytes [] told e.1)
  ends_as (Refused f) ended bytes told e = refused_at ended f bytes told e
  ends_as ReadFailed ended bytes told e = (e.0, e.1, up_to_date bytes e.1 told e.2)
  ends_as WriteFailed ended bytes told e = (e.0, e.1, elim e.2 [ inl b ↦ inl (b.0, begun bytes e.0 b.1) | inr x ↦ inr (x.0, refused_at ended x.0 bytes e.0 x.1) ])

  -- a line that was served by steps of one kind was served by those of the other
  pub served_by : (result : Ended) (old new : LineValue) → Served steps result old p new q → Served others result old r new s
  served_by result old new d =
      record { bytes = d.bytes; told = d.told; heard = d.heard; said = d.said; failures = d.failures; ended = d.ended; ended_then = d.ended_then; ends = ends_as result d.ended d.bytes d.told d.ends }

module _ {P : Type 0} (steps : P → Op → Reply → P → Type 0) (p q : P) where
  abbrev pub IsLed : Type 0
  IsLed = (ops : List Op) × (answers : List Reply) × Chain steps p ops answers q

  led : (ops : List Op) (replies : List ℕ) → Answered any_need steps p ops replies q → IsLed
  led ops replies a = (ops, a.answers, a.chain)

  refused_led : (ended : Bool) (f : Fault) (bytes told : List ℕ) → RefusedAt any_need steps p ended f bytes told q → IsLed
  refused_led ended f bytes told a =
      elim a.stopped [ inl x ↦ led x.ops a.replies x.answered | inr x ↦ led x.1.answered.ops a.replies x.1.answered.answered ]

  ended_led : (result : Ended) (ended : Bool) (bytes told : List ℕ) → EndsAs any_need steps result ended p bytes told q → IsLed
  ended_led Clean ended bytes told e = led e.1.ops told e.1.answered
  ended_led (Refused f) ended bytes told e = refused_led ended f bytes told e
  ended_led ReadFailed ended bytes told e = led e.2.ops told e.2.answered
  ended_led WriteFailed ended bytes told e = elim e.2 [ inl b ↦ led b.1.ops e.0 b.1.answered | inr x ↦ refused_led ended x.0 bytes e.0 x.1 ]

  -- a chain of steps leads from the port before to the port after
  pub served_led : (result : Ended) (old new : LineValue) → Served steps result old p new q → IsLed
  served_led result old new d = ended_led result d.ended d.bytes d.told d.ends
