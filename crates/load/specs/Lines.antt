-- One connection of a load.
use Rattle.std.specs.Prelude.{◌≡◌, ℕ, ◌-◌, List, ◌∷◌, Bool, true, not}
use Rattle.load.specs.Tallies.{TallyValue, noted}
use Rattle.load.specs.declared.replies.Reply.{Reply}
use Rattle.load.specs.declared.replies.Reply.TheVariants.{Wrote, Read, Refused}
use Rattle.load.specs.declared.line.Made.{Made}

-- whether a read, or a write, is answered so
abbrev pub is_reply_to : Bool → Reply → Bool
is_reply_to is_read Wrote = not is_read
is_reply_to is_read Read = is_read
is_reply_to is_read (Refused number) = true

-- a reply is that to the request that was made first, and is counted with the time since then
pub record IsTaken (reply : Reply) (time : ℕ) (old new : List Made) (tally tally' : TallyValue) : Type 0 where
  pub made : Made
  pub first : old ≡ made ∷ new
  pub fits : is_reply_to made.is_read reply ≡ true
  pub counted : tally' ≡ noted reply (time - made.at) tally
