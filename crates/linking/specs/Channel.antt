-- One end of a connection over the bytes that came and weren't read yet.
use Rattle.std.specs.Prelude.{◌≡◌, ◌⊎◌, ℕ, List, ◌++◌, length, Some, None, Ok, Err}
use Rattle.logical_time.specs.declared.fault.Fault.TheVariants.{Oversize}
use Rattle.peers.specs.Frames.{frame, first_length}
use Rattle.hello.specs.declared.welcome.Expected.{Expected}
use Rattle.linking.specs.declared.trouble.Trouble.{Trouble}
use Rattle.linking.specs.declared.trouble.Trouble.TheVariants.{Malformed}
use Rattle.linking.specs.declared.side.Side.{Side}
use Rattle.linking.specs.declared.side.Stage.TheVariants.{Over}
use Rattle.linking.specs.declared.side.Heard.{Heard}
use Rattle.linking.specs.Side.{Hears, Stops, over, longest}

-- the bytes that came and weren't read yet, and the end
pub record ChannelValue : Type 0 where
  pub heard : List ℕ
  pub side : Side

-- the first frame that came is whole, and this is its body; none may be longer than an end takes where it stands
abbrev pub IsFirst : List ℕ → ChannelValue → Type 0
IsFirst body c = first_length (longest c.side.stage) c.heard ≡ Ok (Some (length body))

-- something is heard in the first frame, which is read then
pub record HearsNext (own : Expected) (secret : List ℕ) (old : ChannelValue) (h : Heard) (new : ChannelValue) : Type 0 where
  pub body : List ℕ
  pub whole : IsFirst body old
  pub read : old.heard ≡ frame body ++ new.heard
  pub hears : Hears own secret body old.side h new.side

-- the first frame is trouble, and stays unread
pub record StopsNext (own : Expected) (secret : List ℕ) (old : ChannelValue) (t : Trouble) (new : ChannelValue) : Type 0 where
  pub body : List ℕ
  pub rest : List ℕ
  pub whole : IsFirst body old
  pub first : old.heard ≡ frame body ++ rest
  pub stays : new.heard ≡ old.heard
  pub stops : Stops own secret body old.side t new.side

-- the first frame is too long
pub record IsTooLong (old : ChannelValue) (t : Trouble) (new : ChannelValue) : Type 0 where
  pub trouble : t ≡ Malformed
  pub long : first_length (longest old.side.stage) old.heard ≡ Err Oversize
  pub now : new ≡ record { heard = old.heard; side = over old.side }

-- why there is nothing to hear: the connection is over, or the first frame isn't whole yet
abbrev pub IsQuiet : ChannelValue → Type 0
IsQuiet c = (c.side.stage ≡ Over) ⊎ (first_length (longest c.side.stage) c.heard ≡ Ok None)
