-- Which hellos may be answered.
use Rattle.std.specs.Prelude.{ℕ, ◌==◌, ◌&&◌, ◌||◌, not, nat_lt, Bool, true, false, List, length, replicate, bytes_eq, slice_get, Option, Some, None}
use Rattle.hello.specs.declared.hello.Hello.{Hello}
use Rattle.hello.specs.declared.welcome.Expected.{Expected}
use Rattle.hello.specs.declared.welcome.Unwelcome.{Unwelcome}
use Rattle.hello.specs.declared.welcome.Unwelcome.TheVariants.{Version, Stranger, OtherSites, KnowsAnother, OtherProcess}

-- it is for this data centre, and from another one of the store
abbrev pub is_for : Expected → Hello → Bool
is_for own other = other.to == own.dc && not (other.from == own.dc) && nat_lt other.from (length own.met.items)

-- it knows no process of this data centre, or this one
abbrev pub is_known : Expected → Hello → Bool
is_known own other = bytes_eq other.known (replicate 16 0) || bytes_eq other.known own.incarnation

-- no process was met there, or this one
abbrev pub is_same_as : Option (Option (List ℕ)) → List ℕ → Bool
is_same_as (Some (Some met)) incarnation = bytes_eq met incarnation
is_same_as other incarnation = true

-- it is the process that was met at its data centre, if one was
abbrev pub is_met : Expected → Hello → Bool
is_met own other = is_same_as (slice_get own.met.items other.from) other.incarnation

-- the refusal where a test fails, and else what the later tests say
abbrev pub unless : Bool → Unwelcome → Option Unwelcome → Option Unwelcome
unless true refusal later = later
unless false refusal later = Some refusal

-- why a hello may not be answered, if it may not: the first test in this order that fails
unfoldable pub welcome : Expected → Hello → Option Unwelcome
welcome own other =
    unless (other.version == 1) Version
    (unless (is_for own other) Stranger
    (unless (bytes_eq other.digest own.digest) OtherSites
    (unless (is_known own other) KnowsAnother
    (unless (is_met own other) OtherProcess None))))
