-- A one-way link, whatever connections carry it: what happens at its two ends and between them.
use Rattle.std.specs.Prelude.{◌≡◌, ℕ, ◌+◌, ◌-◌, nat_eq, if◌then◌else◌, List, [], ◌∷◌, ◌++◌, drop, Some, Contains, ⊤}
use Rattle.peers.specs.Ends.{OutboundValue, parcel_at, put, acknowledged}

-- all that was given to the sender's end and all that the receiver's end took, oldest first; what the two ends keep; the parcels
-- that were ever sent, with their numbers; the numbers that the receiver ever told as the next that it wants
pub record Link : Type 0 where
  pub given : List (List ℕ)
  pub taken : List (List ℕ)
  pub outbound : OutboundValue
  pub inbound : ℕ
  pub sent : List (ℕ × List ℕ)
  pub told : List ℕ

-- before anything happened
abbrev pub started : Link
started = record { given = []; taken = []; outbound = record { first = 0; kept = [] }; inbound = 0; sent = []; told = [] }

-- a parcel is put; the one with a number is sent; one comes; the receiver tells what it wants next; the sender hears that
pub data LinkEvent : Type 0 where
  puts : List ℕ → LinkEvent
  sends : ℕ → List ℕ → LinkEvent
  comes : ℕ → List ℕ → LinkEvent
  tells : LinkEvent
  hears : ℕ → LinkEvent

-- What is sent is what is kept under that number. What comes was sent, and what is heard was told, at some earlier moment: on
-- whatever connection, late, in whatever order, any number of times, or never.
abbrev pub MayHappen : LinkEvent → Link → Type 0
MayHappen (puts parcel) l = ⊤
MayHappen (sends number parcel) l = parcel_at l.outbound number ≡ Some parcel
MayHappen (comes number parcel) l = Contains l.sent (number, parcel)
MayHappen tells l = ⊤
MayHappen (hears below) l = Contains l.told below

-- a parcel is taken where it has the number that is wanted
abbrev pub comes_to : ℕ → List ℕ → Link → Link
comes_to number parcel l =
    if nat_eq number l.inbound
    then record { given = l.given; taken = l.taken ++ parcel ∷ []; outbound = l.outbound; inbound = l.inbound + 1; sent = l.sent; told = l.told }
    else l

-- what an event makes of a link
abbrev pub step : LinkEvent → Link → Link
step (puts parcel) l = record { given = l.given ++ parcel ∷ []; taken = l.taken; outbound = put parcel l.outbound; inbound = l.inbound; sent = l.sent; told = l.told }
step (sends number parcel) l = record { given = l.given; taken = l.taken; outbound = l.outbound; inbound = l.inbound; sent = (number, parcel) ∷ l.sent; told = l.told }
step (comes number parcel) l = comes_to number parcel l
step tells l = record { given = l.given; taken = l.taken; outbound = l.outbound; inbound = l.inbound; sent = l.sent; told = l.inbound ∷ l.told }
step (hears below) l = record { given = l.given; taken = l.taken; outbound = acknowledged below l.outbound; inbound = l.inbound; sent = l.sent; told = l.told }

-- what events make of a link, the first of them first
abbrev pub run : List LinkEvent → Link → Link
run [] l = l
run (e ∷ es) l = run es (step e l)

-- each of them may happen when it does
abbrev pub Happens : List LinkEvent → Link → Type 0
Happens [] l = ⊤
Happens (e ∷ es) l = MayHappen e l × Happens es (step e l)

-- some are the first of others, in order
abbrev pub IsBeginning : {X : Type 0} → List X → List X → Type 0
IsBeginning {X = X} xs ys = (more : List X) × (ys ≡ xs ++ more)

-- parcels come one after the other, the first under this number
abbrev pub carried : ℕ → List (List ℕ) → List LinkEvent
carried number [] = []
carried number (parcel ∷ parcels) = comes number parcel ∷ carried (number + 1) parcels

-- what is kept from a number on
abbrev pub kept_from : ℕ → OutboundValue → List (List ℕ)
kept_from number o = drop (number - o.first) o.kept
