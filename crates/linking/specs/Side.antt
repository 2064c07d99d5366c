-- One end of a connection, and what each frame makes of it. The states of an end are those of `Stage`.
use Rattle.std.specs.Prelude.{◌≡◌, ◌≢◌, ◌⊎◌, ℕ, ◌+◌, ◌-◌, ◌^◌, nat_eq, nat_lt, if◌then◌else◌, Bool, true, false, IsTrue, List, [], ◌++◌, length, take, drop, replicate, slice_get, Option, Some, None}
use Rattle.logical_time.specs.declared.fault.Fault.{Fault}
use Rattle.logical_time.specs.declared.fault.Fault.TheVariants.{Memory, ClockSpent, StrangerEnd, Oversize}
use Rattle.peers.specs.Frames.{frame}
use Rattle.hello.specs.declared.hello.Hello.{Hello}
use Rattle.hello.specs.declared.welcome.Expected.{Expected}
use Rattle.hello.specs.declared.welcome.Unwelcome.{Unwelcome}
use Rattle.hello.specs.declared.welcome.Unwelcome.TheVariants.{Stranger}
use Rattle.hello.specs.declared.role.Role.{Role}
use Rattle.hello.specs.declared.role.Role.TheVariants.{Connecting, Accepting}
use Rattle.hello.specs.Hello.{spelled}
use Rattle.hello.specs.Mac.{hmac}
use Rattle.hello.specs.Meeting.{proof_message, key_message}
use Rattle.hello.specs.Welcome.{welcome}
use Rattle.linking.specs.declared.said.Said.{Said}
use Rattle.linking.specs.declared.trouble.Trouble.{Trouble}
use Rattle.linking.specs.declared.trouble.Trouble.TheVariants.{Unwelcome as NotWelcome, Unproved, Forged, Malformed, Refused}
use Rattle.linking.specs.declared.side.Side.{Side}
use Rattle.linking.specs.declared.side.Stage.{Stage}
use Rattle.linking.specs.declared.side.Stage.TheVariants.{Calling, Open, Proving, Joined, Over}
use Rattle.linking.specs.declared.side.Heard.{Heard}
use Rattle.linking.specs.declared.side.Heard.TheVariants.{Greeted, Met, Said as Heard_said}
use Rattle.linking.specs.Said.{spelling, tag_of, tagged, IsNothingSaid}

-- the role of the other end
abbrev pub other : Role → Role
other Connecting = Accepting
other Accepting = Connecting

-- the hello of the other end
abbrev pub theirs_of : Role → Hello → Hello → Hello
theirs_of Connecting connecting accepting = accepting
theirs_of Accepting connecting accepting = connecting

-- the connection is over
abbrev pub over : Side → Side
over s = record { stage = Over; unsent = s.unsent; said = s.said; taken = s.taken }

-- bytes are put behind what is to be written
abbrev pub putting : List ℕ → Side → Side
putting bytes s = record { stage = s.stage; unsent = s.unsent ++ bytes; said = s.said; taken = s.taken }

-- ## Hellos

-- which process is known there, or zeros
abbrev pub known_of : Option (Option (List ℕ)) → List ℕ
known_of (Some (Some met)) = met
known_of other = replicate 16 0

-- the hello to a data centre
abbrev pub hello_to : Expected → ℕ → List ℕ → Hello
hello_to own dc nonce = record {
  version = 1;
  «from» = own.dc;
  to = dc;
  incarnation = own.incarnation;
  known = known_of (slice_get own.met.items dc);
  digest = own.digest;
  nonce = nonce;
}

-- a hello that may be answered has to be from the data centre that was called
abbrev pub if_called : Bool → Option Unwelcome → Option Unwelcome
if_called true refusal = refusal
if_called false None = Some Stranger
if_called false (Some refusal) = Some refusal

-- why an end doesn't go on after a hello, if it doesn't
abbrev pub refusal : Expected → Stage → Hello → Option Unwelcome
refusal own (Calling ours) theirs = if_called (nat_eq theirs.from ours.to) (welcome own theirs)
refusal own stage theirs = welcome own theirs

-- what an end puts after a hello that isn't welcome: who was called its own hello all the same
abbrev pub farewell : Expected → Stage → Hello → List ℕ
farewell own (Open nonce) theirs = frame (spelled (hello_to own theirs.from nonce))
farewell own stage theirs = []

-- what it puts after one that is: who was called its own hello, who called its proof
abbrev pub answer : Expected → List ℕ → Stage → Hello → List ℕ
answer own secret (Open nonce) theirs = frame (spelled (hello_to own theirs.from nonce))
answer own secret (Calling ours) theirs = frame (hmac secret (proof_message Connecting ours theirs))
answer own secret stage theirs = []

-- both hellos of the connection are kept then, and the other end's proof is awaited
abbrev pub proving : Expected → Stage → Hello → Stage
proving own (Open nonce) theirs = Proving Accepting theirs (hello_to own theirs.from nonce)
proving own (Calling ours) theirs = Proving Connecting ours theirs
proving own stage theirs = stage

-- an end that waits for a hello
abbrev pub awaits_hello : Stage → Bool
awaits_hello (Open nonce) = true
awaits_hello (Calling ours) = true
awaits_hello stage = false

-- ## What is heard

-- a body is a welcome hello
pub record HearsHello (own : Expected) (secret body : List ℕ) (old new : Side) (dc : ℕ) : Type 0 where
  pub theirs : Hello
  pub awaited : IsTrue (awaits_hello old.stage)
  pub is : body ≡ spelled theirs
  pub whose : dc ≡ theirs.from
  pub welcomed : refusal own old.stage theirs ≡ None
  pub now : new ≡ record { stage = proving own old.stage theirs; unsent = old.unsent ++ answer own secret old.stage theirs; said = old.said; taken = old.taken }

-- the proof of who was called comes last
abbrev pub last_proof : List ℕ → Role → Hello → Hello → List ℕ
last_proof secret Connecting connecting accepting = []
last_proof secret Accepting connecting accepting = frame (hmac secret (proof_message Accepting connecting accepting))

-- a body is the proof, over both hellos of the connection, of the end whose hello is welcome now
pub record HearsProof (own : Expected) (secret body : List ℕ) (old new : Side) (dc : ℕ) (incarnation : List ℕ) : Type 0 where
  pub role : Role
  pub connecting : Hello
  pub accepting : Hello
  pub awaited : old.stage ≡ Proving role connecting accepting
  pub is : body ≡ hmac secret (proof_message (other role) connecting accepting)
  pub welcomed : welcome own (theirs_of role connecting accepting) ≡ None
  pub whose : dc ≡ (theirs_of role connecting accepting).from
  pub which : incarnation ≡ (theirs_of role connecting accepting).incarnation
  pub now : new ≡ record { stage = Joined role (hmac secret (key_message connecting accepting)); unsent = old.unsent ++ last_proof secret role connecting accepting; said = 0; taken = 0 }

-- a body has the tag of the connection's key, for the other role and the count of those that were taken, and says this
pub record IsTagged (body : List ℕ) (stage : Stage) (taken : ℕ) (said : Said) : Type 0 where
  pub role : Role
  pub key : List ℕ
  pub joined : stage ≡ Joined role key
  pub is : body ≡ tagged key (other role) taken (spelling said)

-- and that is counted
pub record HearsSaid (body : List ℕ) (old new : Side) (said : Said) : Type 0 where
  pub is : IsTagged body old.stage old.taken said
  pub now : new ≡ record { stage = old.stage; unsent = old.unsent; said = old.said; taken = old.taken + 1 }

-- what is heard in a body, and what the end is then
abbrev pub Hears : Expected → List ℕ → List ℕ → Side → Heard → Side → Type 0
Hears own secret body old (Greeted dc) new = HearsHello own secret body old new dc
Hears own secret body old (Met dc incarnation) new = HearsProof own secret body old new dc incarnation
Hears own secret body old (Heard_said said) new = HearsSaid body old new said

-- ## Trouble

-- a hello isn't welcome
pub record HearsStranger (own : Expected) (body : List ℕ) (old new : Side) (why : Unwelcome) : Type 0 where
  pub theirs : Hello
  pub awaited : IsTrue (awaits_hello old.stage)
  pub is : body ≡ spelled theirs
  pub unwelcome : refusal own old.stage theirs ≡ Some why
  pub now : new ≡ over (putting (farewell own old.stage theirs) old)

-- who proved itself isn't welcome any more, since another process of its data centre was met meanwhile
pub record ComesLate (own : Expected) (secret body : List ℕ) (old new : Side) (why : Unwelcome) : Type 0 where
  pub role : Role
  pub connecting : Hello
  pub accepting : Hello
  pub awaited : old.stage ≡ Proving role connecting accepting
  pub is : body ≡ hmac secret (proof_message (other role) connecting accepting)
  pub unwelcome : welcome own (theirs_of role connecting accepting) ≡ Some why
  pub now : new ≡ over old

-- a body isn't the proof
pub record IsUnproved (secret body : List ℕ) (old : Side) : Type 0 where
  pub role : Role
  pub connecting : Hello
  pub accepting : Hello
  pub awaited : old.stage ≡ Proving role connecting accepting
  pub wrong : body ≢ hmac secret (proof_message (other role) connecting accepting)

-- a body hasn't the tag
pub record IsForged (body : List ℕ) (stage : Stage) (taken : ℕ) : Type 0 where
  pub role : Role
  pub key : List ℕ
  pub joined : stage ≡ Joined role key
  pub wrong : take 16 body ≢ tag_of key (other role) taken (drop 16 body)

-- a body has the tag and says nothing
pub record IsNonsense (body : List ℕ) (stage : Stage) (taken : ℕ) : Type 0 where
  pub role : Role
  pub key : List ℕ
  pub joined : stage ≡ Joined role key
  pub right : take 16 body ≡ tag_of key (other role) taken (drop 16 body)
  pub nothing : IsNothingSaid (drop 16 body)

-- why a body with a tag isn't taken
abbrev pub OpensNot : List ℕ → Stage → ℕ → Trouble → Type 0
OpensNot body stage taken (NotWelcome why) = ⊥
OpensNot body stage taken Unproved = ⊥
OpensNot body stage taken Forged = IsForged body stage taken
OpensNot body stage taken Malformed = IsNonsense body stage taken
OpensNot body stage taken (Refused fault) = fault ≡ Memory

-- after all but a refusal the connection is over
abbrev pub after_trouble : Trouble → Stage → Stage
after_trouble (NotWelcome why) stage = Over
after_trouble Unproved stage = Over
after_trouble Forged stage = Over
after_trouble Malformed stage = Over
after_trouble (Refused fault) stage = stage

-- a body is no frame of this place: it is no hello, or says nothing, or the connection is over
abbrev pub IsMalformed : List ℕ → Side → Type 0
IsMalformed body old = (IsTrue (awaits_hello old.stage) × (length body ≢ 102)) ⊎ IsNonsense body old.stage old.taken ⊎ (old.stage ≡ Over)

-- what is refused of an end, which stays: memory, or a number where all are spent
abbrev pub IsRefused : Side → Fault → Type 0
IsRefused old fault = (fault ≡ Memory) ⊎ ((fault ≡ ClockSpent) × (old.taken ≡ 2 ^ 64 - 1))

-- why an end goes no further after a body, and what it is then
abbrev pub Stops : Expected → List ℕ → List ℕ → Side → Trouble → Side → Type 0
Stops own secret body old (NotWelcome why) new = HearsStranger own body old new why ⊎ ComesLate own secret body old new why
Stops own secret body old Unproved new = IsUnproved secret body old × (new ≡ over old)
Stops own secret body old Forged new = IsForged body old.stage old.taken × (new ≡ over old)
Stops own secret body old Malformed new = IsMalformed body old × (new ≡ over old)
Stops own secret body old (Refused fault) new = IsRefused old fault × (new ≡ old)

-- ## What is said

-- whether the other end has proved itself
abbrev pub is_met : Stage → Bool
is_met (Joined role key) = true
is_met stage = false

-- why an end may not say a body of so many bytes, if it may not
abbrev pub unsayable : Side → ℕ → Option Fault
unsayable s count =
    if is_met s.stage then (if nat_eq s.said (2 ^ 64 - 1) then Some ClockSpent else (if nat_lt (2 ^ 32 - 1 - 16) count then Some Oversize else None)) else Some StrangerEnd

-- what is put where a body is said: the frame with the tag of the own role and count
abbrev pub frame_of : List ℕ → ℕ → Stage → List ℕ
frame_of body count (Joined role key) = frame (tagged key role count body)
frame_of body count stage = []

-- an end that said a body
abbrev pub saying : List ℕ → Side → Side
saying body s = record { stage = s.stage; unsent = s.unsent ++ frame_of body s.said s.stage; said = s.said + 1; taken = s.taken }

-- how many bytes the body of a frame may have that an end takes
abbrev pub longest : Stage → ℕ
longest (Joined role key) = 2 ^ 32 - 1
longest stage = 512
