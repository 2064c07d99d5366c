-- What the tokens to come stand for.
use Rattle.std.specs.Prelude.{◌≡◌, ◌≤◌, ℕ, List, [], ◌∷◌, length, Bool, true, false, Option, Some, None, option_and_then, IfSome, codes}
use Rattle.json.specs.Token.{Token, begin_object}
use Rattle.json.specs.Json.{value, items, members, after_end_array, read_key}
use Rattle.serde_json.specs.Data.{Data, array, object, Items, item, Members, member, no_members, put}
use Rattle.serde_json.specs.Read.{of_json, of_items, of_members, converted}
use Rattle.messages.specs.Topology.{TopologyValue}
use Rattle.workload.specs.declared.heading.Heading.{Heading}
use Rattle.workload.specs.declared.heading.Bounds.{Bounds}
use Rattle.workload.specs.Shape.{all_by, list_by, has_members}
use Rattle.workload.specs.Script.{end_of, reversed_of, count_of, small_of, families_of, topology_of}

-- the value that the tokens begin with, nested no deeper than the depth, as `serde_json` keeps it, and the tokens after it
abbrev pub value_at : ℕ → List Token → Option (Data × List Token)
value_at depth ts = converted of_json (value depth ts)

-- the tokens begin with a value that stands for x
abbrev pub Reads : {A : Type 0} → (Data → Option A) → ℕ → List Token → List Token → A → Type 0
Reads f depth old new x = (d : Data) × (value_at depth old ≡ Some (d, new)) × (f d ≡ Some x)

-- ## Lists

-- the tokens begin with these items, and the bracket that closes their list
abbrev pub ItemsAre : ℕ → List Token → Items → List Token → Type 0
ItemsAre depth old ds new = (n : ℕ) → length old ≤ n → converted of_items (items (value depth) n old) ≡ Some (ds, new)

-- whatever the first item of a list is, with the items to come it stands for x
abbrev pub ReadsRest : {A : Type 0} → (Data → Option A) → ℕ → List Token → List Token → A → Type 0
ReadsRest f depth old new x = (ds : Items) × ItemsAre depth old ds new × ((d : Data) → f (array (item d ds)) ≡ Some x)

-- these items, and others after them
abbrev pub before : List Data → Items → Items
before [] rest = rest
before (d ∷ ds) rest = item d (before ds rest)

-- of the list from `first` on, what stands before `now` stands for the xs
abbrev pub SoFar : {A : Type 0} → (Data → Option A) → ℕ → List Token → List Token → List A → Type 0
SoFar f depth first now xs = (ds : List Data) × (all_by f ds ≡ Some xs) × ((rest : Items) (r : List Token) → ItemsAre depth now rest r → ItemsAre depth first (before ds rest) r)

-- the bracket that closes a list is read, if it ends here
abbrev pub EndsIf : Bool → List Token → List Token → Type 0
EndsIf true now new = after_end_array now ≡ Some new
EndsIf false now new = now ≡ new

-- the next items of a list stand for the xs, and if they are its last, the bracket that closes it is read
abbrev pub IsStretch : {A : Type 0} → (Data → Option A) → ℕ → List Token → List Token → List A → Bool → Type 0
IsStretch f depth old new xs last = (now : List Token) × SoFar f depth old now xs × EndsIf last now new

-- ## Objects

-- the members to come, put one after the other among those that were found, make these, and then the brace closes the object
abbrev pub MembersAre : ℕ → Members → List Token → Members → List Token → Type 0
MembersAre depth found old ms new = (n : ℕ) → length old ≤ n → converted (λ js. of_members js found) (members (value depth) n old) ≡ Some (ms, new)

-- of the object from `first` on, the members before `now` make these
abbrev pub AreFound : ℕ → List Token → List Token → Members → Type 0
AreFound depth first now found = (ms : Members) (r : List Token) → MembersAre depth found now ms r → MembersAre depth no_members first ms r

-- a member, if it is there, before others
abbrev pub kept : List ℕ → Option Data → Members → Members
kept name None ms = ms
kept name (Some d) ms = member name d ms

-- ## Ranges

-- the members of a range that were found
pub record RangeMembers : Type 0 where
  pub start : Option Data
  pub finish : Option Data
  pub reversed : Option Data
  pub count : Option Data

-- they stand in the order of their names
abbrev pub range_with : RangeMembers → Members
range_with m = kept (codes "count") m.count (kept (codes "finish") m.finish (kept (codes "reversed") m.reversed (kept (codes "start") m.start no_members)))

-- these bounds are what the members tell, and what is left out is as usual
pub record AreBounds (b : Bounds) (m : RangeMembers) : Type 0 where
  pub start : end_of m.start ≡ Some b.start
  pub finish : end_of m.finish ≡ Some b.finish
  pub reversed : reversed_of m.reversed ≡ Some b.reversed
  pub count : count_of m.count ≡ Some b.count

-- the value to come, under this name, turns these bounds into those
abbrev pub Bounded : List ℕ → ℕ → List Token → List Token → Bounds → Bounds → Type 0
Bounded name depth old new b b' =
    (d : Data) × (value_at depth old ≡ Some (d, new))
    × ((m : RangeMembers) → AreBounds b m → (m' : RangeMembers) × AreBounds b' m' × (put name d (range_with m) ≡ range_with m'))

-- of the range from `first` on, the members before `now` tell these bounds
abbrev pub BoundsSoFar : ℕ → List Token → List Token → Bounds → Type 0
BoundsSoFar depth first now b = (m : RangeMembers) × AreBounds b m × AreFound depth first now (range_with m)

-- ## Scripts

-- the members of a script that were found before its events
pub record HeadMembers : Type 0 where
  pub dcs : Option Data
  pub shards : Option Data
  pub families : Option Data
  pub homes : Option Data

-- they stand in the order of their names
abbrev pub head_with : HeadMembers → Members
head_with m = kept (codes "dcs") m.dcs (kept (codes "families") m.families (kept (codes "homes") m.homes (kept (codes "shards") m.shards no_members)))

-- the heading has what the members tell
pub record IsHeading (h : Heading) (m : HeadMembers) : Type 0 where
  pub dcs : IfSome h.dcs (λ x. option_and_then small_of m.dcs ≡ Some x)
  pub shards : IfSome h.shards (λ x. option_and_then small_of m.shards ≡ Some x)
  pub families : IfSome h.families (λ x. option_and_then families_of m.families ≡ Some x)
  pub homes : IfSome h.homes (λ v. option_and_then (list_by small_of) m.homes ≡ Some v.items)

-- the value to come, under this name, turns this heading into that one
abbrev pub Headed : List ℕ → ℕ → List Token → List Token → Heading → Heading → Type 0
Headed name depth old new h h' =
    (d : Data) × (value_at depth old ≡ Some (d, new))
    × ((m : HeadMembers) → IsHeading h m → (m' : HeadMembers) × IsHeading h' m' × (put name d (head_with m) ≡ head_with m'))

-- of the script from `first` on, the members before `now` tell this heading
abbrev pub HeadingSoFar : ℕ → List Token → List Token → Heading → Type 0
HeadingSoFar depth first now h = (m : HeadMembers) × IsHeading h m × AreFound depth first now (head_with m)

-- the tokens begin with members that tell this heading, and the name of the events
abbrev pub BeginWith : ℕ → List Token → List Token → Heading → Type 0
BeginWith depth old new h = (now : List Token) × HeadingSoFar depth old now h × (read_key now ≡ Some (Some (codes "events"), new))

-- with these events, the members are those of a script of this topology
abbrev pub AreOf : TopologyValue → HeadMembers → Data → Type 0
AreOf top m events =
    let whole = object (put (codes "events") events (head_with m)) in
    (has_members 5 whole ≡ true) × (topology_of whole ≡ Some top)

-- the heading tells the topology, whatever the events are
abbrev pub Tells : Heading → TopologyValue → Type 0
Tells h top = (m : HeadMembers) → IsHeading h m → (events : Data) → AreOf top m events

-- the tokens begin with a script of this topology, down to its events, which come last
abbrev pub Begins : List Token → List Token → TopologyValue → Type 0
Begins old new top = (first : List Token) × (h : Heading) × (old ≡ begin_object ∷ first) × BeginWith 126 first new h × Tells h top
