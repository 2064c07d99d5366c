-- What becomes of a site that does the entries of a log again, and why none comes back.
use Rattle.std.specs.Prelude.{◌≡◌, ◌⊎◌, ◌&&◌, ℕ, Bool, true, false, List, [], ◌∷◌, ◌++◌, length, drop, ◌+◌}
use Rattle.logical_time.specs.declared.fault.Fault.{Fault}
use Rattle.logical_time.specs.declared.fault.Fault.TheVariants.{Busy, Memory, StrangerEnd, WriteFailed}
use Rattle.messages.specs.Topology.{TopologyValue, is_session, is_shard}
use Rattle.messages.specs.declared.event.ActorEvent.TheVariants.{Submit, Collect}
use Rattle.actors.specs.Machines.{Refuses}
use Rattle.disk.specs.declared.disk.DiskError.TheVariants.{Failed}
use Rattle.records.specs.Records.{Entry as Record, spelled, recovered, has_first}
use Rattle.keeper.specs.Log.{IsAsBefore}
use Rattle.keeper.specs.declared.recovery.RecoveryError.TheVariants.{Disk, Damaged}
use Rattle.site.specs.Sites.{SiteValue}
use Rattle.site.specs.Story.{is_here, may_come, arrivals, handled, given}
use Rattle.site.specs.Steps.{Step, Asked, Came, Turned, Collected, steps}
use Rattle.site.specs.Turns.{IsRefused, IsTurnRefused}
use Rattle.site.specs.declared.turn.Turn.{Turn}
use Rattle.site.specs.declared.turn.Turn.TheVariants.{Idle, Handled, Ended}
use Rattle.site_ledger.specs.declared.entry.Entry.{Entry}
use Rattle.site_ledger.specs.declared.entry.Entry.TheVariants.{Whose}
use Rattle.site_ledger.specs.Entries.{IsTextOf}
use Rattle.site_ledger.specs.Steps.{steps_told}
use Rattle.durable_site.specs.declared.identity.Identity.{Identity}
use Rattle.durable_site.specs.declared.error.OpenError.{OpenError}
use Rattle.durable_site.specs.declared.error.OpenError.TheVariants.{Unrecovered, Unread, Other, Refused}
use Rattle.durable_site.specs.Logged.{Tell, whose_of}
use Rattle.durable_site.specs.Settled.{HoldsOnly}

-- ## Steps that are done again

-- how many steps a turn is
abbrev pub count_of : Turn → ℕ
count_of Idle = 0
count_of Handled = 1
count_of (Ended session number outcome) = 1

-- The site did these steps, and gave nothing.
pub record HasRedone (old : SiteValue) (done : List Step) (new : SiteValue) : Type 0 where
  pub top : new.top ≡ old.top
  pub dc : new.dc ≡ old.dc
  pub sound : new.sound ≡ old.sound
  pub steps : steps new.story ≡ steps old.story ++ done
  pub given : given new.story ≡ given old.story

-- the site of a data centre before its first event
abbrev pub site_before : TopologyValue → ℕ → SiteValue
site_before top dc = record { top = top; dc = dc; sound = true; story = [] }

-- Why a site can't do a step: its session or shard isn't here, nothing waits to be handled, or it is refused.
abbrev pub CantDo : Refuses → SiteValue → Step → Fault → Type 0
CantDo refuses s (Asked node op) fault =
    (((is_session s.top node && is_here s.top s.dc node) ≡ false) × (fault ≡ Busy)) ⊎ ((new : SiteValue) × IsRefused refuses s node (Submit op) fault new)
CantDo refuses s (Came from e) fault = (fault ≡ Memory) ⊎ ((fault ≡ StrangerEnd) × ((s.sound ≡ false) ⊎ (may_come s.top s.dc from e ≡ false)))
CantDo refuses s Turned fault = ((handled s.story ≡ arrivals s.top s.dc s.story) × (fault ≡ Busy)) ⊎ ((new : SiteValue) × IsTurnRefused refuses s fault new)
CantDo refuses s (Collected node time) fault =
    (((is_shard s.top node && is_here s.top s.dc node) ≡ false) × (fault ≡ Busy)) ⊎ ((new : SiteValue) × IsRefused refuses s node (Collect time) fault new)

-- The site did the first of these steps, up to one that it can't do.
pub record IsStuck (refuses : Refuses) (old : SiteValue) (all : List Step) (fault : Fault) : Type 0 where
  pub done : List Step
  pub next : Step
  pub left : List Step
  pub parts : all ≡ done ++ next ∷ left
  pub site : SiteValue
  pub redone : HasRedone old done site
  pub why : CantDo refuses site next fault

-- whose log it is by its first entry: that of this data centre's process, by the same file of sites; of none, this one's
abbrev pub IsWhose : Identity → List Entry → Identity → Type 0
IsWhose mine [] i = i ≡ mine
IsWhose mine (e ∷ es) i = (e ≡ whose_of i) × (i.dc ≡ mine.dc) × (i.digest ≡ mine.digest)

-- The site that comes back from the records of a log: it did what they tell, and nothing else.
pub record ComesBack (top : TopologyValue) (mine : Identity) (records : List Record) (i : Identity) (site : SiteValue) : Type 0 where
  pub entries : List Entry
  pub tell : Tell entries records
  pub whose : IsWhose mine entries i
  pub redone : HasRedone (site_before top mine.dc) (steps_told entries) site

-- ## Why a log isn't opened

-- this record tells no entry
abbrev pub TellsNone : Record → Type 0
TellsNone r = (e : Entry) → IsTextOf e r.body → ⊥

-- there is no memory, or the record of this number tells no entry
abbrev pub IsUnreadable : List Record → OpenError → Type 0
IsUnreadable records (Unrecovered e) = ⊥
IsUnreadable records (Unread n) = (before after : List Record) × (r : Record) × (records ≡ before ++ r ∷ after) × (n ≡ length before) × TellsNone r
IsUnreadable records Other = ⊥
IsUnreadable records (Refused fault) = fault ≡ Memory

-- the first entry isn't that of a process of this data centre by this file of sites
abbrev pub IsOther : Identity → List Entry → Type 0
IsOther mine [] = ⊥
IsOther mine (e ∷ es) = (incarnation : List ℕ) → e ≡ Whose mine.dc incarnation mine.digest → ⊥

-- Why no site comes of the records of a log: one tells no entry; it is another's; no first entry can be written, since the disk failed;
-- there is no memory; or the site before its first event gets stuck on the steps that they tell. Whether the disk failed is given.
abbrev pub CantResume : Refuses → TopologyValue → Identity → List Record → Bool → OpenError → Type 0
CantResume refuses top mine records failed (Unrecovered e) = ⊥
CantResume refuses top mine records failed (Unread n) = IsUnreadable records (Unread n)
CantResume refuses top mine records failed Other = (entries : List Entry) × Tell entries records × IsOther mine entries
CantResume refuses top mine records failed (Refused fault) =
    (fault ≡ Memory) ⊎ (((records ≡ []) × (failed ≡ true) × (fault ≡ WriteFailed))
    ⊎ ((entries : List Entry) × Tell entries records × IsStuck refuses (site_before top mine.dc) (steps_told entries) fault))

-- Why no site comes back from the bytes of a file: a record that was synced is damaged, the disk is refused, or for that.
abbrev pub CantOpen : Refuses → TopologyValue → Identity → ℕ → List ℕ → Bool → OpenError → Type 0
CantOpen refuses top mine secret bytes failed (Unrecovered (Disk e)) = e ≡ Failed → failed ≡ true
CantOpen refuses top mine secret bytes failed (Unrecovered (Damaged at)) =
    let end = length (spelled secret 0 (recovered secret 0 0 bytes)) in (at ≡ end) × (has_first secret (end + 1) (drop (end + 1) bytes) ≡ true)
CantOpen refuses top mine secret bytes failed (Unread n) = CantResume refuses top mine (recovered secret 0 0 bytes) failed (Unread n)
CantOpen refuses top mine secret bytes failed Other = CantResume refuses top mine (recovered secret 0 0 bytes) failed Other
CantOpen refuses top mine secret bytes failed (Refused fault) = CantResume refuses top mine (recovered secret 0 0 bytes) failed (Refused fault)

-- ## What a crash leaves meanwhile

-- the same records, no more damaged; or of an empty log nothing but the first entry of a new one
abbrev pub IsLeft : ℕ → Entry → List ℕ → List ℕ → Type 0
IsLeft secret whose file left = IsAsBefore secret file left ⊎ ((recovered secret 0 0 file ≡ []) × HoldsOnly secret whose [] left)
