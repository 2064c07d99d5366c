-- A site that came back from a file.
use Rattle.std.proofs.Common.{◌≡◌, ◌++◌, ℕ, Bool, false, List, length, drop, Option, Result, Err, IfErr, sym, subst}
use Rattle.messages.specs.Topology.{TopologyValue}
use Rattle.actors.specs.Machines.{Refuses}
use Rattle.disk.specs.Disk.{IsBeginning}
use Rattle.records.specs.Records.{recovered, IsUndamaged}
use Rattle.ledger.specs.Heads.{head_of, IsNoHead}
use Rattle.ledger.specs.declared.head.HeadError.{HeadError}
use Rattle.site.specs.Steps.{Step, steps}
use Rattle.site_ledger.specs.declared.entry.Entry.{Entry}
use Rattle.durable_site.specs.declared.identity.Identity.{Identity}
use Rattle.durable_site.specs.declared.error.OpenError.{OpenError}
use Rattle.durable_site.specs.Logged.{whose_of}
use Rattle.durable_site.specs.Settled.{Holds}
use Rattle.durable_site.specs.Kept.{DurableSiteValue, IsOpened}
use Rattle.durable_site.specs.Heard.{heard_from_each}
use Rattle.durable_site.specs.Met.{WereMet}
use Rattle.durable_site.specs.Stuck.{ComesBack, CantOpen, IsLeft}
use Rattle.logfile.specs.Logs.{BeginsWith, behind}
use Rattle.logfile.specs.declared.error.LogError.TheVariants.{Head}
use Rattle.logfile.specs.declared.error.Unopened.TheVariants.{Log}
use Rattle.logfile.proofs.Files.{begins, rest_is}
use Rattle.site_folder.specs.declared.error.Unreturned.{Unreturned}
use Rattle.site_folder.specs.declared.error.Unreturned.TheVariants.{Folder, Records}
use Rattle.site_folder.specs.Files.{HasReturned, CantReturn}

-- what is read of a file begins with the head of this store
begins_here : (file whole : List ℕ) (top told : TopologyValue) (secret n : ℕ) → whole ≡ file → whole ≡ head_of secret told ++ drop n whole → told ≡ top → BeginsWith secret top file
begins_here file whole top told secret n same is topped = subst (λ t. BeginsWith secret t file) topped (begins file whole told secret n same is)

behind_here : (file rest : List ℕ) (top told : TopologyValue) (secret n : ℕ) → n ≡ length (head_of secret told) → told ≡ top → rest ≡ drop n file → rest ≡ behind secret top file
behind_here file rest top told secret n at topped is = subst (λ t. rest ≡ behind secret t file) topped (rest_is file rest told secret n at is)

module _ {D : Type 0} (seen : D → Option (List ℕ)) (may_leave : D → List ℕ → Type 0) (failed : D → Bool) (moment : D → ℕ) (left_since : D → ℕ → List ℕ → Type 0) where
  pub returned : (file whole rest : List ℕ) (top told : TopologyValue) (secret n : ℕ) (mine : Identity) (d : DurableSiteValue D) (heard : List ℕ) (met : List (Option (List ℕ))) (disk : D)
      → whole ≡ file → whole ≡ head_of secret told ++ drop n whole → n ≡ length (head_of secret told) → told ≡ top → rest ≡ drop n file
      → ComesBack top mine (recovered secret 0 0 rest) d.identity d.site → heard ≡ heard_from_each top.dcs (steps d.site.story) → WereMet top.dcs (recovered secret 0 0 rest) met
      → IsOpened seen may_leave failed moment left_since secret disk (IsLeft secret (whose_of mine) rest) d → IsUndamaged secret rest
      → ((whose : Entry) (all : List Step) → Holds secret whose all rest → (whose ≡ whose_of d.identity) × IsBeginning all (steps d.site.story)) → failed disk ≡ false → moment disk ≡ 0
      → HasReturned seen may_leave failed left_since file top mine d heard met
  returned file whole rest top told secret n mine d heard met disk same is at topped behind_it back heard_is were_met opened undamaged keeps works begun =
      let here = behind_here file rest top told secret n at topped behind_it in
      record {
        secret = secret;
        begins = begins_here file whole top told secret n same is topped;
        back = subst (λ (l : List ℕ). ComesBack top mine (recovered secret 0 0 l) d.identity d.site) here back;
        heard_is = heard_is;
        were_met = subst (λ (l : List ℕ). WereMet top.dcs (recovered secret 0 0 l) met) here were_met;
        keeps = λ whose all h. keeps whose all (subst (λ (l : List ℕ). Holds secret whose all l) (sym here) h);
        now = opened.now;
        is = opened.is;
        settled = opened.settled;
        works = opened.works works;
        undamaged = subst (λ (l : List ℕ). IsUndamaged secret l) here undamaged;
        meanwhile = λ c left. subst (λ (l : List ℕ). IsLeft secret (whose_of mine) l c) here (opened.any_moment.each c (subst (λ m. left_since opened.now m c) (sym begun) left));
      }

-- nothing begins as a log there
pub headless : {T : Type 0} (refuses : Refuses) (mine : Identity) (top : TopologyValue) (whole file : List ℕ) (e : HeadError) (result : Result T Unreturned) → result ≡ Err (Folder (Log (Head e))) → whole ≡ file → IsNoHead whole e
    → IfErr result (CantReturn refuses file top mine)
headless {T = T} refuses mine top whole file e result same is why =
    subst (λ (r : Result T Unreturned). IfErr r (CantReturn refuses file top mine)) (sym same) (subst (λ (l : List ℕ). IsNoHead l e) is why)

-- its records lead to no site
pub stuck : (refuses : Refuses) (mine : Identity) (file whole rest : List ℕ) (top told : TopologyValue) (secret n : ℕ) (failed : Bool) (e : OpenError) → whole ≡ file → whole ≡ head_of secret told ++ drop n whole → n ≡ length (head_of secret told)
    → told ≡ top → rest ≡ drop n file → CantOpen refuses top mine secret rest failed e → CantReturn refuses file top mine (Records e)
stuck refuses mine file whole rest top told secret n failed e same is at topped behind_it why = (
  secret,
  failed,
  begins_here file whole top told secret n same is topped,
  subst (λ (l : List ℕ). CantOpen refuses top mine secret l failed e) (behind_here file rest top told secret n at topped behind_it) why,
)
