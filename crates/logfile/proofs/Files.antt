-- A file's head, and what stands behind it.
use Rattle.std.proofs.Common.{◌≡◌, ◌∙◌, ℕ, ◌+◌, ◌-◌, ◌≤◌, Bool, false, List, ◌++◌, length, drop, Option, Result, Err, IfErr, refl, sym, ap, subst, arith}
use Rattle.std.specs.Prelude.{count_by}
use Rattle.std.proofs.lemmas.List.Sums.{count_by-le-length}
use Rattle.messages.specs.Topology.{TopologyValue}
use Rattle.world.specs.declared.run_event.RunEvent.{RunEvent}
use Rattle.world.specs.Quiet.{IsQuiet}
use Rattle.world.specs.Run.{run}
use Rattle.world.specs.World.{WorldValue, run_of}
use Rattle.records.specs.Records.{spelled, recovered, IsUndamaged}
use Rattle.disk.specs.Disk.{LeavesOnly}
use Rattle.keeper.specs.Log.{IsAsBefore}
use Rattle.ledger.specs.Heads.{head_of, IsNoHead}
use Rattle.ledger.specs.declared.head.HeadError.{HeadError}
use Rattle.ledger.specs.declared.entry.Entry.{Entry}
use Rattle.durable.specs.Playing.{IsLed, Outlives}
use Rattle.durable.specs.Logged.{Tell}
use Rattle.durable.specs.Settled.{DurableValue, Holds, IsSettled}
use Rattle.durable.specs.Looked.{IsWholeAt}
use Rattle.durable.specs.Stuck.{CantRead, CantRecall}
use Rattle.durable.specs.declared.error.OpenError.{OpenError}
use Rattle.workload.specs.Audited.{AreFirstHistories}
use Rattle.recorded.specs.Recorded.{RecordedValue}
use Rattle.recorded.specs.Recording.{reads_in}
use Rattle.logfile.specs.declared.error.LogError.{LogError}
use Rattle.logfile.specs.declared.error.LogError.TheVariants.{Head, Records}
use Rattle.logfile.specs.Logs.{BeginsWith, behind, IsLogOf, Keeps, ComesBack}
use Rattle.logfile.specs.Told.{is_request, IsSummaryOf, IsHistoryOf, CantReopen, CantLook, HasNoHistory}

-- what is read of a file, which begins so
pub begins : (file whole : List ℕ) (top : TopologyValue) (secret n : ℕ) → whole ≡ file → whole ≡ head_of secret top ++ drop n whole → BeginsWith secret top file
begins file whole top secret n same is = (drop n whole, sym same ∙ is)

pub rest_is : (file rest : List ℕ) (top : TopologyValue) (secret n : ℕ) → n ≡ length (head_of secret top) → rest ≡ drop n file → rest ≡ behind secret top file
rest_is file rest top secret n at is = is ∙ ap (λ m. drop m file) at

module _ (file rest : List ℕ) (top : TopologyValue) (secret n : ℕ) where
  -- the log of a file
  logged : (es : List Entry) → file ≡ head_of secret top ++ drop n file → n ≡ length (head_of secret top) → rest ≡ drop n file → Tell es (recovered secret 0 0 rest) → IsUndamaged secret rest
      → IsLogOf file secret top es
  logged es is at behind_it tell undamaged =
      let here = rest_is file rest top secret n at behind_it in
      record {
        begins = begins file file top secret n refl is;
        tell = subst (λ (l : List ℕ). Tell es (recovered secret 0 0 l)) here tell;
        undamaged = subst (λ (l : List ℕ). IsUndamaged secret l) here undamaged;
      }

  kept_so : (events : List RunEvent) → n ≡ length (head_of secret top) → rest ≡ drop n file → ((before : List RunEvent) → Holds top secret before rest → Outlives top before events) → Keeps file secret top events
  kept_so events at behind_it keeps = λ before h. keeps before (subst (λ (l : List ℕ). Holds top secret before l) (sym (rest_is file rest top secret n at behind_it)) h)

-- a world came back of it
module _ {D : Type 0} (seen : D → Option (List ℕ)) (may_leave : D → List ℕ → Type 0) (failed : D → Bool) (moment : D → ℕ) (left_since : D → ℕ → List ℕ → Type 0) where
  here_again : (file rest : List ℕ) (top : TopologyValue) (secret n : ℕ) (d : DurableValue D) (disk : D)
      → file ≡ head_of secret top ++ drop n file → n ≡ length (head_of secret top) → rest ≡ drop n file → d.log.secret ≡ secret → d.world.top ≡ top
      → ((es : List Entry) × Tell es (recovered secret 0 0 rest) × IsLed top d.world.events es × (d.found ≡ length es)) → IsUndamaged secret rest → IsQuiet (run_of d.world)
      → IsSettled seen may_leave failed top secret d.log.disk d.world.events → failed d.log.disk ≡ false → ((before : List RunEvent) → Holds top secret before rest → Outlives top before d.world.events)
      → moment disk ≡ 0 → LeavesOnly moment left_since disk d.log.disk (IsAsBefore secret rest) → ComesBack seen may_leave failed left_since file top d
  here_again file rest top secret n d disk is at behind_it sec there led undamaged quiet settled works keeps begun leaves =
      record {
        topology = there;
        entries = led.0;
        log = subst (λ s. IsLogOf file s top led.0) (sym sec) (logged file rest top secret n led.0 is at behind_it led.1 undamaged);
        led = led.2;
        found = led.3;
        quiet = quiet;
        settled = subst (λ s. IsSettled seen may_leave failed top s d.log.disk d.world.events) (sym sec) settled;
        works = works;
        keeps = subst (λ s. Keeps file s top d.world.events) (sym sec) (kept_so file rest top secret n d.world.events at behind_it keeps);
        meanwhile = λ c left.
            subst (λ s. IsAsBefore s (behind s top file) c) (sym sec)
            (subst (λ (l : List ℕ). IsAsBefore secret l c) (rest_is file rest top secret n at behind_it) (leaves.each c (subst (λ m. left_since d.log.disk m c) (sym begun) left)));
      }

  pub back : (file whole rest : List ℕ) (top told : TopologyValue) (secret n : ℕ) (d : DurableValue D) (disk : D)
      → whole ≡ file → whole ≡ head_of secret told ++ drop n whole → n ≡ length (head_of secret told) → told ≡ top → rest ≡ drop n file → d.log.secret ≡ secret → d.world.top ≡ top
      → ((es : List Entry) × Tell es (recovered secret 0 0 rest) × IsLed top d.world.events es × (d.found ≡ length es)) → IsUndamaged secret rest → IsQuiet (run_of d.world)
      → IsSettled seen may_leave failed top secret d.log.disk d.world.events → failed d.log.disk ≡ false → ((before : List RunEvent) → Holds top secret before rest → Outlives top before d.world.events)
      → moment disk ≡ 0 → LeavesOnly moment left_since disk d.log.disk (IsAsBefore secret rest) → ComesBack seen may_leave failed left_since file top d
  back file whole rest top told secret n d disk same is at topped =
      here_again file rest top secret n d disk
      (subst (λ (t : TopologyValue). file ≡ head_of secret t ++ drop n file) topped (subst (λ (l : List ℕ). l ≡ head_of secret told ++ drop n l) same is))
      (subst (λ (t : TopologyValue). n ≡ length (head_of secret t)) topped at)

-- nothing begins as a log there
pub headless : {T : Type 0} (top : TopologyValue) (whole file : List ℕ) (e : HeadError) (result : Result T LogError) → result ≡ Err (Head e) → whole ≡ file → IsNoHead whole e → IfErr result (CantReopen top file)
headless {T = T} top whole file e result same is why =
    subst (λ (r : Result T LogError). IfErr r (CantReopen top file)) (sym same) (subst (λ (l : List ℕ). IsNoHead l e) is why)

-- ## A file that is looked at

module _ (file rest : List ℕ) (top : TopologyValue) (secret n : ℕ) where
  told_so : {T : Type 0} (Why : List ℕ → LogError → Type 0) (x : OpenError) (result : Result T LogError) → result ≡ Err (Records x) → Why file (Records x) → IfErr result (Why file)
  told_so {T = T} Why x result same why = subst (λ (r : Result T LogError). IfErr r (Why file)) (sym same) why

  pub unread_file : {T : Type 0} (x : OpenError) (result : Result T LogError) → result ≡ Err (Records x) → file ≡ head_of secret top ++ drop n file → n ≡ length (head_of secret top) → rest ≡ drop n file
      → CantRead secret rest x → IfErr result (CantLook file)
  unread_file x result same is at behind_it why =
      told_so CantLook x result same (secret, top, begins file file top secret n refl is, subst (λ (l : List ℕ). CantRead secret l x) (rest_is file rest top secret n at behind_it) why)

  pub unrecalled_file : {T : Type 0} (x : OpenError) (result : Result T LogError) → result ≡ Err (Records x) → file ≡ head_of secret top ++ drop n file → n ≡ length (head_of secret top) → rest ≡ drop n file
      → CantRecall top secret rest x → IfErr result (HasNoHistory file)
  unrecalled_file x result same is at behind_it why =
      told_so HasNoHistory x result same (secret, top, begins file file top secret n refl is, subst (λ (l : List ℕ). CantRecall top secret l x) (rest_is file rest top secret n at behind_it) why)

  pub summed : (es : List Entry) (asked total end : ℕ) → file ≡ head_of secret top ++ drop n file → n ≡ length (head_of secret top) → rest ≡ drop n file → Tell es (recovered secret 0 0 rest)
      → IsWholeAt secret rest end → asked ≡ count_by is_request es → total ≡ length es
      → IsSummaryOf file (record { topology = top; requests = asked; collections = total - asked; records = end; torn = length rest - end })
  summed es asked total end is at behind_it tell whole counted all =
      let here = rest_is file rest top secret n at behind_it in
      let few : asked ≤ total = subst (λ m. asked ≤ m) (sym all) (subst (λ m. m ≤ length es) (sym counted) (count_by-le-length is_request es)) in
      let both : asked + (total - asked) ≡ total = omega arith in
      let within = whole.within in
      let long : end + (length rest - end) ≡ length rest = omega arith in
      record {
        secret = secret;
        entries = es;
        log = logged file rest top secret n es is at behind_it tell whole.undamaged;
        requests = counted;
        all = both ∙ all;
        records = whole.ends ∙ ap (λ (l : List ℕ). length (spelled secret 0 (recovered secret 0 0 l))) here;
        torn = long ∙ ap (λ (l : List ℕ). length l) here;
      }

  pub remembered : (w : WorldValue) (r : RecordedValue) → file ≡ head_of secret top ++ drop n file → n ≡ length (head_of secret top) → rest ≡ drop n file → w.top ≡ top
      → ((es : List Entry) × Tell es (recovered secret 0 0 rest) × IsLed top w.events es) → IsUndamaged secret rest → ((before : List RunEvent) → Holds top secret before rest → Outlives top before w.events) → IsQuiet (run_of w) → r.families ≡ top.schema
      → AreFirstHistories w.top (run_of w) w.top.dcs r.histories → r.reads ≡ reads_in (run_of w).transcript → IsHistoryOf file r
  remembered w r is at behind_it same led undamaged keeps quiet families histories reads =
      record {
        secret = secret;
        top = top;
        entries = led.0;
        log = logged file rest top secret n led.0 is at behind_it led.1 undamaged;
        events = w.events;
        led = led.2;
        quiet = subst (λ (t : TopologyValue). IsQuiet (run t w.events)) same quiet;
        keeps = kept_so file rest top secret n w.events at behind_it keeps;
        families = families;
        histories = subst (λ (t : TopologyValue). AreFirstHistories t (run t w.events) t.dcs r.histories) same histories;
        reads = reads ∙ ap (λ (t : TopologyValue). reads_in (run t w.events).transcript) same;
      }
