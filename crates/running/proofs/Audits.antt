-- What an audit finds in what seats concluded.
use Rattle.std.proofs.Common.{◌≡◌, ◌∙◌, ℕ, ◌+◌, true, List, [], ◌∷◌, ◌++◌, length, Result, Ok, Err, refl, ap, sym, subst}
use Rattle.std.specs.Prelude.{◌==◌, IfOk, filter, Contains}
use Rattle.std.specs.List.{count_by, range_with_len}
use Rattle.logical_time.specs.declared.fault.Fault.{Fault}
use Rattle.column_family.specs.History.{History}
use Rattle.messages.specs.Topology.{TopologyValue, session_node}
use Rattle.actors.specs.Seats.{SeatValue}
use Rattle.world.specs.declared.completed.Completed.{Completed}
use Rattle.world.specs.Run.{run}
use Rattle.world.specs.Histories.{IsHistory}
use Rattle.world.proofs.lists.Members.{flat_contains, filter_contains}
use Rattle.threaded.specs.Concluded.{ConcludedValue, InEachRun, AreConcluded, by_session}
use Rattle.audit.specs.declared.found.Audit.{Audit}
use Rattle.audit.specs.Audit.{is_read, is_wrong}
use Rattle.workload.specs.declared.script.Script.{Script}
use Rattle.workload.specs.declared.tail.Tail.TheVariants.{Audited}
use Rattle.workload.specs.declared.transcript.Entry.{Entry}
use Rattle.workload.specs.Audited.{AreFirstHistories, IsAuditOf}
use Rattle.workload.proofs.Audits.{no_histories, one_more_history, none_counted, never_wrong}
use Rattle.running.specs.Performing.{IsThreadTold}
use Rattle.running.specs.Running.{IsThreadTranscriptOf, IsToldOf, IsThreadAudited}

-- ## Histories

pub none_in_each : (top : TopologyValue) (seats : List SeatValue) (histories : List History) → histories ≡ []
    → InEachRun top seats (λ w. AreFirstHistories top w 0 histories)
none_in_each top seats histories none events is = no_histories top (run top events) histories none

pub one_more_in_each : (top : TopologyValue) (seats : List SeatValue) (n : ℕ) (histories : List History) (h : History)
    → InEachRun top seats (λ w. AreFirstHistories top w n histories) → InEachRun top seats (λ w. IsHistory top w n h)
    → InEachRun top seats (λ w. AreFirstHistories top w (n + 1) (histories ++ h ∷ []))
one_more_in_each top seats n histories h are history events is = one_more_history top (run top events) n histories h (are events is) (history events is)

-- ## Counts

in_sessions : (top : TopologyValue) (cs : List Completed) (c : Completed) → Contains (by_session top cs) c → Contains cs c
in_sessions top cs c among =
    let r = flat_contains (λ i. filter (λ (d : Completed). d.node == session_node top i) cs) (range_with_len 0 (length top.homes)) c among in
    (filter_contains (λ (d : Completed). d.node == session_node top r.0) cs c r.2).0

pub audit_in_each : (r : Result Audit Fault) (top : TopologyValue) (seats : List SeatValue) (histories given : List History) (completed ended : List Completed)
    → InEachRun top seats (λ w. AreFirstHistories top w top.dcs histories) → given ≡ histories → completed ≡ ended → InEachRun top seats (λ w. ended ≡ by_session top w.transcript)
    → IfOk r (λ found. found.reads ≡ count_by is_read completed) → IfOk r (λ found. found.wrong ≡ count_by (is_wrong given) completed)
    → IfOk r (λ found. InEachRun top seats (λ w. IsAuditOf top w (by_session top w.transcript) found))
audit_in_each (Ok found) top seats histories given completed ended are same all listed reads wrong = λ events is. record {
  histories = histories;
  are = are events is;
  reads = reads ∙ ap (count_by is_read) (all ∙ listed events is);
  wrong = wrong ∙ ap (λ hs. count_by (is_wrong hs) completed) same ∙ ap (count_by (is_wrong histories)) (all ∙ listed events is);
}
audit_in_each (Err e) top seats histories given completed ended are same all listed reads wrong = tt

pub audit_is_clean : (r : Result Audit Fault) (top : TopologyValue) (seats : List SeatValue) (histories given : List History) (completed ended : List Completed)
    → AreConcluded top seats → InEachRun top seats (λ w. AreFirstHistories top w top.dcs histories) → given ≡ histories → completed ≡ ended
    → InEachRun top seats (λ w. ended ≡ by_session top w.transcript) → IfOk r (λ found. found.wrong ≡ count_by (is_wrong given) completed) → IfOk r (λ found. found.wrong ≡ 0)
audit_is_clean (Ok found) top seats histories given completed ended concluded are same all listed wrong =
    let (events, is) = concluded.run in
    let w = run top events in
    wrong ∙ ap (λ hs. count_by (is_wrong hs) completed) same ∙ ap (count_by (is_wrong histories)) (all ∙ listed events is)
    ∙ none_counted (is_wrong histories) (by_session top w.transcript)
    (λ c among. never_wrong top events histories concluded.are.sound (are events is) c (in_sessions top w.transcript c among))
audit_is_clean (Err e) top seats histories given completed ended concluded are same all listed wrong = tt

-- ## What is told

pub told_audited : (s : Script) (v : ConcludedValue) (entries : List Entry) (found : Audit) → IsToldOf s v entries
    → InEachRun v.top v.seats (λ w. IsAuditOf v.top w (by_session v.top w.transcript) found) → IsThreadAudited s entries found
told_audited s v entries found told audit = record {
  transcript = told.transcript;
  audit =
      subst (λ seats. InEachRun s.topology seats (λ w. IsAuditOf s.topology w (by_session s.topology w.transcript) found)) (sym told.seats)
      (subst (λ top. InEachRun top v.seats (λ w. IsAuditOf top w (by_session top w.transcript) found)) told.topology audit);
}

pub is_told : (s : Script) (v : ConcludedValue) (entries : List Entry) → IsToldOf s v entries → IsThreadTranscriptOf s entries
is_told s v entries told = told.transcript

pub is_told_audited : (s : Script) (entries : List Entry) (found : Audit) → IsThreadAudited s entries found → found.wrong ≡ 0
    → IsThreadTold true s entries (Audited found)
is_told_audited s entries found audited right = (found, audited, right, refl)
