-- A round up to where it settles, and from there on to where it ends or is refused.
use Rattle.std.proofs.Common.{◌≡◌, ◌∙◌, ℕ, List, [], inl, inr, Result}
use Rattle.std.specs.Prelude.{Ok, None}
use Rattle.logical_time.specs.declared.fault.Fault.{Fault}
use Rattle.site.specs.Story.{given}
use Rattle.site_port.specs.Ends.{HasTurns}
use Rattle.site_port.specs.Collecting.{HasCollected}
use Rattle.site_port.specs.Port.{SessionsValue, port_of, kept_of}
use Rattle.ways.specs.Crossings.{Crossing, Confirmed, Nothing}
use Rattle.hosting.specs.Rounds.{IsComing, HasPassed, HasSettled, GivesSome, BreaksOff}
use Rattle.hosting.proofs.Passing.{passed_exchange, passed_anyhow, passed_turns, passed_collections, passed_then, turns_give_none, collecting_gives_none}

module _ {K : Type 0} {W : Type 0} (settles : SessionsValue K → Result (Unit {0}) Fault → SessionsValue K → Type 0) (crosses : W → Crossing → W → Type 0) (times : List ℕ) (port heard turned collected : SessionsValue K) (ways exchanged passed : W)
    (one : crosses ways Nothing exchanged) (two : HasPassed IsComing crosses [] (port_of port) exchanged (port_of heard) passed) (ungiven : given heard.site.site.story ≡ given port.site.site.story) (unkept : kept_of heard ≡ kept_of port)
    (three : HasTurns None 1000000 heard.site.site heard.late None turned.site.site turned.late) (three_stays : (turned.waiting ≡ heard.waiting) × (turned.behind ≡ heard.behind)) (three_kept : kept_of turned ≡ kept_of heard) where
  -- to where its turns are taken
  pub passed_to_turned : HasPassed IsComing crosses times (port_of port) ways (port_of turned) passed
  passed_to_turned =
      passed_then IsComing crosses times (port_of port) (port_of heard) (port_of turned) ways passed passed
      (passed_then IsComing crosses times (port_of port) (port_of port) (port_of heard) ways exchanged passed (passed_exchange IsComing crosses times (port_of port) ways exchanged tt one)
      (passed_anyhow IsComing crosses times (port_of port) (port_of heard) exchanged passed two))
      (passed_turns IsComing crosses times (port_of heard) (port_of turned) passed three_stays.0 three_stays.1 1000000 three)

  module _ (settled : SessionsValue K) (four : HasCollected times turned.site.site turned.late collected.site.site collected.late) (four_stays : (collected.waiting ≡ turned.waiting) × (collected.behind ≡ turned.behind)) (four_kept : kept_of collected ≡ kept_of turned)
      (five : settles collected (Ok tt) settled) (five_stays : port_of settled ≡ port_of collected) where
    pub has_settled : HasSettled settles crosses times port ways settled passed
    has_settled =
        record {
          done = collected;
          passed = passed_then IsComing crosses times (port_of port) (port_of turned) (port_of collected) ways passed passed passed_to_turned
              (passed_collections IsComing crosses times (port_of turned) (port_of collected) passed four_stays.0 four_stays.1 four);
          ungiven = collecting_gives_none times turned.site.site collected.site.site turned.late collected.late four ∙ (turns_give_none 1000000 heard.site.site turned.site.site heard.late turned.late three ∙ ungiven);
          unkept = four_kept ∙ (three_kept ∙ unkept);
          is_settled = five;
          stays = five_stays;
        }

    -- refused while it gave
    pub breaks_off : (confirmed broken : W) (last : SessionsValue K) → crosses passed Confirmed confirmed → GivesSome crosses (port_of settled) confirmed (port_of last) broken → kept_of last ≡ kept_of settled
        → BreaksOff settles crosses times port ways last broken
    breaks_off confirmed broken last confirms gives kept = inr (settled, passed, confirmed, has_settled, confirms, gives, kept)
