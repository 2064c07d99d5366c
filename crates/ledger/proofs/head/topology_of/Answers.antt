use Rattle.std.proofs.Common.{◌≡◌, ◌∙◌, ℕ, true, false, sym, ap, subst, rules, List, Some, Err, length, min, ◌*◌}
use Rattle.messages.specs.Topology.{is_topology}
use Rattle.column_family.specs.Schema.{is_schema}
use Rattle.ledger.proofs.Heads.{top_same}
use Rattle.ledger.proofs.Stores.{behind_six, dcs_told, shards_told, homes_told, names_told}
use Rattle.ledger.proofs.head.topology_of.Goals as goal

pub returns-in_default-new : goal.returns-in_default-new
returns-in_default-new c = λ top is spelled.
    let text = c.args.text.now in
    let least : c.min.result ≡ min (c.number.result * 2) (length (behind_six text)) = search rules in
    let names = names_told top is text spelled c.split_at.result.0.now c.split_at.result.1.now c.number.result c.min.result c.number.ensures least c.split_at.ensures.front c.split_at.ensures.back
    c.in_ok-families_of.field-0.items c.in_ok-families_of.ensures in
    absurd (c.in_default-new.ensures (subst (λ (l : List (List ℕ)). is_schema l ≡ true) (sym names) is.1))

pub returns-in-Ok : goal.returns-in-Ok
returns-in-Ok c = λ top is spelled.
    let text = c.args.text.now in
    let front = c.split_at.result.0.now in
    let back = c.split_at.result.1.now in
    let least : c.min.result ≡ min (c.number.result * 2) (length (behind_six text)) = search rules in
    let names = names_told top is text spelled front back c.number.result c.min.result c.number.ensures least c.split_at.ensures.front c.split_at.ensures.back c.in_ok-families_of.field-0.items c.in_ok-families_of.ensures in
    let homes = homes_told top is text spelled front back c.number.result c.min.result c.number.ensures least c.split_at.ensures.front c.split_at.ensures.back c.in_ok-homes.homes.items c.in_ok-homes.ensures in
    let schema : c.in-Some.schema ≡ c.in_ok-families_of.field-0.items = search rules in
    let made = c.in-Ok.ensures.made in
    ap Some
    (top_same c.in-Ok.topology top (ap (λ t. t.dcs) made ∙ dcs_told top is text spelled c.number-dcs.result c.number-dcs.ensures)
    (ap (λ t. t.shards) made ∙ shards_told top is text spelled c.number-shards.result c.number-shards.ensures) (ap (λ t. t.schema) made ∙ schema ∙ names) (ap (λ t. t.homes) made ∙ homes))

pub returns-in-Err : goal.returns-in-Err
returns-in-Err c = λ top is spelled.
    let text = c.args.text.now in
    let least : c.min.result ≡ min (c.number.result * 2) (length (behind_six text)) = search rules in
    let homes = homes_told top is text spelled c.split_at.result.0.now c.split_at.result.1.now c.number.result c.min.result c.number.ensures least c.split_at.ensures.front c.split_at.ensures.back c.in_ok-homes.homes.items c.in_ok-homes.ensures in
    let dcs = dcs_told top is text spelled c.number-dcs.result c.number-dcs.ensures in
    let shards = shards_told top is text spelled c.number-shards.result c.number-shards.ensures in
    let no : is_topology c.number-dcs.result c.number-shards.result c.in_ok-homes.homes.items ≡ false = c.in-Err.ensures.refused.0 (ap Err c.in-Err.ensures.only) in
    let yes : is_topology c.number-dcs.result c.number-shards.result c.in_ok-homes.homes.items ≡ true =
    subst (λ d. is_topology d c.number-shards.result c.in_ok-homes.homes.items ≡ true) (sym dcs)
    (subst (λ s. is_topology top.dcs s c.in_ok-homes.homes.items ≡ true) (sym shards) (subst (λ (h : List ℕ). is_topology top.dcs top.shards h ≡ true) (sym homes) is.0)) in
    absurd (differ (sym no ∙ yes))
  where
    differ : false ≡ true → ⊥
    differ h = cc
