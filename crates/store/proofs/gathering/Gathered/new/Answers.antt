use Rattle.std.proofs.Common.{rules, ◌≡◌, option_map}
use Rattle.std.specs.Option.{option_copied}
use Rattle.versions.specs.declared.version.Version.{Version}
use Rattle.store.proofs.seen.Gatherings.{none_gathered}
use Rattle.store.proofs.gathering.Gathered.new.Goals as goal
use Rattle.store.proofs.gathering.Gathered.new.Goals.{in-None, in-Some}

pub returns : goal.returns
returns c = λ all.
    let first : c.match-deletion.first ≡ option_map (λ (v : Version). v.what.writer) (option_copied c.args.deletion) = elim c.match-deletion.branch [ in-None w ↦ search rules | in-Some w ↦ search rules ] in
    none_gathered (option_copied c.args.deletion) all (record { columns = c.in_ok-with_capacity.field-0; first = c.match-deletion.first; more = c.new.result; evt = c.evt_of_deletion.result })
    c.in_ok-with_capacity.ensures.items first c.new.ensures.items c.evt_of_deletion.ensures
