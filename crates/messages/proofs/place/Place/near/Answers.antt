use Rattle.std.proofs.Common.{rules, ◌≡◌, ◌∙◌, ◌+◌, ◌*◌}
use Rattle.messages.proofs.Places.{near_place}
use Rattle.messages.proofs.place.Place.near.Goals as goal

pub returns-clause-place : goal.returns-clause-place
returns-clause-place c = λ top me is.
    let value : c.node_of.result ≡ c.args.self.dc * c.args.self.shards + c.args.shard = search rules in
    value ∙ near_place top me c.args.self c.args.shard is
