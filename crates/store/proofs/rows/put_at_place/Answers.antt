use Rattle.versions.specs.Chain.{put_of}
use Rattle.store.specs.Stored.{chain_at, version_of}
use Rattle.store.proofs.applied.Listed.{listed_added, listed_unless}
use Rattle.store.proofs.newest.Places.{own_at}
use Rattle.store.proofs.rows.put_at_place.Goals as goal

pub put_mutation-requires : goal.put_mutation-requires
put_mutation-requires c = λ p at. c.requires.places c.args.row p (own_at (record { row = c.args.row; mutation = c.args.mutation }) p at)

pub returns-then-put_mutation-clause-listed : goal.returns-then-put_mutation-clause-listed
returns-then-put_mutation-clause-listed c =
    listed_added c.args.crowded.now.rows c.add.new.self.rows c.args.rows.now.entries c.put_mutation.new.rows.entries c.args.row c.args.mutation
    (λ r p. put_of (chain_at c.args.rows.now.entries r p).versions (version_of c.args.origin.now c.args.mutation))
    c.put_mutation.ensures.versions c.put_mutation.ensures.ranges c.add.ensures.listed

pub returns-else-put_mutation-clause-listed : goal.returns-else-put_mutation-clause-listed
returns-else-put_mutation-clause-listed c =
    listed_unless c.args.crowded.now.rows c.args.rows.now.entries c.put_mutation.new.rows.entries c.args.row c.args.mutation
    (λ r p. put_of (chain_at c.args.rows.now.entries r p).versions (version_of c.args.origin.now c.args.mutation))
    c.put_mutation.ensures.versions c.put_mutation.ensures.ranges (c.put_mutation.ensures.more c.if-put_mutation.false)
