use Rattle.std.proofs.Common.{◌≡◌, ◌++◌, map}
use Rattle.client.specs.Envelopes.{read_keys}
use Rattle.client.proofs.envelopes.reads.Given as goal

-- the envelopes so far, then those of what is left, are those of all
abbrev pub invariant-loop-share : goal.invariant-loop-share
invariant-loop-share l =
    l.envelopes.items ++ map (read_keys l.home l.node l.time l.number l.read) l.share-iterator.rest.items
    ≡ map (read_keys l.home l.node l.time l.number l.read) l.fn.shares.items
