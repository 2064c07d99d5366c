use Rattle.std.proofs.Common.{ℕ, subst}
use Rattle.write_txn.specs.Ledger.{state_of, state_voted, Becomes}
use Rattle.shard.proofs.in_code.LastVotes.{counts_so}
use Rattle.shard.proofs.voting.count.Goals as goal

pub returns : goal.returns
returns c = λ sent top me a r apart.
    let l = c.args.kept.now.transactions.ledger in
    let voted = subst (λ (n : ℕ). Becomes c.args.txn (state_voted c.node-here.result n c.args.node (state_of l c.args.txn)) l c.vote.new.self.ledger) c.now.ensures c.vote.ensures.voted in
    counts_so top me c.args.clock c.args.node c.node-here.result c.args.txn c.args.kept.now c.vote.new.self a sent r apart c.requires.known c.requires.not_last voted c.vote.ensures.store c.vote.ensures.early
