-- A vote that isn't missing changes nothing.
use Rattle.std.proofs.Common.{◌≡◌, ◌∙◌, ap, refl, ℕ, ◌<◌, false, ◌==◌, length, arith}
use Rattle.std.proofs.lemmas.Bool.Decides.{nat_tests}
use Rattle.txn_state.specs.declared.ballot.Voted.TheVariants.{More}
use Rattle.txn_state.specs.Votes.{is_among}
use Rattle.txn_state.specs.Ballot.{BallotValue}
use Rattle.txn_state.specs.Voted.{voted_if, voted}
use Rattle.txn_state.proofs.Missing.{all_left}

more_missing : (b : BallotValue) (n : ℕ) → 0 < n → voted_if (n == 0) b ≡ More b
more_missing b n some = let e : (n == 0) ≡ false = grind (arith, nat_tests, some) in rw e refl

-- the vote of a node that isn't missing leaves the ballot as it is
pub stranger : (b : BallotValue) (node : ℕ) → 0 < length b.votes.missing → is_among b.votes.missing node ≡ false → voted b node ≡ More b
stranger b node some none =
    ap (λ ns. voted_if (length ns == 0) (record b { votes = record b.votes { missing = ns } })) (all_left (λ n. n == node) b.votes.missing none)
    ∙ more_missing b (length b.votes.missing) some
