use Rattle.std.proofs.Common.{refl}
use Rattle.sha2.specs.Sha256.{sha256, first_words, schedule, rounds, compress, hash_after, digest_bytes}
use Rattle.hello.specs.Mac.{block_of, hmac}
use Rattle.hello.proofs.law.worked_codes.Goals as goal

pub returns-clause-short : goal.returns-clause-short
unfolding sha256 first_words schedule rounds compress hash_after digest_bytes block_of hmac
returns-clause-short c = refl

pub returns-clause-long : goal.returns-clause-long
unfolding sha256 first_words schedule rounds compress hash_after digest_bytes block_of hmac
returns-clause-long c = refl
