use Rattle.std.proofs.Common.{rules, ◌≡◌, ◌++◌, length, take, drop, subst, arith}
use Rattle.column_family.specs.Heads.{IsPadded, StartsWithBytes}
use Rattle.column_family.proofs.Heads.{none_of, padded_few, bytes_few}
use Rattle.column_family.proofs.few.Few.of.Goals as goal

pub invariant_of-result : goal.invariant_of-result
invariant_of-result c =
    let bytes = c.args.bytes.now in
    let same : bytes ≡ c.copy_from_slice.new.self = search rules in
    let behind = drop (length bytes) (none_of 14) in (
      c.requires,
      subst (λ l. IsPadded (l ++ behind) (take (length bytes) (l ++ behind))) same (padded_few bytes),
      subst (λ l. StartsWithBytes 14 (take (length bytes) (l ++ behind))) same (bytes_few bytes (λ i. let fits = c.type_inv.bytes i in omega arith)),
    )
