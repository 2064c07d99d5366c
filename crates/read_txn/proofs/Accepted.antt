-- The first round accepts only rows that are valid at the effective time.
use Rattle.std.proofs.Common.{◌≡◌, ℕ, subst, refl, inl, inr, Bool, true, false, List, [], ◌∷◌, ◌++◌, filter, ◌≤◌, arith}
use Rattle.std.specs.Prelude.{nat_lt, Contains, ◌⊎◌}
use Rattle.std.proofs.lemmas.Bool.Decides.{nat_tests}
use Rattle.planner.proofs.Members.{none_in, contains_any, contains_filter, contains_map}
use Rattle.messages.specs.declared.rows_now.RowNow.{RowNow}
use Rattle.messages.specs.Session.{HeardNow}
use Rattle.messages.specs.Rounds.{is_missing, all_heard, effective_time, rows_from, is_late, late_nodes}
use Rattle.read_txn.specs.declared.late.LateShard.{LateShard}
use Rattle.read_txn.specs.States.{First, late_shard, asked_again}
use Rattle.read_txn.specs.Taken.{second_if, heard_if, first_taken_if, first_taken}
use Rattle.read_txn.specs.Valid.{AllValid, ValidOrAskedAgain, AcceptsValid}

-- a late row's shard is asked again for it
late_asked : (asked : List ℕ) (time : ℕ) (heard : List HeardNow) (node : ℕ) → Contains asked node → (r : RowNow) → Contains (rows_from heard node) r → nat_lt r.lvt time ≡ true
    → Contains (late_nodes asked time heard) node
late_asked asked time heard node is_asked r has late =
    contains_filter (is_late time heard) asked node is_asked (contains_any (λ (x : RowNow). nat_lt x.lvt time) (rows_from heard node) r has late)

pub valid_or_again : (asked : List ℕ) (time : ℕ) (heard : List HeardNow) → ValidOrAskedAgain asked time heard
valid_or_again asked time heard node is_asked r has = go (nat_lt r.lvt time) refl
  where
    go : (b : Bool) → nat_lt r.lvt time ≡ b → (time ≤ r.lvt) ⊎ ((l : LateShard) × Contains (asked_again asked time heard) l × (l.node ≡ node) × Contains l.keys r.key)
    go true e =
        inr (
          late_shard time heard node,
          contains_map (late_shard time heard) (late_nodes asked time heard) node (late_asked asked time heard node is_asked r has e),
          refl,
          contains_map (λ (x : RowNow). x.key) (filter (λ x. nat_lt x.lvt time) (rows_from heard node)) r (contains_filter (λ (x : RowNow). nat_lt x.lvt time) (rows_from heard node) r has e),
        )
    go false e = let le : time ≤ r.lvt = grind (arith, nat_tests, e) in inl le

all_valid : (asked : List ℕ) (time : ℕ) (heard : List HeardNow) → late_nodes asked time heard ≡ [] → AllValid asked time heard
all_valid asked time heard none node is_asked r has = go (nat_lt r.lvt time) refl
  where
    go : (b : Bool) → nat_lt r.lvt time ≡ b → time ≤ r.lvt
    go true e = absurd (none_in node (subst (λ ns. Contains ns node) none (late_asked asked time heard node is_asked r has e)))
    go false e = grind (arith, nat_tests, e)

-- what an answer makes of a first round
pub accepts_valid : (f : First) (from : ℕ) (rows : List RowNow) → AcceptsValid f.asked (f.heard ++ record { from = from; rows = rows } ∷ []) (first_taken f from rows)
accepts_valid f from rows = taken (is_missing f.asked f.heard from)
  where
    all : List HeardNow
    all = f.heard ++ record { from = from; rows = rows } ∷ []

    time : ℕ
    time = effective_time f.floor all

    after : First
    after = record f { heard = all }

    over : (nodes : List ℕ) → late_nodes f.asked time all ≡ nodes → AcceptsValid f.asked all (second_if nodes after time)
    over [] e = all_valid f.asked time all e
    over (n ∷ ns) e = valid_or_again f.asked time all

    heard : (b : Bool) → AcceptsValid f.asked all (heard_if b after)
    heard true = over (late_nodes f.asked time all) refl
    heard false = tt

    taken : (b : Bool) → AcceptsValid f.asked all (first_taken_if b f from rows)
    taken true = heard (all_heard f.asked all)
    taken false = tt
