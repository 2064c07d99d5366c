-- What the operations of a site's sessions came to, by its story.
use Rattle.std.specs.Prelude.{◌≡◌, ℕ, zero, suc, Option, None, Some, filter_map, slice_get, Contains}
use Rattle.messages.specs.declared.op.Op.{Op}
use Rattle.messages.specs.declared.outcome.Outcome.{Outcome}
use Rattle.actors.specs.Journals.{op_in}
use Rattle.site.specs.Story.{Story, journal, outcomes}

-- the operation of a session with this number: the numbers are 1, 2, .. in the order of its journal
abbrev pub op_at : Story → ℕ → ℕ → Option Op
op_at s node zero = None
op_at s node (suc n) = slice_get (filter_map op_in (journal s node)) n

-- the session submitted this operation as its one of this number, and it ended so
pub record HasEnded (s : Story) (node number : ℕ) (o : Op) (result : Outcome) : Type 0 where
  pub submitted : op_at s node number ≡ Some o
  pub ended : Contains (outcomes s node) (number, result)
