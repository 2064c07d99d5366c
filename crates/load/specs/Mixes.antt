-- Which request comes next.
use Rattle.std.specs.Prelude.{◌≡◌, ℕ, ◌/◌, ◌%◌, List, [], ◌∷◌, Some, nat_lt, if◌then◌else◌}
use Rattle.std.specs.Int.{w64, to_be_bytes}
use Rattle.messages.specs.declared.op.Op.{Op}
use Rattle.messages.specs.declared.op.Op.TheVariants.{Batch, Read}
use Rattle.column_family.specs.declared.batch.Mutation.TheVariants.{Insert}
use Rattle.slice.specs.declared.predicate.Predicate.TheVariants.{Names}
use Rattle.wire.specs.Requests.{spelling}
use Rattle.load.specs.declared.mix.Draw.{Draw}
use Rattle.load.specs.declared.mix.Request.{Request}

-- what requests are made of: so many reads of a hundred, so many keys, a family, a column and its value, and the numbers that are drawn
pub record MixValue : Type 0 where
  pub reads : ℕ
  pub keys : ℕ
  pub family : List ℕ
  pub name : List ℕ
  pub value : List ℕ
  pub numbers : ℕ

-- what a number stands for: its last two digits say whether it is a read, and the others which key it is about
abbrev pub draw_of : ℕ → ℕ → ℕ → Draw
draw_of number reads keys = record { is_read = nat_lt (number % 100) reads; key = number / 100 % keys }

-- a read of the column of a key, or a batch that inserts its value there
abbrev pub op_of : MixValue → Draw → Op
op_of mix draw =
    if draw.is_read then Read (record { family = mix.family; keys = to_be_bytes w64 draw.key ∷ []; predicate = Names (mix.name ∷ []) })
    else Batch (record { row = record { family = mix.family; key = to_be_bytes w64 draw.key }; mutation = Insert mix.name mix.value } ∷ [])

-- the request that a number stands for, as its frame
pub record IsRequestOf (number : ℕ) (mix : MixValue) (request : Request) : Type 0 where
  pub kind : request.is_read ≡ (draw_of number mix.reads mix.keys).is_read
  pub frame : spelling (op_of mix (draw_of number mix.reads mix.keys)) ≡ Some request.frame.items
