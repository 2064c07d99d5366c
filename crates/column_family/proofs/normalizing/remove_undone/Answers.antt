use Rattle.std.proofs.Common.{ap}
use Rattle.column_family.specs.declared.batch.Mutation.{Mutation}
use Rattle.column_family.specs.Places.{is_undone}
use Rattle.column_family.proofs.Removing.{all_left}
use Rattle.column_family.proofs.normalizing.remove_undone.Goals as goal

pub returns-in-Insert : goal.returns-in-Insert
returns-in-Insert c = all_left c.args.row c.args.mutation.now (λ p. ap (λ (m : Mutation). is_undone m p) c.in-Insert.is) c.args.kept.now.entries

pub returns-in-DeleteColumn : goal.returns-in-DeleteColumn
returns-in-DeleteColumn c = all_left c.args.row c.args.mutation.now (λ p. ap (λ (m : Mutation). is_undone m p) c.in-DeleteColumn.is) c.args.kept.now.entries
