-- What the tests of an answer decide.
use Rattle.std.proofs.Common.{◌≡◌, ◌∙◌, ap, refl, subst, ℕ, Bool, true, ◌&&◌, List, Some}
use Rattle.std.specs.Prelude.{◌↔◌}
use Rattle.std.specs.Bool.{Decides, one_answer}
use Rattle.std.specs.Str.{bytes_eq}
use Rattle.std.specs.Cmp.Lexicographic.{pointwise, pointwise_decides}
use Rattle.std.proofs.lemmas.Bool.{and_parts}
use Rattle.std.proofs.lemmas.Slice.Eq.{bytes_eq-Decides}
use Rattle.column_family.specs.History.{History}
use Rattle.slice.specs.declared.column.Column.{Column}
use Rattle.slice.specs.declared.read.Read.{Read}
use Rattle.slice.specs.declared.read.AnsweredRow.{AnsweredRow}
use Rattle.table.specs.Meaning.{meaning}
use Rattle.messages.specs.declared.op.Op.TheVariants as op
use Rattle.audit.specs.Audit.{is_same_column, is_same_row, is_right}

both : (a b : Bool) → a ≡ true → b ≡ true → (a && b) ≡ true
both a b e f = ap (λ c. c && b) e ∙ f

columns_decided : (c d : Column) → Decides (is_same_column c d) (c ≡ d)
columns_decided c d = (to, λ e. subst (λ (x : Column). is_same_column c x ≡ true) e itself)
  where
    itself : is_same_column c c ≡ true
    itself = both (bytes_eq c.name c.name) (bytes_eq c.value c.value) ((bytes_eq-Decides c.name c.name).1 refl) ((bytes_eq-Decides c.value c.value).1 refl)

    to : is_same_column c d ≡ true → c ≡ d
    to e =
        let parts = and_parts (bytes_eq c.name d.name) (bytes_eq c.value d.value) e in
        ap (λ n. record { name = n; value = c.value }) ((bytes_eq-Decides c.name d.name).0 parts.0)
        ∙ ap (λ v. record { name = d.name; value = v }) ((bytes_eq-Decides c.value d.value).0 parts.1)

rows_decided : (r s : AnsweredRow) → Decides (is_same_row r s) (r ≡ s)
rows_decided r s = (to, λ e. subst (λ (x : AnsweredRow). is_same_row r x ≡ true) e itself)
  where
    itself : is_same_row r r ≡ true
    itself =
        both (bytes_eq r.key r.key) (pointwise is_same_column r.columns r.columns) ((bytes_eq-Decides r.key r.key).1 refl)
        ((pointwise_decides columns_decided r.columns r.columns).1 refl)

    to : is_same_row r s ≡ true → r ≡ s
    to e =
        let parts = and_parts (bytes_eq r.key s.key) (pointwise is_same_column r.columns s.columns) e in
        ap (λ k. record { key = k; columns = r.columns }) ((bytes_eq-Decides r.key s.key).0 parts.0)
        ∙ ap (λ c. record { key = s.key; columns = c }) ((pointwise_decides columns_decided r.columns s.columns).0 parts.1)

pub answers_decided : (a b : List AnsweredRow) → Decides (pointwise is_same_row a b) (a ≡ b)
answers_decided a b = pointwise_decides rows_decided a b

pub right_is_meaning : (h : History) (read : Read) (time : ℕ) (answer : List AnsweredRow) → (is_right (Some h) (op.Read read) time answer ≡ true) ↔ (answer ≡ meaning read h time)
right_is_meaning h read time answer = answers_decided answer (meaning read h time)

-- a comparison with the meaning is the test of the answer
pub compared : (b : Bool) (h : History) (read : Read) (time : ℕ) (answer right : List AnsweredRow) → ((b ≡ true) ↔ (answer ≡ right)) → right ≡ meaning read h time
    → b ≡ is_right (Some h) (op.Read read) time answer
compared b h read time answer right same e =
    one_answer b (pointwise is_same_row answer (meaning read h time)) (subst (λ (x : List AnsweredRow). Decides b (answer ≡ x)) e same) (answers_decided answer (meaning read h time))
