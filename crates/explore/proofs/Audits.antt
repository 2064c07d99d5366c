-- The audits of orders of a script, one after the other.
use Rattle.std.proofs.Common.{◌≡◌, ◌∙◌, ap, sym, refl, ℕ, ◌+◌, ◌-◌, ◌^◌, min, Bool, List, [], ◌∷◌, ◌++◌, length, arith}
use Rattle.std.specs.List.{All, sum_by}
use Rattle.std.proofs.lemmas.List.Elements.{All-nil, All-push}
use Rattle.std.proofs.lemmas.List.Sums.{sum_by_push}
use Rattle.std.proofs.lemmas.List.{length_push}
use Rattle.audit.specs.declared.found.Audit.{Audit}
use Rattle.workload.specs.declared.script.Script.{Script}
use Rattle.explore.specs.Exploration.{capped, AuditedOrder, IsAudited, AreAudited}

pub none_audited : (lose : Bool) (script : Script) → AreAudited lose script 0 (record { reads = 0; wrong = 0 })
none_audited lose script = record { orders = []; all = refl; each = All-nil (IsAudited lose script); reads = refl; wrong = refl; right = refl }

-- a sum that stays below 2 ^ 64 at each step
capped_more : (all sum one next : ℕ) → all ≡ capped sum → next ≡ sum + one → capped (all + one) ≡ capped next
capped_more all sum one next e f = omega (arith, e, f)

-- the sum of one more
summed : (see : AuditedOrder → ℕ) (orders : List AuditedOrder) (order : AuditedOrder) (all one : ℕ) → one ≡ see order → all ≡ capped (sum_by see orders)
    → capped (all + one) ≡ capped (sum_by see (orders ++ order ∷ []))
summed see orders order all one is e = capped_more all (sum_by see orders) one _ e (sum_by_push see orders order ∙ ap (λ n. sum_by see orders + n) (sym is))

-- one more audit
pub one_more_audited : (lose : Bool) (script : Script) (count : ℕ) (all : Audit) (order : Script) (found : Audit) → AreAudited lose script count all
    → IsAudited lose script (record { order = order; found = found }) → found.wrong ≡ 0
    → AreAudited lose script (count + 1) (record { reads = capped (all.reads + found.reads); wrong = capped (all.wrong + found.wrong) })
one_more_audited lose script count all order found so_far audited right =
    let one : AuditedOrder = record { order = order; found = found } in
    let none : all.wrong ≡ 0 = so_far.right in
    record {
      orders = so_far.orders ++ one ∷ [];
      all = length_push so_far.orders one ∙ ap (λ n. n + 1) so_far.all;
      each = All-push (IsAudited lose script) so_far.orders one so_far.each audited;
      reads = summed (λ a. a.found.reads) so_far.orders one all.reads found.reads refl so_far.reads;
      wrong = summed (λ a. a.found.wrong) so_far.orders one all.wrong found.wrong refl so_far.wrong;
      right = omega (arith, none, right);
    }
