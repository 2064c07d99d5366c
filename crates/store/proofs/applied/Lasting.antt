-- A store keeps what it kept where its versions stay and its horizon doesn't fall.
use Rattle.std.proofs.Common.{◌≡◌, ◌∙◌, sym, ap, subst, refl, ◌≤◌, List, [], Some, None, arith}
use Rattle.std.specs.Prelude.{option_map, Contains}
use Rattle.column_family.specs.declared.batch.Row.{Row}
use Rattle.versions.specs.declared.version.Version.{Version}
use Rattle.versions.specs.declared.range.RangeDeletion.{RangeDeletion}
use Rattle.versions.specs.Chain.{IsFalling, at_of}
use Rattle.store.specs.declared.part.Applied.{Applied}
use Rattle.store.specs.Stored.{Place, Chains, StoreValue, chain_at, HaveSameVersions, HaveSameRanges, ranges_in}
use Rattle.store.specs.Keeps.{stamped_of, Keeps}
use Rattle.store.proofs.lists.Lists.{none_in_empty}

pub keeps_raised : (old new : StoreValue) (all : List Applied) → old.low ≤ new.low → HaveSameVersions old.rows new.rows → HaveSameRanges old.rows new.rows → Keeps old all → Keeps new all
keeps_raised old new all raised same ranges k = record {
  apart = k.apart;
  falling = λ r p. subst (λ (xs : List Version). IsFalling xs) (sym (same r p)) (k.falling r p);
  seen = λ r p t low. ap (λ (xs : List Version). option_map (stamped_of p) (at_of xs t)) (same r p) ∙ k.seen r p t (omega (arith, raised, low));
  from = λ r p v has. k.from r p v (subst (λ (xs : List Version). Contains xs v) (same r p) has);
  ranges = λ r t x low from stands. subst (λ (xs : List RangeDeletion). Contains xs x) (sym (ranges r)) (k.ranges r t x (omega (arith, raised, low)) from stands);
  ranges_from = λ r x has. k.ranges_from r x (subst (λ (xs : List RangeDeletion). Contains xs x) (ranges r) has);
}

pub keeps_same : (old new : StoreValue) (all : List Applied) → new.low ≡ old.low → HaveSameVersions old.rows new.rows → HaveSameRanges old.rows new.rows → Keeps old all → Keeps new all
keeps_same old new all low same ranges k = keeps_raised old new all (omega arith) same ranges k

empty_chain : (r : Row) (p : Place) → (chain_at [] r p).versions ≡ []
empty_chain r None = refl
empty_chain r (Some n) = refl

-- a store without rows keeps that nothing was applied
pub keeps_nothing : (s : StoreValue) → s.rows ≡ [] → Keeps s []
keeps_nothing s none =
    let empty : (r : Row) (p : Place) → (chain_at s.rows r p).versions ≡ [] = λ r p. ap (λ (rows : List (Row × Chains)). (chain_at rows r p).versions) none ∙ empty_chain r p in
    record {
      apart = tt;
      falling = λ r p. subst (λ (xs : List Version). IsFalling xs) (sym (empty r p)) tt;
      seen = λ r p t low. ap (λ (xs : List Version). option_map (stamped_of p) (at_of xs t)) (empty r p);
      from = λ r p v has. let gone = subst (λ (xs : List Version). Contains xs v) (empty r p) has in absurd (omega (arith, gone.1));
      ranges = λ r t x low from stands. absurd (none_in_empty from.0 from.1);
      ranges_from = λ r x has. absurd (none_in_empty x (subst (λ (rows : List (Row × Chains)). Contains (ranges_in rows r).ranges x) none has));
    }
