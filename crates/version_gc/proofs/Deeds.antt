-- What is seen whatever is put and collected.
use Rattle.std.proofs.Common.{◌≡◌, refl, ◌∙◌, ap, sym, ℕ, ◌≤◌, Bool, nat_le, List, [], ◌∷◌, Option, if◌then◌else◌, arith}
use Rattle.versions.specs.declared.version.Version.{Version}
use Rattle.versions.specs.Chain.{IsFalling, put_of, at_of, kept_from}
use Rattle.versions.specs.Newest.{has_stamp, newer_of}
use Rattle.versions.proofs.Falling.{falling_put}
use Rattle.versions.proofs.Kept.{falling_kept}
use Rattle.versions.proofs.Seen.{at_after_put}
use Rattle.version_gc.specs.Collection.{Deed, NoneComesBack, added_by, collected_to, held_after}
use Rattle.version_gc.specs.Collection.{Put, Collect}
use Rattle.version_gc.proofs.Collected.{at_kept}

-- a put is seen alike in two chains that answer alike
pub put_alike : (held added : List Version) (v : Version) (t : ℕ) → IsFalling held → IsFalling added → has_stamp held v.stamp ≡ has_stamp added v.stamp → at_of held t ≡ at_of added t → at_of (put_of held v) t ≡ at_of (put_of added v) t
put_alike held added v t h a same e =
    at_after_put held (put_of held v) v h refl t
    ∙ ap (λ (b : Bool). if b then at_of held t else (if nat_le v.evt t then newer_of v (at_of held t) else at_of held t)) same
    ∙ ap (λ (o : Option Version). if has_stamp added v.stamp then o else (if nat_le v.evt t then newer_of v o else o)) e
    ∙ sym (at_after_put added (put_of added v) v a refl t)

seen_alike : (held added : List Version) (deeds : List Deed) (t : ℕ) → IsFalling held → IsFalling added → NoneComesBack held added deeds → collected_to deeds ≤ t → at_of held t ≡ at_of added t
    → at_of (held_after held deeds) t ≡ at_of (added_by added deeds) t
seen_alike held added [] t h a none le e = e
seen_alike held added (Put v ∷ deeds) t h a none le e =
    seen_alike (put_of held v) (put_of added v) deeds t (falling_put held v h) (falling_put added v a) none.1 le (put_alike held added v t h a none.0 e)
seen_alike held added (Collect c ∷ deeds) t h a none le e =
    seen_alike (kept_from c held) added deeds t (falling_kept c held h) a none (omega (arith, le)) (at_kept c held t (omega (arith, le)) ∙ e)

pub collections_unseen : (deeds : List Deed) → NoneComesBack [] [] deeds → (t : ℕ) → collected_to deeds ≤ t → at_of (held_after [] deeds) t ≡ at_of (added_by [] deeds) t
collections_unseen deeds none t le = seen_alike [] [] deeds t tt tt none le refl
