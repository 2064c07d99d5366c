use Rattle.std.proofs.Common.{◌∙◌, List, ℕ, string_bytes, ap, rules}
use Rattle.std.specs.List.{flat_map}
use Rattle.logfile.specs.Sites.{site_line, other_text}
use Rattle.logfile.proofs.Sites.{site_told}
use Rattle.logfile.proofs.site_summary.text_of_site.Goals as goal

pub returns : goal.returns
returns c =
    let s = c.args.summary.now in
    let store = string_bytes c.in_ok-store.store in
    let line = string_bytes c.in_ok-text.text in
    let counts = string_bytes c.in_ok-counts_line.field-0 in
    let last = string_bytes c.in_ok-last_line.field-0 in
    site_told s store line counts (flat_map other_text s.counts.others.items) last (string_bytes c.push_str-2.new.self) c.in_ok-store.ensures
    (c.in_ok-text.ensures ∙ ap (λ (x : List ℕ). site_line s.dc x) c.as_str.ensures.value) c.in_ok-counts_line.ensures (search rules) c.in_ok-last_line.ensures (search rules)
