use Rattle.std.proofs.Common.{rules, Option, ◌≡◌, ap, sym, subst, [], ◌∷◌, ◌++◌, filter_map, option_map, append-nil}
use Rattle.std.specs.Prelude.{option_to_list}
use Rattle.std.specs.Option.{option_copied}
use Rattle.versions.specs.declared.version.Version.{Version}
use Rattle.store.specs.Sight.{HaveSameWriters, named, uncovered_writer}
use Rattle.store.proofs.seen.Gathered.{one_added}
use Rattle.store.proofs.reading.writers_of.Goals.{in-Some+in_ok-push-in-Some, in-None}
use Rattle.store.proofs.reading.writers_of.Goals as goal

pub returns : goal.returns
returns c =
    let d = option_copied c.args.deletion in
    let found = filter_map (λ s. uncovered_writer d (named s)) c.args.seen.now in
    let last = λ (o : Option Version). option_to_list (option_map (λ (v : Version). v.what.writer) o) in
    let olds = c.in_ok-writers.writers.items in
    elim c.match-deletion.branch [
      | in-Some+in_ok-push-in-Some w ↦
          let one = w.in-Some.deletion.now.what.writer in
          let pushed : w.push.new.self.items ≡ olds ++ one ∷ [] = search rules in
          rw w.writers-is (subst (λ o. HaveSameWriters w.push.new.self.items (found ++ last o)) (sym (ap option_copied w.in-Some.is))
          (subst (λ ws. HaveSameWriters ws (found ++ one ∷ [])) (sym pushed) (one_added olds found one c.in_ok-writers.ensures)))
      | in-None w ↦
          rw w.writers-is (subst (λ o. HaveSameWriters olds (found ++ last o)) (sym (ap option_copied w.in-None.is))
          (subst (HaveSameWriters olds) (sym (append-nil found)) c.in_ok-writers.ensures))
    ]
