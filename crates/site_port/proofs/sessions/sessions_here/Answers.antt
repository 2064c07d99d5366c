use Rattle.std.proofs.Common.{◌∙◌, ◌<◌, ◌++◌, ◌∷◌, [], length, sym, ap, subst, true, false}
use Rattle.messages.specs.Topology.{session_node}
use Rattle.site_port.proofs.Places.{one_session_more, here_by_test}
use Rattle.site_port.proofs.sessions.sessions_here.Goals.{then-has_session+in_ok-push, else-has_session}
use Rattle.site_port.proofs.sessions.sessions_here.Goals as goal

pub loop-index-preserved : goal.loop-index-preserved
loop-index-preserved g c =
    let site = c.args.site.now.site in
    let i = c.loop-index.index in
    let listed = c.loop-index.here.items in
    let topology = c.topology-topology.ensures.value in
    let lt : i < length site.top.homes = subst (λ n. i < n) (ap length (c.homes-index-end.ensures.value ∙ ap (λ t. t.homes) topology)) c.loop-index-test.true in
    let at = c.session_node-node.ensures ∙ ap (λ t. session_node t i) topology in
    let test = here_by_test site.top site.dc i c.session_node-node.result c.has_session.result lt at c.has_session.ensures in
    elim c.if-has_session.branch [
      | then-has_session+in_ok-push w ↦
          ap (λ v. v.items) w.here-is ∙ (w.in_ok-push.ensures.items ∙ (ap (λ n. listed ++ n ∷ []) at ∙ one_session_more site.top site.dc i listed c.loop-index.invariant true (sym w.if-has_session.true ∙ test)))
      | else-has_session w ↦ ap (λ v. v.items) w.here-is ∙ one_session_more site.top site.dc i listed c.loop-index.invariant false (sym w.if-has_session.false ∙ test)
    ]
