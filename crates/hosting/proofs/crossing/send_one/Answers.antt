use Rattle.std.proofs.Common.{[], ◌≡◌, ◌∙◌, true, false, length, ap, sym, subst}
use Rattle.site.specs.Story.{site_of, given as given_in}
use Rattle.site.specs.Steps.{steps}
use Rattle.site.specs.Sites.{SiteValue}
use Rattle.site.specs.Turns.{HasGiven}
use Rattle.site_port.specs.Port.{port_of, kept_of}
use Rattle.hosting.specs.Rounds.{AreGiven, IsGoing, HasPassed, GivesSome}
use Rattle.hosting.proofs.Passing.{passed_none, passed_gift, giving_is_no_step, one_gift_more, leaves_none, gives_none, gives_one, on_err}
use Rattle.hosting.proofs.crossing.send_one.Goals as goal

false_true : false ≡ true → ⊥
false_true q = cc

true_false : true ≡ false → ⊥
true_false q = cc

pub returns-in_default : goal.returns-in_default
returns-in_default g c =
    let none = subst (λ o. HasGiven c.args.port.now.site.site o c.give.new.self.site.site) c.in_default.is c.in_ok-envelope.ensures.given in
    let same : c.give.new.self ≡ c.args.port.now = c.in_ok-envelope.ensures.stays ∙ ap (λ (s : SiteValue). record c.args.port.now { site = record c.args.port.now.site { site = s } }) none.0 in
    record {
      sent = subst (λ q. HasPassed IsGoing g.W.Ways.steps [] (port_of c.args.port.now) c.args.ways.now (port_of q) c.args.ways.now) (sym same) (passed_none IsGoing g.W.Ways.steps [] (port_of c.args.port.now) c.args.ways.now);
      more = λ is. absurd (false_true is);
      broken = tt;
      none = λ _. subst (λ q. AreGiven (port_of q)) (sym same) none.1;
      undone = ap (λ p. steps p.site.site.story) same;
      kept = ap kept_of same;
    }

pub returns : goal.returns
returns g c =
    let given = subst (λ o. HasGiven c.args.port.now.site.site o c.give.new.self.site.site) c.in-Some.is c.in_ok-envelope.ensures.given in
    let top = ap (λ (s : SiteValue). s.top) given.2 in
    let there : c.site_of-to.result ≡ site_of c.args.port.now.site.site.top c.in-Some.envelope.to =
    c.site_of-to.ensures ∙ ap (λ t. site_of t c.in-Some.envelope.to) (c.topology.ensures.value ∙ (ap (λ s. s.site.top) c.site.ensures ∙ top)) in
    record {
      sent = passed_gift g.W.Ways.steps (port_of c.args.port.now) (port_of c.give.new.self) c.args.ways.now c.send.new.self c.site_of-to.result c.in-Some.envelope given (ap port_of c.in_ok-envelope.ensures.stays) there
          c.in_ok-send.ensures.sent;
      more = λ _. ap (λ (s : SiteValue). length (given_in s.story)) given.2 ∙ one_gift_more c.args.port.now.site.site.story c.in-Some.envelope;
      none = λ is. absurd (true_false is);
      broken = tt;
      undone = ap (λ (s : SiteValue). steps s.story) given.2 ∙ giving_is_no_step c.args.port.now.site.site.story c.in-Some.envelope;
      kept = ap kept_of c.in_ok-envelope.ensures.stays;
    }

pub returns-in_err-envelope-clause-broken : goal.returns-in_err-envelope-clause-broken
returns-in_err-envelope-clause-broken g c =
    on_err _ _ (
    subst (λ q. GivesSome g.W.Ways.steps (port_of c.args.port.now) c.args.ways.now (port_of q) c.args.ways.now) (sym c.in_err-envelope.ensures.same)
    (gives_none g.W.Ways.steps (port_of c.args.port.now) c.args.ways.now c.args.ways.now (leaves_none g.W.Ways.steps c.args.ways.now))
    )

pub returns-in_err-send-clause-broken : goal.returns-in_err-send-clause-broken
returns-in_err-send-clause-broken g c =
    on_err _ _ (
    let given = subst (λ o. HasGiven c.args.port.now.site.site o c.give.new.self.site.site) c.in-Some.is c.in_ok-envelope.ensures.given in
    gives_one g.W.Ways.steps (port_of c.args.port.now) (port_of c.give.new.self) c.args.ways.now c.send.new.self c.in-Some.envelope (ap (λ (s : SiteValue). s.story) given.2) c.in_err-send.ensures.unsent
    )

pub returns-in_err-send-clause-undone : goal.returns-in_err-send-clause-undone
returns-in_err-send-clause-undone g c =
    let given = subst (λ o. HasGiven c.args.port.now.site.site o c.give.new.self.site.site) c.in-Some.is c.in_ok-envelope.ensures.given in
    ap (λ (s : SiteValue). steps s.story) given.2 ∙ giving_is_no_step c.args.port.now.site.site.story c.in-Some.envelope

pub returns-in_err-send-clause-kept : goal.returns-in_err-send-clause-kept
returns-in_err-send-clause-kept g c = ap kept_of c.in_ok-envelope.ensures.stays
