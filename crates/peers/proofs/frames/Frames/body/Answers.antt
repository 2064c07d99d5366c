use Rattle.std.proofs.Common.{◌≡◌, ◌∙◌, ℕ, ◌+◌, ◌-◌, List, ◌++◌, Ok, Some, sym, ap, subst, take, drop, length, arith}
use Rattle.std.proofs.lemmas.List.{take_all, length-drop}
use Rattle.peers.specs.Frames.{FramesValue, frame, first_length}
use Rattle.peers.proofs.Streams.{first_within}
use Rattle.peers.proofs.frames.Frames.body.Goals as goal

-- what is looked at are the bytes that are kept
pub body_in-requires : goal.body_in-requires
body_in-requires c =
    let all : take (length c.deref.result.now - c.self.inside.start) (drop c.self.inside.start c.deref.result.now) ≡ drop c.self.inside.start c.deref.result.now = take_all _ (drop c.self.inside.start c.deref.result.now) (omega (arith, length-drop c.self.inside.start c.deref.result.now)) in
    let kept : drop c.self.inside.start c.deref.result.now ≡ c.args.self.now.bytes = ap (λ (xs : List ℕ). drop c.self.inside.start xs) c.deref.ensures.value ∙ ap (λ (v : FramesValue). v.bytes) c.self.view_is in
    rw (all, kept) (first_within c.args.self.now.most c.args.self.now.bytes c.args.count c.requires)

pub returns-clause-first : goal.returns-clause-first
returns-clause-first c =
    let all : take (length c.deref.result.now - c.self.inside.start) (drop c.self.inside.start c.deref.result.now) ≡ drop c.self.inside.start c.deref.result.now = take_all _ (drop c.self.inside.start c.deref.result.now) (omega (arith, length-drop c.self.inside.start c.deref.result.now)) in
    let kept : drop c.self.inside.start c.deref.result.now ≡ c.args.self.now.bytes = ap (λ (xs : List ℕ). drop c.self.inside.start xs) c.deref.ensures.value ∙ ap (λ (v : FramesValue). v.bytes) c.self.view_is in
    let P : List ℕ → Type 0 = λ xs. first_length c.args.self.now.most xs ≡ Ok (Some c.args.count) → xs ≡ frame c.body_in.result.now ++ drop (4 + c.args.count) xs in
    subst P (all ∙ kept) (c.body_in.ensures.first c.args.self.now.most) c.requires
