use Rattle.std.proofs.Common.{◌≡◌, ◌∙◌, ◌+◌, ℕ, [], ◌∷◌, ◌++◌, take, get_or, sym, ap, subst}
use Rattle.std.proofs.lemmas.List.{take_all, take_more}
use Rattle.value_check.proofs.AsideFacts.{AreSetAside, aside_with, aside_without}
use Rattle.value_check.proofs.steps.set_aside.Goals.{then-pair-load+in_ok-push, else-pair-load}
use Rattle.value_check.proofs.steps.set_aside.Goals as goal

pub loop-pair-preserved : goal.loop-pair-preserved
loop-pair-preserved c =
    let pairs = c.args.aside.now in
    let k = c.loop-pair.pair-index in
    let none : ℕ × ℕ = (0, 0) in
    let one : ℕ × ℕ = get_or pairs k none in
    let longer : take (k + 1) pairs ≡ take k pairs ++ one ∷ [] = take_more pairs k none c.loop-pair-test.true in
    subst (λ all. AreSetAside all c.args.load c.if-pair-load.numbers.items) (sym longer)
    (elim c.if-pair-load.branch [
      | then-pair-load+in_ok-push w ↦
          subst (AreSetAside (take k pairs ++ one ∷ []) c.args.load) (sym (ap (λ v. v.items) w.numbers-is ∙ w.in_ok-push.ensures.items))
          (aside_with (take k pairs) c.args.load c.loop-pair.numbers.items one c.loop-pair.invariant w.if-pair-load.true)
      | else-pair-load w ↦
          subst (λ v. AreSetAside (take k pairs ++ one ∷ []) c.args.load v.items) (sym w.numbers-is)
          (aside_without (take k pairs) c.args.load c.loop-pair.numbers.items one c.loop-pair.invariant w.if-pair-load.false)
    ])

pub returns : goal.returns
returns c =
    subst (λ all. AreSetAside all c.args.load c.loop-pair.numbers.items) (take_all c.loop-pair.pair-index c.args.aside.now c.loop-pair-test.false) c.loop-pair.invariant
