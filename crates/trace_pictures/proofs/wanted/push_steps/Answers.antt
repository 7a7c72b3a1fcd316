use Rattle.std.proofs.Common.{◌≡◌, ◌++◌, ◌-◌, ◌+◌, ◌∙◌, ap, arith, get_or, length, refl}
use Rattle.std.specs.Prelude.{reverse}
use Rattle.std.specs.List.{flat_map}
use Rattle.std.proofs.lemmas.List.{take_all}
use Rattle.trace_explanation.specs.Steps.{step_numbers}
use Rattle.trace_explanation.proofs.TextFacts.{reversed-more}
use Rattle.trace_pictures.proofs.wanted.push_steps.Goals as goal

pub loop-done-init : goal.loop-done-init
loop-done-init c =
    let steps = c.args.steps.now in
    ap (λ xs. c.args.numbers.now.items ++ flat_map (step_numbers c.args.trace.now) (reverse xs)) (take_all (length steps - 0) steps (omega arith))

pub loop-done-preserved : goal.loop-done-preserved
loop-done-preserved c =
    let steps = c.args.steps.now in
    let same : length steps - 1 - c.loop-done.done ≡ length steps - (c.loop-done.done + 1) = omega arith in
    reversed-more (step_numbers c.args.trace.now) steps (length steps) c.loop-done.done c.index-steps-k.result _ _ _ refl c.loop-done-test.true
    (c.index-steps-k.is ∙ ap (λ i. get_or steps i c.index-steps-k.result) same) c.in_ok-push_step.ensures c.loop-done.invariant
