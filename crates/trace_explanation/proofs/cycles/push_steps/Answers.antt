use Rattle.std.proofs.Common.{ap, arith, ◌++◌, ◌-◌, length, refl, string_bytes}
use Rattle.std.specs.Prelude.{reverse}
use Rattle.std.specs.List.{enumerate_from, flat_map}
use Rattle.std.proofs.lemmas.List.{take_all}
use Rattle.std.proofs.lemmas.List.FromFn.{length-enumerate_from}
use Rattle.trace_explanation.specs.Explanations.{step_text}
use Rattle.trace_explanation.proofs.TextFacts.{steps-more}
use Rattle.trace_explanation.proofs.cycles.push_steps.Goals as goal

pub loop-done-init : goal.loop-done-init
loop-done-init c =
    let steps = c.args.numbered.now in
    let all = take_all (length steps - 0) (enumerate_from 1 steps) (omega (arith, length-enumerate_from 1 steps)) in
    ap (λ ns. string_bytes c.args.text.now ++ flat_map (λ n. step_text c.args.named.now.names.now c.args.named.now.trace.now steps n.0 n.1) (reverse ns)) all

pub loop-done-preserved : goal.loop-done-preserved
loop-done-preserved c =
    let steps = c.args.numbered.now in
    steps-more (λ n. step_text c.args.named.now.names.now c.args.named.now.trace.now steps n.0 n.1) steps c.loop-done.done (length steps - c.loop-done.done) c.index-steps-number.result (string_bytes c.loop-done.text) (string_bytes c.push_step.new.text) _
    (rw c.steps-steps.ensures at c.loop-done-test.true) refl (rw c.steps-steps.ensures at c.index-steps-number.is) (rw c.steps-steps.ensures at c.in_ok-push_step.ensures) c.loop-done.invariant
