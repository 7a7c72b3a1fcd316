use Rattle.std.proofs.Common.{◌≡◌, ◌∙◌, ◌+◌, ◌-◌, suc, arith, ap, sym}
use Rattle.line_text.specs.Lines.{parts_of}
use Rattle.trace_explanation.specs.Refusals.{line_there}
use Rattle.trace_explanation.proofs.TextFacts.{there-first, there-later}
use Rattle.trace_explanation.proofs.refusals.line_there.Goals as goal

pub loop-done-preserved : goal.loop-done-preserved
loop-done-preserved c =
    let k = c.args.place - (c.loop-done.done + 1) in
    let here : c.args.place - c.loop-done.done ≡ suc k = omega (arith, c.loop-done-test.true) in
    sym (there-later c.in_ok-after.field-0-0.now c.in_ok-after.after.now k) ∙ ap (λ parts. line_there parts (suc k)) (sym c.in_ok-after.ensures.line)
    ∙ ap (line_there (parts_of c.loop-done.rest.now)) (sym here) ∙ c.loop-done.invariant

pub returns-in-Some : goal.returns-in-Some
returns-in-Some c =
    let end : c.args.place - c.loop-done.done ≡ 0 = omega arith in
    sym (there-first c.in-Some.line.now _) ∙ ap (λ parts. line_there parts 0) (sym c.in-Some.ensures.line) ∙ ap (line_there (parts_of c.loop-done.rest.now)) (sym end) ∙ c.loop-done.invariant
