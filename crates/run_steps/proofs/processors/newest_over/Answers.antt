use Rattle.std.proofs.Common.{◌≡◌, ◌<◌, ◌+◌, ◌-◌, ◌∙◌, sym, ap, length, drop, None, Some, cond, arith}
use Rattle.std.specs.Option.{option_or}
use Rattle.run_steps.specs.declared.processors.WaitingStore.{WaitingStore}
use Rattle.run_steps.specs.Places.{covers}
use Rattle.run_steps.proofs.WaitingFacts.{newest_by, newest-all, newest-from, over-by}
use Rattle.run_steps.proofs.processors.newest_over.Goals as goal

pub returns-then-covers : goal.returns-then-covers
returns-then-covers c =
    let waiting = c.args.waiting.now in
    let k = c.loop-k.k in
    let w = c.index-waiting-k.result in
    let test = λ (v : WaitingStore). covers v.place c.args.cell in
    let next : k - 1 + 1 ≡ k = omega (arith, c.loop-k-test.true) in
    let none : newest_by test (drop (k - 1 + 1) waiting) None ≡ None = ap (λ n. newest_by test (drop n waiting) None) next ∙ c.loop-k.invariant in
    let within : k - 1 < length waiting = omega (arith, c.loop-k-test.true, c.loop-k.auto.k) in
    let here : newest_by test (drop (k - 1) waiting) None ≡ Some w =
    newest-from test waiting (k - 1) w within c.index-waiting-k.is ∙ ap (λ o. option_or o (cond (test w) (Some w) None)) none
    ∙ ap (λ b. cond b (Some w) None) (sym c.covers.ensures ∙ c.if-covers.true) in
    sym (over-by waiting c.args.cell None ∙ newest-all test waiting (k - 1) w here)

pub returns : goal.returns
returns c =
    let waiting = c.args.waiting.now in
    let test = λ (v : WaitingStore). covers v.place c.args.cell in
    let least : 0 ≡ c.loop-k.k = omega (arith, c.loop-k-test.false) in
    sym (over-by waiting c.args.cell None ∙ ap (λ n. newest_by test (drop n waiting) None) least ∙ c.loop-k.invariant)
