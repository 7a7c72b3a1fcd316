use Rattle.std.proofs.Common.{◌≡◌, ◌<◌, ◌+◌, ◌-◌, ◌∙◌, refl, sym, ap, length, drop, None, Some, cond, arith}
use Rattle.std.specs.Option.{option_or}
use Rattle.std.proofs.lemmas.Option.{slice_get_read}
use Rattle.run_steps.specs.declared.processors.WaitingStore.{WaitingStore}
use Rattle.run_steps.specs.Places.{overlaps}
use Rattle.run_steps.proofs.WaitingFacts.{newest_by, newest-all, newest-from, sharing-by}
use Rattle.run_steps.proofs.processors.newest_sharing.Goals as goal

pub returns-then-overlaps-clause-is : goal.returns-then-overlaps-clause-is
returns-then-overlaps-clause-is c =
    let waiting = c.args.waiting.now in
    let k = c.loop-k.k in
    let w = c.index-waiting-k.result in
    let test = λ (v : WaitingStore). overlaps v.place c.args.place in
    let next : k - 1 + 1 ≡ k = omega (arith, c.loop-k-test.true) in
    let none : newest_by test (drop (k - 1 + 1) waiting) None ≡ None = ap (λ n. newest_by test (drop n waiting) None) next ∙ c.loop-k.invariant in
    let within : k - 1 < length waiting = omega (arith, c.loop-k-test.true, c.loop-k.auto.k) in
    let here : newest_by test (drop (k - 1) waiting) None ≡ Some w =
    newest-from test waiting (k - 1) w within c.index-waiting-k.is ∙ ap (λ o. option_or o (cond (test w) (Some w) None)) none
    ∙ ap (λ b. cond b (Some w) None) (ap test c.index-waiting-k.is ∙ sym c.overlaps.ensures ∙ c.if-overlaps.true) in
    sharing-by waiting c.args.place None ∙ newest-all test waiting (k - 1) w here
    ∙ sym (slice_get_read waiting (length waiting) (k - 1) w refl within c.index-waiting-k.is)

pub returns-then-overlaps-clause-newer : goal.returns-then-overlaps-clause-newer
returns-then-overlaps-clause-newer c =
    let waiting = c.args.waiting.now in
    let k = c.loop-k.k in
    let test = λ (v : WaitingStore). overlaps v.place c.args.place in
    let next : k - 1 + 1 ≡ k = omega (arith, c.loop-k-test.true) in
    sharing-by (drop (k - 1 + 1) waiting) c.args.place None ∙ ap (λ n. newest_by test (drop n waiting) None) next ∙ c.loop-k.invariant

pub returns-clause-none : goal.returns-clause-none
returns-clause-none c =
    let waiting = c.args.waiting.now in
    let test = λ (v : WaitingStore). overlaps v.place c.args.place in
    let least : 0 ≡ c.loop-k.k = omega (arith, c.loop-k-test.false) in
    sharing-by waiting c.args.place None ∙ ap (λ n. newest_by test (drop n waiting) None) least ∙ c.loop-k.invariant
