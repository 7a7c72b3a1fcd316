use Rattle.std.proofs.Common.{◌≡◌, ℕ, suc, ◌+◌, inl, inr, get_or, slice_get, Some, sym, subst, arith}
use Rattle.std.proofs.lemmas.Bool.{cases_eq}
use Rattle.std.proofs.lemmas.Option.{slice_get_within, slice_get-get_or}
use Rattle.tso_model.specs.Axioms.{place}
use Rattle.order_check.specs.Refusals.{MeetsAll}
use Rattle.order_check.specs.Internal.Progress.{HasJustPassed, HasPassed}
use Rattle.order_check.proofs.AxiomFacts.{model_order}
use Rattle.order_check.proofs.ListFacts.{listed_at, occurs_at}
use Rattle.order_check.proofs.ProgressFacts.{at_next, next_place}
use Rattle.order_check.proofs.checks.check_axioms.Goals as goal

pub returns-in-Some : goal.returns-in-Some
returns-in-Some c =
    let t = c.args.trace.now in
    let order = c.args.order.now in
    let k = c.loop-number.number-index in
    let n : ℕ = get_or order k 0 in
    let at : slice_get order k ≡ Some n = slice_get-get_or order k 0 c.loop-number-test.true in
    let here : place order n ≡ k = next_place t order k n c.loop-number.progress c.loop-number.invariant.passed at in
    let just : HasJustPassed t order n c.pass.new.self =
    subst (λ m. HasPassed t order (suc m) c.pass.new.self) (sym here) (c.pass.ensures order k c.loop-number.invariant.passed at) in (
      c.requires.places.memory_order,
      record {
        listed = occurs_at order k n at;
        before = λ m less. c.loop-number.invariant.met m (omega (arith, less, here));
        first = c.in-Some.ensures order just;
      },
    )

pub loop-number-preserved : goal.loop-number-preserved
loop-number-preserved c =
    let t = c.args.trace.now in
    let order = c.args.order.now in
    let k = c.loop-number.number-index in
    let n : ℕ = get_or order k 0 in
    let at : slice_get order k ≡ Some n = slice_get-get_or order k 0 c.loop-number-test.true in
    let here : place order n ≡ k = next_place t order k n c.loop-number.progress c.loop-number.invariant.passed at in
    let passed : HasPassed t order (suc k) c.pass.new.self = c.pass.ensures order k c.loop-number.invariant.passed at in
    let just : HasJustPassed t order n c.pass.new.self = subst (λ m. HasPassed t order (suc m) c.pass.new.self) (sym here) passed in
    let next : suc k ≡ k + 1 = omega arith in
    record {
      passed = subst (λ m. HasPassed t order m c.pass.new.self) next passed;
      met = λ m below. elim (cases_eq (place order m) k) [
        | inl same ↦ subst (MeetsAll t order) (sym (at_next t order k n c.loop-number.progress c.loop-number.invariant.passed at m same)) (c.in_default.ensures order just)
        | inr differs ↦ c.loop-number.invariant.met m (omega (arith, below, differs))
      ];
    }

pub returns : goal.returns
returns c =
    let t = c.args.trace.now in
    let order = c.args.order.now in
    let memory = c.requires.places.memory_order in
    model_order t order memory (λ n event. c.loop-number.invariant.met n
    (omega (arith, slice_get_within order (place order n) n (listed_at n order (omega (arith, memory.once n event))), c.loop-number-test.false)))
