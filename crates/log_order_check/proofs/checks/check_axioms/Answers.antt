use Rattle.std.proofs.Common.{inl, inr, ◌≡◌, ℕ, suc, ◌+◌, get_or, slice_get, Some, sym, subst, arith}
use Rattle.std.proofs.lemmas.Bool.{cases_eq}
use Rattle.std.proofs.lemmas.Option.{slice_get_within, slice_get-get_or}
use Rattle.tso_model.specs.Axioms.{place}
use Rattle.order_check.specs.Refusals.{MeetsAll}
use Rattle.order_check.proofs.AxiomFacts.{model_order}
use Rattle.order_check.proofs.ListFacts.{listed_at, occurs_at}
use Rattle.log_order_check.specs.Internal.Progress.{HasPassed}
use Rattle.log_order_check.proofs.ProgressFacts.{at_next, next_place}
use Rattle.log_order_check.proofs.checks.check_axioms.Goals as goal

pub loop-number-init : goal.loop-number-init
loop-number-init c = record {
  passed = λ t tables. c.new-progress.ensures t c.args.order.now c.args.tables.now.places.items;
  met = λ t tables m below. absurd (omega (arith, below));
}

pub returns-in-Some : goal.returns-in-Some
returns-in-Some c = λ t tables.
    let order = c.args.order.now in
    let places = c.args.tables.now.places.items in
    let k = c.loop-number.number-index in
    let n : ℕ = get_or order k 0 in
    let at : slice_get order k ≡ Some n = slice_get-get_or order k 0 c.loop-number-test.true in
    let here : place order n ≡ k = next_place t order places tables.places k n at in
    let passed : HasPassed t order places (suc k) c.pass.new.self = c.in_ok-pass.ensures t order k tables (c.loop-number.invariant.passed t tables) at in
    let just : HasPassed t order places (suc (place order n)) c.pass.new.self = subst (λ m. HasPassed t order places (suc m) c.pass.new.self) (sym here) passed in (
      tables.places.memory_order,
      record {
        listed = occurs_at order k n at;
        before = λ m less. c.loop-number.invariant.met t tables m (omega (arith, less, here));
        first = c.in-Some.ensures t tables just;
      },
    )

pub loop-number-preserved : goal.loop-number-preserved
loop-number-preserved c =
    let order = c.args.order.now in
    let places = c.args.tables.now.places.items in
    let k = c.loop-number.number-index in
    let n : ℕ = get_or order k 0 in
    let at : slice_get order k ≡ Some n = slice_get-get_or order k 0 c.loop-number-test.true in
    let next : suc k ≡ k + 1 = omega arith in
    record {
      passed = λ t tables. subst (λ m. HasPassed t order places m c.pass.new.self) next (c.in_ok-pass.ensures t order k tables (c.loop-number.invariant.passed t tables) at);
      met = λ t tables m below.
          let here : place order n ≡ k = next_place t order places tables.places k n at in
          let passed : HasPassed t order places (suc k) c.pass.new.self = c.in_ok-pass.ensures t order k tables (c.loop-number.invariant.passed t tables) at in
          let just : HasPassed t order places (suc (place order n)) c.pass.new.self = subst (λ i. HasPassed t order places (suc i) c.pass.new.self) (sym here) passed in
          elim (cases_eq (place order m) k) [
            | inl same ↦ subst (MeetsAll t order) (sym (at_next t order places tables.places k n at m same)) (c.in_default.ensures t tables just)
            | inr differs ↦ c.loop-number.invariant.met t tables m (omega (arith, below, differs))
          ];
    }

pub returns : goal.returns
returns c = λ t tables.
    let order = c.args.order.now in
    let memory = tables.places.memory_order in
    model_order t order memory (λ n event. c.loop-number.invariant.met t tables n
    (omega (arith, slice_get_within order (place order n) n (listed_at n order (omega (arith, memory.once n event))), c.loop-number-test.false)))
