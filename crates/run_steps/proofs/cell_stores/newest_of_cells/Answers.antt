use Rattle.std.proofs.Common.{◌≡◌, ◌<◌, ◌+◌, ◌-◌, ◌∙◌, sym, ap, ℕ, List, Option, length, drop, None, Some, cond, get_or, arith}
use Rattle.std.specs.Option.{option_or}
use Rattle.run_steps.specs.declared.processors.WaitingStore.{WaitingStore}
use Rattle.run_steps.specs.Places.{covers}
use Rattle.run_steps.proofs.WaitingFacts.{newest_by, newest-from, newest-some, over-by}
use Rattle.run_steps.proofs.cell_stores.newest_of_cells.Goals as goal

-- with the store at k - 1, it is the newest from there on
step : (waiting : List WaitingStore) (cell k : ℕ) (w : WaitingStore) (old new : Option WaitingStore) → 0 < k → k - 1 < length waiting → w ≡ get_or waiting (k - 1) w →
    old ≡ newest_by (λ v. covers v.place cell) (drop k waiting) None → new ≡ option_or old (cond (covers w.place cell) (Some w) None) →
    new ≡ newest_by (λ v. covers v.place cell) (drop (k - 1) waiting) None
step waiting cell k w old new some within is before after =
    let test = λ (v : WaitingStore). covers v.place cell in
    let next : k ≡ k - 1 + 1 = omega (arith, some) in
    after ∙ ap (λ o. option_or o (cond (test w) (Some w) None)) (before ∙ ap (λ n. newest_by test (drop n waiting) None) next)
    ∙ sym (newest-from test waiting (k - 1) w within is)

pub returns-then-add_store-clause-cells : goal.returns-then-add_store-clause-cells
returns-then-add_store-clause-cells c = λ i less.
    let waiting = c.args.waiting.now in
    let cell = c.args.place.address + i in
    let k = c.loop-k.k in
    let here = step waiting cell k c.index-waiting-k.result (get_or c.loop-k.found i None) (get_or c.add_store.new.found i None) c.loop-k-test.true
    (omega (arith, c.loop-k-test.true, c.loop-k.auto.k)) c.index-waiting-k.is (c.loop-k.invariant.cells i less) (c.add_store.ensures.cells i less) in
    newest-some (λ v. covers v.place cell) waiting (k - 1) (get_or c.add_store.new.found i None) here (c.add_store.ensures.all c.if-add_store.true i less)
    ∙ sym (over-by waiting cell None)

pub loop-k-preserved : goal.loop-k-preserved
loop-k-preserved c = record {
  cells = λ i less.
      step c.args.waiting.now (c.args.place.address + i) c.loop-k.k c.index-waiting-k.result (get_or c.loop-k.found i None) (get_or c.add_store.new.found i None) c.loop-k-test.true
      (omega (arith, c.loop-k-test.true, c.loop-k.auto.k)) c.index-waiting-k.is (c.loop-k.invariant.cells i less) (c.add_store.ensures.cells i less);
  whole = c.add_store.array_long;
}

pub returns-clause-cells : goal.returns-clause-cells
returns-clause-cells c = λ i less.
    let waiting = c.args.waiting.now in
    let cell = c.args.place.address + i in
    let least : c.loop-k.k ≡ 0 = omega (arith, c.loop-k-test.false) in
    c.loop-k.invariant.cells i less ∙ ap (λ n. newest_by (λ (v : WaitingStore). covers v.place cell) (drop n waiting) None) least ∙ sym (over-by waiting cell None)
