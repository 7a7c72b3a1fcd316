use Rattle.std.proofs.Common.{◌≡◌, ◌≤◌, ◌<◌, ◌&&◌, ◌∙◌, ap, ℕ, None, Some, cond, get_or, nat_le, nat_lt, arith}
use Rattle.std.proofs.lemmas.Bool.Decides.{nat_tests}
use Rattle.std.specs.Option.{option_or}
use Rattle.run_steps.proofs.cell_stores.add_between.Goals as goal

-- the cells up to where the loop ended are those up to the end
ended : (first end i j : ℕ) → end ≤ i → (first ≤ end → i ≤ end) → (end < first → i ≡ first) → (nat_le first j && nat_lt j i) ≡ (nat_le first j && nat_lt j end)
ended first end i j past within empty = grind (arith, nat_tests)

pub returns : goal.returns
returns c = λ j less.
    c.loop-i.invariant.cells j less
    ∙ ap (λ b. option_or (get_or c.args.found.now j None) (cond b (Some c.args.store) None))
    (ended c.args.first c.args.end c.loop-i.i j c.loop-i-test.false c.loop-i.auto.i-end c.loop-i.invariant.empty)
