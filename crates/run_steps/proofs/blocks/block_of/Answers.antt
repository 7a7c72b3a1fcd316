use Rattle.std.proofs.Common.{◌≡◌, ◌≢◌, ◌==◌, ◌+◌, ◌*◌, ◌/◌, ◌∙◌, true, false, ap, get_or, set, sym, arith, ⊎_elim}
use Rattle.std.proofs.lemmas.Bool.Decides.{eqb_tells}
use Rattle.std.proofs.lemmas.List.{get_or-set_same, get_or-set_other, length-set}
use Rattle.run_steps.specs.declared.cells.Cell.TheVariants.{First}
use Rattle.run_steps.specs.Reads.{location_in}
use Rattle.run_steps.proofs.blocks.block_of.Goals as goal

pub loop-i-preserved : goal.loop-i-preserved
loop-i-preserved c =
    let old = c.loop-i.block.cells in
    let i = c.loop-i.i in
    let cell = c.location_at.result in
    let whole = c.loop-i.invariant.whole in
    let at : c.args.address / 8 * 8 + i ≡ 8 * (c.args.address / 8) + i = omega arith in
    record {
      whole = length-set old i cell ∙ whole;
      cells = λ j less.
          ⊎_elim
          (λ (told : ((j == i) ≡ true) × (j ≡ i)).
          ap (λ n. get_or (set old i cell) n (First 0)) told.1 ∙ get_or-set_same old i cell (First 0) (omega (arith, whole, c.loop-i-test.true)) ∙ c.location_at.ensures
          ∙ ap (location_in c.args.locations.now) (at ∙ ap (λ n. 8 * (c.args.address / 8) + n) (sym told.1)))
          (λ (told : ((j == i) ≡ false) × (j ≢ i)). get_or-set_other old i j cell (First 0) told.1 ∙ c.loop-i.invariant.cells j (omega (arith, less, told.1)))
          (eqb_tells j i);
    }
