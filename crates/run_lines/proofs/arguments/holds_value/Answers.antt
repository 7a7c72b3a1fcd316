use Rattle.std.proofs.Common.{◌≡◌, ◌≢◌, ◌≤◌, ◌^◌, ◌==◌, ◌∙◌, true, false, sym, ap, ltb, arith, ⊎_elim}
use Rattle.std.specs.Prelude.{◌||◌}
use Rattle.std.proofs.Math.Bool.{or-true}
use Rattle.std.proofs.Math.Nat.{pow-le-pow_right}
use Rattle.std.proofs.lemmas.Bool.{lt-ltb}
use Rattle.std.proofs.lemmas.Bool.Decides.{eqb_tells}
use Rattle.run_lines.proofs.arguments.holds_value.Goals as goal

pub returns-else-width-eq7 : goal.returns-else-width-eq7
returns-else-width-eq7 c =
    let width = c.args.width in
    let value = c.args.value in
    ⊎_elim (λ (told : ((width == 0) ≡ true) × (width ≡ 0)). sym (ap (λ b. b || ltb value (256 ^ width)) told.0))
    (λ (told : ((width == 0) ≡ false) × (width ≢ 0)).
    let most : 8 ≤ width =
    omega (arith, told.1, c.if-width-eq1.false, c.if-width-eq2.false, c.if-width-eq3.false, c.if-width-eq4.false, c.if-width-eq5.false, c.if-width-eq6.false, c.if-width-eq7.false) in
    let power : 256 ^ 8 ≤ 256 ^ width = pow-le-pow_right (omega arith) most in
    sym (ap (λ b. (width == 0) || b) (lt-ltb value (256 ^ width) (omega (arith, power, c.ranges.value.fits))) ∙ or-true (width == 0)))
    (eqb_tells width 0)
