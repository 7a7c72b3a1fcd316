-- Lemmas on how values lie in the cells of places.
use Rattle.std.proofs.Common.{◌≡◌, ◌<◌, ◌≤◌, ◌-◌, ◌/◌, ◌∙◌, refl, ap, ℕ, zero, suc, get_or, arith}
use Rattle.run_steps.specs.Places.{parts_from}
use Rattle.run_steps.specs.Widths.{above_bytes, low_part}

-- past the last cell there is nothing
pub part-past : (width count value i : ℕ) → count ≤ i → 0 ≡ get_or (parts_from width count value) i 0
part-past width zero value i past = refl
part-past width (suc count) value zero past = absurd (omega (arith, past))
part-past width (suc count) value (suc i) past = part-past width count (value / 256) i (omega (arith, past))

-- a part behind the first is a part of what is left of the value
pub part-next : (width count value i : ℕ) → 0 < count → 0 < i → get_or (parts_from width count value) i 0 ≡ get_or (parts_from width (count - 1) (value / 256)) (i - 1) 0
part-next width zero value i some after = absurd (omega (arith, some))
part-next width (suc count) value zero some after = absurd (omega (arith, after))
part-next width (suc count) value (suc i) some after =
    let less : count ≡ suc count - 1 = omega arith in
    let back : i ≡ suc i - 1 = omega arith in
    ap (λ n. get_or (parts_from width n (value / 256)) i 0) less ∙ ap (λ n. get_or (parts_from width (suc count - 1) (value / 256)) n 0) back

-- the first part
pub part-first : (width count value : ℕ) → 0 < count → low_part width value ≡ get_or (parts_from width count value) 0 0
part-first width zero value some = absurd (omega (arith, some))
part-first width (suc count) value some = refl

-- of the bytes above which something is left, the lowest and the others
pub above-next : (count value : ℕ) → 0 < count → above_bytes (count - 1) (value / 256) ≡ above_bytes count value
above-next zero value some = absurd (omega (arith, some))
above-next (suc count) value some =
    let less : suc count - 1 ≡ count = omega arith in
    ap (λ n. above_bytes n (value / 256)) less
