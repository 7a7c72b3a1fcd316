use Rattle.std.proofs.Common.{inl, inr, ◌≡◌, ◌/◌, ◌%◌, get_or, refl, subst, arith}
use Rattle.std.proofs.lemmas.Bool.{cases_lt, lt-ltb}
use Rattle.bitsets.specs.Rows.{HasBit}
use Rattle.bitsets.proofs.RowFacts.{left_number, HasNumber-within}
use Rattle.bitsets.proofs.WordFacts.{HasBit-or, HasBit-zero}
use Rattle.tso_rules.proofs.lacking.may_lack.Goals as goal

pub loop-j-init : goal.loop-j-init
loop-j-init c = λ v low has lacks. absurd (omega (arith, low))

pub loop-j-preserved : goal.loop-j-preserved
loop-j-preserved c = λ v low has lacks.
    let row = c.args.row.now in
    let other = c.args.other.now in
    (HasBit-or c.loop-j.lacking _ (v % 64)).1 (elim (cases_lt (v / 64) c.loop-j.j) [
      | inl before ↦ inl (c.loop-j.invariant v before has lacks)
      | inr after ↦ (let at : v / 64 ≡ c.loop-j.j = omega (arith, low, after) in
          inr ((left_number row other c.loop-j.j (get_or row c.loop-j.j 0) (get_or other c.loop-j.j 0) v at refl refl (omega arith)).1 (has, lacks)))
    ])

pub returns-else-lacking-ne0 : goal.returns-else-lacking-ne0
returns-else-lacking-ne0 c = λ v has lacks. elim (cases_lt (v / 64) c.loop-j.j) [
  | inl passed ↦ absurd (HasBit-zero (v % 64) (subst (λ w. HasBit w (v % 64)) c.if-lacking-ne0.false (c.loop-j.invariant v passed has lacks)))
  | inr past ↦ (let low = HasNumber-within c.args.row.now v has in lt-ltb _ _ (omega (arith, low, past, c.loop-j-test.false, c.min-j-end.ensures)))
]
