use Rattle.std.proofs.Common.{inl, inr, arith, ◌*◌, ◌^◌}
use Rattle.std.proofs.lemmas.Bool.{cases_lt}
use Rattle.log_text.proofs.CutFacts.{power_next, power_some, whole_value}
use Rattle.log_text.proofs.cutting.low_bytes.Goals as goal

pub loop-i-preserved : goal.loop-i-preserved
loop-i-preserved c = power_next c.loop-i.bound c.in-Some.next c.loop-i._i c.loop-i.invariant c.in-Some.ensures.1

pub returns-in-None : goal.returns-in-None
returns-in-None c = elim (cases_lt (c.loop-i.bound * 256) (2 ^ 64)) [
  | inl low ↦ absurd (c.in-None.ensures low)
  | inr high ↦ whole_value c.args.value c.loop-i.bound c.loop-i._i c.args.count c.loop-i.invariant c.loop-i-test.true (omega (arith, high, c.ranges.value.fits))
]

pub nonzero_rem-result : goal.nonzero_rem-result
nonzero_rem-result c = power_some c.loop-i.bound c.loop-i._i c.loop-i.invariant
