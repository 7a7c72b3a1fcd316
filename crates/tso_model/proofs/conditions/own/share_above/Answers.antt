use Rattle.std.proofs.Common.{◌≡◌, inl, inr, ◌/◌, ◌%◌, refl, subst, arith, rules}
use Rattle.std.proofs.lemmas.Bool.{false≢true, cases_lt}
use Rattle.bitsets.specs.Rows.{HasBit}
use Rattle.bitsets.proofs.RowFacts.{HasNumber-within}
use Rattle.bitsets.proofs.WordFacts.{HasBit-zero}
use Rattle.tso_model.proofs.OwnLoads.{shared_bit, shared_word}
use Rattle.tso_model.proofs.conditions.own.share_above.Goals as goal

pub loop-j-init : goal.loop-j-init
loop-j-init c = λ n before shared. omega (arith, before, shared.0)

pub returns-then-shared-ne0 : goal.returns-then-shared-ne0
returns-then-shared-ne0 c = (
  λ _. shared_word c.args.first.now c.args.second.now c.args.third.now c.args.u c.loop-j.j _ (search rules) (omega arith)
      (shared_bit c.args.first.now c.args.second.now c.args.third.now c.args.u c.loop-j.j _ _ _ _ refl c.word_at.ensures c.word_at-in-loop-j.ensures c.word_above.ensures),
  λ _. refl,
)

pub loop-j-preserved : goal.loop-j-preserved
loop-j-preserved c = λ n within shared. elim (cases_lt (n / 64) c.loop-j.j) [
  | inl before ↦ c.loop-j.invariant n before shared
  | inr late ↦ (let here : n / 64 ≡ c.loop-j.j = omega (arith, within, late) in
      let bits = shared_bit c.args.first.now c.args.second.now c.args.third.now c.args.u c.loop-j.j _ _ _ _ refl c.word_at.ensures c.word_at-in-loop-j.ensures c.word_above.ensures in
      HasBit-zero (n % 64) (subst (λ word. HasBit word (n % 64)) c.if-shared-ne0.false ((bits n here).1 shared)))
]

pub returns : goal.returns
returns c = (
  λ e. absurd (false≢true e),
  λ (n, later, first, second, third). (let within = HasNumber-within c.args.first.now n first in
      absurd (c.loop-j.invariant n (omega (arith, within, c.loop-j-test.false)) (later, first, second, third))),
)
