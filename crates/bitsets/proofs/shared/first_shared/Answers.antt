use Rattle.std.proofs.Common.{inl, inr, ◌/◌, arith, rules}
use Rattle.std.proofs.lemmas.Bool.{cases_lt}
use Rattle.bitsets.proofs.SharedFacts.{IsFirstShared-word, none_shared_more}
use Rattle.bitsets.proofs.shared.first_shared.Goals as goal

pub loop-j-init : goal.loop-j-init
loop-j-init c = λ y h w s t. let within = c.requires.used y w t in omega (arith, h, within.0)

pub returns-then-shared-ne0 : goal.returns-then-shared-ne0
returns-then-shared-ne0 c =
    IsFirstShared-word c.args.table.words.now c.args.x c.args.other.now c.args.row c.args.table.width c.loop-j.j (omega arith) (λ y h. c.loop-j.invariant y h (omega (arith, h))) (omega arith) (search rules)

pub loop-j-preserved : goal.loop-j-preserved
loop-j-preserved c = λ y h w. none_shared_more c.args.table.words.now c.args.x c.args.other.now c.args.row c.args.table.width c.loop-j.j (λ z l. c.loop-j.invariant z l (omega (arith, l))) (omega arith) y h

pub returns : goal.returns
returns c = λ y w s t. elim (cases_lt (y / 64) c.loop-j.j) [
  | inl before ↦ c.loop-j.invariant y before w s t
  | inr after ↦ (let within = c.requires.used y w t in omega (arith, after, within.1))
]
