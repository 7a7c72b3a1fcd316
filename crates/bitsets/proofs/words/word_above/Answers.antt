use Rattle.std.proofs.Common.{arith}
use Rattle.bitsets.proofs.WordFacts.{HasBit-zero}
use Rattle.bitsets.proofs.WordFacts.{full_bit, above_bit}
use Rattle.bitsets.proofs.words.word_above.Goals as goal

pub returns-then-j-u : goal.returns-then-j-u
returns-then-j-u c = λ k low. (λ bit. omega (arith, low, c.if-j-u.true), λ above. full_bit k low)

pub returns-then-j-u-2 : goal.returns-then-j-u-2
returns-then-j-u-2 c = λ k low. above_bit c.args.u c.args.j k (omega (arith, c.if-j-u-2.true)) low

pub returns-else-j-u-2 : goal.returns-else-j-u-2
returns-else-j-u-2 c = λ k low. (λ bit. absurd (HasBit-zero k bit), λ above. absurd (omega (arith, low, above, c.if-j-u.false, c.if-j-u-2.false)))
