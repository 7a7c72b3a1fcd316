use Rattle.std.proofs.Common.{◌%◌, arith}
use Rattle.bitsets.proofs.WordFacts.{HasBit-clear}
use Rattle.bitsets.proofs.words.word_without.Goals as goal

pub returns-then-j-number : goal.returns-then-j-number
returns-then-j-number c = λ k low.
    let clear = HasBit-clear c.args.word (c.args.number % 64) k (omega arith) low in (
      λ bit. ((clear.0 bit).1, λ same. (clear.0 bit).0 (omega (arith, same, low))),
      λ both. clear.1 (λ same. both.1 (omega (arith, same, c.if-j-number.true)), both.0),
    )
