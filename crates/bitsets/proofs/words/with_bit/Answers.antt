use Rattle.std.proofs.Common.{◌%◌, inl, inr, arith}
use Rattle.bitsets.proofs.WordFacts.{HasBit-set}
use Rattle.bitsets.proofs.words.with_bit.Goals as goal

pub returns-then-y-j : goal.returns-then-y-j
returns-then-y-j c = λ k h.
    let set = HasBit-set c.args.word (c.args.y % 64) k (omega arith) in
    (λ b. elim (set.0 b) [ inl e ↦ inl (omega arith) | inr b' ↦ inr b' ], λ s. set.1 (elim s [ inl e ↦ inl (omega arith) | inr b' ↦ inr b' ]))
