use Rattle.std.proofs.Common.{sym, ◌∙◌, ◌+◌, ◌*◌}
use Rattle.bitsets.proofs.WordFacts.{HasBit-zero}
use Rattle.tso_rules.proofs.BaseFacts.{none_later}
use Rattle.tso_rules.proofs.base.later_word.Goals as goal

pub returns-in-None : goal.returns-in-None
returns-in-None c = λ k low.
    (λ bit. absurd (HasBit-zero k bit), λ later. absurd (none_later c.args.trace.now c.args.u (64 * c.args.j + k) (sym c.event.ensures ∙ c.in-None.is) later))
