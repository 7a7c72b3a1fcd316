use Rattle.std.proofs.Common.{◌∙◌, ℕ, List, ap, arith}
use Rattle.std.specs.Global.{Vec}
use Rattle.std.proofs.lemmas.List.{map-append}
use Rattle.tso_ops.specs.Values.{rows}
use Rattle.chain_rules.proofs.RoundFacts.{AreMade-more, AreMade-within, AreMade-least}
use Rattle.chain_rules.proofs.rounds.least_rows.Goals as goal

pub loop-number-preserved : goal.loop-number-preserved
loop-number-preserved c =
    AreMade-more c.args.input.trace.now c.args.input.reach.now c.args.numbers.now (rows c.loop-number.made.items) (rows c.push.new.self.items) c.loop-number.number-index c.in_ok-least_row.field-0.items c.loop-number.invariant c.in_ok-least_row.ensures
    (ap (λ (l : List (Vec ℕ)). rows l) c.in_ok-push.ensures.items ∙ map-append (λ (v : Vec ℕ). v.items) c.loop-number.made.items _)

pub returns-clause-within : goal.returns-clause-within
returns-clause-within c =
    AreMade-within c.args.input.trace.now c.args.input.reach.now c.args.numbers.now (rows c.loop-number.made.items) c.loop-number.number-index c.loop-number.invariant
    (omega (arith, c.loop-number.auto.number-index-end, c.loop-number-test.false)) c.requires.chains c.requires.numbers

pub returns-clause-least : goal.returns-clause-least
returns-clause-least c =
    AreMade-least c.args.input.trace.now c.args.input.reach.now c.args.numbers.now (rows c.loop-number.made.items) c.loop-number.number-index c.loop-number.invariant
    (omega (arith, c.loop-number.auto.number-index-end, c.loop-number-test.false)) c.requires.numbers
