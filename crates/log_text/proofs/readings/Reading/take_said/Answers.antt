use Rattle.std.proofs.Common.{◌∙◌, arith}
use Rattle.std.specs.HashSet.{keys}
use Rattle.std.proofs.lemmas.Result.{IfOk-weaker}
use Rattle.log_text.proofs.ReadingFacts.{said_in_pieces, said_whole}
use Rattle.log_text.proofs.readings.Reading.take_said.Goals as goal

pub returns-then-said-eq0 : goal.returns-then-said-eq0
returns-then-said-eq0 c =
    IfOk-weaker c.next_number.result _ _
    (λ next is before holds.
    said_whole c.args.self.now c.take.new.self (keys c.args.cutting.now.boundaries) before c.args.said c.args.number next (omega (arith, c.if-said-eq0.true)) is holds c.in_ok-take.ensures)
    c.next_number.ensures

pub returns : goal.returns
returns c =
    IfOk-weaker c.take_pieces.result _ _
    (λ next gives before holds.
    said_in_pieces c.args.self.now c.take_pieces.new.self (keys c.args.cutting.now.boundaries) before c.args.said c.args.number next c.deref.result.now (c.deref.ensures.value ∙ c.in_ok-pieces.ensures) holds gives)
    c.take_pieces.ensures
