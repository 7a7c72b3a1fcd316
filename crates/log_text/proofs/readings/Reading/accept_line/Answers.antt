use Rattle.std.proofs.Common.{◌∙◌, sym, inr}
use Rattle.log_text.proofs.ReadingFacts.{accepted_next, refused_at_end, refused_there, refused_unsaid, stages_told}
use Rattle.log_text.proofs.readings.Reading.accept_line.Goals as goal

pub returns-in-Ok-take_said-clause-accepted : goal.returns-in-Ok-take_said-clause-accepted
returns-in-Ok-take_said-clause-accepted c before holds =
    let says = sym c.line_said.ensures.is ∙ c.in-Ok.is in
    let may = sym (c.may_follow.ensures _ (stages_told c.args.self.now _ before c.args.number holds)) ∙ c.if-not-may_follow.false in
    accepted_next c.args.self.now c.args.cutting.now.places _ before c.args.number holds c.args.line.now c.if-self.false c.in-Ok.said says c.take_said.new.self c.in-Ok-take_said.next may c.in-Ok.ensures.within (c.in-Ok-take_said.ensures before holds)

pub returns-then-self-clause-refused : goal.returns-then-self-clause-refused
returns-then-self-clause-refused c boundaries before number holds =
    inr (refused_at_end c.args.self.now c.args.cutting.now.places boundaries before number holds c.args.line.now c.if-self.true)

pub returns-in-Err-clause-refused : goal.returns-in-Err-clause-refused
returns-in-Err-clause-refused c boundaries before number holds =
    inr (refused_unsaid c.args.self.now c.args.cutting.now.places boundaries before number holds c.args.line.now c.if-self.false c.in-Err.why (sym c.line_said.ensures.is ∙ c.in-Err.is))

pub returns-then-not-may_follow-clause-refused : goal.returns-then-not-may_follow-clause-refused
returns-then-not-may_follow-clause-refused c boundaries before number holds =
    let says = sym c.line_said.ensures.is ∙ c.in-Ok.is in
    let not = sym (c.may_follow.ensures _ (stages_told c.args.self.now _ before number holds)) ∙ c.if-not-may_follow.true in
    inr (refused_there c.args.self.now c.args.cutting.now.places boundaries before number holds c.args.line.now c.if-self.false c.in-Ok.said says not)
