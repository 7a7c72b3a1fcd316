use Rattle.log_text.proofs.lines.width_told.Goals as goal

pub returns-in-Step : goal.returns-in-Step
returns-in-Step c = rw c.in-Step.is (c.step_width.ensures c.in-Step.processor)
