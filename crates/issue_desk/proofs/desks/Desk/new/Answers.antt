use Rattle.std.proofs.Common.{◌∙◌, rules}
use Rattle.issue_desk.proofs.DeskFacts.{desk-new}
use Rattle.issue_desk.proofs.desks.Desk.new.Goals as goal

pub invariant_of-result : goal.invariant_of-result
invariant_of-result g c =
    desk-new c.args.program (g.U.MemoryUnit.value_of c.preset_all.new.unit) c.in_ok-issued.issued.items c.processors.ensures.kept c.preset_all.ensures.first c.steps-steps.ensures.kept
    (c.preset_all.ensures.others.steps ∙ c.requires) (Prim.search rules)
