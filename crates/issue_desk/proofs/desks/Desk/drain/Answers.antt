use Rattle.issue_desk.proofs.DeskFacts.{desk-drained, drains-unit}
use Rattle.issue_desk.proofs.desks.Desk.drain.Goals as goal

pub invariant_of-self-2 : goal.invariant_of-self-2
invariant_of-self-2 g c =
    desk-drained c.self.inside.program (g.U.MemoryUnit.value_of c.self.inside.unit) (g.U.MemoryUnit.value_of c.drain.new.self) c.self.inside.issued.items c.args.p
    c.in_ok-drained.drained c.steps-steps.ensures.kept c.in_ok-drained.ensures.drained c.self.invariant.0 c.self.invariant.1

pub returns-clause-drained : goal.returns-clause-drained
returns-clause-drained g c =
    rw (← c.self.view_is) (drains-unit c.self.inside.program (g.U.MemoryUnit.value_of c.self.inside.unit) (g.U.MemoryUnit.value_of c.drain.new.self) c.args.p c.in_ok-drained.drained
    c.in_ok-drained.ensures.drained)

pub returns-clause-kept : goal.returns-clause-kept
returns-clause-kept g c = (invariant_of-self-2 g c).0
