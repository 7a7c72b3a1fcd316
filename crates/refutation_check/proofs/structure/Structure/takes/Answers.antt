use Rattle.std.proofs.Common.{reverse}
use Rattle.refutation_check.proofs.StructureFacts.{missing_step, missing_case_last, missing_case_late, missing_cycle, missing_else_early}
use Rattle.refutation_check.proofs.structure.Structure.takes.Goals as goal

pub returns-in-Step-clause-takes : goal.returns-in-Step-clause-takes
returns-in-Step-clause-takes c = λ rest. rw c.in-Step.is (missing_step c.args.self.now.ended (reverse c.args.self.now.cases.items) c.in-Step.field-0 rest)

pub returns-then-self-clause-takes : goal.returns-then-self-clause-takes
returns-then-self-clause-takes c = λ rest.
    rw c.in-Case.is (missing_case_late c.args.self.now.ended (reverse c.args.self.now.cases.items) c.in-Case.first c.in-Case.second rest c.if-self.true)

pub returns-in_ok-push-in-Case-clause-takes : goal.returns-in_ok-push-in-Case-clause-takes
returns-in_ok-push-in-Case-clause-takes c = λ rest.
    rw c.in-Case.is
    (missing_case_last c.args.self.now.ended c.args.self.now.cases.items c.push.new.self.items c.in-Case.first c.in-Case.second rest c.in_ok-push-in-Case.ensures.items
    c.if-self.false)

pub returns-else-self-2-clause-takes : goal.returns-else-self-2-clause-takes
returns-else-self-2-clause-takes c = λ rest.
    rw c.in-Else.is (missing_else_early c.args.self.now.ended (reverse c.args.self.now.cases.items) c.in-Else.first c.in-Else.second rest c.if-self-2.false)

pub returns-in-Cycle-clause-takes : goal.returns-in-Cycle-clause-takes
returns-in-Cycle-clause-takes c = λ rest. rw c.in-Cycle.is (missing_cycle c.args.self.now.ended (reverse c.args.self.now.cases.items) c.in-Cycle.field-0 rest)
