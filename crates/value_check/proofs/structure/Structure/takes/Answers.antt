use Rattle.std.proofs.Common.{◌≡◌, ◌+◌, suc, arith}
use Rattle.value_check.proofs.StructureFacts.{missing_before, missing_end, missing_read, missing_step}
use Rattle.value_check.proofs.structure.Structure.takes.Goals as goal

pub returns-in-Step-clause-takes : goal.returns-in-Step-clause-takes
returns-in-Step-clause-takes c = λ rest. rw c.in-Step.is (missing_step c.args.self.now.ended c.args.self.now.missing c.in-Step.field-0 rest)

pub returns-in-ReadCase-clause-takes : goal.returns-in-ReadCase-clause-takes
returns-in-ReadCase-clause-takes c = λ rest.
    let next : c.args.self.now.missing + 1 ≡ suc c.args.self.now.missing = omega arith in
    rw c.in-ReadCase.is (rw next (missing_read c.args.self.now.ended c.args.self.now.missing c.in-ReadCase.load c.in-ReadCase.source rest))

pub returns-in-BeforeCase-clause-takes : goal.returns-in-BeforeCase-clause-takes
returns-in-BeforeCase-clause-takes c = λ rest.
    let next : c.args.self.now.missing + 1 ≡ suc c.args.self.now.missing = omega arith in
    rw c.in-BeforeCase.is (rw next (missing_before c.args.self.now.ended c.args.self.now.missing c.in-BeforeCase.first c.in-BeforeCase.second rest))

pub returns-in-End-clause-takes : goal.returns-in-End-clause-takes
returns-in-End-clause-takes c = λ rest. rw c.in-End.is (missing_end c.args.self.now.ended c.args.self.now.missing c.in-End.field-0 rest)
