use Rattle.std.proofs.Common.{subst}
use Rattle.unit_core.specs.Accounts.{IsAccountOf}
use Rattle.unit_core.specs.Records.{AreOpsOf}
use Rattle.unit_core.specs.Replays.{CountsProgram}
use Rattle.unit_core.proofs.ProgramCountFacts.{counts_program}
use Rattle.unit_core.proofs.RecordFacts.{balanced_ok, mapped_ok}
use Rattle.unit_core.proofs.replays.replay_over.Goals as goal

pub returns : goal.returns
returns g c =
    let new = g.U.MemoryUnit.value_of c.issue_and_record-answer.new.unit in
    let account = c.of_steps.result in
    let closed : IsAccountOf new.steps account = subst (λ xs. IsAccountOf xs account) c.steps.ensures.are c.of_steps.ensures in
    record {
      new = new;
      design = c.issue_and_record-answer.ensures.design;
      lawful = c.issue_and_record-answer.ensures.lawful;
      order = c.issue_and_record-answer.ensures.order;
      first = c.issue_and_record-answer.ensures.first;
      unit = c.steps.ensures.kept;
      begun = c.issue_and_record-answer.ensures.begun;
      closed = closed;
      recorded = c.issue_and_record-answer.ensures.recorded;
      counted = mapped_ok c.issue_and_record-answer.result (AreOpsOf c.args.program.now new.steps) (CountsProgram c.args.program.now account)
          c.issue_and_record-answer.ensures.ops (λ ops. counts_program c.args.program.now new.steps account ops closed);
      balanced = balanced_ok c.args.program.now new account c.issue_and_record-answer.result closed c.issue_and_record-answer.ensures.recorded
          c.issue_and_record-answer.ensures.kept;
      belongs = c.issue_and_record-answer.ensures.belongs;
    }
