use Rattle.std.proofs.lemmas.Result.{IfOk-weaker}
use Rattle.program_chains.specs.LogEvents.{log_trace}
use Rattle.value_check.proofs.Told.{told_of_walk, structure_of_none}
use Rattle.value_check.proofs.refutation_checks.judge.Goals as goal

pub returns : goal.returns
returns c =
    IfOk-weaker c.check_lines.result _ _ (λ said walked. told_of_walk (log_trace c.args.log.now) c.args.lines.now said
    (structure_of_none c.args.lines.now c.structure_fault.result c.in_default.is c.structure_fault.ensures) walked) c.check_lines.ensures
