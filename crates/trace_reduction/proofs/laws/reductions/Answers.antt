use Rattle.std.proofs.Common.{refl}
use Rattle.trace_reports.specs.declared.verdicts.Verdict.TheVariants.{Violation}
use Rattle.trace_reduction.proofs.ReductionFacts.{reduced_no_order, reduction_no_order, reduction_violation}
use Rattle.trace_reduction.proofs.laws.reductions.Goals as goal

pub returns : goal.returns
returns c = record { trace = reduced_no_order; input = λ input text is. reduction_no_order input text Violation is refl; violation = reduction_violation }
