-- How far the counting of a stream's trace texts has come.
use Rattle.std.specs.Prelude.{ℕ, List, length, Option}
use Rattle.tso_ops.specs.Values.{ProgramValue, TraceValue}
use Rattle.trace_streams.specs.TraceTextReading.{HasGiven, TraceTextReaderValue}
use Rattle.outcome_reports.specs.Internal.Counting.{CountsOf}
use Rattle.outcome_reports.specs.SeenTraces.{AreClassesOf}
use Rattle.outcome_reports.specs.declared.counts.SeenCounts.{SeenCounts}
use Rattle.outcome_reports.specs.declared.classes.TraceClass.{TraceClass}

-- What the reader of trace texts has given of the stream is counted.
pub record HasCounted (program : ProgramValue) (traces : List TraceValue) (reader : TraceTextReaderValue) (stream now : Option (List ℕ)) (counts : SeenCounts) : Type 0 where
  pub given : List (List ℕ)
  pub has_given : HasGiven reader stream now given
  pub classes : List TraceClass
  pub are_classes : AreClassesOf program traces given classes
  pub counted : CountsOf (length traces) classes counts
