use Rattle.std.proofs.Common.{◌∙◌}
use Rattle.tso_ops.specs.declared.settings.Version.TheVariants.{One, Two}
use Rattle.tso_text.specs.Printed.{trace_header, program_header}
use Rattle.tso_text.proofs.PrintedSetting.{setting_without_model}
use Rattle.tso_text.proofs.PrintedSpelling.{trace_headers, program_headers}
use Rattle.tso_text.proofs.TextLaws.{trace_lines, program_lines}
use Rattle.tso_text.proofs.laws.texts_without_a_model.Goals as goal

pub returns : goal.returns
returns c = record {
  traces = λ rest t none spells. (trace_lines _ t spells).0 ∙ setting_without_model (trace_header One) (trace_header Two) rest trace_headers none;
  programs = λ rest p none spells. (program_lines _ p spells).0 ∙ setting_without_model (program_header One) (program_header Two) rest program_headers none;
}
