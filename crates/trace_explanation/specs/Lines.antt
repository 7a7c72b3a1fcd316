-- The lines of a trace's text, one after another.
use Rattle.std.specs.Prelude.{ℕ, List, [], ◌∷◌, ◌++◌, map, codes}
use Rattle.std.specs.List.{flat_map, join_with_byte}
use Rattle.tso_ops.specs.declared.ops.Outcome.{Outcome}
use Rattle.tso_ops.specs.declared.settings.Order.{Order}
use Rattle.tso_ops.specs.declared.settings.Order.TheVariants.{Tso, Pso}
use Rattle.tso_ops.specs.Settings.{SettingValue}
use Rattle.tso_ops.specs.Values.{TraceValue}
use Rattle.tso_text.specs.Printed.{trace_header, entry_tokens}
use Rattle.trace_explanation.specs.Names.{outcome_text}

-- a line with its line feed
abbrev pub ended_line : List ℕ → List ℕ
ended_line line = line ++ 10 ∷ []

-- the line that says the memory model: TSO has none
abbrev pub model_line : Order → List (List ℕ)
model_line Tso = []
model_line Pso = codes "model pso" ∷ []

-- the lines before those of the processors
abbrev pub setting_lines : SettingValue → List (List ℕ)
setting_lines setting = (trace_header setting.version ∷ model_line setting.order) ++ map (λ entry. join_with_byte 32 (entry_tokens entry)) setting.first

-- the lines of a processor
abbrev pub processor_lines : List Outcome → List (List ℕ)
processor_lines ops = codes "proc" ∷ map outcome_text ops

-- all lines
unfoldable pub text_lines : TraceValue → List (List ℕ)
text_lines t = setting_lines t.setting ++ (flat_map processor_lines t.lists ++ codes "end" ∷ [])
