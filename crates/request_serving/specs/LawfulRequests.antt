-- Requests that run a program on a lawful unit.
use Rattle.std.specs.Prelude.{◌≡◌, ◌&&◌, ℕ, Bool, true, false, List, Option, Some, is_some}
use Rattle.std.specs.Option.{option_map_or}
use Rattle.command_line.specs.declared.options.UnitOptions.{UnitOptions}
use Rattle.command_line.specs.Requests.{Asked, needs}
use Rattle.tso_ops.specs.Values.{ProgramValue}
use Rattle.tso_report.specs.Campaigns.{is_lawful_under}
use Rattle.tso_text.specs.Texts.{SpellsProgram}
use Rattle.run_serving.specs.BenchUnits.{is_lawful_under_all}
use Rattle.request_texts.specs.OpenedFiles.{text_bytes}
use Rattle.run_serving.specs.Printing.{unit_of}

-- Whatever its text is, a program is replayed, or run with a thread per processor, on a unit that is lawful for it: one that is lawful for programs of each
-- memory model.
abbrev pub runs_on_lawful_unit : Asked → Bool
runs_on_lawful_unit asked = is_some (needs asked).program && option_map_or (λ unit. is_lawful_under_all unit.kind) (needs asked).unit false

-- The bytes are known, and spell a program for which the unit of the options is lawful.
pub record SpellsForLawfulUnit (options : UnitOptions) (known : Option (List ℕ)) : Type 0 where
  pub bytes : List ℕ
  pub has : known ≡ Some bytes
  pub program : ProgramValue
  pub spelled : SpellsProgram bytes program
  pub lawful : is_lawful_under program.setting.order (unit_of options) ≡ true

-- such bytes are had of the program that is run on the unit
abbrev pub RunsLawfullyOn : Option UnitOptions → Option (Option (List ℕ)) → Option (List ℕ) → (List ℕ → Option (List ℕ)) → Type 0
RunsLawfullyOn (Some unit) (Some program) input files = SpellsForLawfulUnit unit (text_bytes program input files)
RunsLawfullyOn unit program input files = ⊥

-- Standard input has these bytes, and the file of each name those, and the program is replayed, or run with a thread per processor, on a unit that is
-- lawful for it.
abbrev pub RunsLawfully : Asked → Option (List ℕ) → (List ℕ → Option (List ℕ)) → Type 0
RunsLawfully asked input files = RunsLawfullyOn (needs asked).unit (needs asked).program input files
