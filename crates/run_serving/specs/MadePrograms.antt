-- What the program prints of the program that is made from a seed, or of its schedule.
use Rattle.std.specs.Prelude.{◌≡◌, ◌⊎◌, ℕ, List, [], ◌∷◌, ◌++◌, codes, Option, if◌then◌else◌}
use Rattle.drawn_programs.specs.Making.{IsShape, ShapeValue, shape_of}
use Rattle.tso_text.specs.Printed.{program_text, schedule_text}
use Rattle.command_line.specs.declared.options.MakeOptions.{MakeOptions}
use Rattle.command_line.specs.declared.options.ShapeNumbers.{ShapeNumbers}
use Rattle.tso_report.specs.Campaigns.{program_of_seed_with_order, schedule_of_seed}
use Rattle.text_streams.specs.declared.faults.Fault.{Fault}
use Rattle.text_streams.specs.declared.faults.Fault.TheVariants.{OutOfMemory, Write}
use Rattle.text_streams.specs.WrittenTexts.{LeavesAtFault}

-- the shape of these numbers
abbrev pub asked_shape : ShapeNumbers → ShapeValue
asked_shape numbers = shape_of numbers.processors numbers.operations numbers.addresses

-- the line of numbers that are no shape
abbrev pub shape_refusal : List ℕ
shape_refusal = codes "REFUSED Shape" ++ 10 ∷ []

-- the numbers are no shape
abbrev pub IsShapeRefusal : ShapeNumbers → List ℕ → ℕ → Type 0
IsShapeRefusal numbers text status = (IsShape (asked_shape numbers) → ⊥) × (text ≡ shape_refusal) × (status ≡ 2)

-- the text of the program that the options ask for, or of the schedule of its seed
abbrev pub made_text : MakeOptions → List ℕ
made_text options =
    let shape = asked_shape options.shape in
    if options.schedule then schedule_text (schedule_of_seed shape options.seed) else program_text (program_of_seed_with_order options.order shape options.seed)

-- The text is the one that the options ask for, or their numbers are no shape.
abbrev pub IsMadeText : MakeOptions → List ℕ → ℕ → Type 0
IsMadeText options text status = IsShapeRefusal options.shape text status ⊎ (IsShape (asked_shape options.shape) × (text ≡ made_text options) × (status ≡ 0))

-- what a fault leaves of it: no text is read, and no thread started
abbrev pub LeavesMadeText : MakeOptions → Option (List ℕ) → Option (List ℕ) → Fault → Type 0
LeavesMadeText options old new fault = ((fault ≡ OutOfMemory) ⊎ (fault ≡ Write)) × LeavesAtFault (IsMadeText options) old new fault
