-- The log of a run, in which each line says an operation for each piece of its place: bytes are cut at boundaries, at least at the ends of all places, and a location is one piece.
use Rattle.std.specs.Prelude.{◌≡◌, ℕ, ◌-◌, ◌<◌, ◌&&◌, true, nat_le, nat_lt, List, [], ◌∷◌, map, filter, get_or, if◌then◌else◌}
use Rattle.std.specs.List.{AllByRecursion, flat_map, fold}
use Rattle.run_steps.specs.declared.cells.Cell.TheVariants.{First}
use Rattle.run_steps.specs.declared.steps.RunLine.{RunLine}
use Rattle.run_steps.specs.declared.steps.RunStep.{RunStep}
use Rattle.run_steps.specs.declared.steps.RunStep.TheVariants.{Load, Store, Drain, Write, Swap, Reserve, StoreReserved, Membar, Stbar, Unknown, Last}
use Rattle.run_steps.specs.Machine.{MachineState}
use Rattle.run_steps.specs.Places.{parts_from}
use Rattle.run_steps.specs.Runs.{HoldsFrom}
use Rattle.run_steps.specs.Widths.{cells_of}
use Rattle.run_lines.specs.declared.arguments.Widths.{Widths}
use Rattle.run_lines.specs.declared.arguments.Widths.TheVariants.{Unseen, Locations, Bytes}
use Rattle.log_text.specs.declared.lines.LogLine.{LogLine}
use Rattle.log_text.specs.declared.lines.LogLine.TheVariants as said
use Rattle.log_text.specs.declared.lines.SaidLine.{SaidLine}
use Rattle.log_text.specs.LogTexts.{is_step, order_of}
use Rattle.log_text.specs.Splits.{boundaries_in, is_boundary}
use Rattle.run_orders.specs.RunLogs.{AreNumberedAbove, IsAtLocation, logged_line}

-- how wide the place is at which the step says an operation to a log: 0 where it says none, or one at no place
abbrev pub width_logged : RunStep → ℕ
width_logged (Load place v) = place.width
width_logged (Store place v) = place.width
width_logged (Drain at v) = 0
width_logged (Write place v) = place.width
width_logged (Swap place r v) = place.width
width_logged (Reserve place v) = place.width
width_logged (StoreReserved place v) = place.width
width_logged Membar = 0
width_logged Stbar = 0
width_logged (Unknown place) = place.width
width_logged (Last place v) = 0

-- what a line of a run says to a log, with the width of its place
abbrev pub logged_with_width : RunLine → SaidLine
logged_with_width line = record { line = logged_line line; width = width_logged line.step }

-- the step names no location, and does nothing unknown
abbrev pub IsAtBytes : RunStep → Type 0
IsAtBytes (Load place v) = 0 < place.width
IsAtBytes (Store place v) = 0 < place.width
IsAtBytes (Drain at v) = Unit {0}
IsAtBytes (Write place v) = 0 < place.width
IsAtBytes (Swap place r v) = 0 < place.width
IsAtBytes (Reserve place v) = 0 < place.width
IsAtBytes (StoreReserved place v) = 0 < place.width
IsAtBytes Membar = Unit {0}
IsAtBytes Stbar = Unit {0}
IsAtBytes (Unknown place) = 0 < 0
IsAtBytes (Last place v) = Unit {0}

-- the places of the steps of a text with such places
abbrev pub IsAtPlacesOf : Widths → RunStep → Type 0
IsAtPlacesOf Unseen step = IsAtLocation step
IsAtPlacesOf Locations step = IsAtLocation step
IsAtPlacesOf Bytes step = IsAtBytes step

-- a first value that is said is one of bytes
abbrev pub IsFirstOfBytes : LogLine → ℕ → Type 0
IsFirstOfBytes said.Note width = Unit {0}
IsFirstOfBytes said.Pso width = Unit {0}
IsFirstOfBytes (said.First a v) width = 0 < width
IsFirstOfBytes (said.Issued p x) width = Unit {0}
IsFirstOfBytes (said.Unknown p a) width = Unit {0}
IsFirstOfBytes said.Memory width = Unit {0}
IsFirstOfBytes said.End width = Unit {0}

-- what lines of a text with such places say of first values: they are of bytes, or no place has a width
abbrev pub IsSaidAtPlacesOf : Widths → SaidLine → Type 0
IsSaidAtPlacesOf Unseen x = x.width ≡ 0
IsSaidAtPlacesOf Locations x = x.width ≡ 0
IsSaidAtPlacesOf Bytes x = IsFirstOfBytes x.line x.width

-- what a cell has at first by a line with a place of this width: its byte of the value, or a location's value; nothing where the place doesn't have the cell
abbrev pub first_cells_in : ℕ → LogLine → ℕ → List ℕ
first_cells_in cell said.Note width = []
first_cells_in cell said.Pso width = []
first_cells_in cell (said.First a v) width =
    if nat_le a cell && nat_lt (cell - a) (cells_of width) then get_or (parts_from width (cells_of width) v) (cell - a) 0 ∷ [] else []
first_cells_in cell (said.Issued p x) width = []
first_cells_in cell (said.Unknown p a) width = []
first_cells_in cell said.Memory width = []
first_cells_in cell said.End width = []

-- what a cell has at first: what the last line says of those whose place has it, 0 where there is none
abbrev pub cell_at_first : List SaidLine → ℕ → ℕ
cell_at_first lines cell = fold (λ before now. now) 0 (flat_map (λ line. first_cells_in cell line.line line.width) lines)

-- boundaries stand at both ends of each place that the lines name
abbrev pub AreCutAt : List ℕ → List SaidLine → Type 0
AreCutAt boundaries lines = AllByRecursion (λ line. AllByRecursion (λ b. is_boundary boundaries b ≡ true) (boundaries_in line)) lines

-- A log has these lines of a text with such places, each with the width of its place, and their steps are a run that holds: each is a step of the machine of the
-- log's memory model, and the machine has done nothing before it but to take the first values.
pub record IsHeldSplitRun (widths : Widths) (said_lines : List SaidLine) (s : MachineState) (lines : List RunLine) : Type 0 where
  pub steps : filter (λ x. is_step x.line) said_lines ≡ map logged_with_width lines
  pub places : AllByRecursion (λ line. IsAtPlacesOf widths line.step) lines
  pub first : AllByRecursion (IsSaidAtPlacesOf widths) said_lines
  pub numbers : AreNumberedAbove 0 lines
  pub memory : (cell : ℕ) → s.memory cell ≡ First (cell_at_first said_lines cell)
  pub processors : s.processors ≡ []
  pub holds : HoldsFrom (order_of (map (λ x. x.line) said_lines)) s lines
