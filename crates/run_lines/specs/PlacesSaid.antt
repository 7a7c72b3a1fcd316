-- The places that lines say, and which kind of them a text has.
use Rattle.std.specs.Prelude.{◌==◌, Option, None, Some, if◌then◌else◌}
use Rattle.std.specs.Option.{option_map_or}
use Rattle.run_lines.specs.declared.arguments.Widths.{Widths}
use Rattle.run_lines.specs.declared.arguments.Widths.TheVariants.{Locations, Bytes}
use Rattle.run_lines.specs.declared.lines.RunText.{RunText}
use Rattle.run_lines.specs.declared.lines.RunText.TheVariants as text
use Rattle.run_steps.specs.declared.places.Place.{Place}
use Rattle.run_steps.specs.declared.steps.RunStep.{RunStep}
use Rattle.run_steps.specs.declared.steps.RunStep.TheVariants.{Load, Store, Drain, Write, Swap, Reserve, StoreReserved, Membar, Stbar, Unknown, Last}

-- the place of a step, if it has one
abbrev pub place_of_step : RunStep → Option Place
place_of_step (Load place v) = Some place
place_of_step (Store place v) = Some place
place_of_step (Drain at v) = at
place_of_step (Write place v) = Some place
place_of_step (Swap place r v) = Some place
place_of_step (Reserve place v) = Some place
place_of_step (StoreReserved place v) = Some place
place_of_step Membar = None
place_of_step Stbar = None
place_of_step (Unknown place) = Some place
place_of_step (Last place v) = Some place

-- the place of a line, if it has one
abbrev pub place_of_text : RunText → Option Place
place_of_text text.Note = None
place_of_text text.Pso = None
place_of_text (text.First place v) = Some place
place_of_text (text.Step p step) = place_of_step step
place_of_text text.End = None

-- a text with this place has locations or bytes
abbrev pub widths_of : Place → Widths
widths_of place = if place.width == 0 then Locations else Bytes

-- which places the lines of a text had, after one more line
abbrev pub widths_after : Widths → RunText → Widths
widths_after before said = option_map_or widths_of (place_of_text said) before
