-- Names that are printed.
use Rattle.std.specs.Prelude.{ℕ, ◌<◌, ◌^◌, List}
use Rattle.value_texts.specs.declared.names.EventName.{EventName}
use Rattle.value_texts.specs.Names.{name_of_event, IsNumbered}

-- there is an event of this number, and 64 bits hold the number of its line
abbrev pub IsNameable : List EventName → ℕ → Type 0
IsNameable names n = IsNumbered names n × ((name_of_event names n).line < 2 ^ 64)
