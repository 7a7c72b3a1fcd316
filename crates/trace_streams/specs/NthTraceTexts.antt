-- The trace text of one number in a stream of bytes.
use Rattle.std.specs.Prelude.{◌≡◌, ◌-◌, ℕ, List, Option, option_map, slice_get, take}
use Rattle.trace_streams.specs.TraceTexts.{AreTraceTexts}
use Rattle.trace_streams.specs.Limits.{trace_read_limit}

-- The stream's trace text of this number, of which the first is 1 (0 stands for 1); None where there are fewer.
abbrev pub IsNthTraceText : ℕ → List ℕ → Option (List ℕ) → Type 0
IsNthTraceText number stream piece = (pieces : List (List ℕ)) × AreTraceTexts stream pieces × (piece ≡ slice_get pieces (number - 1))

-- the first bytes of it, as many as are kept of a trace text
abbrev pub IsKeptOfNth : ℕ → List ℕ → Option (List ℕ) → Type 0
IsKeptOfNth number stream kept = (piece : Option (List ℕ)) × IsNthTraceText number stream piece × (kept ≡ option_map (take trace_read_limit) piece)
