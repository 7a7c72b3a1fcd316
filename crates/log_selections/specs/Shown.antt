-- Operations of a log that are shown: some of its lines.
use Rattle.std.specs.Prelude.{ℕ, ◌==◌, List, [], ◌∷◌, ◌++◌, length, map, filter, get_or, ◌<◌}
use Rattle.std.specs.List.{All, Contains, range_with_len}
use Rattle.tso_ops.specs.Values.{TraceValue}
use Rattle.tso_ops.specs.Limits.{IsTrace}
use Rattle.log_text.specs.declared.logs.LogOperation.{LogOperation}
use Rattle.log_text.specs.declared.logs.LogOperation.TheVariants.{Ld, St, Sw, Mb, Sb}
use Rattle.log_text.specs.declared.logs.LoggedOperation.{LoggedOperation}
use Rattle.log_text.specs.LogValues.{NumberedLog, log_operations}
use Rattle.tso_ops.specs.declared.operations.Part.{Part}
use Rattle.tso_ops.specs.declared.operations.Part.TheVariants.{Whole, SwapLoad, SwapStore}
use Rattle.log_selections.specs.declared.shown.Shown.{Shown}
use Rattle.log_selections.specs.Selections.{IsSelection}

-- ---- lines of a log

-- the operation is one of its processor's in the log
abbrev pub IsLineOf : List (List LoggedOperation) → Shown → Type 0
IsLineOf lists s = Contains (get_or lists s.processor []) s.logged

-- its line is below this one
abbrev pub IsBelow : ℕ → Shown → Type 0
IsBelow line s = s.logged.line < line

-- each line is below the next
pub data IsInLineOrder : List Shown → Type 0 where
  none : IsInLineOrder []
  more : (shown : List Shown) (s : Shown) → IsInLineOrder shown → All (IsBelow s.logged.line) shown → IsInLineOrder (shown ++ s ∷ [])

-- Operations of these processors, as they stand in the log, and in the order of its lines.
pub record AreLinesOf (lists : List (List LoggedOperation)) (shown : List Shown) : Type 0 where
  pub here : All (IsLineOf lists) shown
  pub ascending : IsInLineOrder shown

-- ---- what they say by themselves

-- a part of an operation: of a swap its load or its store may count alone
abbrev pub part_of : Part → LogOperation → LogOperation
part_of Whole x = x
part_of SwapLoad (Ld a r) = Ld a r
part_of SwapLoad (St a v) = St a v
part_of SwapLoad (Sw a r v) = Ld a r
part_of SwapLoad Mb = Mb
part_of SwapLoad Sb = Sb
part_of SwapStore (Ld a r) = Ld a r
part_of SwapStore (St a v) = St a v
part_of SwapStore (Sw a r v) = St a v
part_of SwapStore Mb = Mb
part_of SwapStore Sb = Sb

-- what counts of an operation that is shown
abbrev pub counted_operation : Shown → LoggedOperation
counted_operation s = record { line = s.logged.line; operation = part_of s.part s.logged.operation }

-- what counts of a processor
abbrev pub counted_of : List Shown → ℕ → List LoggedOperation
counted_of shown p = map counted_operation (filter (λ s. s.processor == p) shown)

-- the log that has nothing else: its memory model, first values and processors are those of the log
abbrev pub log_of_shown : NumberedLog → List Shown → NumberedLog
log_of_shown log shown = record { order = log.order; first = log.first; lists = map (counted_of shown) (range_with_len 0 (length log.lists)); left_out = 0 }

-- Lines of a log, and a trace that is a selection of the log and of these lines alone, by the sources that their values tell.
pub record IsSelected (log : NumberedLog) (shown : List Shown) (t : TraceValue) : Type 0 where
  pub lines : AreLinesOf log.lists shown
  pub kept : IsTrace t
  pub of_log : IsSelection (log_operations log) t
  pub of_lines : IsSelection (log_operations (log_of_shown log shown)) t
