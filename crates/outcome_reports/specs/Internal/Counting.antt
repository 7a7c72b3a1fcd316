-- Traces as lists of outcomes, the values that they read, and how often each was seen.
use Rattle.std.specs.Prelude.{◌≡◌, ◌≢◌, ℕ, ◌<◌, ◌≤◌, List, [], ◌∷◌, ◌++◌, length, map, get_or, slice_get, Option, Some, None, true, false}
use Rattle.std.specs.List.{count_by}
use Rattle.std.specs.Global.{Vec}
use Rattle.tso_ops.specs.declared.ops.Outcome.{Outcome}
use Rattle.tso_ops.specs.Settings.{SettingValue}
use Rattle.tso_ops.specs.Values.{ProgramValue, TraceValue, program_of, rows, trace_of_lists}
use Rattle.final_states.specs.FinalStates.{is_below}
use Rattle.trace_streams.specs.TraceTexts.{AreTraceTexts}
use Rattle.final_states.specs.FinalStates.{IsRunTrace}
use Rattle.outcome_reports.specs.SeenTraces.{AreClassesOf, is_foreign, is_seen, is_unreached}
use Rattle.outcome_reports.specs.declared.counts.SeenCounts.{SeenCounts}
use Rattle.outcome_reports.specs.declared.classes.TraceClass.{TraceClass}
use Rattle.outcome_reports.specs.declared.classes.TraceClass.TheVariants.{Reached, Unreached, Foreign}

-- ---- traces

-- the trace of these lists
abbrev pub trace_by : SettingValue → Vec (Vec Outcome) → TraceValue
trace_by setting lists = trace_of_lists setting (rows lists.items)

abbrev pub traces_by : SettingValue → List (Vec (Vec Outcome)) → List TraceValue
traces_by setting traces = map (trace_by setting) traces

-- ---- values that ascend

-- the numbers of each list are above those of the lists before it
pub record AreRising (keys : List (List ℕ)) : Type 0 where
  pub rising : (i j : ℕ) → i < j → j < length keys → is_below (get_or keys i []) (get_or keys j []) ≡ true

-- The lists before `start` are below these values, and those from `end` on aren't.
pub record IsBetween (keys : List (List ℕ)) (values : List ℕ) (start end : ℕ) : Type 0 where
  pub before : (k : ℕ) → k < start → is_below (get_or keys k []) values ≡ true
  pub after : (k : ℕ) → end ≤ k → k < length keys → is_below (get_or keys k []) values ≡ false

-- this is a place of the values; or there is none, where the lists rise
abbrev pub IsPlaceOf : List (List ℕ) → List ℕ → Option ℕ → Type 0
IsPlaceOf keys values (Some k) = (k < length keys) × (get_or keys k [] ≡ values)
IsPlaceOf keys values None = AreRising keys → (k : ℕ) → k < length keys → get_or keys k [] ≡ values → ⊥

-- ---- what a trace is to them

abbrev pub IsClassOfTrace : ProgramValue → List TraceValue → TraceValue → TraceClass → Type 0
IsClassOfTrace program traces t (Reached k) = slice_get traces k ≡ Some t
IsClassOfTrace program traces t Unreached = (program_of t ≡ program) × (IsRunTrace program t → ⊥)
IsClassOfTrace program traces t Foreign = program_of t ≢ program

-- if it is one of so many traces, its place is below their number
abbrev pub IsWithin : ℕ → TraceClass → Type 0
IsWithin count (Reached k) = k < count
IsWithin count Unreached = Unit {0}
IsWithin count Foreign = Unit {0}

-- ---- counts

-- how often each of so many traces is among the classes, and how often each other
pub record CountsOf (count : ℕ) (classes : List TraceClass) (counts : SeenCounts) : Type 0 where
  pub wide : length counts.seen.items ≡ count
  pub seen : (k : ℕ) → k < count → get_or counts.seen.items k 0 ≡ count_by (is_seen k) classes
  pub unreached : counts.unreached ≡ count_by is_unreached classes
  pub foreign : counts.foreign ≡ count_by is_foreign classes

-- those of the trace texts of a stream
abbrev pub CountsTraceTexts : ProgramValue → List TraceValue → SeenCounts → List ℕ → Type 0
CountsTraceTexts program traces counts stream =
    (pieces : List (List ℕ)) × (classes : List TraceClass) × AreTraceTexts stream pieces × AreClassesOf program traces pieces classes × CountsOf (length traces) classes counts

-- ---- the last of some lists

-- these lists are the last of those
abbrev pub IsLastOf : List (Vec (Vec Outcome)) → List (List Outcome) → Type 0
IsLastOf traces lists = (before : List (Vec (Vec Outcome))) × (last : Vec (Vec Outcome)) × (traces ≡ before ++ last ∷ []) × (rows last.items ≡ lists)
