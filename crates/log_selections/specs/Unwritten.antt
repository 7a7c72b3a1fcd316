-- Loads of values that nothing wrote.
use Rattle.std.specs.Prelude.{◌≡◌, ◌≢◌, ◌≤◌, ℕ, ◌==◌, List, [], ◌∷◌, length, map, filter, Option, None, Some}
use Rattle.std.specs.List.{All, Contains, flat_map}
use Rattle.tso_ops.specs.declared.ops.Outcome.TheVariants as outcomes
use Rattle.tso_ops.specs.declared.settings.Order.{Order}
use Rattle.tso_ops.specs.Settings.{first_value, setting_of_first}
use Rattle.tso_ops.specs.Values.{TraceValue, trace_of_lists}
use Rattle.log_text.specs.declared.logs.LogOperation.{LogOperation}
use Rattle.log_text.specs.declared.logs.LogOperation.TheVariants.{Ld, St, Sw, Mb, Sb}
use Rattle.log_text.specs.declared.logs.LoggedOperation.{LoggedOperation}
use Rattle.log_text.specs.LogValues.{NumberedLog}
use Rattle.log_selections.specs.declared.unwritten.LoggedStore.{LoggedStore}
use Rattle.log_selections.specs.declared.unwritten.UnwrittenLoad.{UnwrittenLoad}
use Rattle.log_selections.specs.Shown.{IsLineOf}

-- the address and the value that an operation reads
abbrev pub read_by : LogOperation → List (ℕ × ℕ)
read_by (Ld a r) = (a, r) ∷ []
read_by (St a v) = []
read_by (Sw a r v) = (a, r) ∷ []
read_by Mb = []
read_by Sb = []

-- the address and the value that it stores
abbrev pub pair_stored_by : LogOperation → List (ℕ × ℕ)
pair_stored_by (Ld a r) = []
pair_stored_by (St a v) = (a, v) ∷ []
pair_stored_by (Sw a r v) = (a, v) ∷ []
pair_stored_by Mb = []
pair_stored_by Sb = []

-- some processor of the log did this
abbrev pub IsOperationOfLog : NumberedLog → LoggedOperation → Type 0
IsOperationOfLog log x = (xs : List LoggedOperation) × Contains log.lists xs × Contains xs x

-- The operation read what none stores to the address, and what isn't its first value.
pub record IsUnwrittenOperation (log : NumberedLog) (x : LoggedOperation) : Type 0 where
  pub here : IsOperationOfLog log x
  pub written : ℕ × ℕ
  pub reads : Contains (read_by x.operation) written
  pub unstored : (y : LoggedOperation) → IsOperationOfLog log y → Contains (pair_stored_by y.operation) written → ⊥
  pub first : first_value log.first written.0 ≢ written.1

-- ---- what was stored to an address

-- the line and the value of a store to the address
abbrev pub stored_at : ℕ → LoggedOperation → List LoggedStore
stored_at a x = map (λ w. record { line = x.line; value = w.1 }) (filter (λ w. w.0 == a) (pair_stored_by x.operation))

-- the same of all stores to it, one processor after another
abbrev pub logged_stores_to : List (List LoggedOperation) → ℕ → List LoggedStore
logged_stores_to lists a = flat_map (flat_map (stored_at a)) lists

-- the one of the least line, if there is one
abbrev pub IsFirstStore : List LoggedStore → Option LoggedStore → Type 0
IsFirstStore stores None = stores ≡ []
IsFirstStore stores (Some s) = Contains stores s × All (λ other. s.line ≤ other.line) stores

-- that of the greatest line
abbrev pub IsLastStore : List LoggedStore → Option LoggedStore → Type 0
IsLastStore stores None = stores ≡ []
IsLastStore stores (Some s) = Contains stores s × All (λ other. other.line ≤ s.line) stores

-- A line of the log that read what nothing wrote, and how many stores there are to its address, the first of them and the last.
pub record IsUnwrittenLoad (log : NumberedLog) (load : UnwrittenLoad) : Type 0 where
  pub here : IsLineOf log.lists load.shown
  pub unwritten : IsUnwrittenOperation log load.shown.logged
  pub count : load.stores ≡ length (logged_stores_to log.lists unwritten.written.0)
  pub first : IsFirstStore (logged_stores_to log.lists unwritten.written.0) load.first
  pub last : IsLastStore (logged_stores_to log.lists unwritten.written.0) load.last

-- ---- such a load alone

-- a trace that has nothing else: it reads 1 at address 0, where memory is 0
abbrev pub lone_load : Order → TraceValue
lone_load order = trace_of_lists (setting_of_first order []) ((outcomes.Ld 0 1 ∷ []) ∷ [])
