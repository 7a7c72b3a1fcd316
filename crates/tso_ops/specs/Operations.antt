-- The operation that gives an event: which one of its processor's operations it is, and the line of the trace's text where it stands.
use Rattle.std.specs.Prelude.{◌≡◌, ℕ, zero, suc, ◌+◌, IsTrue, IsFalse, List, [], ◌∷◌, ◌++◌, length, Option, None, Some, slice_get}
use Rattle.tso_ops.specs.declared.ops.Outcome.{Outcome}
use Rattle.tso_ops.specs.declared.ops.Outcome.TheVariants.{Ld, St, Sw, Mb, Sb}
use Rattle.tso_ops.specs.declared.events.Event.{Event}
use Rattle.tso_ops.specs.declared.settings.Order.{Order}
use Rattle.tso_ops.specs.declared.settings.Order.TheVariants.{Tso, Pso}
use Rattle.tso_ops.specs.Settings.{SettingValue}
use Rattle.tso_ops.specs.Values.{TraceValue}
use Rattle.tso_ops.specs.Events.{outcomes_at}
use Rattle.tso_ops.specs.declared.operations.Part.{Part}
use Rattle.tso_ops.specs.declared.operations.Part.TheVariants.{Whole, SwapLoad, SwapStore}
use Rattle.tso_ops.specs.declared.operations.EventOperation.{EventOperation}

-- the operation at a place of its processor, counted from 0, and at a line of the text, counted from 1
abbrev pub operation : ℕ → ℕ → ℕ → Outcome → Part → EventOperation
operation p place line outcome part = record { proc = p; place = place; line = line; outcome = outcome; part = part }

-- For each event that these operations of processor p give, its operation. The first of them is at this place and line; each stands on a line of
-- its own. A swap gives its load and then its store, a barrier of either kind no event.
abbrev pub operations_from : ℕ → ℕ → ℕ → List Outcome → List EventOperation
operations_from p place line [] = []
operations_from p place line (Ld a r ∷ ops) = operation p place line (Ld a r) Whole ∷ operations_from p (suc place) (suc line) ops
operations_from p place line (St a v ∷ ops) = operation p place line (St a v) Whole ∷ operations_from p (suc place) (suc line) ops
operations_from p place line (Sw a r v ∷ ops) =
    operation p place line (Sw a r v) SwapLoad ∷ operation p place line (Sw a r v) SwapStore ∷ operations_from p (suc place) (suc line) ops
operations_from p place line (Mb ∷ ops) = operations_from p (suc place) (suc line) ops
operations_from p place line (Sb ∷ ops) = operations_from p (suc place) (suc line) ops

-- The same for these processors' lists, of which the first is processor p's: its line `proc` is this one, and its operations follow it.
abbrev pub operations_of_lists : ℕ → ℕ → List (List Outcome) → List EventOperation
operations_of_lists p line [] = []
operations_of_lists p line (ops ∷ lists) = operations_from p 0 (suc line) ops ++ operations_of_lists (suc p) (suc line + length ops) lists

-- how many lines say the memory model: TSO has none
abbrev pub model_lines : Order → ℕ
model_lines Tso = 0
model_lines Pso = 1

-- the first line after the header, the memory model and the first values
abbrev pub first_list_line : SettingValue → ℕ
first_list_line setting = 2 + model_lines setting.order + length setting.first

-- for each event of the trace, in the order of the events' numbers, its operation
unfoldable pub operations_of : TraceValue → List EventOperation
operations_of t = operations_of_lists 0 (first_list_line t.setting) t.lists

-- the operation of event n
abbrev pub operation_at : TraceValue → ℕ → Option EventOperation
operation_at t zero = None
operation_at t (suc k) = slice_get (operations_of t) k

-- ---- which operation that is

-- the event is this part of the operation
abbrev pub IsPartOf : Outcome → Part → Event → Type 0
IsPartOf (Ld a r) Whole e = IsTrue e.load × (e.a ≡ a) × (e.value ≡ r)
IsPartOf (St a v) Whole e = IsFalse e.load × (e.a ≡ a) × (e.value ≡ v)
IsPartOf (Sw a r v) SwapLoad e = IsTrue e.load × (e.a ≡ a) × (e.value ≡ r)
IsPartOf (Sw a r v) SwapStore e = IsFalse e.load × (e.a ≡ a) × (e.value ≡ v)
IsPartOf (Ld a r) _ e = ⊥
IsPartOf (St a v) _ e = ⊥
IsPartOf (Sw a r v) Whole e = ⊥
IsPartOf Mb part e = ⊥
IsPartOf Sb part e = ⊥

-- It is the operation at its place of its processor, which is the event's, and the event is that part of it.
abbrev pub IsOperationOf : TraceValue → Event → EventOperation → Type 0
IsOperationOf t e o = (o.proc ≡ e.proc) × (slice_get (outcomes_at t o.proc) o.place ≡ Some o.outcome) × IsPartOf o.outcome o.part e
