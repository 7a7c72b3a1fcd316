-- Memory orders of accesses that have widths, each of them single, and the axioms of Total Store Order (TSO) and of Partial Store Order (PSO) of such
-- orders.
-- The axioms are those of `tso_model`, in the words of the SPARC Architecture Manual Version 8, chapter 6 'Memory Model' and appendix K 'Formal
-- Specification of the Memory Model'. The memory of the manual has bytes, words and doublewords, and it asks that an access be aligned. Here each access,
-- of up to 8 bytes, is single, also one that isn't aligned, and accesses may share some of their bytes. So what the manual says of a location is said of
-- each byte: a load returns in each what the last store that it sees wrote there.
use Rattle.std.specs.Prelude.{◌≡◌, ◌⊎◌, ℕ, zero, suc, ◌+◌, ◌-◌, ◌/◌, ◌^◌, ◌<◌, ◌&&◌, ◌==◌, Bool, true, false, cond, nat_le, nat_lt, List, [], ◌∷◌, map, Some, get_or}
use Rattle.std.specs.List.{Contains, flat_map, fold, range_with_len}
use Rattle.run_lines.specs.declared.arguments.Widths.{Widths}
use Rattle.run_steps.specs.Widths.{cells_of, low_part}
use Rattle.tso_ops.specs.declared.events.Event.{Event}
use Rattle.tso_ops.specs.declared.settings.Order.TheVariants.{Tso as OrderTso}
use Rattle.tso_ops.specs.Settings.{setting_of_first}
use Rattle.tso_ops.specs.Values.{TraceValue, trace_of_lists}
use Rattle.tso_ops.specs.Events.{event_at, IsLoad, IsStore, IsSwapLoad, Earlier}
use Rattle.tso_model.specs.Axioms.{IsUpTo, IsMemoryOrder, MeetsLoadOp, MeetsStbar, MeetsMembar, MeetsAtomicity}
use Rattle.log_text.specs.declared.lines.LogLine.{LogLine}
use Rattle.log_text.specs.declared.lines.LogLine.TheVariants.{Note, Pso, First, Issued, Unknown, Memory, End}
use Rattle.log_text.specs.declared.lines.SaidLine.{SaidLine}
use Rattle.log_text.specs.declared.logs.LogOperation.{LogOperation}
use Rattle.log_text.specs.declared.logs.LogOperation.TheVariants.{Ld, St, Sw, Mb, Sb}
use Rattle.log_text.specs.LogTexts.{order_of, processors_in}
use Rattle.log_text.specs.LogValues.{logged_outcome}
use Rattle.log_text.specs.Splits.{has_bytes}

-- ---- the trace of the accesses

-- an operation, and how many bytes its place has
pub record WideOperation : Type 0 where
  pub operation : LogOperation
  pub width : ℕ

-- what a line of this width says that processor p did
abbrev pub wide_issued_in : ℕ → ℕ → LogLine → List WideOperation
wide_issued_in p width Note = []
wide_issued_in p width Pso = []
wide_issued_in p width (First a v) = []
wide_issued_in p width (Issued q x) = cond (p == q) (record { operation = x; width = width } ∷ []) []
wide_issued_in p width (Unknown q a) = []
wide_issued_in p width Memory = []
wide_issued_in p width End = []

-- what these lines say that it did, none of it left out
abbrev pub wide_issued_by : List SaidLine → ℕ → List WideOperation
wide_issued_by lines p = flat_map (λ s. wide_issued_in p s.width s.line) lines

-- what the lines say without widths
abbrev pub plain_lines : List SaidLine → List LogLine
plain_lines lines = map (λ s. s.line) lines

-- what the processors 0, 1, .. did
abbrev pub wide_lists : List SaidLine → List (List WideOperation)
wide_lists lines = map (wide_issued_by lines) (range_with_len 0 (processors_in (plain_lines lines)))

-- The trace of the accesses, each of them one event, and of a swap one for its load and one for its store. Its first values are said elsewhere, by bytes.
abbrev pub wide_trace : List SaidLine → TraceValue
wide_trace lines = trace_of_lists (setting_of_first (order_of (plain_lines lines)) []) (map (map (λ x. logged_outcome x.operation)) (wide_lists lines))

-- the widths of the events of an operation
abbrev pub event_widths_in : ℕ → LogOperation → List ℕ
event_widths_in width (Ld a r) = width ∷ []
event_widths_in width (St a v) = width ∷ []
event_widths_in width (Sw a r v) = width ∷ width ∷ []
event_widths_in width Mb = []
event_widths_in width Sb = []

-- those of the events of some operations
abbrev pub event_widths_of : List WideOperation → List ℕ
event_widths_of operations = flat_map (λ x. event_widths_in x.width x.operation) operations

-- the width of number n, from 1, of these
abbrev pub numbered_width : List ℕ → ℕ → ℕ
numbered_width widths zero = 0
numbered_width widths (suc k) = get_or widths k 0

-- how wide the place of event n is
abbrev pub width_of_event : List SaidLine → ℕ → ℕ
width_of_event lines n = numbered_width (flat_map event_widths_of (wide_lists lines)) n

-- ---- cells

-- The place at address a of this width has the cell c: its bytes are cells, or a location, of width 0, is one.
abbrev pub has_cell : ℕ → ℕ → ℕ → Bool
has_cell a width c = nat_le a c && nat_lt c (a + cells_of width)

-- what cell c of the place at address a of this width has of the place's value, little-endian
abbrev pub cell_value : ℕ → ℕ → ℕ → ℕ → ℕ
cell_value a width v c = low_part width (v / 256 ^ (c - a))

-- the place of event n has the cell c
abbrev pub IsAtCell : List SaidLine → ℕ → ℕ → Type 0
IsAtCell lines c n = (e : Event) × (event_at (wide_trace lines) n ≡ Some e) × (has_cell e.a (width_of_event lines n) c ≡ true)

-- what event n reads from the cell c or writes there
abbrev pub HasCellValue : List SaidLine → ℕ → ℕ → ℕ → Type 0
HasCellValue lines c n value = (e : Event) × (event_at (wide_trace lines) n ≡ Some e) × (cell_value e.a (width_of_event lines n) e.value c ≡ value)

-- the first value of the cell c after a line of this width, where it was v before the line
abbrev pub cell_after : ℕ → ℕ → ℕ → LogLine → ℕ
cell_after c v width Note = v
cell_after c v width Pso = v
cell_after c v width (First a x) = cond (has_cell a width c) (cell_value a width x c) v
cell_after c v width (Issued p x) = v
cell_after c v width (Unknown p a) = v
cell_after c v width Memory = v
cell_after c v width End = v

-- the first value of the cell c: the last that the lines say, 0 where they say none
abbrev pub first_cell : List SaidLine → ℕ → ℕ
first_cell lines c = fold (λ v s. cell_after c v s.width s.line) 0 lines

-- a processor did something unknown to the cell c
abbrev pub IsUnknownCell : List SaidLine → ℕ → Type 0
IsUnknownCell lines c = (s : SaidLine) × (p : ℕ) × (a : ℕ) × Contains lines s × (s.line ≡ Unknown p a) × (has_cell a s.width c ≡ true)

-- ---- the axioms, each of an order

-- both events have some cell
abbrev pub ShareCell : List SaidLine → ℕ → ℕ → Type 0
ShareCell lines u v = (c : ℕ) × IsAtCell lines c u × IsAtCell lines c v

-- StoreStore (V8, K.2; for PSO 6.3 and appendix K): memory keeps the order of a processor's stores. Under TSO this holds of any two of
-- them, with no barrier; under PSO of two that write the same byte.
abbrev pub MeetsWideStoreStore : List SaidLine → List ℕ → Type 0
MeetsWideStoreStore lines order = (u v : ℕ) → IsStore (wide_trace lines) u → IsStore (wide_trace lines) v → Earlier (wide_trace lines) u v →
    (order_of (plain_lines lines) ≡ OrderTso) ⊎ ShareCell lines u v → IsUpTo order u v

-- Store s is one that load l sees at the cell c: it writes the cell, and stands no later than the load in the order, or is program-earlier than it.
abbrev pub IsVisibleAtCell : List SaidLine → List ℕ → ℕ → ℕ → ℕ → Type 0
IsVisibleAtCell lines order c s l = IsStore (wide_trace lines) s × IsAtCell lines c s × (IsUpTo order s l ⊎ Earlier (wide_trace lines) s l)

-- Load l returns from the cell c what the greatest store that it sees there wrote, the last of them in the order, and the cell's first value where it sees
-- none.
abbrev pub ReadsGreatestAtCell : List SaidLine → List ℕ → ℕ → ℕ → Type 0
ReadsGreatestAtCell lines order c l =
    (HasCellValue lines c l (first_cell lines c) × ((s : ℕ) → IsVisibleAtCell lines order c s l → ⊥))
    ⊎ ((s : ℕ) × (value : ℕ) × IsVisibleAtCell lines order c s l × HasCellValue lines c s value × HasCellValue lines c l value
    × ((other : ℕ) → IsVisibleAtCell lines order c other l → IsUpTo order other s))

-- Value (V8, K.2): a load returns what the last store that it sees wrote, byte by byte. Of a byte to which something unknown was done it may return
-- anything.
abbrev pub MeetsWideValue : List SaidLine → List ℕ → Type 0
MeetsWideValue lines order = (l c : ℕ) → IsLoad (wide_trace lines) l → IsAtCell lines c l → (IsUnknownCell lines c → ⊥) → ReadsGreatestAtCell lines order c l

-- The order meets the axioms of the memory model that the lines say. A swap's load counts as a load in each of them, and its store, whose number is the
-- next, as a store.
pub record IsWideOrder (lines : List SaidLine) (order : List ℕ) : Type 0 where
  pub memory_order : IsMemoryOrder (wide_trace lines) order
  pub load_op : MeetsLoadOp (wide_trace lines) order
  pub store_store : MeetsWideStoreStore lines order
  pub stbar : MeetsStbar (wide_trace lines) order
  pub membar : MeetsMembar (wide_trace lines) order
  pub swap : (l : ℕ) → IsSwapLoad (wide_trace lines) l → IsUpTo order l (suc l)
  pub atomicity : MeetsAtomicity (wide_trace lines) order
  pub value : MeetsWideValue lines order

-- some order of the accesses of these lines, each of them single, meets the axioms
abbrev pub HasWideOrder : List SaidLine → Type 0
HasWideOrder lines = (order : List ℕ) × IsWideOrder lines order

-- ---- which lines have widths

-- the line names a place
abbrev pub names_place : LogLine → Bool
names_place Note = false
names_place Pso = false
names_place (First a v) = true
names_place (Issued p (Ld a r)) = true
names_place (Issued p (St a v)) = true
names_place (Issued p (Sw a r v)) = true
names_place (Issued p Mb) = false
names_place (Issued p Sb) = false
names_place (Unknown p a) = true
names_place Memory = false
names_place End = false

-- The places of the lines are bytes, or they are locations, as this says, and lines that name none have no width.
pub record AreWideLines (widths : Widths) (lines : List SaidLine) : Type 0 where
  pub bytes : (s : SaidLine) → Contains lines s → has_bytes widths ≡ true → names_place s.line ≡ true → 0 < s.width
  pub locations : (s : SaidLine) → Contains lines s → has_bytes widths ≡ false → s.width ≡ 0
  pub others : (s : SaidLine) → Contains lines s → names_place s.line ≡ false → s.width ≡ 0
