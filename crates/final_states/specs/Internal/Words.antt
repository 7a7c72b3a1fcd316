-- The words of a state of a run: for each processor how many of its operations it has issued and a mark for each operation, and then the values of
-- memory at the addresses that the program stores to.
use Rattle.std.specs.Prelude.{ℕ, zero, suc, ◌+◌, ◌==◌, ◌&&◌, Bool, true, false, not, cond, nat_le, List, [], ◌∷◌, ◌++◌, Option, None, Some, length, map, take, drop, set, slice_get, slice_index, replicate, position}
use Rattle.std.specs.List.{zip, cons_option, filter_map, flat_map, list_all, range_with_len}
use Rattle.std.specs.Option.{option_and_then, option_map_or}
use Rattle.tso_ops.specs.declared.settings.Order.{Order}
use Rattle.tso_ops.specs.declared.settings.Order.TheVariants.{Tso, Pso}
use Rattle.tso_ops.specs.declared.ops.Op.{Op}
use Rattle.tso_ops.specs.declared.ops.Op.TheVariants.{Ld as OpLd, St as OpSt, Sw as OpSw, Mb as OpMb, Sb as OpSb}
use Rattle.tso_ops.specs.declared.ops.Outcome.{Outcome}
use Rattle.tso_ops.specs.declared.ops.Outcome.TheVariants.{Ld, St, Sw, Mb, Sb}
use Rattle.tso_ops.specs.Settings.{first_value}
use Rattle.tso_ops.specs.Values.{ProgramValue, list_count, ops_at, trace_of_lists}
use Rattle.unit_core.specs.Machine.{Entry, newest}
use Rattle.final_states.specs.FinalStates.{FinalStateValue}

-- ---- where the words stand

-- where the words of processor p begin: each processor has one, and one for each of its operations
abbrev pub start_of : List (List Op) → ℕ → ℕ
start_of [] p = 0
start_of (ops ∷ lists) zero = 0
start_of (ops ∷ lists) (suc p) = suc (length ops) + start_of lists p

-- where the words of memory begin
abbrev pub memory_start : ProgramValue → ℕ
memory_start program = start_of program.lists (list_count program)

-- how many words there are
abbrev pub width_of : ProgramValue → List ℕ → ℕ
width_of program addresses = memory_start program + length addresses

-- how many operations processor p has issued
abbrev pub issued_by : ProgramValue → List ℕ → ℕ → ℕ
issued_by program words p = slice_index words (start_of program.lists p)

-- the operations of processor p with their marks: of a load or a swap the value that it has read, of a store 1 once it has gone to memory, else 0
abbrev pub marked_ops : ProgramValue → List ℕ → ℕ → List (Op × ℕ)
marked_ops program words p = zip (ops_at program p) (drop (suc (start_of program.lists p)) words)

-- those that were issued
abbrev pub issued_ops : ProgramValue → List ℕ → ℕ → List (Op × ℕ)
issued_ops program words p = take (issued_by program words p) (marked_ops program words p)

-- ---- the buffer of a processor

abbrev pub stbar_count : Op → ℕ
stbar_count OpSb = 1
stbar_count _ = 0

abbrev pub stbars_among : List Op → ℕ
stbars_among [] = 0
stbars_among (op ∷ ops) = stbar_count op + stbars_among ops

-- the number of STBARs
abbrev pub stbars_in : List (Op × ℕ) → ℕ
stbars_in [] = 0
stbars_in (c ∷ cells) = stbar_count c.0 + stbars_in cells

-- the entry of an operation that comes after so many STBARs: that of a store whose mark is 0
abbrev pub entry_of : ℕ → Op → ℕ → Option Entry
entry_of stbars (OpSt a v) mark = cond (mark == 0) (Some (record { a = a; v = v; stbars = stbars })) None
entry_of stbars _ mark = None

-- the stores among these operations that wait, where so many STBARs come before them
abbrev pub waiting : ℕ → List (Op × ℕ) → List Entry
waiting stbars [] = []
waiting stbars (c ∷ cells) = cons_option (entry_of stbars c.0 c.1) (waiting (stbars + stbar_count c.0) cells)

-- the buffer of processor p
abbrev pub buffer_in : ProgramValue → List ℕ → ℕ → List Entry
buffer_in program words p = waiting 0 (issued_ops program words p)

-- the value that is read at the address past this operation, where this value is read without it
abbrev pub read_after : Op → ℕ → ℕ → ℕ → ℕ
read_after (OpSt b v) mark a value = cond (mark == 0) (cond (b == a) v value) value
read_after _ mark a value = value

abbrev pub is_empty : List Entry → Bool
is_empty [] = true
is_empty (e ∷ rest) = false

-- a store to the address after so many STBARs may go to memory before this entry, which is older
abbrev pub passes : Order → ℕ → ℕ → Entry → Bool
passes Tso a stbars e = false
passes Pso a stbars e = not (e.a == a) && nat_le stbars e.stbars

-- it may go to memory before all of these
abbrev pub passes_all : Order → List Entry → ℕ → ℕ → Bool
passes_all order older a stbars = list_all (passes order a stbars) older

-- ---- memory

-- the place of the address among these
abbrev pub slot_of : List ℕ → ℕ → Option ℕ
slot_of addresses a = position (λ b. b == a) addresses

-- what memory has at the address
abbrev pub value_in : ProgramValue → List ℕ → List ℕ → ℕ → ℕ
value_in program addresses words a =
    option_map_or (λ slot. slice_index words (memory_start program + slot)) (slot_of addresses a) (first_value program.setting.first a)

-- the words with another value of memory at the address
abbrev pub with_value : ProgramValue → List ℕ → List ℕ → ℕ → ℕ → List ℕ
with_value program addresses words a v = option_map_or (λ slot. set words (memory_start program + slot) v) (slot_of addresses a) words

-- ---- the words that follow by one step

-- one operation more is issued by the processor whose words begin there
abbrev pub with_issued : List ℕ → ℕ → ℕ → List ℕ
with_issued words start mark = set (set words start (suc (slice_index words start))) (suc (start + slice_index words start)) mark

-- the mark of the operation if processor p issues it now
abbrev pub mark_for : ProgramValue → List ℕ → List ℕ → ℕ → Op → ℕ
mark_for program addresses words p (OpLd a) = newest (buffer_in program words p) a (value_in program addresses words a)
mark_for program addresses words p (OpSw a v) = value_in program addresses words a
mark_for program addresses words p _ = 0

-- the operation may be issued where this is the buffer
abbrev pub may_issue : Op → List Entry → Bool
may_issue (OpSw a v) buffer = is_empty buffer
may_issue OpMb buffer = is_empty buffer
may_issue _ buffer = true

-- the words after the operation has written to memory, if it is a swap
abbrev pub with_swapped : ProgramValue → List ℕ → List ℕ → Op → List ℕ
with_swapped program addresses words (OpSw a v) = with_value program addresses words a v
with_swapped program addresses words _ = words

-- the words after processor p has issued this operation
abbrev pub after_issue : ProgramValue → List ℕ → List ℕ → ℕ → Op → List ℕ
after_issue program addresses words p op =
    with_swapped program addresses (with_issued words (start_of program.lists p) (mark_for program addresses words p op)) op

-- the words after processor p has issued its next operation; None where it has none or has to wait
abbrev pub issued : ProgramValue → List ℕ → List ℕ → ℕ → Option (List ℕ)
issued program addresses words p =
    option_and_then (λ op. cond (may_issue op (buffer_in program words p)) (Some (after_issue program addresses words p op)) None)
    (slice_get (ops_at program p) (issued_by program words p))

-- the words after operation i of processor p, a store, has gone to memory
abbrev pub after_drain : ProgramValue → List ℕ → List ℕ → ℕ → ℕ → Entry → List ℕ
after_drain program addresses words p i e = with_value program addresses (set words (suc (start_of program.lists p + i)) 1) e.a e.v

-- the entry of operation i of processor p, if it waits
abbrev pub waiting_at : ProgramValue → List ℕ → ℕ → ℕ → Option Entry
waiting_at program words p i =
    option_and_then (λ c. entry_of (stbars_in (take i (issued_ops program words p))) c.0 c.1) (slice_get (issued_ops program words p) i)

-- the words after operation i of processor p has gone to memory; None where it can't
abbrev pub drained : ProgramValue → List ℕ → List ℕ → ℕ → ℕ → Option (List ℕ)
drained program addresses words p i =
    option_and_then
    (λ e. cond (passes_all program.setting.order (waiting 0 (take i (issued_ops program words p))) e.a e.stbars) (Some (after_drain program addresses words p i e)) None)
    (waiting_at program words p i)

-- the words after a drain of processor p, all
abbrev pub all_drained : ProgramValue → List ℕ → List ℕ → ℕ → List (List ℕ)
all_drained program addresses words p = filter_map (drained program addresses words p) (range_with_len 0 (length (ops_at program p)))

-- the words after one step, all
abbrev pub following : ProgramValue → List ℕ → List ℕ → List (List ℕ)
following program addresses words =
    flat_map (λ p. cons_option (issued program addresses words p) (all_drained program addresses words p)) (range_with_len 0 (list_count program))

-- the words before the first step
abbrev pub first_words : ProgramValue → List ℕ → List ℕ
first_words program addresses = replicate (memory_start program) 0 ++ map (first_value program.setting.first) addresses

-- ---- final states

-- the operation that has this mark, with what it read
abbrev pub outcome_with : Op → ℕ → Outcome
outcome_with (OpLd a) mark = Ld a mark
outcome_with (OpSt a v) mark = St a v
outcome_with (OpSw a v) mark = Sw a mark v
outcome_with OpMb mark = Mb
outcome_with OpSb mark = Sb

abbrev pub outcomes_with : List (Op × ℕ) → List Outcome
outcomes_with cells = map (λ c. outcome_with c.0 c.1) cells

-- processor p has issued all of its operations, and no store waits
abbrev pub is_done : ProgramValue → List ℕ → ℕ → Bool
is_done program words p = (issued_by program words p == length (ops_at program p)) && is_empty (waiting 0 (marked_ops program words p))

-- all processors have
abbrev pub is_final : ProgramValue → List ℕ → Bool
is_final program words = list_all (is_done program words) (range_with_len 0 (list_count program))

-- the final state that has these words
abbrev pub state_with : ProgramValue → List ℕ → List ℕ → FinalStateValue
state_with program addresses words = record {
  trace = trace_of_lists program.setting (map (λ p. outcomes_with (marked_ops program words p)) (range_with_len 0 (list_count program)));
  last = zip addresses (drop (memory_start program) words);
}
