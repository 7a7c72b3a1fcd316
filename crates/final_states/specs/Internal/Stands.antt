-- Which state of the machine the words of a state stand for.
use Rattle.std.specs.Prelude.{◌≡◌, ℕ, ◌<◌, ◌≤◌, true, Some, List, [], length, take, drop, slice_get, slice_index}
use Rattle.std.specs.List.{AllByRecursion}
use Rattle.tso_ops.specs.declared.ops.Op.{Op}
use Rattle.tso_ops.specs.declared.ops.Op.TheVariants.{Ld as OpLd, St as OpSt, Sw as OpSw, Mb as OpMb, Sb as OpSb}
use Rattle.tso_ops.specs.declared.ops.Outcome.{Outcome}
use Rattle.tso_ops.specs.Limits.{address_of}
use Rattle.tso_ops.specs.Values.{ProgramValue, list_count, ops_at}
use Rattle.unit_core.specs.declared.steps.Step.{Step}
use Rattle.unit_core.specs.Machine.{Entry, HasProcessors, IsFirstMemory, IsRun, State, after, buffer_of, first_state, outcomes_of, stbars_of}
use Rattle.unit_core.specs.Replays.{AreFirstOpsOf}
use Rattle.final_states.specs.FinalStates.{stores_to}
use Rattle.final_states.specs.Internal.Words.{issued_by, marked_ops, outcomes_with, slot_of, stbars_in, value_in, waiting, width_of}

-- an operation can have this mark
abbrev pub CanHave : Op → ℕ → Type 0
CanHave (OpLd a) mark = Unit {0}
CanHave (OpSt a v) mark = mark ≤ 1
CanHave (OpSw a v) mark = Unit {0}
CanHave OpMb mark = mark ≡ 0
CanHave OpSb mark = mark ≡ 0

-- The first n of a processor's operations are issued, with their marks: this is its buffer, it has made so many STBARs, and it was answered this.
pub record IsRow (cells : List (Op × ℕ)) (n : ℕ) (buffer : List Entry) (stbars : ℕ) (answered : List Outcome) : Type 0 where
  pub most : n ≤ length cells
  pub marks : AllByRecursion (λ c. CanHave c.0 c.1) (take n cells)
  pub unissued : AllByRecursion (λ c. c.1 ≡ 0) (drop n cells)
  pub waits : buffer ≡ waiting 0 (take n cells)
  pub made : stbars ≡ stbars_in (take n cells)
  pub told : answered ≡ outcomes_with (take n cells)

-- The words stand for this state of the machine, in which the processors were answered this.
pub record Represents (program : ProgramValue) (addresses words : List ℕ) (s : State) (answered : ℕ → List Outcome) : Type 0 where
  pub width : length words ≡ width_of program addresses
  pub memory_words : length s.memory ≡ 256
  pub buffers : length s.buffers ≡ 16
  pub stbars : length s.stbars ≡ 16
  pub rows : (p : ℕ) → p < list_count program → IsRow (marked_ops program words p) (issued_by program words p) (buffer_of s p) (stbars_of s p) (answered p)
  pub others : (p : ℕ) → list_count program ≤ p → (buffer_of s p ≡ []) × (stbars_of s p ≡ 0) × (answered p ≡ [])
  pub memory : (a : ℕ) → a < 256 → slice_index s.memory a ≡ value_in program addresses words a

-- Runs of the program reach a state that these words stand for.
pub record Reaches (program : ProgramValue) (addresses words : List ℕ) : Type 0 where
  pub memory : List ℕ
  pub first : IsFirstMemory program.setting.first memory
  pub steps : List Step
  pub run : IsRun program.setting.order memory steps
  pub processors : HasProcessors (list_count program) steps
  pub ops : AreFirstOpsOf program steps
  pub stands : Represents program addresses words (after (first_state memory) steps) (λ p. outcomes_of p steps)

-- The addresses have a place for each address that an operation stores to, and none twice; addresses and processors are in range.
pub record HasPlaces (program : ProgramValue) (addresses : List ℕ) : Type 0 where
  pub slots : (p i a : ℕ) (op : Op) → slice_get (ops_at program p) i ≡ Some op → stores_to a op ≡ true → (slot : ℕ) × (slot_of addresses a ≡ Some slot)
  pub in_range : (p i a : ℕ) (op : Op) → slice_get (ops_at program p) i ≡ Some op → address_of op ≡ Some a → a < 256
  pub placed : (slot : ℕ) → slot < length addresses → (slot_of addresses (slice_index addresses slot) ≡ Some slot) × (slice_index addresses slot < 256)
  pub processors : list_count program ≤ 16
