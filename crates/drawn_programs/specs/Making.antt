-- The shape of made programs, and the program that is made in a shape from the words of a generator.
use Rattle.std.specs.Prelude.{ℕ, zero, suc, ◌+◌, ◌*◌, ◌/◌, ◌%◌, ◌≤◌, ◌==◌, ◌&&◌, Bool, false, cond, not, nat_lt, List, [], ◌∷◌, map, take, get_or}
use Rattle.std.specs.List.{count_by, range_with_len}
use Rattle.rand_core.specs.Stream.{Stream, next_u64}
use Rattle.tso_ops.specs.declared.ops.Op.{Op}
use Rattle.tso_ops.specs.declared.ops.Op.TheVariants.{Ld, St, Sw, Mb, Sb}
use Rattle.tso_ops.specs.declared.settings.Order.{Order}
use Rattle.tso_ops.specs.declared.settings.Order.TheVariants.{Tso, Pso}
use Rattle.tso_ops.specs.Settings.{setting_of_order}
use Rattle.tso_ops.specs.Values.{ProgramValue, program_of_lists}

-- how many processors, operations of each, and addresses
pub record ShapeValue : Type 0 where
  pub processors : ℕ
  pub operations : ℕ
  pub addresses : ℕ

-- the shape of these numbers
abbrev pub shape_of : (processors operations addresses : ℕ) → ShapeValue
shape_of processors operations addresses = record { processors = processors; operations = operations; addresses = addresses }

-- how many operations a program of the shape has
abbrev pub size_of : ShapeValue → ℕ
size_of shape = shape.processors * shape.operations

-- The shape is within its limits, so that each program of it keeps those of version 1.
pub record IsShape (shape : ShapeValue) : Type 0 where
  pub some_processors : 1 ≤ shape.processors
  pub most_processors : shape.processors ≤ 16
  pub some_addresses : 1 ≤ shape.addresses
  pub most_addresses : shape.addresses ≤ 256
  pub operations : size_of shape ≤ 1000

-- the first n words of 64 bits that a generator gives
unfoldable pub words_of : ℕ → Stream → List ℕ
words_of zero stream = []
words_of (suc n) stream = (next_u64 stream).0 ∷ words_of n (next_u64 stream).1

-- what is left of it after them
unfoldable pub after_words : ℕ → Stream → Stream
after_words zero stream = stream
after_words (suc n) stream = after_words n (next_u64 stream).1

-- the word makes a store or a swap: it is 7 to 14 modulo 16
abbrev pub makes_store : ℕ → Bool
makes_store word = not (nat_lt (word % 16) 7) && nat_lt (word % 16) 15

-- the operation of this kind, from 0 to 15: a load, a store or a swap, or a membar
abbrev pub op_of_kind : (kind a v : ℕ) → Op
op_of_kind kind a v = cond (nat_lt kind 7) (Ld a) (cond (nat_lt kind 13) (St a v) (cond (nat_lt kind 15) (Sw a v) Mb))

-- The word makes an STBAR under the memory model: none under TSO; under PSO where it is 31 modulo 32.
abbrev pub makes_stbar : Order → ℕ → Bool
makes_stbar Tso word = false
makes_stbar Pso word = word % 32 == 31

-- the operation that the word makes under the memory model, where a store or a swap writes this value
abbrev pub made_op : Order → (addresses value word : ℕ) → Op
made_op order addresses value word = cond (makes_stbar order word) Sb (op_of_kind (word % 16) (word / 16 % addresses) value)

-- The operation of the word at index i: a store or a swap writes one more than how many of the words before it make one.
abbrev pub op_at_word : Order → ShapeValue → List ℕ → ℕ → Op
op_at_word order shape words i = made_op order shape.addresses (count_by makes_store (take i words) + 1) (get_or words i 0)

-- The program of the words under the memory model: processor p has the operations of the words from p * operations on, so
-- many of them.
unfoldable pub made_program_with_order : Order → ShapeValue → List ℕ → ProgramValue
made_program_with_order order shape words =
    program_of_lists (setting_of_order order)
    (map (λ p. map (λ k. op_at_word order shape words (p * shape.operations + k)) (range_with_len 0 shape.operations)) (range_with_len 0 shape.processors))

-- that under TSO
abbrev pub made_program : ShapeValue → List ℕ → ProgramValue
made_program shape words = made_program_with_order Tso shape words
