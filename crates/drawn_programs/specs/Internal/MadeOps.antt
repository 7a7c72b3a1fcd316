-- The operations that the next words of a stream draw, where some were drawn before.
use Rattle.std.specs.Prelude.{ℕ, ◌+◌, ◌*◌, List, map}
use Rattle.std.specs.List.{count_by, range_with_len}
use Rattle.rand_core.specs.Stream.{Stream, next_u64}
use Rattle.tso_ops.specs.declared.ops.Op.{Op}
use Rattle.tso_ops.specs.declared.settings.Order.{Order}
use Rattle.drawn_programs.specs.Making.{ShapeValue, words_of, after_words, makes_store, made_op}

-- how many of the first n words draw a store or a swap
abbrev pub writes_of : ℕ → Stream → ℕ
writes_of n stream = count_by makes_store (words_of n stream)

-- the operation of word k, where `last` is the value that was written last
abbrev pub next_op : Order → (addresses last : ℕ) → Stream → ℕ → Op
next_op order addresses last stream k = made_op order addresses (last + writes_of k stream + 1) (next_u64 (after_words k stream)).0

-- those of the first n words
abbrev pub next_ops : Order → (addresses last : ℕ) → Stream → ℕ → List Op
next_ops order addresses last stream n = map (next_op order addresses last stream) (range_with_len 0 n)

-- the operations of processor p, where the stream is that before all words of the program
abbrev pub ops_of_processor : Order → ShapeValue → Stream → ℕ → List Op
ops_of_processor order shape stream p =
    let i = p * shape.operations in
    next_ops order shape.addresses (writes_of i stream) (after_words i stream) shape.operations
