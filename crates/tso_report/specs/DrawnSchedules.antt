-- The acts of a schedule that the words of a generator draw for a program of a shape.
use Rattle.std.specs.Prelude.{ℕ, ◌*◌, ◌/◌, ◌%◌, cond, nat_lt, List, [], ◌∷◌, get_or, map}
use Rattle.rand_core.specs.Stream.{Stream, next_u64}
use Rattle.tso_ops.specs.declared.acts.Act.{Act}
use Rattle.tso_ops.specs.declared.acts.Act.TheVariants.{Issue, Drain}
use Rattle.drawn_programs.specs.Making.{ShapeValue, size_of, words_of}

-- how many of 16 acts are drains, on average: the word draws 0, 1, 3 or 8
abbrev pub drain_weight : ℕ → ℕ
drain_weight word = get_or (0 ∷ 1 ∷ 3 ∷ 8 ∷ []) (word % 4) 0

-- the act that the word draws: a drain where it is below the weight modulo 16
abbrev pub act_of_word : (processors weight word : ℕ) → Act
act_of_word processors weight word = cond (nat_lt (word % 16) weight) (Drain (word / 16 % processors)) (Issue (word / 16 % processors))

-- the acts that a stream draws for a program of the shape: its first word draws the weight, and three further ones for each operation an act each
abbrev pub drawn_acts : ShapeValue → Stream → List Act
drawn_acts shape stream = map (act_of_word shape.processors (drain_weight (next_u64 stream).0)) (words_of (3 * size_of shape) (next_u64 stream).1)
