-- Lemmas on the words that draw the acts of a schedule.
use Rattle.std.proofs.Common.{◌≡◌, ◌∙◌, ap, refl, sym, ℕ, zero, suc, ◌+◌, List, [], ◌∷◌, ◌++◌, map, suc-add}
use Rattle.std.proofs.lemmas.List.{map-append}
use Rattle.rand_core.specs.Stream.{Stream, next_u64}
use Rattle.drawn_programs.specs.Making.{after_words, words_of}

pub words_of-none : (s : Stream) → words_of 0 s ≡ []
unfolding words_of
words_of-none s = refl

words_of-more : (n : ℕ) (s : Stream) → words_of (n + 1) s ≡ words_of n s ++ (next_u64 (after_words n s)).0 ∷ []
unfolding words_of after_words
words_of-more zero s = refl
words_of-more (suc n) s = rw suc-add (ap (λ rest. (next_u64 s).0 ∷ rest) (words_of-more n (next_u64 s).1))

-- what the words draw, with one more
pub drawn-more : {X : Type 0} (draw : ℕ → X) (n : ℕ) (s rest : Stream) (before : List X) (next : X) → before ≡ map draw (words_of n s) → rest ≡ after_words n s → next ≡ draw (next_u64 rest).0 →
    before ++ next ∷ [] ≡ map draw (words_of (n + 1) s)
drawn-more draw n s rest before next so_far left is =
    ap (λ b. b ++ next ∷ []) so_far ∙ ap (λ x. map draw (words_of n s) ++ x ∷ []) (is ∙ ap (λ t. draw (next_u64 t).0) left) ∙ sym (map-append draw (words_of n s) ((next_u64 (after_words n s)).0 ∷ []))
    ∙ ap (map draw) (sym (words_of-more n s))
