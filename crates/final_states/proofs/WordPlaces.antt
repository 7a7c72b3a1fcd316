-- What one word is to each part of a state, once it is set.
use Rattle.std.proofs.Common.{◌≡◌, ◌∙◌, ◌⊎◌, inl, inr, ap, ℕ, zero, suc, ◌+◌, ◌-◌, ◌<◌, ◌≤◌, List, [], ◌∷◌, length, get_or, set, drop, arith}
use Rattle.std.specs.List.{zip}
use Rattle.std.proofs.lemmas.Bool.{cases_lt}
use Rattle.std.proofs.lemmas.List.{drop-set-lt, drop-set-add, get_or-set_same, get_or-set_other}
use Rattle.tso_ops.specs.declared.ops.Op.{Op}
use Rattle.tso_ops.specs.Values.{ProgramValue, list_count, ops_at}
use Rattle.final_states.specs.Internal.Words.{issued_by, marked_ops, memory_start, start_of}
use Rattle.final_states.proofs.Rows.{remarked, zip-set, zip-set-past}

-- ---- where the words of processors begin

start-later : (lists : List (List Op)) (q p : ℕ) → q < p → q < length lists → suc (start_of lists q + length (get_or lists q [])) ≤ start_of lists p
start-later [] q p before within = absurd (omega arith)
start-later (ops ∷ lists) q zero before within = absurd (omega arith)
start-later (ops ∷ lists) zero (suc p) before within = omega arith
start-later (ops ∷ lists) (suc q) (suc p) before within = omega (arith, start-later lists q p (omega arith) (omega arith))

-- the word isn't one of those of processor p
abbrev pub IsOutside : ProgramValue → ℕ → ℕ → Type 0
IsOutside program p j = (j < start_of program.lists p) ⊎ (suc (start_of program.lists p + length (ops_at program p)) ≤ j)

-- it is one of them
abbrev pub IsWithin : ProgramValue → ℕ → ℕ → Type 0
IsWithin program p j = (start_of program.lists p ≤ j) × (j ≤ start_of program.lists p + length (ops_at program p))

pub within_other : (program : ProgramValue) (p q j : ℕ) → p < list_count program → q < list_count program → (p ≡ q → ⊥) → IsWithin program q j → IsOutside program p j
within_other program p q j p_small q_small other within =
    elim (cases_lt p q) [
      | inl before ↦ inr (omega (arith, start-later program.lists p q before p_small, within.0))
      | inr not_before ↦
          let after : q < p = elim (cases_lt q p) [ inl after ↦ after | inr not_after ↦ absurd (other (omega arith)) ] in
          inl (omega (arith, start-later program.lists q p after q_small, within.1))
    ]

pub within_memory : (program : ProgramValue) (p q j : ℕ) → q < list_count program → IsWithin program q j → j < memory_start program
within_memory program p q j small within = omega (arith, start-later program.lists q (list_count program) small small, within.1)

-- the words of memory come after those of each processor
pub memory_after : (program : ProgramValue) (p : ℕ) → p < list_count program → suc (start_of program.lists p + length (ops_at program p)) ≤ memory_start program
memory_after program p small = start-later program.lists p (list_count program) small small

pub memory_outside : (program : ProgramValue) (p slot : ℕ) → p < list_count program → IsOutside program p (memory_start program + slot)
memory_outside program p slot small = inr (omega (arith, start-later program.lists p (list_count program) small small))

-- ---- a word that isn't one of a processor's leaves its row as it is

pub record KeepsRow (program : ProgramValue) (old new : List ℕ) (p : ℕ) : Type 0 where
  pub count : issued_by program new p ≡ issued_by program old p
  pub cells : marked_ops program new p ≡ marked_ops program old p

drop-set-later : (xs : List ℕ) (n j x : ℕ) → n ≤ j → drop n (set xs j x) ≡ set (drop n xs) (j - n) x
drop-set-later xs n j x after = let e : j ≡ n + (j - n) = omega arith in ap (λ k. drop n (set xs k x)) e ∙ drop-set-add n xs (j - n) x

pub outside_kept : (program : ProgramValue) (words : List ℕ) (p j x : ℕ) → IsOutside program p j → KeepsRow program words (set words j x) p
outside_kept program words p j x outside =
    let start = start_of program.lists p in
    let ops = ops_at program p in
    record {
      count = get_or-set_other words j start x 0 (elim outside [ inl before ↦ (λ e. absurd (omega (arith, before, e))) | inr after ↦ (λ e. absurd (omega (arith, after, e))) ]);
      cells =
          elim outside [
            | inl before ↦ ap (zip ops) (drop-set-lt (suc start) words j x (omega (arith, before)))
            | inr after ↦
                ap (zip ops) (drop-set-later words (suc start) j x (omega (arith, after)))
                ∙ zip-set-past ops (drop (suc start) words) (j - suc start) x (omega (arith, after))
          ];
    }

pub kept_then : (program : ProgramValue) (a b c : List ℕ) (p : ℕ) → KeepsRow program a b p → KeepsRow program b c p → KeepsRow program a c p
kept_then program a b c p first second = record { count = second.count ∙ first.count; cells = second.cells ∙ first.cells }

-- the count of a processor is set
pub count_set : (program : ProgramValue) (words : List ℕ) (p x : ℕ) → start_of program.lists p < length words →
    (issued_by program (set words (start_of program.lists p) x) p ≡ x) × (marked_ops program (set words (start_of program.lists p) x) p ≡ marked_ops program words p)
count_set program words p x within =
    let start = start_of program.lists p in
    (get_or-set_same words start x 0 within, ap (zip (ops_at program p)) (drop-set-lt (suc start) words start x (omega arith)))

-- a mark of a processor is set
pub mark_set : (program : ProgramValue) (words : List ℕ) (p i x : ℕ) →
    (issued_by program (set words (suc (start_of program.lists p + i)) x) p ≡ issued_by program words p)
    × (marked_ops program (set words (suc (start_of program.lists p + i)) x) p ≡ remarked (marked_ops program words p) i x)
mark_set program words p i x =
    let start = start_of program.lists p in
    let j = suc (start + i) in
    let place : j - suc start ≡ i = omega arith in (
      get_or-set_other words j start x 0 (λ e. absurd (omega (arith, e))),
      ap (zip (ops_at program p)) (drop-set-later words (suc start) j x (omega arith) ∙ ap (λ k. set (drop (suc start) words) k x) place)
          ∙ zip-set (ops_at program p) (drop (suc start) words) i x,
    )
