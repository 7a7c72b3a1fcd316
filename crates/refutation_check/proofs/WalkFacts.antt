-- What the check of the lines of a refutation, one after the other, says of the refutation.
use Rattle.std.proofs.Common.{◌≡◌, ◌∙◌, ◌⊎◌, inl, inr, ℕ, suc, ◌+◌, ◌<◌, List, [], ◌∷◌, ◌++◌, length, take, drop, get_or, Option, None, Some, refl, sym, ap, subst, arith, append_assoc, length-append}
use Rattle.std.proofs.lemmas.List.{append-nil, take_at, drop_more}
use Rattle.tso_ops.specs.Values.{TraceValue}
use Rattle.tso_evidence.specs.declared.refutations.RefutationLine.{RefutationLine}
use Rattle.tso_evidence.specs.declared.refutations.RefutationLine.TheVariants.{Step, Case, Else}
use Rattle.tso_evidence.specs.Refutations.{Refutation, cycle, step, split, lines_of}
use Rattle.refutation_check.specs.declared.faults.RefutationFault.{RefutationFault}
use Rattle.refutation_check.specs.declared.pairs.Pair.{Pair}
use Rattle.refutation_check.specs.Refutations.{NoPair, WithPair, HoldsUnder, RefutationHolds}
use Rattle.refutation_check.specs.Refusals.{HasFirstFault, IsFaultOfLines}
use Rattle.refutation_check.specs.Internal.Pairs.{InForce, IsWith}
use Rattle.refutation_check.specs.Internal.Walks.{IsAfter, LineHolds, Walks}
use Rattle.refutation_check.proofs.PairFacts.{with_has, with_only, with_extends}
use Rattle.refutation_check.proofs.TreeFacts.{holds_more, fault_same}

-- the refutation that begins on this line has this first fault
abbrev HasTold : TraceValue → List Pair → ℕ → Refutation → Option RefutationFault → Type 0
HasTold t pairs number r answer = (fault : RefutationFault) × (answer ≡ Some fault) × HasFirstFault t (InForce pairs) number r fault

-- the refutation holds, and the check goes on after it, with these pairs before those that came in force in it
abbrev GoesOn : TraceValue → List Pair → List ℕ → ℕ → Refutation → List RefutationLine → Option RefutationFault → Type 0
GoesOn t pairs cases number r rest answer =
    HoldsUnder t (InForce pairs) r × ((more : List Pair) × Walks t (pairs ++ more) cases (number + length (lines_of r)) rest answer)

moved : (t : TraceValue) (pairs next : List Pair) (cases others : List ℕ) (m n : ℕ) (rest : List RefutationLine) (answer : Option RefutationFault) →
    pairs ≡ next → cases ≡ others → m ≡ n → Walks t pairs cases m rest answer → Walks t next others n rest answer
moved t pairs next cases others m n rest answer same_pairs same_cases same_number walks =
    subst (λ ps. Walks t ps others n rest answer) same_pairs
    (subst (λ cs. Walks t pairs cs n rest answer) same_cases (subst (λ k. Walks t pairs cases k rest answer) same_number walks))

module _ (t : TraceValue) (pairs : List Pair) (u v : ℕ) (next : List Pair) (is_with : IsWith pairs u v next) where
  -- what holds under the pairs after one more holds with that pair
  holds_with : (r : Refutation) → HoldsUnder t (InForce next) r → HoldsUnder t (WithPair (InForce pairs) u v) r
  holds_with r holds = holds_more t (InForce next) (WithPair (InForce pairs) u v) (with_only pairs u v next is_with) r holds

  fault_with : (number : ℕ) (r : Refutation) (fault : RefutationFault) → HasFirstFault t (InForce next) number r fault →
      HasFirstFault t (WithPair (InForce pairs) u v) number r fault
  fault_with number r fault has =
      fault_same t (InForce next) (WithPair (InForce pairs) u v) (with_only pairs u v next is_with) (with_has pairs u v next is_with) number r fault has

-- pairs that are more than these and then others are these and then more
joined : (pairs next more : List Pair) → (added : List Pair) × (next ≡ pairs ++ added) → (whole : List Pair) × (next ++ more ≡ pairs ++ whole)
joined pairs next more (added, same) = (added ++ more, ap (λ ps. ps ++ more) same ∙ append_assoc pairs added more)

-- the numbers of the lines
after_step : (number : ℕ) (rest : List RefutationLine) (line : RefutationLine) → suc number + length rest ≡ number + length (line ∷ rest)
after_step number rest line = omega arith

after_split : (number : ℕ) (first second : List RefutationLine) (line other : RefutationLine) →
    suc (suc number + length first) + length second ≡ number + length (line ∷ first ++ other ∷ second)
after_split number first second line other = let sum = length-append first (other ∷ second) in omega (arith, sum)

-- The check of the lines of a refutation and of others after it tells the refutation's first fault, or it goes on after it.
pub walked : (t : TraceValue) (r : Refutation) (pairs : List Pair) (cases : List ℕ) (number : ℕ) (rest : List RefutationLine) (answer : Option RefutationFault) →
    Walks t pairs cases number (lines_of r ++ rest) answer → HasTold t pairs number r answer ⊎ GoesOn t pairs cases number r rest answer
walked t (cycle numbers) pairs cases number rest answer (inl told) = inl told
walked t (cycle numbers) pairs cases number rest answer (inr (closed, (next, others, after, walks))) =
    inr (closed, ([], moved t next (pairs ++ []) others cases (suc number) (number + 1) rest answer (after.0 ∙ sym (append-nil pairs)) after.1 (omega arith) walks))
walked t (step s more) pairs cases number rest answer (inl told) = inl (told.0, told.1, inl told.2)
walked t (step s more) pairs cases number rest answer (inr (holds, (next, others, after, walks))) =
    elim (walked t more next others (suc number) rest answer walks) [
      | inl told ↦ inl (told.0, told.1, inr (holds, fault_with t pairs s.from s.to next after.0 (suc number) more told.0 told.2))
      | inr on ↦ (
          let whole = joined pairs next on.1.0 (with_extends pairs s.from s.to next after.0) in
          inr (
            (holds, holds_with t pairs s.from s.to next after.0 more on.0),
            (whole.0, moved t (next ++ on.1.0) (pairs ++ whole.0) others cases _ _ rest answer whole.1 after.1 (after_step number (lines_of more) (Step s)) on.1.1),
          )
          )
    ]
walked t (split u v first second) pairs cases number rest answer (inl told) = inl (told.0, told.1, inl told.2)
walked t (split u v first second) pairs cases number rest answer (inr (two, (next, others, after, walks))) =
    elim (walked t first next (length pairs ∷ cases) (suc number) (Else v u ∷ lines_of second ++ rest) answer
    (subst (λ lines. Walks t next (length pairs ∷ cases) (suc number) lines answer) (append_assoc (lines_of first) (Else v u ∷ lines_of second) rest)
    (subst (λ cs. Walks t next cs (suc number) ((lines_of first ++ Else v u ∷ lines_of second) ++ rest) answer) after.1 walks))) [
      | inl told ↦ inl (told.0, told.1, inr (inl (two, fault_with t pairs u v next after.0 (suc number) first told.0 told.2)))
      | inr on ↦ in_second (λ last left. walked t second last left (suc (suc number + length (lines_of first))) rest answer) (holds_with t pairs u v next after.0 first on.0)
          (joined pairs next on.1.0 (with_extends pairs u v next after.0)) on.1.1
    ]
  where
    in_second : {most : List Pair} → ((last : List Pair) (left : List ℕ) → Walks t last left (suc (suc number + length (lines_of first))) (lines_of second ++ rest) answer →
        HasTold t last (suc (suc number + length (lines_of first))) second answer ⊎ GoesOn t last left (suc (suc number + length (lines_of first))) second rest answer) →
        HoldsUnder t (WithPair (InForce pairs) u v) first → (whole : List Pair) × (most ≡ pairs ++ whole) →
        Walks t most (length pairs ∷ cases) (suc number + length (lines_of first)) (Else v u ∷ lines_of second ++ rest) answer →
        HasTold t pairs number (split u v first second) answer ⊎ GoesOn t pairs cases number (split u v first second) rest answer
    in_second again holds whole (inl told) = absurd told.2
    in_second {most} again holds whole (inr (none, (last, left, after_else, walks_on))) =
        let cut : take (length pairs) most ≡ pairs = ap (take (length pairs)) whole.1 ∙ take_at pairs whole.0 (length pairs) refl in
        let is_with : IsWith pairs v u last = subst (λ ps. IsWith ps v u last) cut after_else.0 in
        elim (again last left walks_on) [
          | inl told ↦ inl (told.0, told.1, inr (inr (two, holds, fault_with t pairs v u last is_with (suc (suc number + length (lines_of first))) second told.0 told.2)))
          | inr on ↦ (
              let joint = joined pairs last on.1.0 (with_extends pairs v u last is_with) in
              inr (
                (two, holds, holds_with t pairs v u last is_with second on.0),
                (
                  joint.0,
                  moved t (last ++ on.1.0) (pairs ++ joint.0) left cases _ _ rest answer joint.1 after_else.1
                      (after_split number (lines_of first) (lines_of second) (Case u v) (Else v u)) on.1.1,
                ),
              )
              )
        ]

none_in_force : (x y : ℕ) → InForce [] x y → NoPair x y
none_in_force x y none = none

-- what the check of all lines says
whole_walk : (t : TraceValue) (r : Refutation) (lines : List RefutationLine) (answer : Option RefutationFault) → lines ≡ lines_of r → Walks t [] [] 1 lines answer →
    HasTold t [] 1 r answer ⊎ GoesOn t [] [] 1 r [] answer
whole_walk t r lines answer is walks =
    walked t r [] [] 1 [] answer (subst (λ ls. Walks t [] [] 1 ls answer) (is ∙ sym (append-nil (lines_of r))) walks)

pub walked_through : (t : TraceValue) (lines : List RefutationLine) (r : Refutation) → lines ≡ lines_of r → Walks t [] [] 1 lines None → RefutationHolds t lines
walked_through t lines r is walks = elim (whole_walk t r lines None is walks) [
  | inl told ↦ absurd cc
  | inr on ↦ (r, is, holds_more t (InForce []) NoPair none_in_force r on.0)
]

pub walked_to_fault : (t : TraceValue) (lines : List RefutationLine) (r : Refutation) (fault : RefutationFault) → lines ≡ lines_of r → Walks t [] [] 1 lines (Some fault) →
    IsFaultOfLines t lines fault
walked_to_fault t lines r fault is walks = elim (whole_walk t r lines (Some fault) is walks) [
  | inl told ↦ (
      let same : told.0 ≡ fault = cc in
      (r, is, fault_same t (InForce []) NoPair none_in_force (λ x y none. absurd none) 1 r fault (subst (λ f. HasFirstFault t (InForce []) 1 r f) same told.2))
      )
  | inr on ↦ absurd cc
]

-- ---- the loop over the lines

-- a line without a fault, and then the rest
pub walk_more : (t : TraceValue) (pairs next : List Pair) (cases others : List ℕ) (lines : List RefutationLine) (k : ℕ) (line : RefutationLine) (answer : Option RefutationFault) →
    k < length lines → line ≡ get_or lines k line → LineHolds t pairs line → IsAfter line pairs cases next others →
    Walks t next others (k + 1 + 1) (drop (k + 1) lines) answer → Walks t pairs cases (k + 1) (drop k lines) answer
walk_more t pairs next cases others lines k line answer within read holds after walks =
    let here : drop k lines ≡ line ∷ drop (k + 1) lines = drop_more lines k line within ∙ ap (λ l. l ∷ drop (k + 1) lines) (sym read) in
    let number : k + 1 + 1 ≡ suc (k + 1) = omega arith in
    subst (λ ls. Walks t pairs cases (k + 1) ls answer) (sym here)
    (inr (holds, (next, others, after, subst (λ n. Walks t next others n (drop (k + 1) lines) answer) number walks)))
