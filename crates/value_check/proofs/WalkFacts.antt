-- What the check of the lines of a refutation, one after the other, says of the refutation.
use Rattle.std.proofs.Common.{◌≡◌, ◌∙◌, ◌⊎◌, inl, inr, ℕ, suc, ◌+◌, ◌<◌, List, [], ◌∷◌, ◌++◌, length, take, drop, get_or, Option, None, Some, MatchOption, refl, sym, ap, subst, arith, append_assoc, length-append}
use Rattle.std.proofs.lemmas.List.{append-nil, take_at, drop_more}
use Rattle.tso_ops.specs.Values.{TraceValue}
use Rattle.value_evidence.specs.declared.steps.ValueStep.{ValueStep}
use Rattle.value_evidence.specs.declared.refutations.ValueRefutationLine.{ValueRefutationLine}
use Rattle.value_evidence.specs.declared.refutations.ValueRefutationLine.TheVariants.{Step, ReadCase, BeforeCase, Else}
use Rattle.value_evidence.specs.Refutations.{ValueRefutation, end, step, by_source, by_order, value_lines_of, supposed_before, HoldsBeside, ValueRefutationHolds}
use Rattle.value_check.specs.declared.in_force.OpenCase.{OpenCase}
use Rattle.value_check.specs.declared.in_force.Supposition.{Supposition}
use Rattle.value_check.specs.declared.in_force.Supposition.TheVariants.{Source, Order}
use Rattle.value_check.specs.declared.refusals.ValueRefutationFault.{ValueRefutationFault}
use Rattle.value_check.specs.RefutationRefusals.{HasFirstValueFault, IsFaultOfValueLines}
use Rattle.value_check.specs.Internal.InForce.{Place, start, in_first, in_second, with_opposite, after}
use Rattle.value_check.specs.Internal.Walks.{HasLineFault, LineHolds, Walks}
use Rattle.value_check.proofs.InForceFacts.{one_place}

-- the refutation that begins on this line has this first fault
abbrev HasTold : TraceValue → Place → ℕ → ValueRefutation → Option ValueRefutationFault → Type 0
HasTold t p number r answer = (fault : ValueRefutationFault) × (answer ≡ Some fault) × HasFirstValueFault t p.steps p.aside number r fault

-- the place, with more steps in force and more set aside
abbrev with_more : Place → List ValueStep → List (ℕ × ℕ) → Place
with_more p steps aside = record { steps = p.steps ++ steps; aside = p.aside ++ aside; cases = p.cases }

-- the refutation holds, and the check goes on after it, with what was in force before it and then more
abbrev GoesOn : TraceValue → Place → ℕ → ValueRefutation → List ValueRefutationLine → Option ValueRefutationFault → Type 0
GoesOn t p number r rest answer =
    HoldsBeside t p.steps p.aside r
    × ((steps : List ValueStep) × (aside : List (ℕ × ℕ)) × Walks t (with_more p steps aside) (number + length (value_lines_of r)) rest answer)

moved : (t : TraceValue) (p q : Place) (m n : ℕ) (rest : List ValueRefutationLine) (answer : Option ValueRefutationFault) → p ≡ q → m ≡ n → Walks t p m rest answer → Walks t q n rest answer
moved t p q m n rest answer same_place same_number walks =
    subst (λ place. Walks t place n rest answer) same_place (subst (λ k. Walks t p k rest answer) same_number walks)

-- more after one more is more
more_steps : (p : Place) (s : ValueStep) (steps : List ValueStep) (aside : List (ℕ × ℕ)) (cases : List OpenCase) →
    (let q : Place = record { steps = (p.steps ++ s ∷ []) ++ steps; aside = p.aside ++ aside; cases = cases } in q)
    ≡ record { steps = p.steps ++ s ∷ steps; aside = p.aside ++ aside; cases = cases }
more_steps p s steps aside cases = one_place _ _ _ _ cases cases (append_assoc p.steps (s ∷ []) steps) refl refl

more_aside : (p : Place) (one : ℕ × ℕ) (steps : List ValueStep) (aside : List (ℕ × ℕ)) (cases : List OpenCase) →
    (let q : Place = record { steps = p.steps ++ steps; aside = (p.aside ++ one ∷ []) ++ aside; cases = cases } in q)
    ≡ record { steps = p.steps ++ steps; aside = p.aside ++ one ∷ aside; cases = cases }
more_aside p one steps aside cases = one_place _ _ _ _ cases cases refl (append_assoc p.aside (one ∷ []) aside) refl

-- after the first part of a case, and more in it, the second part begins where the case did
cut_back : (p : Place) (supposes : Supposition) (steps : List ValueStep) (aside : List (ℕ × ℕ)) →
    in_second (with_more (in_first supposes p) steps aside).cases (with_more (in_first supposes p) steps aside) ≡ with_opposite supposes p
cut_back p supposes steps aside =
    let case : OpenCase = record { steps = length p.steps; aside = length p.aside; supposes = supposes } in
    let most = with_more (in_first supposes p) steps aside in
    ap (with_opposite supposes)
    (one_place (take case.steps most.steps) p.steps (take case.aside most.aside) p.aside p.cases p.cases
    (ap (take (length p.steps)) (append_assoc p.steps _ steps) ∙ take_at p.steps _ (length p.steps) refl) (take_at p.aside aside (length p.aside) refl) refl)

-- the numbers of the lines
after_step : (number : ℕ) (rest : List ValueRefutationLine) (line : ValueRefutationLine) → suc number + length rest ≡ number + length (line ∷ rest)
after_step number rest line = omega arith

after_case : (number : ℕ) (first second : List ValueRefutationLine) (line other : ValueRefutationLine) →
    suc (suc number + length first) + length second ≡ number + length (line ∷ first ++ other ∷ second)
after_case number first second line other = let sum = length-append first (other ∷ second) in omega (arith, sum)

-- what the check of the lines of a refutation and of others after it says
abbrev Says : TraceValue → ValueRefutation → Type 0
Says t r = (p : Place) (number : ℕ) (rest : List ValueRefutationLine) (answer : Option ValueRefutationFault) →
    Walks t p number (value_lines_of r ++ rest) answer → HasTold t p number r answer ⊎ GoesOn t p number r rest answer

-- of the two parts of a case, which begins on this line
module _ (t : TraceValue) (first second : ValueRefutation) (says_first : Says t first) (says_second : Says t second) (p : Place) (supposes : Supposition) (number : ℕ)
    (rest : List ValueRefutationLine) (answer : Option ValueRefutationFault) where
  -- the first part has the first fault, or the second has it, or both hold and the check goes on
  abbrev PartsSay : Type 0
  PartsSay =
      HasTold t (in_first supposes p) (suc number) first answer
      ⊎ ((HoldsBeside t (in_first supposes p).steps p.aside first × HasTold t (with_opposite supposes p) (suc (suc number + length (value_lines_of first))) second answer)
      ⊎ (HoldsBeside t (in_first supposes p).steps p.aside first
      × GoesOn t (with_opposite supposes p) (suc (suc number + length (value_lines_of first))) second rest answer))

  parts_say : Walks t (in_first supposes p) (suc number) ((value_lines_of first ++ Else ∷ value_lines_of second) ++ rest) answer → PartsSay
  parts_say walks =
      elim (says_first (in_first supposes p) (suc number) (Else ∷ value_lines_of second ++ rest) answer
      (subst (λ lines. Walks t (in_first supposes p) (suc number) lines answer) (append_assoc (value_lines_of first) (Else ∷ value_lines_of second) rest) walks)) [
        | inl told ↦ inl told
        | inr on ↦ inr (behind on.0 on.1.0 on.1.1 on.1.2)
      ]
    where
      behind : HoldsBeside t (in_first supposes p).steps p.aside first → (steps : List ValueStep) (aside : List (ℕ × ℕ)) →
          Walks t (with_more (in_first supposes p) steps aside) (suc number + length (value_lines_of first)) (Else ∷ value_lines_of second ++ rest) answer →
          (HoldsBeside t (in_first supposes p).steps p.aside first × HasTold t (with_opposite supposes p) (suc (suc number + length (value_lines_of first))) second answer)
          ⊎ (HoldsBeside t (in_first supposes p).steps p.aside first
          × GoesOn t (with_opposite supposes p) (suc (suc number + length (value_lines_of first))) second rest answer)
      behind holds steps aside (inl told) = absurd told.2
      behind holds steps aside (inr (none, walks_on)) =
          let from = suc (suc number + length (value_lines_of first)) in
          elim (says_second (with_opposite supposes p) from rest answer
          (subst (λ place. Walks t place from (value_lines_of second ++ rest) answer) (cut_back p supposes steps aside) walks_on)) [
            | inl told ↦ inl (holds, told)
            | inr on ↦ inr (holds, on)
          ]

-- The check of the lines of a refutation and of others after it tells the refutation's first fault, or it goes on after it.
pub walked : (t : TraceValue) (r : ValueRefutation) → Says t r
walked t (end e) p number rest answer (inl told) = inl told
walked t (end e) p number rest answer (inr (ends, walks)) =
    inr (ends, ([], [], moved t p (with_more p [] []) (suc number) (number + 1) rest answer (one_place _ _ _ _ p.cases p.cases (sym (append-nil p.steps)) (sym (append-nil p.aside)) refl) (omega arith) walks))
walked t (step s more) p number rest answer (inl told) = inl (told.0, told.1, inl told.2)
walked t (step s more) p number rest answer (inr (holds, walks)) =
    elim (walked t more (after (Step s) p) (suc number) rest answer walks) [
      | inl told ↦ inl (told.0, told.1, inr (holds, told.2))
      | inr on ↦ inr (
        (holds, on.0),
        (s ∷ on.1.0, on.1.1, moved t _ _ _ _ rest answer (more_steps p s on.1.0 on.1.1 p.cases) (after_step number (value_lines_of more) (Step s)) on.1.2),
      )
    ]
walked t (by_source load source first second) p number rest answer (inl told) = inl (told.0, told.1, inl told.2)
walked t (by_source load source first second) p number rest answer (inr (is_load, walks)) =
    elim (parts_say t first second (walked t first) (walked t second) p (Source load source) number rest answer walks) [
      | inl told ↦ inl (told.0, told.1, inr (inl (is_load, told.2)))
      | inr (inl (holds, told)) ↦ inl (told.0, told.1, inr (inr (is_load, holds, told.2)))
      | inr (inr (holds, on)) ↦ (
          let one : ℕ × ℕ = (load, source) in
          inr (
            (is_load, holds, on.0),
            (
              on.1.0,
              one ∷ on.1.1,
              moved t _ _ _ _ rest answer (more_aside p one on.1.0 on.1.1 p.cases) (after_case number (value_lines_of first) (value_lines_of second) (ReadCase load source) Else) on.1.2,
            ),
          )
          )
    ]
walked t (by_order u v first second) p number rest answer (inl told) = inl (told.0, told.1, inl told.2)
walked t (by_order u v first second) p number rest answer (inr (two, walks)) =
    elim (parts_say t first second (walked t first) (walked t second) p (Order u v) number rest answer walks) [
      | inl told ↦ inl (told.0, told.1, inr (inl (two, told.2)))
      | inr (inl (holds, told)) ↦ inl (told.0, told.1, inr (inr (two, holds, told.2)))
      | inr (inr (holds, on)) ↦ inr (
        (two, holds, on.0),
        (
          supposed_before v u ∷ on.1.0,
          on.1.1,
          moved t _ _ _ _ rest answer (more_steps p (supposed_before v u) on.1.0 on.1.1 p.cases)
              (after_case number (value_lines_of first) (value_lines_of second) (BeforeCase u v) Else) on.1.2,
        ),
      )
    ]

-- what the check of all lines says
whole_walk : (t : TraceValue) (r : ValueRefutation) (lines : List ValueRefutationLine) (answer : Option ValueRefutationFault) → lines ≡ value_lines_of r → Walks t start 1 lines answer →
    HasTold t start 1 r answer ⊎ GoesOn t start 1 r [] answer
whole_walk t r lines answer is walks = walked t r start 1 [] answer (subst (λ ls. Walks t start 1 ls answer) (is ∙ sym (append-nil (value_lines_of r))) walks)

pub walked_through : (t : TraceValue) (lines : List ValueRefutationLine) (r : ValueRefutation) → lines ≡ value_lines_of r → Walks t start 1 lines None → ValueRefutationHolds t lines
walked_through t lines r is walks = elim (whole_walk t r lines None is walks) [ inl told ↦ absurd cc | inr on ↦ (r, is, on.0) ]

pub walked_to_fault : (t : TraceValue) (lines : List ValueRefutationLine) (r : ValueRefutation) (fault : ValueRefutationFault) → lines ≡ value_lines_of r →
    Walks t start 1 lines (Some fault) → IsFaultOfValueLines t lines fault
walked_to_fault t lines r fault is walks = elim (whole_walk t r lines (Some fault) is walks) [
  | inl told ↦ (let same : told.0 ≡ fault = cc in (r, is, subst (λ f. HasFirstValueFault t [] [] 1 r f) same told.2))
  | inr on ↦ absurd cc
]

-- ---- the loop over the lines

module _ (t : TraceValue) (p : Place) (lines : List ValueRefutationLine) (k : ℕ) (none : ValueRefutationLine) (within : k < length lines) where
  here : drop k lines ≡ get_or lines k none ∷ drop (k + 1) lines
  here = drop_more lines k none within

  -- a line without a fault, and then the rest
  pub walk_more : (answer : Option ValueRefutationFault) → LineHolds t p (get_or lines k none) →
      Walks t (after (get_or lines k none) p) (k + 1 + 1) (drop (k + 1) lines) answer → Walks t p (k + 1) (drop k lines) answer
  walk_more answer holds walks =
      let number : k + 1 + 1 ≡ suc (k + 1) = omega arith in
      subst (λ ls. Walks t p (k + 1) ls answer) (sym here) (inr (holds, subst (λ n. Walks t (after (get_or lines k none) p) n (drop (k + 1) lines) answer) number walks))

  -- a line with a fault
  pub walk_ends : (fault : ValueRefutationFault) → HasLineFault t p (k + 1) (get_or lines k none) fault → Walks t p (k + 1) (drop k lines) (Some fault)
  walk_ends fault has = subst (λ ls. Walks t p (k + 1) ls (Some fault)) (sym here) (inl (fault, refl, has))

-- what is known where there was no fault, and where there was one
pub holds_of_none : (o : Option ValueRefutationFault) (P : Type 0) (Q : ValueRefutationFault → Type 0) → o ≡ None → MatchOption o P Q → P
holds_of_none None P Q none told = told
holds_of_none (Some fault) P Q none told = absurd cc

pub fault_of_some : (o : Option ValueRefutationFault) (fault : ValueRefutationFault) (P : Type 0) (Q : ValueRefutationFault → Type 0) → o ≡ Some fault → MatchOption o P Q → Q fault
fault_of_some None fault P Q some told = absurd cc
fault_of_some (Some said) fault P Q some told = let same : said ≡ fault = cc in subst Q same told
