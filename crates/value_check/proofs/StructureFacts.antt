-- What is missing after each line, and lines that are misplaced.
use Rattle.std.proofs.Common.{◌≡◌, ◌∙◌, ◌↔◌, ℕ, zero, suc, ◌+◌, ◌<◌, ◌≤◌, Bool, true, false, not, IsTrue, List, [], ◌∷◌, ◌++◌, length, take, get_or, refl, sym, ap, subst, arith, append_assoc}
use Rattle.std.proofs.lemmas.Bool.{false≢true}
use Rattle.std.proofs.lemmas.List.{append-nil, take_more, take_all}
use Rattle.value_evidence.specs.declared.steps.ValueStep.{ValueStep}
use Rattle.value_evidence.specs.declared.steps.ValueEnd.{ValueEnd}
use Rattle.value_evidence.specs.declared.steps.ValueEnd.TheVariants.{Cycle}
use Rattle.value_evidence.specs.declared.refutations.ValueRefutationLine.{ValueRefutationLine}
use Rattle.value_evidence.specs.declared.refutations.ValueRefutationLine.TheVariants.{Step, ReadCase, BeforeCase, Else, End}
use Rattle.value_evidence.specs.Refutations.{end, step, by_source, by_order, value_lines_of, IsValueRefutation}
use Rattle.value_check.specs.declared.refusals.ValueRefutationFault.TheVariants.{Misplaced, Unfinished}
use Rattle.value_check.specs.RefutationRefusals.{IsValueBeginning, IsValueStructureFault}
use Rattle.value_check.specs.Internal.Structure.{AfterEnd, IsMissing}

-- ---- what is missing after a line

-- nothing but a second part comes after an end
after_none : (count : ℕ) (line : ValueRefutationLine) (rest : List ValueRefutationLine) → (line ≡ Else → ⊥) → AfterEnd count (line ∷ rest) → ⊥
after_none zero line rest other after = absurd cc
after_none (suc count) line rest other (r, tail, is, after) = let same : line ≡ Else = cc in other same

pub missing_step : (ended : Bool) (count : ℕ) (s : ValueStep) (rest : List ValueRefutationLine) →
    IsMissing ended count (Step s ∷ rest) ↔ (IsTrue (not ended) × IsMissing ended count rest)
missing_step true count s rest = (λ after. absurd (after_none count (Step s) rest (λ same. cc) after), λ both. absurd (false≢true both.0))
missing_step false count s rest = (to, λ both. back both.1)
  where
    to : IsMissing false count (Step s ∷ rest) → IsTrue true × IsMissing false count rest
    to (end e, tail, is, after) = absurd cc
    to (step d r, tail, is, after) = let same : rest ≡ value_lines_of r ++ tail = cc in (refl, (r, tail, same, after))
    to (by_source load source first second, tail, is, after) = absurd cc
    to (by_order u v first second, tail, is, after) = absurd cc

    back : IsMissing false count rest → IsMissing false count (Step s ∷ rest)
    back (r, tail, is, after) = (step s r, tail, ap (λ lines. Step s ∷ lines) is, after)

-- the lines of the two parts of a case, and what is missing after them, are what is missing after its line
parts_to : (rest first second tail : List ValueRefutationLine) → rest ≡ (first ++ Else ∷ second) ++ tail → rest ≡ first ++ (Else ∷ second ++ tail)
parts_to rest first second tail is = is ∙ append_assoc first (Else ∷ second) tail

parts_from : (rest first second others tail : List ValueRefutationLine) → rest ≡ first ++ others → others ≡ Else ∷ second ++ tail →
    rest ≡ (first ++ Else ∷ second) ++ tail
parts_from rest first second others tail is others_are =
    is ∙ ap (λ ls. first ++ ls) others_are ∙ sym (append_assoc first (Else ∷ second) tail)

pub missing_read : (ended : Bool) (count load source : ℕ) (rest : List ValueRefutationLine) →
    IsMissing ended count (ReadCase load source ∷ rest) ↔ (IsTrue (not ended) × IsMissing ended (suc count) rest)
missing_read true count load source rest =
    (λ after. absurd (after_none count (ReadCase load source) rest (λ same. cc) after), λ both. absurd (false≢true both.0))
missing_read false count load source rest = (to, λ both. back both.1)
  where
    to : IsMissing false count (ReadCase load source ∷ rest) → IsTrue true × IsMissing false (suc count) rest
    to (end e, tail, is, after) = absurd cc
    to (step d r, tail, is, after) = absurd cc
    to (by_source x y first second, tail, is, after) =
        let lines : rest ≡ (value_lines_of first ++ Else ∷ value_lines_of second) ++ tail = cc in
        (refl, (first, Else ∷ value_lines_of second ++ tail, parts_to rest (value_lines_of first) (value_lines_of second) tail lines, (second, tail, refl, after)))
    to (by_order x y first second, tail, is, after) = absurd cc

    back : IsMissing false (suc count) rest → IsMissing false count (ReadCase load source ∷ rest)
    back (first, others, is, (second, tail, others_are, after)) =
        (by_source load source first second, tail, ap (λ ls. ReadCase load source ∷ ls) (parts_from rest (value_lines_of first) (value_lines_of second) others tail is others_are), after)

pub missing_before : (ended : Bool) (count u v : ℕ) (rest : List ValueRefutationLine) →
    IsMissing ended count (BeforeCase u v ∷ rest) ↔ (IsTrue (not ended) × IsMissing ended (suc count) rest)
missing_before true count u v rest =
    (λ after. absurd (after_none count (BeforeCase u v) rest (λ same. cc) after), λ both. absurd (false≢true both.0))
missing_before false count u v rest = (to, λ both. back both.1)
  where
    to : IsMissing false count (BeforeCase u v ∷ rest) → IsTrue true × IsMissing false (suc count) rest
    to (end e, tail, is, after) = absurd cc
    to (step d r, tail, is, after) = absurd cc
    to (by_source x y first second, tail, is, after) = absurd cc
    to (by_order x y first second, tail, is, after) =
        let lines : rest ≡ (value_lines_of first ++ Else ∷ value_lines_of second) ++ tail = cc in
        (refl, (first, Else ∷ value_lines_of second ++ tail, parts_to rest (value_lines_of first) (value_lines_of second) tail lines, (second, tail, refl, after)))

    back : IsMissing false (suc count) rest → IsMissing false count (BeforeCase u v ∷ rest)
    back (first, others, is, (second, tail, others_are, after)) =
        (by_order u v first second, tail, ap (λ ls. BeforeCase u v ∷ ls) (parts_from rest (value_lines_of first) (value_lines_of second) others tail is others_are), after)

pub missing_end : (ended : Bool) (count : ℕ) (e : ValueEnd) (rest : List ValueRefutationLine) →
    IsMissing ended count (End e ∷ rest) ↔ (IsTrue (not ended) × AfterEnd count rest)
missing_end true count e rest = (λ after. absurd (after_none count (End e) rest (λ same. cc) after), λ both. absurd (false≢true both.0))
missing_end false count e rest = (to, λ both. (end e, rest, refl, both.1))
  where
    to : IsMissing false count (End e ∷ rest) → IsTrue true × AfterEnd count rest
    to (end f, tail, is, after) = let same : tail ≡ rest = cc in (refl, subst (AfterEnd count) same after)
    to (step d r, tail, is, after) = absurd cc
    to (by_source load source first second, tail, is, after) = absurd cc
    to (by_order u v first second, tail, is, after) = absurd cc

-- a refutation doesn't begin with a second part
pub missing_no_else : (count : ℕ) (rest : List ValueRefutationLine) → IsMissing false count (Else ∷ rest) → ⊥
missing_no_else count rest (end e, tail, is, after) = cc
missing_no_else count rest (step d r, tail, is, after) = cc
missing_no_else count rest (by_source load source first second, tail, is, after) = cc
missing_no_else count rest (by_order u v first second, tail, is, after) = cc

pub no_second_part : (ended : Bool) (count : ℕ) (rest : List ValueRefutationLine) → ended ≡ false →
    IsMissing ended count (Else ∷ rest) ↔ (IsTrue false × IsMissing ended count rest)
no_second_part true count rest early = absurd cc
no_second_part false count rest early = (λ missing. absurd (missing_no_else count rest missing), λ both. absurd (false≢true both.0))

-- and none is missing where no case is open
pub missing_closed : (rest : List ValueRefutationLine) → AfterEnd 0 (Else ∷ rest) → ⊥
missing_closed rest after = absurd cc

-- where one is open it is the second part of that
pub missing_else : (count : ℕ) (rest : List ValueRefutationLine) → AfterEnd (suc count) (Else ∷ rest) ↔ IsMissing false count rest
missing_else count rest = (to, λ (r, tail, is, after). (r, tail, ap (λ ls. Else ∷ ls) is, after))
  where
    to : AfterEnd (suc count) (Else ∷ rest) → IsMissing false count rest
    to (r, tail, is, after) = let same : rest ≡ value_lines_of r ++ tail = cc in (r, tail, same, after)

-- ---- what is missing can be there

after_exists : (count : ℕ) → (rest : List ValueRefutationLine) × AfterEnd count rest
after_exists zero = ([], refl)
after_exists (suc count) = let rest = after_exists count in (Else ∷ End (Cycle 0) ∷ rest.0, (end (Cycle 0), rest.0, refl, rest.1))

pub missing_exists : (ended : Bool) (count : ℕ) → (rest : List ValueRefutationLine) × IsMissing ended count rest
missing_exists true count = after_exists count
missing_exists false count = let rest = after_exists count in (End (Cycle 0) ∷ rest.0, (end (Cycle 0), rest.0, refl, rest.1))

-- nothing is missing where the last line is an end and no case is open
pub nothing_missing : (ended : Bool) (count : ℕ) → IsMissing ended count [] → IsTrue ended × (count ≡ 0)
nothing_missing true zero missing = (refl, refl)
nothing_missing true (suc count) (r, tail, is, after) = absurd cc
nothing_missing false count (end e, tail, is, after) = absurd cc
nothing_missing false count (step d r, tail, is, after) = absurd cc
nothing_missing false count (by_source load source first second, tail, is, after) = absurd cc
nothing_missing false count (by_order u v first second, tail, is, after) = absurd cc

pub whole_missing : (ended : Bool) (count : ℕ) → IsTrue ended → count ≡ 0 → IsMissing ended count []
whole_missing true zero is none = refl
whole_missing true (suc count) is none = absurd (omega (arith, none))
whole_missing false count is none = absurd (false≢true is)

-- ---- the lines so far

-- with the lines so far, these lines are those of a refutation exactly if they are what is missing
abbrev pub Leaves : List ValueRefutationLine → Bool → ℕ → Type 0
Leaves before ended count = (rest : List ValueRefutationLine) → IsValueRefutation (before ++ rest) ↔ IsMissing ended count rest

pub leaves_none : Leaves [] false 0
leaves_none rest = (λ whole. (whole.0, [], whole.1 ∙ sym (append-nil (value_lines_of whole.0)), refl), to)
  where
    to : IsMissing false 0 rest → IsValueRefutation rest
    to (r, tail, is, none) = (r, is ∙ ap (λ lines. value_lines_of r ++ lines) none ∙ append-nil (value_lines_of r))

module _ (before : List ValueRefutationLine) (line : ValueRefutationLine) (ended later : Bool) (count others : ℕ) (takes : Bool)
    (next : (rest : List ValueRefutationLine) → IsMissing ended count (line ∷ rest) ↔ (IsTrue takes × IsMissing later others rest)) (leaves : Leaves before ended count) where
  -- one line more
  leaves_more : IsTrue takes → Leaves (before ++ line ∷ []) later others
  leaves_more taken rest =
      let same = append_assoc before (line ∷ []) rest in (
        λ whole. ((next rest).0 ((leaves (line ∷ rest)).0 (subst IsValueRefutation same whole))).1,
        λ missing. subst IsValueRefutation (sym same) ((leaves (line ∷ rest)).1 ((next rest).1 (taken, missing))),
      )

  -- with a line that isn't taken the lines are no beginning
  no_more : (IsTrue takes → ⊥) → IsValueBeginning (before ++ line ∷ []) → ⊥
  no_more never whole =
      never ((next whole.0).0 ((leaves (line ∷ whole.0)).0 (subst IsValueRefutation (append_assoc before (line ∷ []) whole.0) whole.1))).0

is_beginning : (before : List ValueRefutationLine) (ended : Bool) (count : ℕ) → Leaves before ended count → IsValueBeginning before
is_beginning before ended count leaves = let rest = missing_exists ended count in (rest.0, (leaves rest.0).1 rest.1)

module _ (lines : List ValueRefutationLine) (k : ℕ) (none : ValueRefutationLine) (ended later : Bool) (count others : ℕ) (takes : Bool) (within : k < length lines)
    (next : (rest : List ValueRefutationLine) → IsMissing ended count (get_or lines k none ∷ rest) ↔ (IsTrue takes × IsMissing later others rest))
    (leaves : Leaves (take k lines) ended count) where
  longer : take (k + 1) lines ≡ take k lines ++ get_or lines k none ∷ []
  longer = take_more lines k none within

  pub misplaced_at : (IsTrue takes → ⊥) → IsValueStructureFault lines (Misplaced (k + 1))
  misplaced_at never =
      let number : k + 1 ≡ suc k = omega arith in (
        k,
        number,
        within,
        is_beginning (take k lines) ended count leaves,
        λ whole. no_more (take k lines) (get_or lines k none) ended later count others takes next leaves never (subst IsValueBeginning (ap (λ n. take n lines) (sym number) ∙ longer) whole),
      )

  pub leaves_at : IsTrue takes → Leaves (take (k + 1) lines) later others
  leaves_at taken = subst (λ before. Leaves before later others) (sym longer) (leaves_more (take k lines) (get_or lines k none) ended later count others takes next leaves taken)

module _ (lines : List ValueRefutationLine) (k : ℕ) (ended : Bool) (count : ℕ) (whole : length lines ≤ k) (leaves : Leaves (take k lines) ended count) where
  all_lines : take k lines ++ [] ≡ lines
  all_lines = append-nil (take k lines) ∙ take_all k lines whole

  -- all lines have been taken, and nothing is missing
  pub is_refutation : IsMissing ended count [] → IsValueRefutation lines
  is_refutation missing = subst IsValueRefutation all_lines ((leaves []).1 missing)

  -- or something is
  pub unfinished : (IsMissing ended count [] → ⊥) → IsValueStructureFault lines Unfinished
  unfinished some = (
    subst IsValueBeginning (take_all k lines whole) (is_beginning (take k lines) ended count leaves),
    λ is. some ((leaves []).0 (subst IsValueRefutation (sym all_lines) is)),
  )
