-- What is missing after each line, and lines that are misplaced.
use Rattle.std.proofs.Common.{◌≡◌, ◌∙◌, ◌↔◌, ℕ, suc, ◌+◌, ◌<◌, ◌≤◌, ◌==◌, Bool, true, false, not, IsTrue, List, [], ◌∷◌, ◌++◌, length, take, get_or, reverse, refl, sym, ap, subst, arith, append_assoc}
use Rattle.std.proofs.lemmas.Bool.{false≢true, ne_eqb}
use Rattle.std.proofs.lemmas.List.{append-nil, reverse-append, reverse-reverse, take_more, take_all}
use Rattle.tso_cert.specs.declared.steps.CertStep.{CertStep}
use Rattle.tso_evidence.specs.declared.refutations.RefutationLine.{RefutationLine}
use Rattle.tso_evidence.specs.declared.refutations.RefutationLine.TheVariants.{Step, Case, Else, Cycle}
use Rattle.tso_evidence.specs.Refutations.{cycle, step, split, lines_of, IsRefutation}
use Rattle.refutation_check.specs.declared.structure.OpenCase.{OpenCase}
use Rattle.refutation_check.specs.declared.faults.RefutationFault.TheVariants.{Misplaced, Unfinished}
use Rattle.refutation_check.specs.Refusals.{IsBeginning, IsStructureFault}
use Rattle.refutation_check.specs.Internal.Structure.{AfterCycle, IsMissing}

-- ---- what is missing after a line

-- nothing but a second part comes after a cycle
after_none : (cases : List OpenCase) (line : RefutationLine) (rest : List RefutationLine) → ((u v : ℕ) → line ≡ Else u v → ⊥) → AfterCycle cases (line ∷ rest) → ⊥
after_none [] line rest other after = absurd cc
after_none (c ∷ cases) line rest other (r, tail, is, after) = let same : line ≡ Else c.second c.first = cc in other c.second c.first same

pub missing_step : (ended : Bool) (cases : List OpenCase) (s : CertStep) (rest : List RefutationLine) →
    IsMissing ended cases (Step s ∷ rest) ↔ (IsTrue (not ended) × IsMissing ended cases rest)
missing_step true cases s rest = (λ after. absurd (after_none cases (Step s) rest (λ u v same. cc) after), λ both. absurd (false≢true both.0))
missing_step false cases s rest = (to, λ both. back both.1)
  where
    to : IsMissing false cases (Step s ∷ rest) → IsTrue true × IsMissing false cases rest
    to (cycle numbers, tail, is, after) = absurd cc
    to (step d r, tail, is, after) = let same : rest ≡ lines_of r ++ tail = cc in (refl, (r, tail, same, after))
    to (split u v first second, tail, is, after) = absurd cc

    back : IsMissing false cases rest → IsMissing false cases (Step s ∷ rest)
    back (r, tail, is, after) = (step s r, tail, ap (λ lines. Step s ∷ lines) is, after)

pub missing_case : (ended : Bool) (cases : List OpenCase) (u v : ℕ) (rest : List RefutationLine) →
    IsMissing ended cases (Case u v ∷ rest) ↔ (IsTrue (not ended) × IsMissing ended (record { first = u; second = v } ∷ cases) rest)
missing_case true cases u v rest = (λ after. absurd (after_none cases (Case u v) rest (λ x y same. cc) after), λ both. absurd (false≢true both.0))
missing_case false cases u v rest = (to, λ both. back both.1)
  where
    to : IsMissing false cases (Case u v ∷ rest) → IsTrue true × IsMissing false (record { first = u; second = v } ∷ cases) rest
    to (cycle numbers, tail, is, after) = absurd cc
    to (step d r, tail, is, after) = absurd cc
    to (split x y first second, tail, is, after) =
        let lines : rest ≡ (lines_of first ++ Else y x ∷ lines_of second) ++ tail = cc in
        let one : x ≡ u = cc in
        let other : y ≡ v = cc in
        (refl, (first, Else y x ∷ lines_of second ++ tail, lines ∙ append_assoc (lines_of first) (Else y x ∷ lines_of second) tail, (second, tail, cc, after)))

    back : IsMissing false (record { first = u; second = v } ∷ cases) rest → IsMissing false cases (Case u v ∷ rest)
    back (first, others, is, (second, tail, else_is, after)) =
        let lines : rest ≡ lines_of first ++ (Else v u ∷ lines_of second ++ tail) = is ∙ ap (λ ls. lines_of first ++ ls) else_is in
        (split u v first second, tail, ap (λ ls. Case u v ∷ ls) (lines ∙ sym (append_assoc (lines_of first) (Else v u ∷ lines_of second) tail)), after)

pub missing_cycle : (ended : Bool) (cases : List OpenCase) (numbers : List ℕ) (rest : List RefutationLine) →
    IsMissing ended cases (Cycle numbers ∷ rest) ↔ (IsTrue (not ended) × AfterCycle cases rest)
missing_cycle true cases numbers rest = (λ after. absurd (after_none cases (Cycle numbers) rest (λ x y same. cc) after), λ both. absurd (false≢true both.0))
missing_cycle false cases numbers rest = (to, λ both. (cycle numbers, rest, refl, both.1))
  where
    to : IsMissing false cases (Cycle numbers ∷ rest) → IsTrue true × AfterCycle cases rest
    to (cycle others, tail, is, after) = let same : tail ≡ rest = cc in (refl, subst (AfterCycle cases) same after)
    to (step d r, tail, is, after) = absurd cc
    to (split u v first second, tail, is, after) = absurd cc

-- a refutation doesn't begin with a second part
pub missing_no_else : (cases : List OpenCase) (u v : ℕ) (rest : List RefutationLine) → IsMissing false cases (Else u v ∷ rest) → ⊥
missing_no_else cases u v rest (cycle numbers, tail, is, after) = cc
missing_no_else cases u v rest (step d r, tail, is, after) = cc
missing_no_else cases u v rest (split x y first second, tail, is, after) = cc

-- a case at the end of a list is the first from there
pub last_is_first : (cases : List OpenCase) (c : OpenCase) → reverse (cases ++ c ∷ []) ≡ c ∷ reverse cases
last_is_first cases c = reverse-append cases (c ∷ [])

-- ---- what is missing can be there

after_exists : (cases : List OpenCase) → (rest : List RefutationLine) × AfterCycle cases rest
after_exists [] = ([], refl)
after_exists (c ∷ cases) = let rest = after_exists cases in (Else c.second c.first ∷ Cycle [] ∷ rest.0, (cycle [], rest.0, refl, rest.1))

pub missing_exists : (ended : Bool) (cases : List OpenCase) → (rest : List RefutationLine) × IsMissing ended cases rest
missing_exists true cases = after_exists cases
missing_exists false cases = let rest = after_exists cases in (Cycle [] ∷ rest.0, (cycle [], rest.0, refl, rest.1))

-- nothing is missing
pub none_missing : (ended : Bool) (cases : List OpenCase) → IsMissing ended cases [] → (ended ≡ true) × (cases ≡ [])
none_missing true [] missing = (refl, refl)
none_missing true (c ∷ cases) (r, tail, is, after) = absurd cc
none_missing false cases (cycle numbers, tail, is, after) = absurd cc
none_missing false cases (step d r, tail, is, after) = absurd cc
none_missing false cases (split u v first second, tail, is, after) = absurd cc

-- ---- the lines so far

-- with the lines so far, these lines are those of a refutation exactly if they are what is missing
abbrev pub Leaves : List RefutationLine → Bool → List OpenCase → Type 0
Leaves before ended cases = (rest : List RefutationLine) → IsRefutation (before ++ rest) ↔ IsMissing ended cases rest

pub leaves_none : Leaves [] false []
leaves_none rest = (λ whole. (whole.0, [], whole.1 ∙ sym (append-nil (lines_of whole.0)), refl), to)
  where
    to : IsMissing false [] rest → IsRefutation rest
    to (r, tail, is, none) = (r, is ∙ ap (λ lines. lines_of r ++ lines) none ∙ append-nil (lines_of r))

-- one line more
pub leaves_more : (before : List RefutationLine) (line : RefutationLine) (ended later : Bool) (cases others : List OpenCase) (takes : Bool) → IsTrue takes →
    ((rest : List RefutationLine) → IsMissing ended cases (line ∷ rest) ↔ (IsTrue takes × IsMissing later others rest)) → Leaves before ended cases →
    Leaves (before ++ line ∷ []) later others
leaves_more before line ended later cases others takes taken next leaves rest =
    let same = append_assoc before (line ∷ []) rest in (
      λ whole. ((next rest).0 ((leaves (line ∷ rest)).0 (subst IsRefutation same whole))).1,
      λ missing. subst IsRefutation (sym same) ((leaves (line ∷ rest)).1 ((next rest).1 (taken, missing))),
    )

-- with a line that isn't taken the lines are no beginning
pub no_more : (before : List RefutationLine) (line : RefutationLine) (ended later : Bool) (cases others : List OpenCase) (takes : Bool) → (IsTrue takes → ⊥) →
    ((rest : List RefutationLine) → IsMissing ended cases (line ∷ rest) ↔ (IsTrue takes × IsMissing later others rest)) → Leaves before ended cases →
    IsBeginning (before ++ line ∷ []) → ⊥
no_more before line ended later cases others takes never next leaves whole =
    never ((next whole.0).0 ((leaves (line ∷ whole.0)).0 (subst IsRefutation (append_assoc before (line ∷ []) whole.0) whole.1))).0

pub is_beginning : (before : List RefutationLine) (ended : Bool) (cases : List OpenCase) → Leaves before ended cases → IsBeginning before
is_beginning before ended cases leaves = let rest = missing_exists ended cases in (rest.0, (leaves rest.0).1 rest.1)

pub misplaced_at : (lines : List RefutationLine) (k : ℕ) (line : RefutationLine) (ended later : Bool) (cases others : List OpenCase) (takes : Bool) → k < length lines →
    line ≡ get_or lines k line → (IsTrue takes → ⊥) → ((rest : List RefutationLine) → IsMissing ended cases (line ∷ rest) ↔ (IsTrue takes × IsMissing later others rest)) →
    Leaves (take k lines) ended cases → IsStructureFault lines (Misplaced (k + 1))
misplaced_at lines k line ended later cases others takes within read never next leaves =
    let number : k + 1 ≡ suc k = omega arith in
    let longer : take (suc k) lines ≡ take k lines ++ line ∷ [] = ap (λ n. take n lines) (sym number) ∙ take_more lines k line within ∙ ap (λ l. take k lines ++ l ∷ []) (sym read) in (
      k,
      number,
      within,
      is_beginning (take k lines) ended cases leaves,
      λ whole. no_more (take k lines) line ended later cases others takes never next leaves (subst IsBeginning longer whole),
    )

pub leaves_at : (lines : List RefutationLine) (k : ℕ) (line : RefutationLine) (ended later : Bool) (cases others : List OpenCase) (takes : Bool) → k < length lines →
    line ≡ get_or lines k line → IsTrue takes → ((rest : List RefutationLine) → IsMissing ended cases (line ∷ rest) ↔ (IsTrue takes × IsMissing later others rest)) →
    Leaves (take k lines) ended cases → Leaves (take (k + 1) lines) later others
leaves_at lines k line ended later cases others takes within read taken next leaves =
    subst (λ before. Leaves before later others) (sym (take_more lines k line within ∙ ap (λ l. take k lines ++ l ∷ []) (sym read)))
    (leaves_more (take k lines) line ended later cases others takes taken next leaves)

-- all lines have been taken
pub all_leave : (lines : List RefutationLine) (k : ℕ) (ended : Bool) (cases : List OpenCase) → length lines ≤ k → Leaves (take k lines) ended cases →
    IsRefutation lines ↔ IsMissing ended cases []
all_leave lines k ended cases whole leaves =
    let same : take k lines ++ [] ≡ lines = append-nil (take k lines) ∙ take_all k lines whole in
    let rest = leaves [] in (
      λ is. rest.0 (subst IsRefutation (sym same) is),
      λ missing. subst IsRefutation same (rest.1 missing),
    )

pub unfinished : (lines : List RefutationLine) (k : ℕ) (ended : Bool) (cases : List OpenCase) → length lines ≤ k → Leaves (take k lines) ended cases →
    (IsMissing ended cases [] → ⊥) → IsStructureFault lines Unfinished
unfinished lines k ended cases whole leaves some = (
  subst IsBeginning (take_all k lines whole) (is_beginning (take k lines) ended cases leaves),
  λ is. some ((all_leave lines k ended cases whole leaves).0 is),
)

-- ---- what the code finds

pub missing_case_last : (ended : Bool) (cases others : List OpenCase) (u v : ℕ) (rest : List RefutationLine) → others ≡ cases ++ record { first = u; second = v } ∷ [] →
    ended ≡ false → IsMissing ended (reverse cases) (Case u v ∷ rest) ↔ (IsTrue true × IsMissing ended (reverse others) rest)
missing_case_last true cases others u v rest is early = absurd cc
missing_case_last false cases others u v rest is early =
    subst (λ cs. IsMissing false (reverse cases) (Case u v ∷ rest) ↔ (IsTrue true × IsMissing false cs rest))
    (sym (ap reverse is ∙ last_is_first cases (record { first = u; second = v }))) (missing_case false (reverse cases) u v rest)

pub missing_case_late : (ended : Bool) (cases : List OpenCase) (u v : ℕ) (rest : List RefutationLine) → ended ≡ true →
    IsMissing ended cases (Case u v ∷ rest) ↔ (IsTrue false × IsMissing ended cases rest)
missing_case_late false cases u v rest late = absurd cc
missing_case_late true cases u v rest late = (λ after. absurd (after_none cases (Case u v) rest (λ x y same. cc) after), λ both. absurd (false≢true both.0))

pub missing_else_early : (ended : Bool) (cases : List OpenCase) (u v : ℕ) (rest : List RefutationLine) → ended ≡ false →
    IsMissing ended cases (Else u v ∷ rest) ↔ (IsTrue ended × IsMissing ended cases rest)
missing_else_early true cases u v rest early = absurd cc
missing_else_early false cases u v rest early = (λ missing. absurd (missing_no_else cases u v rest missing), λ both. absurd (false≢true both.0))

reversed_none : (cases : List OpenCase) → reverse cases ≡ [] → cases ≡ []
reversed_none cases none = sym (reverse-reverse cases) ∙ ap reverse none

pub whole_by_length : (ended : Bool) (cases items : List OpenCase) (empty : Bool) → items ≡ cases → ended ≡ true → empty ≡ (length items == 0) →
    IsTrue empty ↔ IsMissing ended (reverse cases) []
whole_by_length ended cases [] empty is is_ended tells =
    (λ e. subst (λ b. IsMissing b (reverse cases) []) (sym is_ended) (subst (λ cs. AfterCycle (reverse cs) []) is refl), λ missing. tells)
whole_by_length ended cases (c ∷ items) empty is is_ended tells = (
  λ e. absurd (false≢true (sym (tells ∙ ne_eqb (suc (length items)) 0 (λ same. omega (arith, same))) ∙ e)),
  λ missing. let none = reversed_none cases (none_missing ended (reverse cases) missing).1 in absurd cc,
)

pub not_ended : (ended : Bool) (cases : List OpenCase) → ended ≡ false → IsTrue ended ↔ IsMissing ended (reverse cases) []
not_ended true cases early = absurd cc
not_ended false cases early = (λ e. absurd (false≢true e), λ missing. absurd (false≢true (none_missing false (reverse cases) missing).0))
