-- Lines are those of one refutation at most, and those of evidence are a refutation without cases.
use Rattle.std.proofs.Common.{◌≡◌, ◌∙◌, ◌↔◌, ℕ, zero, suc, List, [], ◌∷◌, ◌++◌, take, Some, slice_get, refl, sym, ap, subst, append_assoc}
use Rattle.std.proofs.lemmas.List.{append-nil}
use Rattle.std.proofs.lemmas.Option.{same_Some, none-some}
use Rattle.tso_ops.specs.Values.{TraceValue}
use Rattle.value_evidence.specs.declared.steps.ValueStep.{ValueStep}
use Rattle.value_evidence.specs.declared.steps.ValueEnd.{ValueEnd}
use Rattle.value_evidence.specs.declared.steps.ValueEnd.TheVariants.{NoSource, Cycle}
use Rattle.value_evidence.specs.declared.steps.ValueEvidence.{ValueEvidence}
use Rattle.value_evidence.specs.declared.refutations.ValueRefutationLine.{ValueRefutationLine}
use Rattle.value_evidence.specs.declared.refutations.ValueRefutationLine.TheVariants.{Step, Else}
use Rattle.value_evidence.specs.Evidence.{ValueStepHolds, EndHolds, EvidenceHolds}
use Rattle.value_evidence.specs.Refutations.{ValueRefutation, end, step, by_source, by_order, value_lines_of, evidence_lines, EndHoldsBeside, HoldsBeside, ValueRefutationHolds}
use Rattle.value_evidence.proofs.Soundness.{none_contained}

-- ---- lines have one refutation at most

-- the first of two lists of lines, which are those of two refutations and then others
prefix_free : (r other : ValueRefutation) (rest tail : List ValueRefutationLine) → value_lines_of r ++ rest ≡ value_lines_of other ++ tail → (r ≡ other) × (rest ≡ tail)
prefix_free (end e) (end f) rest tail same = let one : e ≡ f = cc in let after : rest ≡ tail = cc in (ap end one, after)
prefix_free (end e) (step d q) rest tail same = absurd cc
prefix_free (end e) (by_source x y p q) rest tail same = absurd cc
prefix_free (end e) (by_order x y p q) rest tail same = absurd cc
prefix_free (step s r) (end f) rest tail same = absurd cc
prefix_free (step s r) (step d q) rest tail same =
    let one : s ≡ d = cc in
    let after : value_lines_of r ++ rest ≡ value_lines_of q ++ tail = cc in
    let both = prefix_free r q rest tail after in
    (subst (λ e. step s r ≡ step e q) one (ap (step s) both.0), both.1)
prefix_free (step s r) (by_source x y p q) rest tail same = absurd cc
prefix_free (step s r) (by_order x y p q) rest tail same = absurd cc
prefix_free (by_source u v first second) (end f) rest tail same = absurd cc
prefix_free (by_source u v first second) (step d q) rest tail same = absurd cc
prefix_free (by_source u v first second) (by_source x y p q) rest tail same =
    let lines : (value_lines_of first ++ Else ∷ value_lines_of second) ++ rest ≡ (value_lines_of p ++ Else ∷ value_lines_of q) ++ tail = cc in
    let in_first = prefix_free first p (Else ∷ value_lines_of second ++ rest) (Else ∷ value_lines_of q ++ tail)
    (sym (append_assoc (value_lines_of first) (Else ∷ value_lines_of second) rest) ∙ lines ∙ append_assoc (value_lines_of p) (Else ∷ value_lines_of q) tail) in
    let after : value_lines_of second ++ rest ≡ value_lines_of q ++ tail = (let here = in_first.1 in cc) in
    let in_second = prefix_free second q rest tail after in
    let one : u ≡ x = cc in
    let other : v ≡ y = cc in
    let parts_first = in_first.0 in
    let parts_second = in_second.0 in
    (cc, in_second.1)
prefix_free (by_source u v first second) (by_order x y p q) rest tail same = absurd cc
prefix_free (by_order u v first second) (end f) rest tail same = absurd cc
prefix_free (by_order u v first second) (step d q) rest tail same = absurd cc
prefix_free (by_order u v first second) (by_source x y p q) rest tail same = absurd cc
prefix_free (by_order u v first second) (by_order x y p q) rest tail same =
    let lines : (value_lines_of first ++ Else ∷ value_lines_of second) ++ rest ≡ (value_lines_of p ++ Else ∷ value_lines_of q) ++ tail = cc in
    let in_first = prefix_free first p (Else ∷ value_lines_of second ++ rest) (Else ∷ value_lines_of q ++ tail)
    (sym (append_assoc (value_lines_of first) (Else ∷ value_lines_of second) rest) ∙ lines ∙ append_assoc (value_lines_of p) (Else ∷ value_lines_of q) tail) in
    let after : value_lines_of second ++ rest ≡ value_lines_of q ++ tail = (let here = in_first.1 in cc) in
    let in_second = prefix_free second q rest tail after in
    let one : u ≡ x = cc in
    let other : v ≡ y = cc in
    let parts_first = in_first.0 in
    let parts_second = in_second.0 in
    (cc, in_second.1)

pub one_refutation : (r other : ValueRefutation) → value_lines_of r ≡ value_lines_of other → r ≡ other
one_refutation r other same = (prefix_free r other [] [] (ap (λ lines. lines ++ []) same)).0

-- ---- evidence as a refutation

abbrev steps_then : List ValueStep → ValueEnd → ValueRefutation
steps_then [] e = end e
steps_then (s ∷ steps) e = step s (steps_then steps e)

lines_of_steps : (steps : List ValueStep) (e : ValueEnd) → evidence_lines steps e ≡ value_lines_of (steps_then steps e)
lines_of_steps [] e = refl
lines_of_steps (s ∷ steps) e = ap (λ lines. Step s ∷ lines) (lines_of_steps steps e)

-- where nothing is set aside an end holds as in evidence
pub end_to : (t : TraceValue) (steps : List ValueStep) (e : ValueEnd) → EndHolds t steps e → EndHoldsBeside t steps [] e
end_to t steps (NoSource l) holds = (holds.0, λ r can. absurd (holds.1 r can))
end_to t steps (Cycle u) holds = holds

pub end_from : (t : TraceValue) (steps : List ValueStep) (e : ValueEnd) → EndHoldsBeside t steps [] e → EndHolds t steps e
end_from t steps (NoSource l) holds = (holds.0, λ r can. none_contained (l, r) (holds.1 r can))
end_from t steps (Cycle u) holds = holds

-- each of the steps follows from those before it and from these others before
abbrev HoldAfter : TraceValue → List ValueStep → List ValueStep → Type 0
HoldAfter t before steps = (k : ℕ) (s : ValueStep) → slice_get steps k ≡ Some s → ValueStepHolds t (before ++ take k steps) s

-- the steps and the end hold exactly as a refutation after those before
steps_to : (t : TraceValue) (before steps : List ValueStep) (e : ValueEnd) → HoldAfter t before steps → EndHolds t (before ++ steps) e → HoldsBeside t before [] (steps_then steps e)
steps_to t before [] e hold ends = end_to t before e (subst (λ all. EndHolds t all e) (append-nil before) ends)
steps_to t before (s ∷ steps) e hold ends = (
  subst (λ all. ValueStepHolds t all s) (append-nil before) (hold 0 s refl),
  steps_to t (before ++ s ∷ []) steps e
      (λ k d at. subst (λ all. ValueStepHolds t all d) (sym (append_assoc before (s ∷ []) (take k steps))) (hold (suc k) d at))
      (subst (λ all. EndHolds t all e) (sym (append_assoc before (s ∷ []) steps)) ends),
)

steps_from : (t : TraceValue) (before steps : List ValueStep) (e : ValueEnd) → HoldsBeside t before [] (steps_then steps e) → HoldAfter t before steps × EndHolds t (before ++ steps) e
steps_from t before [] e holds = (λ k s at. absurd (none-some s at), subst (λ all. EndHolds t all e) (sym (append-nil before)) (end_from t before e holds))
steps_from t before (s ∷ steps) e holds =
    let later = steps_from t (before ++ s ∷ []) steps e holds.1 in
    (all later.0, subst (λ all. EndHolds t all e) (append_assoc before (s ∷ []) steps) later.1)
  where
    all : HoldAfter t (before ++ s ∷ []) steps → HoldAfter t before (s ∷ steps)
    all later zero d at =
        subst (ValueStepHolds t (before ++ [])) (same_Some s d at) (subst (λ all. ValueStepHolds t all s) (sym (append-nil before)) holds.0)
    all later (suc k) d at = subst (λ all. ValueStepHolds t all d) (append_assoc before (s ∷ []) (take k steps)) (later k d at)

-- Evidence holds exactly where its lines hold as a refutation.
pub evidence_holds_as : (t : TraceValue) (e : ValueEvidence) → EvidenceHolds t e ↔ ValueRefutationHolds t (evidence_lines e.steps.items e.end)
evidence_holds_as t e = (to, from)
  where
    to : EvidenceHolds t e → ValueRefutationHolds t (evidence_lines e.steps.items e.end)
    to holds = (steps_then e.steps.items e.end, lines_of_steps e.steps.items e.end, steps_to t [] e.steps.items e.end (λ k s at. holds.steps k s at) holds.ends)

    from : ValueRefutationHolds t (evidence_lines e.steps.items e.end) → EvidenceHolds t e
    from refuted =
        let same = one_refutation refuted.0 (steps_then e.steps.items e.end) (sym refuted.1 ∙ lines_of_steps e.steps.items e.end) in
        let both = steps_from t [] e.steps.items e.end (subst (HoldsBeside t [] []) same refuted.2) in
        record { steps = λ k s at. both.0 k s at; ends = both.1 }
