-- A certificate with a cycle, as a refutation without cases.
use Rattle.std.proofs.Common.{◌≡◌, ◌∙◌, ◌↔◌, inl, inr, ℕ, suc, ◌≤◌, List, [], ◌∷◌, ◌++◌, length, take, Some, slice_get, refl, sym, ap, subst, append_assoc, length-append, arith}
use Rattle.std.proofs.lemmas.Bool.{cases_lt}
use Rattle.std.proofs.lemmas.List.{append-nil, take_at}
use Rattle.std.proofs.lemmas.Option.{same_Some, slice_get_within}
use Rattle.tso_ops.specs.Values.{TraceValue}
use Rattle.tso_cert.specs.declared.steps.CertStep.{CertStep}
use Rattle.tso_evidence.specs.declared.refutations.RefutationLine.TheVariants.{Step}
use Rattle.tso_evidence.specs.Certificates.{certificate_lines}
use Rattle.tso_evidence.specs.Refutations.{Refutation, cycle, step, lines_of}
use Rattle.order_paths.specs.Paths.{IsCycle}
use Rattle.tso_model.specs.Certs.{IsStep, MeetsRule, IsPathIn, StepsHold}
use Rattle.cert_check.proofs.PairFacts.{none_listed, earlier_or_last}
use Rattle.refutation_check.specs.Refutations.{NoPair, WithPair, HoldsUnder, RefutationHolds}
use Rattle.refutation_check.proofs.TreeFacts.{holds_more}
use Rattle.refutation_check.proofs.RefusalFacts.{one_refutation}

-- ---- the pairs of steps

-- a pair is that of an earlier step, or of the last one
last_to : (steps : List CertStep) (s : CertStep) (u v : ℕ) → IsStep (steps ++ s ∷ []) u v → WithPair (λ x y. IsStep steps x y) s.from s.to u v
last_to steps s u v is = (earlier_or_last steps s u v).0 is

last_from : (steps : List CertStep) (s : CertStep) (u v : ℕ) → WithPair (λ x y. IsStep steps x y) s.from s.to u v → IsStep (steps ++ s ∷ []) u v
last_from steps s u v one = (earlier_or_last steps s u v).1 one

-- ---- the steps as a refutation

abbrev steps_then : List CertStep → List ℕ → Refutation
steps_then [] numbers = cycle numbers
steps_then (s ∷ steps) numbers = step s (steps_then steps numbers)

lines_of_steps : (steps : List CertStep) (numbers : List ℕ) → certificate_lines steps numbers ≡ lines_of (steps_then steps numbers)
lines_of_steps [] numbers = refl
lines_of_steps (s ∷ steps) numbers = ap (λ lines. Step s ∷ lines) (lines_of_steps steps numbers)

at_seam : (before rest : List CertStep) (s : CertStep) → slice_get (before ++ s ∷ rest) (length before) ≡ Some s
at_seam [] rest s = refl
at_seam (a ∷ before) rest s = at_seam before rest s

-- the steps from this place on hold
abbrev HoldFrom : TraceValue → List CertStep → ℕ → Type 0
HoldFrom t steps n = (k : ℕ) (s : CertStep) → n ≤ k → slice_get steps k ≡ Some s → MeetsRule t s.from s.to s.reason × IsPathIn (λ x y. IsStep (take k steps) x y) s.reason

-- the rest of the steps and the cycle hold exactly as a refutation under the steps before
rest_to : (t : TraceValue) (before rest : List CertStep) (numbers : List ℕ) → HoldFrom t (before ++ rest) (length before) → IsCycle (λ x y. IsStep (before ++ rest) x y) numbers →
    HoldsUnder t (λ x y. IsStep before x y) (steps_then rest numbers)
rest_to t before [] numbers hold closed = subst (λ steps. IsCycle (λ x y. IsStep steps x y) numbers) (append-nil before) closed
rest_to t before (s ∷ rest) numbers hold closed =
    let same : (before ++ s ∷ []) ++ rest ≡ before ++ s ∷ rest = append_assoc before (s ∷ []) rest in
    let longer : length (before ++ s ∷ []) ≡ suc (length before) = (let sum = length-append before (s ∷ []) in omega (arith, sum)) in
    let here = hold (length before) s (omega arith) (at_seam before rest s) in (
      (here.0, subst (λ steps. IsPathIn (λ x y. IsStep steps x y) s.reason) (take_at before (s ∷ rest) (length before) refl) here.1),
      holds_more t (λ x y. IsStep (before ++ s ∷ []) x y) (WithPair (λ x y. IsStep before x y) s.from s.to) (last_to before s) (steps_then rest numbers)
          (rest_to t (before ++ s ∷ []) rest numbers
          (subst (λ steps. HoldFrom t steps (length (before ++ s ∷ []))) (sym same) (λ k d from at. hold k d (omega (arith, from, longer)) at))
          (subst (λ steps. IsCycle (λ x y. IsStep steps x y) numbers) (sym same) closed)),
    )

rest_from : (t : TraceValue) (before rest : List CertStep) (numbers : List ℕ) → HoldsUnder t (λ x y. IsStep before x y) (steps_then rest numbers) →
    HoldFrom t (before ++ rest) (length before) × IsCycle (λ x y. IsStep (before ++ rest) x y) numbers
rest_from t before [] numbers closed =
    let same = append-nil before in (
      λ k s from at. (let within = slice_get_within before k s (subst (λ steps. slice_get steps k ≡ Some s) same at) in absurd (omega (arith, from, within))),
      subst (λ steps. IsCycle (λ x y. IsStep steps x y) numbers) (sym same) closed,
    )
rest_from t before (s ∷ rest) numbers holds =
    let same : (before ++ s ∷ []) ++ rest ≡ before ++ s ∷ rest = append_assoc before (s ∷ []) rest in
    let longer : length (before ++ s ∷ []) ≡ suc (length before) = (let sum = length-append before (s ∷ []) in omega (arith, sum)) in
    let later = rest_from t (before ++ s ∷ []) rest numbers
    (holds_more t (WithPair (λ x y. IsStep before x y) s.from s.to) (λ x y. IsStep (before ++ s ∷ []) x y) (last_from before s) (steps_then rest numbers) holds.1) in
    let moved : HoldFrom t (before ++ s ∷ rest) (length (before ++ s ∷ [])) = subst (λ steps. HoldFrom t steps (length (before ++ s ∷ []))) same later.0 in (
      λ k d from at. elim (cases_lt (length before) k) [
        | inl more ↦ moved k d (omega (arith, more, longer)) at
        | inr most ↦ (
            let place : length before ≡ k = omega (arith, from, most) in
            let found : slice_get (before ++ s ∷ rest) (length before) ≡ Some d = subst (λ n. slice_get (before ++ s ∷ rest) n ≡ Some d) (sym place) at in
            let one : s ≡ d = same_Some s d (sym (at_seam before rest s) ∙ found) in
            let before_it : before ≡ take k (before ++ s ∷ rest) = sym (take_at before (s ∷ rest) k place) in
            subst (λ e. MeetsRule t e.from e.to e.reason × IsPathIn (λ x y. IsStep (take k (before ++ s ∷ rest)) x y) e.reason) one
            (holds.0.0, subst (λ steps. IsPathIn (λ x y. IsStep steps x y) s.reason) before_it holds.0.1)
            )
      ],
      subst (λ steps. IsCycle (λ x y. IsStep steps x y) numbers) same later.1,
    )

-- A certificate with a cycle holds exactly where its lines hold as a refutation.
pub certificate_holds_as : (t : TraceValue) (steps : List CertStep) (numbers : List ℕ) →
    (StepsHold t steps × IsCycle (λ x y. IsStep steps x y) numbers) ↔ RefutationHolds t (certificate_lines steps numbers)
certificate_holds_as t steps numbers = (
  λ holds. (
    steps_then steps numbers,
    lines_of_steps steps numbers,
    holds_more t (λ x y. IsStep [] x y) NoPair none_listed (steps_then steps numbers) (rest_to t [] steps numbers (λ k s from at. holds.0 k s at) holds.1),
  ),
  λ refuted. (
      let same : refuted.0 ≡ steps_then steps numbers = one_refutation refuted.0 (steps_then steps numbers) (sym refuted.1 ∙ lines_of_steps steps numbers) in
      let under = holds_more t NoPair (λ x y. IsStep [] x y) (λ x y none. absurd none) (steps_then steps numbers) (subst (HoldsUnder t NoPair) same refuted.2) in
      let both = rest_from t [] steps numbers under in
      ((λ k s at. both.0 k s (omega arith) at), both.1)
      ),
)
