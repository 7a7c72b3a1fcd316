-- Lemmas on the numbers of judgments, and on the last line.
use Rattle.std.proofs.Common.{◌≡◌, ℕ, ◌+◌, ◌-◌, ◌<◌, ◌≤◌, Bool, true, false, ◌||◌, cond, length, List, [], ◌∷◌, ◌++◌, refl, ap, ap₂, sym, ◌∙◌, arith, ltb}
use Rattle.std.specs.Prelude.{Option}
use Rattle.std.specs.List.{count_by, list_any}
use Rattle.std.proofs.lemmas.Bool.{cond-false, cond-true, le-ltb, lt-ltb}
use Rattle.std.proofs.lemmas.List.{length-append}
use Rattle.std.proofs.lemmas.List.Sums.{sum_by-append, sum_by-cons}
use Rattle.trace_reports.specs.declared.answers.Answer.{Answer}
use Rattle.trace_reports.specs.declared.answers.Answer.TheVariants.{Clear, Violation, Undecided, Refused}
use Rattle.trace_batches.specs.declared.tallies.Tally.{Tally}
use Rattle.trace_batches.specs.Batches.{Counts, batch_verdict, count_judged}
use Rattle.trace_batches.specs.BatchLines.{are_too_few, batch_total_text, tally_of, total_line}
use Rattle.request_options.specs.declared.batches.BatchFormat.{BatchFormat}
use Rattle.request_options.specs.declared.batches.BatchMethod.{BatchMethod}
use Rattle.trace_batches.specs.declared.judgments.Judgment.{Judgment}
use Rattle.trace_batches.specs.declared.judgments.Judgment.TheVariants as said
use Rattle.trace_batches.specs.Judgments.{is_judged, says_consistent, says_refused, says_undecided, says_violation}

-- an element passes where some are counted
any_counted : {X : Type 0} (p : X → Bool) (xs : List X) → list_any p xs ≡ ltb 0 (count_by p xs)
any_counted p [] = refl
any_counted p (x ∷ xs) = one (p x) (count_by p xs) (list_any p xs) (any_counted p xs) ∙ ap (ltb 0) (sym (sum_by-cons (λ y. cond (p y) 1 0) x xs))
  where
    one : (b : Bool) (n : ℕ) (any : Bool) → any ≡ ltb 0 n → (b || any) ≡ ltb 0 (cond b 1 0 + n)
    one true n any is = sym (lt-ltb 0 (1 + n) (omega arith))
    one false n any is = is ∙ ap (ltb 0) (omega arith)

-- each is judged, undecided or refused
all_counted : (judgments : List Judgment) → count_by is_judged judgments + (count_by says_undecided judgments + count_by says_refused judgments) ≡ length judgments
all_counted [] = refl
all_counted (j ∷ judgments) =
    let more = all_counted judgments in
    let judged : count_by is_judged (j ∷ judgments) ≡ cond (is_judged j) 1 0 + count_by is_judged judgments = sum_by-cons (λ k. cond (is_judged k) 1 0) j judgments in
    let undecided : count_by says_undecided (j ∷ judgments) ≡ cond (says_undecided j) 1 0 + count_by says_undecided judgments = sum_by-cons (λ k. cond (says_undecided k) 1 0) j judgments in
    let refused : count_by says_refused (j ∷ judgments) ≡ cond (says_refused j) 1 0 + count_by says_refused judgments = sum_by-cons (λ k. cond (says_refused k) 1 0) j judgments in
    let this = one j in
    omega (arith, more, judged, undecided, refused, this)
  where
    one : (k : Judgment) → ◌≡◌ {A = ℕ} (cond (is_judged k) 1 0 + (cond (says_undecided k) 1 0 + cond (says_refused k) 1 0)) 1
    one said.NoViolation = refl
    one (said.Violation body) = refl
    one said.Consistent = refl
    one (said.Undecided steps) = refl
    one (said.Refused fault) = refl

-- how many were judged, by the numbers
pub judged_by_counts : (tally : Tally) (judgments : List Judgment) → Counts tally judgments → (tally.traces - tally.undecided) - tally.refused ≡ count_judged judgments
judged_by_counts tally judgments counts =
    let all = all_counted judgments in
    let traces = counts.traces in
    let undecided = counts.undecided in
    let refused = counts.refused in
    omega (arith, all, traces, undecided, refused)

module _ (required : Option ℕ) where
  -- the verdict where nothing worse is said
  abbrev by_number : List Judgment → Answer
  by_number judgments = cond (are_too_few required (count_judged judgments)) Undecided Clear

  -- the verdict, by the numbers
  verdict_by_counts : (tally : Tally) (judgments : List Judgment) → Counts tally judgments →
      batch_verdict required judgments ≡ cond (ltb 0 tally.violations) Violation (cond (ltb 0 tally.refused) Refused (cond (ltb 0 tally.undecided) Undecided (by_number judgments)))
  verdict_by_counts tally judgments counts =
      let violations : list_any says_violation judgments ≡ ltb 0 tally.violations = any_counted says_violation judgments ∙ ap (ltb 0) (sym counts.violations) in
      let refused : list_any says_refused judgments ≡ ltb 0 tally.refused = any_counted says_refused judgments ∙ ap (ltb 0) (sym counts.refused) in
      let undecided : list_any says_undecided judgments ≡ ltb 0 tally.undecided = any_counted says_undecided judgments ∙ ap (ltb 0) (sym counts.undecided) in
      rw (violations, refused, undecided) refl

  pub verdict_violation : (tally : Tally) → 0 < tally.violations → (judgments : List Judgment) → Counts tally judgments → Violation ≡ batch_verdict required judgments
  verdict_violation tally some judgments counts = sym (verdict_by_counts tally judgments counts ∙ cond-true (ltb 0 tally.violations) Violation _ (lt-ltb 0 tally.violations some))

  module _ (tally : Tally) (none : tally.violations ≤ 0) (judgments : List Judgment) (counts : Counts tally judgments) where
    no_violation : batch_verdict required judgments ≡ cond (ltb 0 tally.refused) Refused (cond (ltb 0 tally.undecided) Undecided (by_number judgments))
    no_violation = verdict_by_counts tally judgments counts ∙ cond-false (ltb 0 tally.violations) Violation _ (le-ltb 0 tally.violations none)

    pub verdict_refused : 0 < tally.refused → Refused ≡ batch_verdict required judgments
    verdict_refused some = sym (no_violation ∙ cond-true (ltb 0 tally.refused) Refused _ (lt-ltb 0 tally.refused some))

    not_refused : tally.refused ≤ 0 → batch_verdict required judgments ≡ cond (ltb 0 tally.undecided) Undecided (by_number judgments)
    not_refused clean = no_violation ∙ cond-false (ltb 0 tally.refused) Refused _ (le-ltb 0 tally.refused clean)

    pub verdict_undecided : tally.refused ≤ 0 → 0 < tally.undecided → Undecided ≡ batch_verdict required judgments
    verdict_undecided clean some = sym (not_refused clean ∙ cond-true (ltb 0 tally.undecided) Undecided _ (lt-ltb 0 tally.undecided some))

    all_decided : tally.refused ≤ 0 → tally.undecided ≤ 0 → batch_verdict required judgments ≡ by_number judgments
    all_decided clean decided = not_refused clean ∙ cond-false (ltb 0 tally.undecided) Undecided _ (le-ltb 0 tally.undecided decided)

    -- whether this number is too small says the rest
    module _ (clean : tally.refused ≤ 0) (decided : tally.undecided ≤ 0) (count : ℕ) (judged : count ≡ count_judged judgments) (few : Bool) (is : few ≡ are_too_few required count) where
      few_is : are_too_few required (count_judged judgments) ≡ few
      few_is = ap (are_too_few required) (sym judged) ∙ sym is

      pub verdict_few : few ≡ true → Undecided ≡ batch_verdict required judgments
      verdict_few so = sym (all_decided clean decided ∙ cond-true (are_too_few required (count_judged judgments)) Undecided Clear (few_is ∙ so))

      pub verdict_enough : few ≡ false → Clear ≡ batch_verdict required judgments
      verdict_enough so = sym (all_decided clean decided ∙ cond-false (are_too_few required (count_judged judgments)) Undecided Clear (few_is ∙ so))

-- ---- the last line, by the numbers

-- the numbers are those of the judgments
same_tally : (tally : Tally) (judgments : List Judgment) → Counts tally judgments → tally ≡ tally_of judgments
same_tally tally judgments counts = rw (sym counts.traces, sym counts.consistent, sym counts.violations, sym counts.undecided, sym counts.refused) refl

pub total_by_counts : (format : BatchFormat) (method : BatchMethod) (tally : Tally) (judgments : List Judgment) → Counts tally judgments → batch_total_text format method tally ≡ total_line format method judgments
total_by_counts format method tally judgments counts = ap (batch_total_text format method) (same_tally tally judgments counts)

-- ---- more numbers

-- these are the sums of the numbers
pub record AreSums (before more after : Tally) : Type 0 where
  pub traces : after.traces ≡ before.traces + more.traces
  pub consistent : after.consistent ≡ before.consistent + more.consistent
  pub violations : after.violations ≡ before.violations + more.violations
  pub undecided : after.undecided ≡ before.undecided + more.undecided
  pub refused : after.refused ≡ before.refused + more.refused

-- how many of both pass
both_counted : (p : Judgment → Bool) (judgments others : List Judgment) (a b c : ℕ) → c ≡ a + b → a ≡ count_by p judgments → b ≡ count_by p others → c ≡ count_by p (judgments ++ others)
both_counted p judgments others a b c sum first second = sum ∙ ap₂ (λ m n. m + n) first second ∙ sym (sum_by-append (λ j. cond (p j) 1 0) judgments others)

pub counts_both : (before more after : Tally) (judgments others : List Judgment) → AreSums before more after → Counts before judgments → Counts more others → Counts after (judgments ++ others)
counts_both before more after judgments others sums first second =
    let traces = sums.traces in
    let here = first.traces in
    let there = second.traces in
    let all = length-append judgments others in
    record {
      traces = omega (arith, traces, here, there, all);
      consistent = both_counted says_consistent judgments others _ _ _ sums.consistent first.consistent second.consistent;
      violations = both_counted says_violation judgments others _ _ _ sums.violations first.violations second.violations;
      undecided = both_counted says_undecided judgments others _ _ _ sums.undecided first.undecided second.undecided;
      refused = both_counted says_refused judgments others _ _ _ sums.refused first.refused second.refused;
    }
