-- Lemmas on the parts of a case.
use Rattle.std.proofs.Common.{◌≡◌, ◌∙◌, sym, ap, refl, ℕ, ◌-◌, List, [], ◌∷◌, ◌++◌, length, drop, append_assoc, length-append, arith}
use Rattle.std.proofs.Math.Seq.{drop-append_seam}
use Rattle.tso_evidence.specs.declared.refutations.RefutationLine.{RefutationLine}
use Rattle.tso_evidence.specs.declared.refutations.RefutationLine.TheVariants.{Step, Case, Else}
use Rattle.tso_evidence.specs.Refutations.{Refutation, cycle, step, split, lines_of}
use Rattle.decision_explanation.specs.declared.in_force.NumberedPair.{NumberedPair}
use Rattle.decision_explanation.specs.InForce.{standing_after, after_lines, case_count, case_number, Standing}

-- some pairs more, and the same open cases
pub record IsExtended (old new : Standing) : Type 0 where
  pub more : List NumberedPair
  pub pairs : new.pairs ≡ more ++ old.pairs
  pub cases : new.cases ≡ old.cases

-- what is left of more elements before some
rest_of : {X : Type 0} (more ys : List X) → drop (length (more ++ ys) - length ys) (more ++ ys) ≡ ys
rest_of more ys =
    let count : length (more ++ ys) - length ys ≡ length more = omega (arith, length-append more ys) in
    ap (λ n. drop n (more ++ ys)) count ∙ drop-append_seam more ys

abbrev numbered : ℕ → ℕ → ℕ → NumberedPair
numbered number from to = record { number = number; from = from; to = to }

-- after the first part of a case
pub else_after : (s inside : Standing) (u v : ℕ) → IsExtended (standing_after s (Case u v)) inside →
    (case_number inside.cases ≡ s.next) × ((standing_after inside (Else v u)).pairs ≡ numbered inside.next v u ∷ s.pairs) × ((standing_after inside (Else v u)).cases ≡ s.cases)
else_after s inside u v more =
    let whole : inside.pairs ≡ (more.more ++ numbered s.next u v ∷ []) ++ s.pairs = more.pairs ∙ sym (append_assoc more.more (numbered s.next u v ∷ []) s.pairs) in
    let left : drop (length inside.pairs - case_count inside.cases) inside.pairs ≡ s.pairs =
    ap (λ cases. drop (length inside.pairs - case_count cases) inside.pairs) more.cases ∙ ap (λ pairs. drop (length pairs - length s.pairs) pairs) whole ∙ rest_of (more.more ++ numbered s.next u v ∷ []) s.pairs in
    (ap case_number more.cases, ap (λ pairs. numbered inside.next v u ∷ pairs) left, ap (drop 1) more.cases)

after-append : (s : Standing) (lines others : List RefutationLine) → after_lines s (lines ++ others) ≡ after_lines (after_lines s lines) others
after-append s [] others = refl
after-append s (line ∷ lines) others = after-append (standing_after s line) lines others

-- the lines of a refutation leave what was in force before them
extended_from : (s mid new : Standing) (p : NumberedPair) → mid.pairs ≡ p ∷ s.pairs → mid.cases ≡ s.cases → IsExtended mid new → IsExtended s new
extended_from s mid new p pairs cases more = record {
  more = more.more ++ p ∷ [];
  pairs = more.pairs ∙ ap (λ ps. more.more ++ ps) pairs ∙ sym (append_assoc more.more (p ∷ []) s.pairs);
  cases = more.cases ∙ cases;
}

pub extended : (s : Standing) (r : Refutation) → IsExtended s (after_lines s (lines_of r))
extended s (cycle numbers) = record { more = []; pairs = refl; cases = refl }
extended s (step c rest) = extended_from s (standing_after s (Step c)) _ (numbered s.next c.from c.to) refl refl (extended (standing_after s (Step c)) rest)
extended s (split u v first second) =
    let inside = after_lines (standing_after s (Case u v)) (lines_of first) in
    let there = standing_after inside (Else v u) in
    let parts = else_after s inside u v (extended (standing_after s (Case u v)) first) in
    let later : IsExtended s (after_lines there (lines_of second)) =
    extended_from s there (after_lines there (lines_of second)) (numbered inside.next v u) parts.1 parts.2 (extended there second) in
    let split_lines = after-append s (Case u v ∷ lines_of first) (Else v u ∷ lines_of second) in
    rw split_lines later
