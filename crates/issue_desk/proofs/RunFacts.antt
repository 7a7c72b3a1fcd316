-- The passes that come back from the issuers of a run.
use Rattle.std.proofs.Common.{◌≡◌, ◌∙◌, sym, ap, refl, ℕ, zero, suc, ◌+◌, Some, List, length, slice_get, arith}
use Rattle.std.specs.Option.{option_map}
use Rattle.std.proofs.lemmas.List.{length-map}
use Rattle.std.proofs.lemmas.Option.{slice_get-map}
use Rattle.tso_ops.specs.Values.{ProgramValue}
use Rattle.issue_desk.specs.Desks.{PassValue}
use Rattle.issue_desk.specs.Finishing.{ArePassesOf}
use Rattle.issue_desk.specs.Internal.Passes.{ArePassesFrom, processors_from}

length-processors : (p count : ℕ) → length (processors_from p count) ≡ count
length-processors p zero = refl
length-processors p (suc count) = ap suc (length-processors (suc p) count)

processor-at : (p count k q : ℕ) → slice_get (processors_from p count) k ≡ Some q → q ≡ p + k
processor-at p zero k q read = absurd cc
processor-at p (suc count) zero q read = (let same : p ≡ q = cc in omega (arith, same))
processor-at p (suc count) (suc k) q read = (let there = processor-at (suc p) count k q read in omega (arith, there))

-- the passes of all processors of a program
pub all-passes : (program : ProgramValue) (passes : List PassValue) (count : ℕ) → count ≡ length program.lists → ArePassesFrom 0 count passes → ArePassesOf program passes
all-passes program passes count all are = record {
  count = sym (length-map passes (λ (pass : PassValue). pass.processor)) ∙ ap length are ∙ length-processors 0 count ∙ all;
  processors = λ p pass read.
      let here : slice_get (processors_from 0 count) p ≡ Some pass.processor =
      ap (λ xs. slice_get xs p) (sym are) ∙ slice_get-map (λ (pass : PassValue). pass.processor) passes p ∙ ap (option_map (λ (pass : PassValue). pass.processor)) read in
      let at = processor-at 0 count p pass.processor here in
      omega (arith, at);
}
