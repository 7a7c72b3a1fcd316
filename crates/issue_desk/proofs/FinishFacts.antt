-- What the end of a desk gives.
use Rattle.std.proofs.Common.{◌≡◌, ◌∙◌, sym, ap, subst, refl, ℕ, zero, suc, ◌≤◌, inl, inr, List, [], ◌∷◌, ◌++◌, length, get_or, map, Result, Ok, Err, arith}
use Rattle.std.proofs.lemmas.Bool.{cases_lt}
use Rattle.std.proofs.lemmas.Option.{slice_get-get_or}
use Rattle.std.specs.declared.alloc.AllocError.{AllocError}
use Rattle.tso_ops.specs.declared.ops.Op.{Op}
use Rattle.tso_ops.specs.Values.{ProgramValue, op_of, ops_at}
use Rattle.unit_core.specs.declared.accounts.Account.{Account}
use Rattle.unit_core.specs.declared.steps.Step.{Step}
use Rattle.unit_core.specs.Accounts.{IsAccountOf}
use Rattle.unit_core.specs.Machine.{outcomes_of}
use Rattle.unit_core.specs.Records.{AreOpsOf, Concludes, RecordedValue}
use Rattle.unit_core.specs.Replays.{AreFirstOpsOf}
use Rattle.unit_core.proofs.DrainFacts.{TakesDrains-none}
use Rattle.unit_core.proofs.OutcomeFacts.{AreOpsOf-drained}
use Rattle.unit_core.proofs.ProgramCountFacts.{counts_program}
use Rattle.issue_desk.specs.declared.faults.RunFault.{RunFault}
use Rattle.issue_desk.specs.declared.faults.RunFault.TheVariants.{OutOfMemory, NoThread, Torn, OtherProgram}
use Rattle.issue_desk.specs.Desks.{DeskValue, PassValue}
use Rattle.issue_desk.specs.Finishing.{AnswersCompare, AnswersFinish, ArePassesOf, Finishes, IsWhole}

nothing-before : (xs rest : List Op) → xs ++ rest ≡ [] → xs ≡ []
nothing-before [] rest none = refl
nothing-before (x ∷ xs) rest none = absurd cc

past_end : {X : Type 0} (lists : List (List X)) (p : ℕ) → length lists ≤ p → get_or lists p [] ≡ []
past_end [] p past = refl
past_end (xs ∷ lists) zero past = absurd (omega arith)
past_end (xs ∷ lists) (suc p) past = past_end lists p (omega arith)

-- where the run is whole, the unit took all operations of the program
pub whole-ops : (desk : DeskValue) (program : ProgramValue) (passes : List PassValue) → AreFirstOpsOf desk.program desk.unit.steps → ArePassesOf program passes →
    IsWhole desk program passes → AreOpsOf program desk.unit.steps
whole-ops desk program passes begun are whole p = elim (cases_lt p (length program.lists)) [
  | inl below ↦ (
      let none : PassValue = record { processor = 0; outcomes = [] } in
      let read = slice_get-get_or passes p none (omega (arith, below, are.count)) in
      let agrees = whole.0 p (get_or passes p none) (omega (arith, below, are.count)) read in
      let own = are.processors p (get_or passes p none) read in
      ap (λ q. map op_of (outcomes_of q desk.unit.steps)) (sym own) ∙ ap (map op_of) (sym agrees.answered) ∙ agrees.ops ∙ ap (ops_at program) own)
  | inr past ↦ (
      let first = begun p in
      let none : ops_at program p ≡ [] = past_end program.lists p past in
      nothing-before (map op_of (outcomes_of p desk.unit.steps)) first.0 (first.1 ∙ ap (λ (own : ProgramValue). ops_at own p) whole.1 ∙ none) ∙ sym none)
]

compared-answers : (desk : DeskValue) (program : ProgramValue) (passes : List PassValue) (fault : RunFault) → AnswersCompare desk.program desk.unit.steps program passes (Err fault) →
    AnswersFinish desk program passes desk.unit (Err fault)
compared-answers desk program passes OutOfMemory answer = absurd answer
compared-answers desk program passes NoThread answer = absurd answer
compared-answers desk program passes (Torn p) answer = answer
compared-answers desk program passes OtherProgram answer = answer

-- what was compared of these steps, which are the unit's
pub compared-steps : (result : Result (Unit {0}) RunFault) (own program : ProgramValue) (steps unit_steps : List Step) (passes : List PassValue) → steps ≡ unit_steps →
    AnswersCompare own steps program passes result → AnswersCompare own unit_steps program passes result
compared-steps result own program steps unit_steps passes are answer = subst (λ xs. AnswersCompare own xs program passes result) are answer

-- a desk whose run isn't whole
pub finishes-torn : (desk : DeskValue) (program : ProgramValue) (passes : List PassValue) (account : Account) (fault : RunFault) (steps : List Step) → steps ≡ desk.unit.steps →
    IsAccountOf steps account → AnswersCompare desk.program desk.unit.steps program passes (Err fault) → Finishes desk program passes account (Err fault)
finishes-torn desk program passes account fault steps are closed answer = record {
  unit = desk.unit;
  drained = TakesDrains-none desk.unit 0 (length program.lists);
  closed = subst (λ xs. IsAccountOf xs account) are closed;
  answered = compared-answers desk program passes fault answer;
  counted = tt;
}

pub finishes-whole : (desk : DeskValue) (program : ProgramValue) (passes : List PassValue) (account : Account) (r : RecordedValue) → AreOpsOf program desk.unit.steps →
    IsWhole desk program passes → Concludes program desk.unit account (Ok r) → Finishes desk program passes account (Ok r)
finishes-whole desk program passes account r ops whole concludes = record {
  unit = concludes.new;
  drained = concludes.drained;
  closed = concludes.closed;
  answered = (whole, concludes.recorded);
  counted = (
    counts_program program concludes.new.steps account
        (subst (AreOpsOf program) (sym concludes.drained.steps)
        (AreOpsOf-drained program 0 (length program.lists) desk.unit.steps concludes.drained.drained concludes.drained.drains ops)) concludes.closed,
    concludes.balanced,
  );
}

pub finishes-refused : (desk : DeskValue) (program : ProgramValue) (passes : List PassValue) (account : Account) (error : AllocError) → IsWhole desk program passes →
    Concludes program desk.unit account (Err error) → Finishes desk program passes account (Err OutOfMemory)
finishes-refused desk program passes account error whole concludes = record {
  unit = concludes.new;
  drained = concludes.drained;
  closed = concludes.closed;
  answered = whole;
  counted = tt;
}
