-- What the check answers.
use Rattle.std.proofs.Common.{◌≡◌, inr, List, [], Option, None, Some, Result, Ok, Err, IsOk, OnOk, MatchOption, MatchResult, refl}
use Rattle.tso_ops.specs.Values.{TraceValue}
use Rattle.tso_ops.specs.Limits.{IsTrace}
use Rattle.tso_ops.proofs.NumberFacts.{own_values}
use Rattle.tso_model.specs.Axioms.{IsConsistent}
use Rattle.tso_evidence.specs.declared.refutations.RefutationLine.{RefutationLine}
use Rattle.tso_evidence.specs.Refutations.{IsRefutation}
use Rattle.refutation_check.specs.declared.faults.RefutationFault.{RefutationFault}
use Rattle.refutation_check.specs.Refutations.{RefutationHolds}
use Rattle.refutation_check.specs.Refusals.{AreLinesInRange, IsStructureFault, IsRefutationRefusal}
use Rattle.refutation_check.specs.Internal.Walks.{Walks}
use Rattle.refutation_check.proofs.TreeFacts.{not_consistent}
use Rattle.refutation_check.proofs.WalkFacts.{walked_through, walked_to_fault}
use Rattle.refutation_check.proofs.RefusalFacts.{not_refused}

pub structure_of_none : (lines : List RefutationLine) (o : Option RefutationFault) → o ≡ None → MatchOption o (IsRefutation lines) (IsStructureFault lines) → IsRefutation lines
structure_of_none lines None none told = told
structure_of_none lines (Some fault) none told = absurd cc

-- of lines of a refutation whose numbers are in range
pub told_of_walk : (t : TraceValue) (lines : List RefutationLine) (r : Result (Unit {0}) RefutationFault) → IsRefutation lines → AreLinesInRange t lines →
    MatchResult r (λ _. Walks t [] [] 1 lines None) (λ fault. Walks t [] [] 1 lines (Some fault)) →
    MatchResult r (λ _. RefutationHolds t lines) (IsRefutationRefusal t lines)
told_of_walk t lines (Ok x) whole range walks = walked_through t lines whole.0 whole.1 walks
told_of_walk t lines (Err fault) whole range walks = inr (inr (range, walked_to_fault t lines whole.0 fault whole.1 walks))

pub told_no_order : (t : TraceValue) (lines : List RefutationLine) (r : Result (Unit {0}) RefutationFault) → IsTrace t →
    MatchResult r (λ _. RefutationHolds t lines) (IsRefutationRefusal t lines) → OnOk r (IsConsistent t → ⊥)
told_no_order t lines (Ok x) trace told = not_consistent t (own_values t trace) lines told
told_no_order t lines (Err fault) trace told = tt

pub told_accepted : (t : TraceValue) (lines : List RefutationLine) (r : Result (Unit {0}) RefutationFault) →
    MatchResult r (λ _. RefutationHolds t lines) (IsRefutationRefusal t lines) → RefutationHolds t lines → IsOk r
told_accepted t lines (Ok x) told holds = refl
told_accepted t lines (Err fault) told holds = absurd (not_refused t lines fault holds told)
