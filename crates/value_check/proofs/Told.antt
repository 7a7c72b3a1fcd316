-- What the check of a refutation answers.
use Rattle.std.proofs.Common.{◌≡◌, inr, List, Option, None, Some, Result, Ok, Err, IsOk, OnOk, MatchOption, MatchResult, refl}
use Rattle.tso_ops.specs.Values.{TraceValue}
use Rattle.tso_model.specs.Axioms.{IsConsistent}
use Rattle.value_evidence.specs.declared.refutations.ValueRefutationLine.{ValueRefutationLine}
use Rattle.value_evidence.specs.Refutations.{IsValueRefutation, ValueRefutationHolds}
use Rattle.value_evidence.proofs.RefutationSoundness.{no_order_beside}
use Rattle.value_check.specs.declared.refusals.ValueRefutationFault.{ValueRefutationFault}
use Rattle.value_check.specs.RefutationRefusals.{IsValueStructureFault, IsValueRefutationRefusal}
use Rattle.value_check.specs.Internal.InForce.{start}
use Rattle.value_check.specs.Internal.Walks.{Walks}
use Rattle.value_check.proofs.RefusalFacts.{not_refused}
use Rattle.value_check.proofs.WalkFacts.{walked_through, walked_to_fault}

pub structure_of_none : (lines : List ValueRefutationLine) (o : Option ValueRefutationFault) → o ≡ None →
    MatchOption o (IsValueRefutation lines) (IsValueStructureFault lines) → IsValueRefutation lines
structure_of_none lines None none told = told
structure_of_none lines (Some fault) none told = absurd cc

-- of lines of a refutation
pub told_of_walk : (t : TraceValue) (lines : List ValueRefutationLine) (r : Result (Unit {0}) ValueRefutationFault) → IsValueRefutation lines →
    MatchResult r (λ _. Walks t start 1 lines None) (λ fault. Walks t start 1 lines (Some fault)) →
    MatchResult r (λ _. ValueRefutationHolds t lines) (IsValueRefutationRefusal t lines)
told_of_walk t lines (Ok x) whole walks = walked_through t lines whole.0 whole.1 walks
told_of_walk t lines (Err fault) whole walks = inr (walked_to_fault t lines whole.0 fault whole.1 walks)

pub told_no_order : (t : TraceValue) (lines : List ValueRefutationLine) (r : Result (Unit {0}) ValueRefutationFault) →
    MatchResult r (λ _. ValueRefutationHolds t lines) (IsValueRefutationRefusal t lines) → OnOk r (IsConsistent t → ⊥)
told_no_order t lines (Ok x) told = no_order_beside t lines told
told_no_order t lines (Err fault) told = tt

pub told_accepted : (t : TraceValue) (lines : List ValueRefutationLine) (r : Result (Unit {0}) ValueRefutationFault) →
    MatchResult r (λ _. ValueRefutationHolds t lines) (IsValueRefutationRefusal t lines) → ValueRefutationHolds t lines → IsOk r
told_accepted t lines (Ok x) told holds = refl
told_accepted t lines (Err fault) told holds = absurd (not_refused t lines fault holds told)
