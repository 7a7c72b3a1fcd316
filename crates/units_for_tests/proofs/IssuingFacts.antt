-- Lemmas on units that take the operations of a program, one after the other.
use Rattle.std.proofs.Common.{◌≡◌, ◌∙◌, sym, ap, refl, subst, ℕ, zero, suc, ◌+◌, ◌≤◌, inl, inr, Some, List, [], ◌∷◌, ◌++◌, length, get_or, slice_get, take, map, append_assoc, arith}
use Rattle.std.proofs.lemmas.Bool.{cases_lt}
use Rattle.std.proofs.lemmas.List.{append-nil, map-append}
use Rattle.tso_ops.specs.declared.ops.Op.{Op}
use Rattle.tso_ops.specs.declared.ops.Outcome.{Outcome}
use Rattle.tso_ops.specs.Values.{ProgramValue, op_of, ops_at}
use Rattle.unit_core.specs.Issues.{step_of}
use Rattle.unit_core.specs.Machine.{outcomes_of}
use Rattle.unit_core.specs.Records.{AreOpsOf}
use Rattle.unit_core.specs.Units.{Takes, UnitValue}
use Rattle.unit_core.proofs.DrainFacts.{KeepsMachine-then}
use Rattle.unit_core.proofs.IssueFacts.{performed-own, performed-other}
use Rattle.unit_core.proofs.OutcomeFacts.{take-next}
use Rattle.units_for_tests.specs.Issues.{Issues, IssuesBelow}

pub Issues-none : (u : UnitValue) (p : ℕ) → Issues u u p []
Issues-none u p = record {
  own = sym (append-nil (map op_of (outcomes_of p u.steps)));
  others = λ q other. refl;
  kept = record { design = refl; lawful = refl; order = refl; first = refl };
}

-- one operation more
pub Issues-next : (old mid new : UnitValue) (p : ℕ) (ops : List Op) (k : ℕ) (op : Op) (outcome : Outcome) → slice_get ops k ≡ Some op → Issues old mid p (take k ops) →
    op_of outcome ≡ op → Takes mid new (step_of p outcome) → Issues old new p (take (k + 1) ops)
Issues-next old mid new p ops k op outcome read so_far is takes = record {
  own =
      ap (map op_of) (performed-own mid new p outcome takes) ∙ map-append op_of (outcomes_of p mid.steps) (outcome ∷ []) ∙ ap (λ o. map op_of (outcomes_of p mid.steps) ++ o ∷ []) is
      ∙ ap (λ xs. xs ++ op ∷ []) so_far.own ∙ append_assoc (map op_of (outcomes_of p old.steps)) (take k ops) (op ∷ [])
      ∙ ap (λ xs. map op_of (outcomes_of p old.steps) ++ xs) (sym (take-next ops k op read));
  others = λ q other. performed-other mid new p q outcome other takes ∙ so_far.others q other;
  kept = KeepsMachine-then old mid new so_far.kept takes.kept;
}

pub IssuesBelow-none : (program : ProgramValue) (u : UnitValue) → u.steps ≡ [] → IssuesBelow program u 0
IssuesBelow-none program u none = record { ops = λ p below. absurd (omega arith); none = λ p past. ap (outcomes_of p) none }

-- one processor more
pub IssuesBelow-next : (program : ProgramValue) (old new : UnitValue) (p : ℕ) → IssuesBelow program old p → Issues old new p (ops_at program p) → IssuesBelow program new (p + 1)
IssuesBelow-next program old new p below issues = record {
  ops =
      λ q under.
      elim (cases_lt q p) [
        | inl before ↦ ap (map op_of) (issues.others q (λ e. absurd (omega (arith, before, e)))) ∙ below.ops q before
        | inr after ↦
            let e : p ≡ q = omega arith in
            let own : map op_of (outcomes_of p new.steps) ≡ ops_at program p =
            issues.own ∙ ap (λ xs. map op_of xs ++ ops_at program p) (below.none p (omega arith)) in
            subst (λ r. map op_of (outcomes_of r new.steps) ≡ ops_at program r) e own
      ];
  none = λ q past. issues.others q (λ e. absurd (omega (arith, past, e))) ∙ below.none q (omega arith);
}

no_ops : (lists : List (List Op)) (p : ℕ) → length lists ≤ p → get_or lists p [] ≡ []
no_ops [] p past = refl
no_ops (ops ∷ lists) zero past = absurd (omega arith)
no_ops (ops ∷ lists) (suc p) past = no_ops lists p (omega arith)

-- all processors
pub AreOpsOf-all : (program : ProgramValue) (u : UnitValue) (past : ℕ) → length program.lists ≤ past → IssuesBelow program u past → AreOpsOf program u.steps
AreOpsOf-all program u past all below p =
    elim (cases_lt p past) [
      | inl before ↦ below.ops p before
      | inr after ↦ ap (map op_of) (below.none p after) ∙ sym (no_ops program.lists p (omega arith))
    ]
