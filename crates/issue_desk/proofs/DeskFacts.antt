-- What a desk keeps after an issue and after a drain.
use Rattle.std.proofs.Common.{◌≡◌, ◌∙◌, sym, ap, refl, subst, ℕ, zero, suc, ◌+◌, ◌<◌, inl, inr, Bool, true, false, Some, List, [], ◌∷◌, ◌++◌, length, get_or, set, slice_get, map, replicate, append_assoc, length-set, arith}
use Rattle.std.proofs.lemmas.Bool.{cases_eq}
use Rattle.std.proofs.lemmas.List.{map-append, get_or-set_same, get_or-set_other, length-append, length-map, length-replicate}
use Rattle.tso_ops.specs.declared.ops.Op.{Op}
use Rattle.tso_ops.specs.declared.ops.Outcome.{Outcome}
use Rattle.tso_ops.specs.Limits.{IsProgram}
use Rattle.tso_ops.specs.Values.{ProgramValue, op_of, ops_at}
use Rattle.unit_core.specs.declared.steps.Step.{Step}
use Rattle.unit_core.specs.Issues.{step_of}
use Rattle.unit_core.specs.Machine.{IsFirstMemory, outcomes_of}
use Rattle.unit_core.specs.Replays.{AreFirstOpsOf}
use Rattle.unit_core.specs.Units.{UnitValue, AnswersDrain, IsUnit, Takes}
use Rattle.unit_core.proofs.DrainFacts.{TakesDrains-one}
use Rattle.unit_core.proofs.IssueFacts.{performed-own, performed-other}
use Rattle.unit_core.proofs.OutcomeFacts.{outcomes_of-drained}
use Rattle.unit_core.proofs.ReplayFacts.{KeepsMachine-drain}
use Rattle.issue_desk.specs.Desks.{PassValue, DrainsUnit, IsDesk, IssuesNext}
use Rattle.issue_desk.specs.Internal.Issued.{CountsIssued, IsAnswered}

-- ---- an issue

-- what is left begins with the next operation
next_of_rest : (xs rest ops : List Op) (op : Op) → xs ++ rest ≡ ops → slice_get ops (length xs) ≡ Some op → (others : List Op) × (rest ≡ op ∷ others)
next_of_rest xs rest ops op whole next = go xs rest (ap (λ os. slice_get os (length xs)) whole ∙ next)
  where
    go : (ys more : List Op) → slice_get (ys ++ more) (length ys) ≡ Some op → (others : List Op) × (more ≡ op ∷ others)
    go [] [] read = absurd cc
    go [] (o ∷ more) read = (more, ap (λ first. first ∷ more) cc)
    go (y ∷ ys) more read = go ys more read

-- so many operations were issued, and the next one is this
next_here : (program : ProgramValue) (steps : List Step) (p : ℕ) (op : Op) → AreFirstOpsOf program steps → slice_get (ops_at program p) (length (outcomes_of p steps)) ≡ Some op →
    (others : List Op) × (map op_of (outcomes_of p steps) ++ op ∷ others ≡ ops_at program p)
next_here program steps p op first next =
    let f = first p in
    let xs = map op_of (outcomes_of p steps) in
    let r = next_of_rest xs f.0 (ops_at program p) op f.1 (ap (slice_get (ops_at program p)) (length-map (outcomes_of p steps) op_of) ∙ next) in
    (r.0, ap (λ rest. xs ++ rest) (sym r.1) ∙ f.1)

first-next : (program : ProgramValue) (old new : UnitValue) (p : ℕ) (op : Op) (outcome : Outcome) → AreFirstOpsOf program old.steps →
    slice_get (ops_at program p) (length (outcomes_of p old.steps)) ≡ Some op → op_of outcome ≡ op → Takes old new (step_of p outcome) → AreFirstOpsOf program new.steps
first-next program old new p op outcome first next is takes q = elim (cases_eq q p) [
  | inl e ↦ rw e own
  | inr other ↦ rw (performed-other old new p q outcome other takes) (first q)
]
  where
    own : (rest : List Op) × (map op_of (outcomes_of p new.steps) ++ rest ≡ ops_at program p)
    own =
        let r = next_here program old.steps p op first next in
        let xs = map op_of (outcomes_of p old.steps) in (
          r.0,
          ap (λ os. map op_of os ++ r.0) (performed-own old new p outcome takes) ∙ ap (λ os. os ++ r.0) (map-append op_of (outcomes_of p old.steps) (outcome ∷ []))
              ∙ append_assoc xs (op_of outcome ∷ []) r.0 ∙ ap (λ o. xs ++ o ∷ r.0) is ∙ r.1,
        )

counts-next : (program : ProgramValue) (old new : UnitValue) (issued : List ℕ) (p : ℕ) (outcome : Outcome) → p < length program.lists → Takes old new (step_of p outcome) →
    CountsIssued (record { program = program; unit = old }) issued → CountsIssued (record { program = program; unit = new }) (set issued p (get_or issued p 0 + 1))
counts-next program old new issued p outcome below takes so_far = record {
  processors = length-set issued p n ∙ so_far.processors;
  counts = λ q there. elim (cases_eq q p) [
    | inl e ↦ rw e (get_or-set_same issued p n 0 (omega (arith, below, so_far.processors)) ∙ ap (λ k. k + 1) (so_far.counts p below)
        ∙ sym (length-append (outcomes_of p old.steps) (outcome ∷ [])) ∙ ap length (sym (performed-own old new p outcome takes)))
    | inr other ↦ get_or-set_other issued p q n 0 other ∙ so_far.counts q there ∙ ap length (sym (performed-other old new p q outcome other takes))
  ];
}
  where
    n : ℕ
    n = get_or issued p 0 + 1

-- the desk after an issue of processor p, of which n operations were issued
pub desk-issued : (program : ProgramValue) (old new : UnitValue) (issued : List ℕ) (before after : PassValue) (op : Op) (p n : ℕ) → p ≡ before.processor → n ≡ get_or issued p 0 →
    p < length program.lists → slice_get (ops_at program p) n ≡ Some op → IsUnit new → IsAnswered old new before after op →
    IsDesk (record { program = program; unit = old }) → CountsIssued (record { program = program; unit = old }) issued →
    IsDesk (record { program = program; unit = new }) × CountsIssued (record { program = program; unit = new }) (set issued p (n + 1))
desk-issued program old new issued before after op p n same count below read unit answer kept so_far =
    let takes : Takes old new (step_of p answer.outcome) = subst (λ q. Takes old new (step_of q answer.outcome)) (sym same) answer.taken in (
      record {
        program = kept.program;
        first = subst (IsFirstMemory program.setting.first) (sym answer.taken.kept.first) kept.first;
        unit = unit;
        begun = first-next program old new p op answer.outcome kept.begun (ap (slice_get (ops_at program p)) (sym (count ∙ so_far.counts p below)) ∙ read) answer.is takes;
      },
      rw count (counts-next program old new issued p answer.outcome below takes so_far),
    )

pub issues-next : (program : ProgramValue) (old new : UnitValue) (issued : List ℕ) (before after : PassValue) (op : Op) (p n : ℕ) → p ≡ before.processor → n ≡ get_or issued p 0 →
    p < length program.lists → slice_get (ops_at program p) n ≡ Some op → IsAnswered old new before after op → CountsIssued (record { program = program; unit = old }) issued →
    IssuesNext (record { program = program; unit = old }) (record { program = program; unit = new }) before after
issues-next program old new issued before after op p n same count below read answer so_far = record {
  outcome = answer.outcome;
  next = rw (sym same) (ap (slice_get (ops_at program p)) (sym (count ∙ so_far.counts p below)) ∙ read ∙ ap Some (sym answer.is));
  taken = answer.taken;
  pass = answer.pass;
  program = refl;
  others = λ q other. ap (λ os. slice_get (ops_at program q) (length os)) (performed-other old new before.processor q answer.outcome other answer.taken);
}

-- ---- a drain

outcomes-drained : (old new : UnitValue) (p : ℕ) (some : Bool) → AnswersDrain old new p some → (q : ℕ) → outcomes_of q new.steps ≡ outcomes_of q old.steps
outcomes-drained old new p true answer q =
    let drains = TakesDrains-one old new p answer in
    ap (outcomes_of q) drains.steps ∙ outcomes_of-drained q p (suc p) old.steps drains.drained drains.drains
outcomes-drained old new p false answer q = ap (λ (u : UnitValue). outcomes_of q u.steps) answer.1

-- the desk after a drain
pub desk-drained : (program : ProgramValue) (old new : UnitValue) (issued : List ℕ) (p : ℕ) (some : Bool) → IsUnit new → AnswersDrain old new p some →
    IsDesk (record { program = program; unit = old }) → CountsIssued (record { program = program; unit = old }) issued →
    IsDesk (record { program = program; unit = new }) × CountsIssued (record { program = program; unit = new }) issued
desk-drained program old new issued p some unit answer kept so_far =
    let same = outcomes-drained old new p some answer in (
      record {
        program = kept.program;
        first = subst (IsFirstMemory program.setting.first) (sym (KeepsMachine-drain p some old new answer).first) kept.first;
        unit = unit;
        begun = λ q. rw (same q) (kept.begun q);
      },
      record { processors = so_far.processors; counts = λ q there. so_far.counts q there ∙ ap length (sym (same q)) },
    )

pub drains-unit : (program : ProgramValue) (old new : UnitValue) (p : ℕ) (some : Bool) → AnswersDrain old new p some →
    DrainsUnit (record { program = program; unit = old }) (record { program = program; unit = new }) p some
drains-unit program old new p some answer = record {
  drained = answer;
  program = refl;
  next = λ q. ap (λ os. slice_get (ops_at program q) (length os)) (outcomes-drained old new p some answer q);
}

-- ---- a new desk

zeros : (n p : ℕ) → ◌≡◌ {A = ℕ} (get_or (replicate n 0) p 0) 0
zeros zero p = refl
zeros (suc n) zero = refl
zeros (suc n) (suc p) = zeros n p

pub desk-new : (program : ProgramValue) (unit : UnitValue) (issued : List ℕ) → IsProgram program → IsFirstMemory program.setting.first unit.first → IsUnit unit → unit.steps ≡ [] →
    issued ≡ replicate (length program.lists) 0 → IsDesk (record { program = program; unit = unit }) × CountsIssued (record { program = program; unit = unit }) issued
desk-new program unit issued kept first law fresh none = (
  record { program = kept; first = first; unit = law; begun = λ p. (ops_at program p, ap (λ steps. map op_of (outcomes_of p steps) ++ ops_at program p) fresh) },
  record {
    processors = ap length none ∙ length-replicate (length program.lists) 0;
    counts = λ p below. ap (λ xs. get_or xs p 0) none ∙ zeros (length program.lists) p ∙ ap (λ steps. length (outcomes_of p steps)) (sym fresh);
  },
)
