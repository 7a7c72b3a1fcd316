-- Which refusal a certificate gets where it doesn't hold.
use Rattle.std.specs.Prelude.{◌≡◌, ◌≢◌, ◌⊎◌, ℕ, suc, ◌<◌, ◌≤◌, List, [], Some, slice_get, take, All}
use Rattle.tso_ops.specs.Values.{TraceValue}
use Rattle.tso_ops.specs.Events.{event_total, IsUnwritten}
use Rattle.tso_cert.specs.declared.steps.Reason.{Reason}
use Rattle.tso_cert.specs.declared.steps.Reason.TheVariants.{Base, Inferred}
use Rattle.tso_cert.specs.declared.steps.CertStep.{CertStep}
use Rattle.tso_cert.specs.declared.steps.Certificate.{Certificate}
use Rattle.tso_cert.specs.declared.steps.Certificate.TheVariants.{Unwritten, Cycle}
use Rattle.order_paths.specs.Paths.{IsCycle}
use Rattle.tso_model.specs.Certs.{IsStep, MeetsRule, IsPathIn, StepHolds, StepsHold}
use Rattle.cert_check.specs.declared.faults.CertFault.{CertFault}
use Rattle.cert_check.specs.declared.faults.CertFault.TheVariants.{EventRange, NotUnwritten, BaseRefused, SideRefused, PathUnlisted, CycleUnlisted, EmptyCycle}

-- the numbers are none above this one
abbrev pub AreUpTo : ℕ → List ℕ → Type 0
AreUpTo last numbers = All (λ n. n ≤ last) numbers

-- the numbers of a reason are none above this one
abbrev pub IsReasonUpTo : ℕ → Reason → Type 0
IsReasonUpTo last (Base rule) = Unit {0}
IsReasonUpTo last (Inferred rule load path) = (load ≤ last) × AreUpTo last path

-- the numbers of a step are none above this one
abbrev pub IsStepUpTo : ℕ → CertStep → Type 0
IsStepUpTo last s = (s.from ≤ last) × (s.to ≤ last) × IsReasonUpTo last s.reason

-- No number of the certificate is above the number of events, and `init` isn't the unwritten load.
abbrev pub IsInRange : TraceValue → Certificate → Type 0
IsInRange t (Unwritten n) = (0 < n) × (n ≤ event_total t)
IsInRange t (Cycle steps cycle) = All (IsStepUpTo (event_total t)) steps × AreUpTo (event_total t) cycle

-- the certificate has steps and a cycle
abbrev pub HasSteps : Certificate → Type 0
HasSteps (Unwritten n) = ⊥
HasSteps (Cycle steps cycle) = Unit {0}

abbrev pub IsBase : Reason → Type 0
IsBase (Base rule) = Unit {0}
IsBase (Inferred rule load path) = ⊥

-- The step with this number has the fault, after these earlier steps.
abbrev pub HasFault : TraceValue → List CertStep → ℕ → CertStep → CertFault → Type 0
HasFault t earlier number s (BaseRefused k) = (k ≡ number) × IsBase s.reason × (MeetsRule t s.from s.to s.reason → ⊥)
HasFault t earlier number s (SideRefused k) = (k ≡ number) × (IsBase s.reason → ⊥) × (MeetsRule t s.from s.to s.reason → ⊥)
HasFault t earlier number s (PathUnlisted k) = (k ≡ number) × MeetsRule t s.from s.to s.reason × (IsPathIn (λ x y. IsStep earlier x y) s.reason → ⊥)
HasFault t earlier number s EventRange = ⊥
HasFault t earlier number s NotUnwritten = ⊥
HasFault t earlier number s CycleUnlisted = ⊥
HasFault t earlier number s EmptyCycle = ⊥

-- The first step with a fault has this one. Steps count from 1.
pub record IsStepFault (t : TraceValue) (steps : List CertStep) (fault : CertFault) : Type 0 where
  pub place : ℕ
  pub step : CertStep
  pub at : slice_get steps place ≡ Some step
  pub before : (j : ℕ) → j < place → StepHolds t steps j
  pub has : HasFault t (take place steps) (suc place) step fault

-- the fault of a cycle of these steps, which hold
abbrev pub IsCycleFault : List CertStep → List ℕ → CertFault → Type 0
IsCycleFault steps cycle CycleUnlisted = (cycle ≢ []) × (IsCycle (λ x y. IsStep steps x y) cycle → ⊥)
IsCycleFault steps cycle EmptyCycle = cycle ≡ []
IsCycleFault steps cycle (BaseRefused k) = ⊥
IsCycleFault steps cycle (SideRefused k) = ⊥
IsCycleFault steps cycle (PathUnlisted k) = ⊥
IsCycleFault steps cycle EventRange = ⊥
IsCycleFault steps cycle NotUnwritten = ⊥

-- The refusal of steps and a cycle whose numbers are in range: the first step with a fault decides, then the cycle.
abbrev pub IsCycleRefusal : TraceValue → List CertStep → List ℕ → CertFault → Type 0
IsCycleRefusal t steps cycle fault = IsStepFault t steps fault ⊎ (StepsHold t steps × IsCycleFault steps cycle fault)

-- the refusal of a certificate whose numbers are in range
abbrev pub IsRefusalInRange : TraceValue → Certificate → CertFault → Type 0
IsRefusalInRange t (Unwritten n) fault = (fault ≡ NotUnwritten) × (IsUnwritten t n → ⊥)
IsRefusalInRange t (Cycle steps cycle) fault = IsCycleRefusal t steps cycle fault

-- The refusal of a certificate: its numbers before all else.
abbrev pub IsCertRefusal : TraceValue → Certificate → CertFault → Type 0
IsCertRefusal t certificate fault =
    ((fault ≡ EventRange) × (IsInRange t certificate → ⊥))
    ⊎ (IsInRange t certificate × IsRefusalInRange t certificate fault)
