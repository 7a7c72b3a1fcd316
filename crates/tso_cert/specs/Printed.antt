-- The lines of a certificate.
use Rattle.std.specs.Prelude.{ℕ, zero, suc, ◌^◌, ◌<◌, List, [], ◌∷◌, ◌++◌, map, All, codes}
use Rattle.std.specs.List.{flat_map}
use Rattle.std.specs.Fmt.{decimal}
use Rattle.line_text.specs.Lines.{line_text}
use Rattle.tso_cert.specs.declared.rules.BaseRule.{BaseRule}
use Rattle.tso_cert.specs.declared.rules.BaseRule.TheVariants.{Init, LoadOp, StoreStore, Stbar, Membar, Read, Own}
use Rattle.tso_cert.specs.declared.rules.InferredRule.{InferredRule}
use Rattle.tso_cert.specs.declared.rules.InferredRule.TheVariants.{LoadPast, StorePast, SwapBefore, SwapAfter}
use Rattle.tso_cert.specs.declared.steps.Reason.{Reason}
use Rattle.tso_cert.specs.declared.steps.Reason.TheVariants.{Base, Inferred}
use Rattle.tso_cert.specs.declared.steps.CertStep.{CertStep}
use Rattle.tso_cert.specs.declared.steps.Certificate.{Certificate}
use Rattle.tso_cert.specs.declared.steps.Certificate.TheVariants.{Unwritten, Cycle}

abbrev pub base_name : BaseRule → List ℕ
base_name Init = codes "Init"
base_name LoadOp = codes "LoadOp"
base_name StoreStore = codes "StoreStore"
base_name Stbar = codes "Stbar"
base_name Membar = codes "Membar"
base_name Read = codes "Read"
base_name Own = codes "Own"

abbrev pub inferred_name : InferredRule → List ℕ
inferred_name LoadPast = codes "LoadPast"
inferred_name StorePast = codes "StorePast"
inferred_name SwapBefore = codes "SwapBefore"
inferred_name SwapAfter = codes "SwapAfter"

-- an event number: `init` for 0
abbrev pub event_text : ℕ → List ℕ
event_text zero = codes "init"
event_text (suc n) = decimal (suc n)

abbrev pub reason_tokens : Reason → List (List ℕ)
reason_tokens (Base rule) = base_name rule ∷ []
reason_tokens (Inferred rule load path) = inferred_name rule ∷ event_text load ∷ map event_text path

-- the tokens of the step with this number
abbrev pub step_tokens : ℕ → CertStep → List (List ℕ)
step_tokens number s = decimal number ∷ event_text s.from ∷ event_text s.to ∷ reason_tokens s.reason

-- the tokens of the lines of these steps, of which the first has this number
abbrev pub steps_tokens : ℕ → List CertStep → List (List (List ℕ))
steps_tokens number [] = []
steps_tokens number (s ∷ steps) = step_tokens number s ∷ steps_tokens (suc number) steps

-- the tokens of the line of a cycle
abbrev pub cycle_tokens : List ℕ → List (List ℕ)
cycle_tokens cycle = codes "cycle" ∷ map event_text cycle

-- the tokens of the line of an unwritten load
abbrev pub unwritten_tokens : ℕ → List (List ℕ)
unwritten_tokens n = codes "unwritten" ∷ event_text n ∷ []

-- the tokens of the lines of a certificate
abbrev pub cert_tokens : Certificate → List (List (List ℕ))
cert_tokens (Unwritten n) = unwritten_tokens n ∷ []
cert_tokens (Cycle steps cycle) = steps_tokens 1 steps ++ cycle_tokens cycle ∷ []

-- the text of a certificate
unfoldable pub cert_text : Certificate → List ℕ
cert_text c = flat_map line_text (cert_tokens c)

-- ---- numbers that 64 bits hold

abbrev pub Fits : ℕ → Type 0
Fits n = n < 2 ^ 64

abbrev pub ReasonFits : Reason → Type 0
ReasonFits (Base rule) = Unit {0}
ReasonFits (Inferred rule load path) = Fits load × All Fits path

abbrev pub StepFits : CertStep → Type 0
StepFits s = Fits s.from × Fits s.to × ReasonFits s.reason

-- 64 bits hold every number of the certificate
abbrev pub CertFits : Certificate → Type 0
CertFits (Unwritten n) = Fits n
CertFits (Cycle steps cycle) = All StepFits steps × All Fits cycle
