-- The report of two texts, that of a trace and that of a certificate: what is written for them, and the verdict that it gives.
use Rattle.std.specs.Prelude.{◌≡◌, ◌⊎◌, ℕ, List, [], ◌∷◌, ◌++◌, codes}
use Rattle.std.specs.Fmt.{decimal}
use Rattle.tso_ops.specs.Values.{TraceValue}
use Rattle.tso_text.specs.Texts.{SpellsTrace}
use Rattle.tso_cert.specs.declared.faults.CertificateRefusal.{CertificateRefusal}
use Rattle.tso_cert.specs.RefusalNames.{certificate_refusal_name}
use Rattle.tso_cert.specs.declared.steps.Certificate.{Certificate}
use Rattle.tso_cert.specs.Spelling.{SpellsCertificate, IsCertTextRefusal}
use Rattle.tso_model.specs.Certs.{Holds}
use Rattle.cert_check.specs.declared.faults.CertFault.{CertFault}
use Rattle.cert_check.specs.declared.faults.CertFault.TheVariants.{EventRange, NotUnwritten, BaseRefused, SideRefused, PathUnlisted, CycleUnlisted, EmptyCycle}
use Rattle.cert_check.specs.Refusals.{IsCertRefusal}
use Rattle.trace_reports.specs.declared.verdicts.Verdict.{Verdict}
use Rattle.trace_reports.specs.declared.verdicts.Verdict.TheVariants.{Violation, Refused}
use Rattle.trace_judging.specs.Evidence.{IsReportOfTexts}

-- ---- texts

-- the line of a certificate that holds
abbrev pub certificate_holds_text : List ℕ
certificate_holds_text = codes "CERTIFICATE HOLDS" ++ 10 ∷ []

-- the line of a refused text of a certificate
abbrev pub certificate_refusal_text : ℕ → CertificateRefusal → List ℕ
certificate_refusal_text line why = codes "CERTIFICATE REFUSED " ++ certificate_refusal_name why ++ codes " line " ++ decimal line ++ 10 ∷ []

-- the refusal of a certificate, with its step where it has one
abbrev pub fault_text : CertFault → List ℕ
fault_text EventRange = codes "EventRange"
fault_text NotUnwritten = codes "NotUnwritten"
fault_text (BaseRefused step) = codes "BaseRefused step " ++ decimal step
fault_text (SideRefused step) = codes "SideRefused step " ++ decimal step
fault_text (PathUnlisted step) = codes "PathUnlisted step " ++ decimal step
fault_text CycleUnlisted = codes "CycleUnlisted"
fault_text EmptyCycle = codes "EmptyCycle"

-- the line of a certificate that doesn't hold
abbrev pub fails_text : CertFault → List ℕ
fails_text fault = codes "CERTIFICATE REFUSED " ++ fault_text fault ++ 10 ∷ []

-- ---- the report of a certificate's text on a trace

-- the input is the text of a certificate that holds for the trace
abbrev pub SpellsHolding : TraceValue → List ℕ → Type 0
SpellsHolding t input = (c : Certificate) × SpellsCertificate input c × Holds t c

-- it is refused as a text
abbrev pub IsUnreadReport : List ℕ → List ℕ → Type 0
IsUnreadReport input text = (line : ℕ) × (why : CertificateRefusal) × IsCertTextRefusal input line why × (text ≡ certificate_refusal_text line why)

-- it is the text of a certificate that doesn't hold for the trace
abbrev pub IsFailureReport : TraceValue → List ℕ → List ℕ → Type 0
IsFailureReport t input text = (c : Certificate) × (fault : CertFault) × SpellsCertificate input c × IsCertRefusal t c fault × (text ≡ fails_text fault)

-- The text is the report of a certificate's text on the trace.
abbrev pub IsCertReport : TraceValue → List ℕ → List ℕ → Verdict → Type 0
IsCertReport t input text verdict =
    (SpellsHolding t input × (text ≡ certificate_holds_text) × (verdict ≡ Violation))
    ⊎ ((IsFailureReport t input text ⊎ IsUnreadReport input text) × (verdict ≡ Refused))

-- ---- the report of two texts

-- the text is the report of a trace's and a certificate's text
abbrev pub IsCheckReport : List ℕ → List ℕ → List ℕ → Verdict → Type 0
IsCheckReport trace cert text verdict = IsReportOfTexts IsCertReport Refused trace cert text verdict

-- the texts are those of a trace and of a certificate that holds for it
abbrev pub SpellHolding : List ℕ → List ℕ → Type 0
SpellHolding trace cert = (t : TraceValue) × SpellsTrace trace t × SpellsHolding t cert
