-- What the text of a certificate spells, and how it is refused: its first line with a fault, after the lines of steps, and that fault.
use Rattle.std.specs.Prelude.{◌≡◌, ◌≢◌, ◌⊎◌, ℕ, suc, ◌==◌, ◌&&◌, ◌||◌, Bool, true, false, nat_le, List, [], ◌∷◌, length, get_or, drop, All, codes, if◌then◌else◌}
use Rattle.std.specs.List.{flat_map}
use Rattle.std.specs.Str.{bytes_eq}
use Rattle.std.specs.Fmt.{decimal}
use Rattle.line_text.specs.Lines.{line_text, parts_of}
use Rattle.line_text.specs.Refusals.{IsRefusedAfter, ArePartsRefused}
use Rattle.tso_cert.specs.declared.steps.CertStep.{CertStep}
use Rattle.tso_cert.specs.declared.steps.Certificate.{Certificate}
use Rattle.tso_cert.specs.declared.faults.CertificateRefusal.{CertificateRefusal}
use Rattle.tso_cert.specs.declared.faults.CertificateRefusal.TheVariants.{BadLine, BadNumber, BadRule, NoCycle, AfterCycle}
use Rattle.tso_cert.specs.Printed.{event_text, step_tokens, steps_tokens, cert_text, Fits, StepFits, CertFits}

-- The text spells the certificate: it is its text, and 64 bits hold each number.
abbrev pub SpellsCertificate : List ℕ → Certificate → Type 0
SpellsCertificate text c = CertFits c × (text ≡ cert_text c)

-- ---- the faults of a line

-- the token is the number of an event
abbrev pub IsEventToken : List ℕ → Type 0
IsEventToken token = (n : ℕ) × Fits n × (token ≡ event_text n)

-- the line is the last of a certificate, by its first token
abbrev pub is_last_line : List (List ℕ) → Bool
is_last_line tokens = bytes_eq (get_or tokens 0 []) (codes "cycle") || bytes_eq (get_or tokens 0 []) (codes "unwritten")

-- a line `cycle`, a line `unwritten` of two tokens on line 1, or another of at least four
abbrev pub has_form : ℕ → List (List ℕ) → Bool
has_form number tokens =
    if bytes_eq (get_or tokens 0 []) (codes "cycle") then true
    else if bytes_eq (get_or tokens 0 []) (codes "unwritten") then number == 1 && length tokens == 2
    else nat_le 4 (length tokens)

-- the tokens of a step line but for the name of its rule: the line's number, and numbers of events
abbrev pub HasStepNumbers : ℕ → List (List ℕ) → Type 0
HasStepNumbers number (first ∷ from ∷ to ∷ name ∷ tokens) = (first ≡ decimal number) × All IsEventToken (from ∷ to ∷ tokens)
HasStepNumbers number _ = ⊥

-- The line of this number and these tokens has the fault.
abbrev pub IsLineFault : ℕ → List (List ℕ) → CertificateRefusal → Type 0
IsLineFault number tokens BadLine = has_form number tokens ≡ false
IsLineFault number tokens BadNumber = (has_form number tokens ≡ true) × (is_last_line tokens ≡ true → All IsEventToken (drop 1 tokens) → ⊥) × (HasStepNumbers number tokens → ⊥)
IsLineFault number tokens BadRule = HasStepNumbers number tokens × ((s : CertStep) → tokens ≡ step_tokens number s → ⊥)
IsLineFault number tokens _ = ⊥

-- ---- texts

-- The refusal of a text: its line after those of steps has a fault or no line end, or bytes follow the whole text of a certificate.
unfoldable pub IsCertTextRefusal : List ℕ → ℕ → CertificateRefusal → Type 0
IsCertTextRefusal text line why =
    ((steps : List CertStep) × All StepFits steps × IsRefusedAfter text (flat_map line_text (steps_tokens 1 steps)) line (λ rest. ArePartsRefused NoCycle BadLine (IsLineFault (suc (length steps))) (parts_of rest) why))
    ⊎ ((c : Certificate) × CertFits c × IsRefusedAfter text (cert_text c) line (λ rest. (rest ≢ []) × (why ≡ AfterCycle)))

-- some certificate, some refusal
abbrev pub IsSpelled : List ℕ → Type 0
IsSpelled text = (c : Certificate) × SpellsCertificate text c

abbrev pub IsRefused : List ℕ → Type 0
IsRefused text = (line : ℕ) × (why : CertificateRefusal) × IsCertTextRefusal text line why
