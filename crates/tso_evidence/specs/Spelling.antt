-- What the text of evidence spells, and how it is refused: its first line with a fault, and that fault.
use Rattle.std.specs.Prelude.{◌≡◌, ◌≢◌, ◌⊎◌, ℕ, ◌==◌, ◌||◌, Bool, true, false, List, [], get_or, drop, All, codes, if◌then◌else◌}
use Rattle.std.specs.List.{flat_map}
use Rattle.std.specs.Str.{bytes_eq}
use Rattle.line_text.specs.Lines.{line_text, parts_of}
use Rattle.line_text.specs.Refusals.{IsRefusedAfter, ArePartsRefused}
use Rattle.tso_cert.specs.Spelling.{IsEventToken, is_last_line, has_form as has_certificate_form, HasStepNumbers}
use Rattle.tso_evidence.specs.declared.refutations.RefutationLine.{RefutationLine}
use Rattle.tso_evidence.specs.declared.evidence.Evidence.{Evidence}
use Rattle.tso_evidence.specs.declared.evidence.Evidence.TheVariants.{Refutation}
use Rattle.tso_evidence.specs.declared.faults.EvidenceFault.{EvidenceFault}
use Rattle.tso_evidence.specs.declared.faults.EvidenceFault.TheVariants.{BadLine, BadNumber, BadRule, AfterEnd}
use Rattle.tso_evidence.specs.Printed.{line_tokens, number_past, lines_tokens, evidence_text, LineFits, EvidenceFits}

-- The text spells the evidence: it is its text, and 64 bits hold each number.
abbrev pub SpellsEvidence : List ℕ → Evidence → Type 0
SpellsEvidence text e = EvidenceFits e × (text ≡ evidence_text e)

-- ---- the faults of a line

-- the line is that of an order, by its first token
abbrev pub is_order_line : List (List ℕ) → Bool
is_order_line tokens = bytes_eq (get_or tokens 0 []) (codes "order")

-- a line `order` on line 1; or a line `cycle`, a line `unwritten` of two tokens on line 1, or another of at least four, as in certificates
abbrev pub has_evidence_form : ℕ → List (List ℕ) → Bool
has_evidence_form line tokens = if is_order_line tokens then line == 1 else has_certificate_form line tokens

-- The line of the text has the fault, by its tokens; it has the number where it is no line `cycle`, `unwritten` or `order`.
abbrev pub IsEvidenceLineFault : ℕ → ℕ → List (List ℕ) → EvidenceFault → Type 0
IsEvidenceLineFault line number tokens BadLine = has_evidence_form line tokens ≡ false
IsEvidenceLineFault line number tokens BadNumber =
    (has_evidence_form line tokens ≡ true) × ((is_order_line tokens || is_last_line tokens) ≡ true → All IsEventToken (drop 1 tokens) → ⊥) × (HasStepNumbers number tokens → ⊥)
IsEvidenceLineFault line number tokens BadRule = HasStepNumbers number tokens × ((l : RefutationLine) → tokens ≡ line_tokens number l → ⊥)
IsEvidenceLineFault line number tokens _ = ⊥

-- ---- texts

-- an unwritten load or an order: evidence of one line, which nothing may follow
abbrev pub IsOfOneLine : Evidence → Type 0
IsOfOneLine (Refutation lines) = ⊥
IsOfOneLine _ = Unit {0}

-- The refusal of a text: its line after those of a refutation has a fault or no line end, or bytes follow the line of an unwritten load or an order.
unfoldable pub IsEvidenceTextRefusal : List ℕ → ℕ → EvidenceFault → Type 0
IsEvidenceTextRefusal text line why =
    ((lines : List RefutationLine) × All LineFits lines
    × IsRefusedAfter text (flat_map line_text (lines_tokens 1 lines)) line (λ rest. (rest ≢ []) × ArePartsRefused BadLine BadLine (IsEvidenceLineFault line (number_past 1 lines)) (parts_of rest) why))
    ⊎ ((e : Evidence) × (IsOfOneLine e × EvidenceFits e) × IsRefusedAfter text (evidence_text e) line (λ rest. (rest ≢ []) × (why ≡ AfterEnd)))

-- some evidence, some refusal
abbrev pub IsSpelledEvidence : List ℕ → Type 0
IsSpelledEvidence text = (e : Evidence) × SpellsEvidence text e

abbrev pub IsRefusedEvidence : List ℕ → Type 0
IsRefusedEvidence text = (line : ℕ) × (why : EvidenceFault) × IsEvidenceTextRefusal text line why
