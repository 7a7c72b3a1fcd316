-- The lines of evidence. Steps, cycles, unwritten loads and event numbers are written as in certificates.
use Rattle.std.specs.Prelude.{ℕ, suc, List, [], ◌∷◌, map, All, codes}
use Rattle.std.specs.List.{flat_map}
use Rattle.std.specs.Fmt.{decimal}
use Rattle.line_text.specs.Lines.{line_text}
use Rattle.tso_cert.specs.Printed.{event_text, step_tokens, cycle_tokens, unwritten_tokens, Fits, StepFits}
use Rattle.tso_evidence.specs.declared.refutations.RefutationLine.{RefutationLine}
use Rattle.tso_evidence.specs.declared.refutations.RefutationLine.TheVariants.{Step, Case, Else, Cycle}
use Rattle.tso_evidence.specs.declared.evidence.Evidence.{Evidence}
use Rattle.tso_evidence.specs.declared.evidence.Evidence.TheVariants.{Unwritten, Order, Refutation}

-- the tokens of a line of this number that supposes an event before another: a case, or its other side
abbrev pub supposed_tokens : ℕ → ℕ → ℕ → List ℕ → List (List ℕ)
supposed_tokens number first second word = decimal number ∷ event_text first ∷ event_text second ∷ word ∷ []

-- the tokens of a line of a refutation, whose number is this one where it has any
abbrev pub line_tokens : ℕ → RefutationLine → List (List ℕ)
line_tokens number (Step s) = step_tokens number s
line_tokens number (Case first second) = supposed_tokens number first second (codes "Case")
line_tokens number (Else first second) = supposed_tokens number first second (codes "Else")
line_tokens number (Cycle cycle) = cycle_tokens cycle

-- the number after that of a line: lines of cycles have none
abbrev pub number_after : ℕ → RefutationLine → ℕ
number_after number (Cycle cycle) = number
number_after number _ = suc number

-- the number after those of lines, of which the first has this number
abbrev pub number_past : ℕ → List RefutationLine → ℕ
number_past number [] = number
number_past number (line ∷ lines) = number_past (number_after number line) lines

-- the tokens of the lines of a refutation, of which the first has this number
abbrev pub lines_tokens : ℕ → List RefutationLine → List (List (List ℕ))
lines_tokens number [] = []
lines_tokens number (line ∷ lines) = line_tokens number line ∷ lines_tokens (number_after number line) lines

-- the tokens of the line of an order
abbrev pub order_tokens : List ℕ → List (List ℕ)
order_tokens order = codes "order" ∷ map event_text order

-- the tokens of the lines of evidence
abbrev pub evidence_tokens : Evidence → List (List (List ℕ))
evidence_tokens (Unwritten n) = unwritten_tokens n ∷ []
evidence_tokens (Order order) = order_tokens order ∷ []
evidence_tokens (Refutation lines) = lines_tokens 1 lines

-- the text of evidence
unfoldable pub evidence_text : Evidence → List ℕ
evidence_text e = flat_map line_text (evidence_tokens e)

-- ---- numbers that 64 bits hold

-- 64 bits hold every number of the line
abbrev pub LineFits : RefutationLine → Type 0
LineFits (Step s) = StepFits s
LineFits (Case first second) = Fits first × Fits second
LineFits (Else first second) = Fits first × Fits second
LineFits (Cycle cycle) = All Fits cycle

-- 64 bits hold every number of the evidence
abbrev pub EvidenceFits : Evidence → Type 0
EvidenceFits (Unwritten n) = Fits n
EvidenceFits (Order order) = All Fits order
EvidenceFits (Refutation lines) = All LineFits lines
