-- What a reader makes of one line. Faults are those of certificates' lines.
use Rattle.std.specs.Prelude.{ℕ, ◌==◌, List, [], ◌∷◌, Result, Ok, Err, codes, if◌then◌else◌}
use Rattle.std.specs.Str.{bytes_eq}
use Rattle.line_text.specs.Results.{◌>>=◌}
use Rattle.tso_cert.specs.declared.faults.CertificateRefusal.{CertificateRefusal}
use Rattle.tso_cert.specs.declared.faults.CertificateRefusal.TheVariants.{BadLine, BadNumber, BadRule, OutOfMemory}
use Rattle.tso_cert.specs.Internal.LineValues.{events, edge_said, reason_said, unwritten_said}
use Rattle.tso_evidence.specs.declared.refutations.RefutationLine.{RefutationLine}
use Rattle.tso_evidence.specs.declared.refutations.RefutationLine.TheVariants.{Step, Case, Else, Cycle}
use Rattle.tso_evidence.specs.declared.lines.Line.{Line}
use Rattle.tso_evidence.specs.declared.lines.Line.TheVariants.{Refuting, Unwritten, Order}
use Rattle.tso_evidence.specs.declared.faults.EvidenceFault.{EvidenceFault}
use Rattle.tso_evidence.specs.declared.faults.EvidenceFault.TheVariants.{BadLine as LineIsBad, BadNumber as NumberIsBad, BadRule as RuleIsBad, OutOfMemory as MemoryIsOut}

-- the fault of evidence, of that of a line
abbrev pub line_fault : CertificateRefusal → EvidenceFault
line_fault BadNumber = NumberIsBad
line_fault BadRule = RuleIsBad
line_fault OutOfMemory = MemoryIsOut
line_fault _ = LineIsBad

-- the step of this reason
abbrev pub step_of : ℕ → ℕ → List ℕ → List (List ℕ) → Result RefutationLine CertificateRefusal
step_of u v name tokens = reason_said name tokens >>= λ r. Ok (Step (record { from = u; to = v; reason = r }))

-- the line from one event to another of this name and the tokens after it
unfoldable pub named_said : ℕ → ℕ → List ℕ → List (List ℕ) → Result RefutationLine CertificateRefusal
named_said u v name [] =
    if bytes_eq name (codes "Case") then Ok (Case u v)
    else if bytes_eq name (codes "Else") then Ok (Else u v)
    else step_of u v name []
named_said u v name (load ∷ path) = step_of u v name (load ∷ path)

-- the step, case or other side of a line's number and tokens
unfoldable pub numbered_said : ℕ → List (List ℕ) → Result RefutationLine CertificateRefusal
numbered_said number tokens = edge_said number tokens >>= λ e. named_said e.0 e.1 e.2 e.3

-- the events of a line `order` on this line, with these tokens after the keyword
unfoldable pub order_said : ℕ → List (List ℕ) → Result (List ℕ) CertificateRefusal
order_said line tokens = if line == 1 then events tokens else Err BadLine

-- What the line of these tokens says, or its fault of the least number.
unfoldable pub evidence_line_said : ℕ → ℕ → List (List ℕ) → Result Line CertificateRefusal
evidence_line_said line number [] = Err BadLine
evidence_line_said line number (word ∷ tokens) =
    if bytes_eq word (codes "cycle") then (events tokens >>= λ cycle. Ok (Refuting (Cycle cycle)))
    else if bytes_eq word (codes "unwritten") then (unwritten_said line tokens >>= λ n. Ok (Unwritten n))
    else if bytes_eq word (codes "order") then (order_said line tokens >>= λ order. Ok (Order order))
    else numbered_said number (word ∷ tokens) >>= λ l. Ok (Refuting l)
