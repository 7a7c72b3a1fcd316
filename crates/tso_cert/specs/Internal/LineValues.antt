-- What a reader makes of one line.
use Rattle.std.specs.Prelude.{ℕ, zero, suc, ◌==◌, List, [], ◌∷◌, Option, Some, None, Result, Ok, Err, codes, if◌then◌else◌}
use Rattle.std.specs.Str.{bytes_eq}
use Rattle.std.specs.Fmt.{decimal}
use Rattle.line_text.specs.Numbers.{number}
use Rattle.line_text.specs.Results.{◌>>=◌}
use Rattle.tso_cert.specs.declared.rules.BaseRule.{BaseRule}
use Rattle.tso_cert.specs.declared.rules.BaseRule.TheVariants.{Init, LoadOp, StoreStore, Stbar, Membar, Read, Own}
use Rattle.tso_cert.specs.declared.rules.InferredRule.{InferredRule}
use Rattle.tso_cert.specs.declared.rules.InferredRule.TheVariants.{LoadPast, StorePast, SwapBefore, SwapAfter}
use Rattle.tso_cert.specs.declared.steps.Reason.{Reason}
use Rattle.tso_cert.specs.declared.steps.Reason.TheVariants.{Base, Inferred}
use Rattle.tso_cert.specs.declared.steps.CertStep.{CertStep}
use Rattle.tso_cert.specs.declared.lines.Line.{Line}
use Rattle.tso_cert.specs.declared.lines.Line.TheVariants.{Step, Cycle, Unwritten}
use Rattle.tso_cert.specs.declared.faults.CertificateRefusal.{CertificateRefusal}
use Rattle.tso_cert.specs.declared.faults.CertificateRefusal.TheVariants.{BadLine, BadNumber, BadRule}
use Rattle.tso_cert.specs.Printed.{base_name, inferred_name}

-- a number above 0
abbrev pub above_zero : Option ℕ → Option ℕ
above_zero None = None
above_zero (Some zero) = None
above_zero (Some (suc n)) = Some (suc n)

-- the event number that a token spells: `init` for 0, else a number from 1
abbrev pub event_number : List ℕ → Option ℕ
event_number token = if bytes_eq token (codes "init") then Some 0 else above_zero (number token)

abbrev pub or_bad_event : Option ℕ → Result ℕ CertificateRefusal
or_bad_event None = Err BadNumber
or_bad_event (Some n) = Ok n

-- the event number of a token, or its fault
abbrev pub event : List ℕ → Result ℕ CertificateRefusal
event token = or_bad_event (event_number token)

-- the event numbers of tokens, or their fault
abbrev pub events : List (List ℕ) → Result (List ℕ) CertificateRefusal
events [] = Ok []
events (token ∷ tokens) = event token >>= λ n. events tokens >>= λ ns. Ok (n ∷ ns)

-- the first of these rules that has the name
abbrev pub named : {R : Type 0} → (R → List ℕ) → List R → List ℕ → Result R CertificateRefusal
named name_of [] name = Err BadRule
named name_of (rule ∷ rules) name = if bytes_eq name (name_of rule) then Ok rule else named name_of rules name

-- the rules in their order
abbrev pub base_rules : List BaseRule
base_rules = Init ∷ LoadOp ∷ StoreStore ∷ Stbar ∷ Membar ∷ Read ∷ Own ∷ []

abbrev pub inferred_rules : List InferredRule
inferred_rules = LoadPast ∷ StorePast ∷ SwapBefore ∷ SwapAfter ∷ []

-- the base rule of this name
unfoldable pub base_rule : List ℕ → Result BaseRule CertificateRefusal
base_rule name = named base_name base_rules name

-- the inferred rule of this name
unfoldable pub inferred_rule : List ℕ → Result InferredRule CertificateRefusal
inferred_rule name = named inferred_name inferred_rules name

-- the reason of the fourth token and the tokens after it
unfoldable pub reason_said : List ℕ → List (List ℕ) → Result Reason CertificateRefusal
reason_said name [] = base_rule name >>= λ rule. Ok (Base rule)
reason_said name (load ∷ path) = event load >>= λ l. events path >>= λ p. inferred_rule name >>= λ rule. Ok (Inferred rule l p)

-- the two events of a line with this number, its name, and the tokens after that
unfoldable pub edge_said : ℕ → List (List ℕ) → Result (ℕ × ℕ × List ℕ × List (List ℕ)) CertificateRefusal
edge_said number (k ∷ from ∷ to ∷ name ∷ tokens) = if bytes_eq k (decimal number) then (event from >>= λ u. event to >>= λ v. Ok (u, v, name, tokens)) else Err BadNumber
edge_said number _ = Err BadLine

-- the step of a line's number and tokens
unfoldable pub step_said : ℕ → List (List ℕ) → Result CertStep CertificateRefusal
step_said number tokens = edge_said number tokens >>= λ e. reason_said e.2 e.3 >>= λ r. Ok (record { from = e.0; to = e.1; reason = r })

-- the load of a line `unwritten` with this number, and these tokens after the keyword
unfoldable pub unwritten_said : ℕ → List (List ℕ) → Result ℕ CertificateRefusal
unwritten_said number [] = Err BadLine
unwritten_said number (n ∷ []) = if number == 1 then event n else Err BadLine
unwritten_said number (n ∷ m ∷ tokens) = Err BadLine

-- What the line of this number and these tokens says, or its fault of the least number.
unfoldable pub cert_line_said : ℕ → List (List ℕ) → Result Line CertificateRefusal
cert_line_said number [] = Err BadLine
cert_line_said number (word ∷ tokens) =
    if bytes_eq word (codes "cycle") then (events tokens >>= λ cycle. Ok (Cycle cycle))
    else if bytes_eq word (codes "unwritten") then (unwritten_said number tokens >>= λ n. Ok (Unwritten n))
    else step_said number (word ∷ tokens) >>= λ step. Ok (Step step)
