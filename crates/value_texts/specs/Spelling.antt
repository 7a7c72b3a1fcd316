-- What the text of evidence about a log spells, and how it is refused: its first line with a fault, after the lines of a refutation, and that fault.
use Rattle.std.specs.Prelude.{◌≡◌, ◌≢◌, ◌⊎◌, ℕ, ◌==◌, ◌&&◌, ◌^◌, nat_lt, Bool, true, false, List, [], ◌∷◌, length, get_or, map, All, codes, Option, Some, if◌then◌else◌}
use Rattle.std.specs.List.{flat_map, list_any, position_from}
use Rattle.std.specs.Str.{bytes_eq}
use Rattle.line_text.specs.Lines.{line_text, parts_of}
use Rattle.line_text.specs.Refusals.{IsRefusedAfter, ArePartsRefused}
use Rattle.value_evidence.specs.declared.refutations.ValueRefutationLine.{ValueRefutationLine}
use Rattle.value_texts.specs.declared.names.EventName.{EventName}
use Rattle.value_texts.specs.declared.refusals.ValueTextRefusal.{ValueTextRefusal}
use Rattle.value_texts.specs.declared.refusals.ValueTextRefusal.TheVariants.{BadLine, NoEvent, AfterEnd}
use Rattle.value_texts.specs.Names.{event_name_text}
use Rattle.value_texts.specs.Printed.{LogEvidenceValue, order_of, refutation_of, event_token, refutation_line_tokens, log_order_tokens, evidence_text_of_log, OfLineEvents, OfAllEvents}

-- the token is this name, of a line whose number 64 bits hold
abbrev pub has_token : List ℕ → EventName → Bool
has_token token name = nat_lt name.line (2 ^ 64) && bytes_eq (event_name_text name) token

-- the number of the first event that the token names
unfoldable pub event_named : List EventName → List ℕ → Option ℕ
event_named names token = position_from (has_token token) 1 names

-- the event of this number is the first that its token names: where no two have one name, so is each
abbrev pub IsNamed : List EventName → ℕ → Type 0
IsNamed names n = event_named names (event_token names n) ≡ Some n

-- The text spells the evidence: it is its text, and each event is named.
abbrev pub SpellsLogEvidence : List EventName → List ℕ → LogEvidenceValue → Type 0
SpellsLogEvidence names text e = OfAllEvents (IsNamed names) e × (text ≡ evidence_text_of_log names e)

-- ---- the faults of a line

-- the first token is that of an order
abbrev pub has_order_word : List (List ℕ) → Bool
has_order_word tokens = bytes_eq (get_or tokens 0 []) (codes "order")

-- the first token of each form of line of a refutation, and how many tokens it has
abbrev pub line_forms : List (List ℕ × ℕ)
line_forms =
    (codes "read", 3) ∷ (codes "in", 3) ∷ (codes "out", 3) ∷ (codes "over", 4) ∷ (codes "after", 3) ∷ (codes "before", 3) ∷ (codes "case-read", 3) ∷ (codes "case-before", 3) ∷ (codes "else", 1)
    ∷ (codes "nosource", 2) ∷ (codes "cycle", 2) ∷ []

-- the tokens are those of a line of such a form
abbrev pub has_refutation_form : List (List ℕ) → Bool
has_refutation_form tokens = list_any (λ form. bytes_eq (get_or tokens 0 []) form.0 && length tokens == form.1) line_forms

-- or the line is a line `order`, on line 1
abbrev pub has_log_evidence_form : ℕ → List (List ℕ) → Bool
has_log_evidence_form line tokens = if has_order_word tokens then line == 1 else has_refutation_form tokens

-- The line of this number and these tokens has the fault.
abbrev pub IsValueLineFault : List EventName → ℕ → List (List ℕ) → ValueTextRefusal → Type 0
IsValueLineFault names line tokens BadLine = has_log_evidence_form line tokens ≡ false
IsValueLineFault names line tokens NoEvent =
    (has_log_evidence_form line tokens ≡ true) × ((l : ValueRefutationLine) → OfLineEvents (IsNamed names) l → tokens ≡ refutation_line_tokens names l → ⊥)
    × ((numbers : List ℕ) → All (IsNamed names) numbers → tokens ≡ log_order_tokens names numbers → ⊥)
IsValueLineFault names line tokens _ = ⊥

-- ---- texts

-- the evidence is an order: a text of one line, which nothing may follow
abbrev pub IsLogOrder : LogEvidenceValue → Type 0
IsLogOrder (order_of numbers) = Unit {0}
IsLogOrder (refutation_of lines) = ⊥

-- The refusal of a text: its line after those of a refutation has a fault or no line end, or bytes follow the line of an order.
unfoldable pub IsValueTextRefusal : List EventName → List ℕ → ℕ → ValueTextRefusal → Type 0
IsValueTextRefusal names text line why =
    ((lines : List ValueRefutationLine) × All (OfLineEvents (IsNamed names)) lines
    × IsRefusedAfter text (flat_map line_text (map (refutation_line_tokens names) lines)) line
    (λ rest. (rest ≢ []) × ArePartsRefused BadLine BadLine (IsValueLineFault names line) (parts_of rest) why))
    ⊎ ((e : LogEvidenceValue) × (IsLogOrder e × OfAllEvents (IsNamed names) e) × IsRefusedAfter text (evidence_text_of_log names e) line (λ rest. (rest ≢ []) × (why ≡ AfterEnd)))

-- some evidence, some refusal
abbrev pub IsSpelledLogEvidence : List EventName → List ℕ → Type 0
IsSpelledLogEvidence names text = (e : LogEvidenceValue) × SpellsLogEvidence names text e

abbrev pub IsRefusedLogEvidence : List EventName → List ℕ → Type 0
IsRefusedLogEvidence names text = (line : ℕ) × (why : ValueTextRefusal) × IsValueTextRefusal names text line why
