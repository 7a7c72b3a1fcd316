-- The lines of evidence about a log, whose events are named.
use Rattle.std.specs.Prelude.{◌≡◌, ◌⊎◌, ℕ, zero, suc, List, [], ◌∷◌, map, All, codes}
use Rattle.std.specs.List.{flat_map}
use Rattle.line_text.specs.Lines.{line_text}
use Rattle.value_evidence.specs.declared.steps.ValueStep.{ValueStep}
use Rattle.value_evidence.specs.declared.steps.ValueStep.TheVariants.{Read, In, Out, Over, SwapAfter, SwapBefore}
use Rattle.value_evidence.specs.declared.steps.ValueEnd.{ValueEnd}
use Rattle.value_evidence.specs.declared.steps.ValueEnd.TheVariants.{NoSource, Cycle}
use Rattle.value_evidence.specs.declared.steps.ValueEvidence.{ValueEvidence}
use Rattle.value_evidence.specs.declared.refutations.ValueRefutationLine.{ValueRefutationLine}
use Rattle.value_evidence.specs.declared.refutations.ValueRefutationLine.TheVariants.{Step, ReadCase, BeforeCase, Else, End}
use Rattle.value_evidence.specs.declared.refutations.LogEvidence.{LogEvidence}
use Rattle.value_evidence.specs.declared.refutations.LogEvidence.TheVariants.{Order, Refutation}
use Rattle.value_evidence.specs.Refutations.{evidence_lines}
use Rattle.value_texts.specs.declared.names.EventName.{EventName}
use Rattle.value_texts.specs.Names.{event_name_text, name_of_event}

-- what contracts see of evidence about a log: an order of the numbers of its events, or the lines of a refutation
pub data LogEvidenceValue : Type 0 where
  order_of : List ℕ → LogEvidenceValue
  refutation_of : List ValueRefutationLine → LogEvidenceValue

abbrev pub log_evidence_value : LogEvidence → LogEvidenceValue
log_evidence_value (Order numbers) = order_of numbers.items
log_evidence_value (Refutation lines) = refutation_of lines.items

-- what they see of evidence without cases: its steps, and how they end
pub record EvidenceValue : Type 0 where
  pub steps : List ValueStep
  pub end : ValueEnd

abbrev pub evidence_value : ValueEvidence → EvidenceValue
evidence_value e = record { steps = e.steps.items; end = e.end }

-- such evidence as the lines of a refutation
abbrev pub without_cases : EvidenceValue → LogEvidenceValue
without_cases e = refutation_of (evidence_lines e.steps e.end)

-- ---- lines

-- the token of an event
abbrev pub event_token : List EventName → ℕ → List ℕ
event_token names n = event_name_text (name_of_event names n)

-- that of a source: `init` of the first value
abbrev pub source_token : List EventName → ℕ → List ℕ
source_token names zero = codes "init"
source_token names (suc n) = event_token names (suc n)

-- the tokens of a step's line
abbrev pub value_step_tokens : List EventName → ValueStep → List (List ℕ)
value_step_tokens names (Read load source) = codes "read" ∷ event_token names load ∷ source_token names source ∷ []
value_step_tokens names (In from load) = codes "in" ∷ event_token names from ∷ event_token names load ∷ []
value_step_tokens names (Out load to) = codes "out" ∷ event_token names load ∷ event_token names to ∷ []
value_step_tokens names (Over from to load) = codes "over" ∷ event_token names from ∷ event_token names to ∷ event_token names load ∷ []
value_step_tokens names (SwapAfter swap to) = codes "after" ∷ event_token names swap ∷ event_token names to ∷ []
value_step_tokens names (SwapBefore from swap) = codes "before" ∷ event_token names from ∷ event_token names swap ∷ []

-- those of the line of an end
abbrev pub value_end_tokens : List EventName → ValueEnd → List (List ℕ)
value_end_tokens names (NoSource load) = codes "nosource" ∷ event_token names load ∷ []
value_end_tokens names (Cycle n) = codes "cycle" ∷ event_token names n ∷ []

-- those of a line of a refutation
abbrev pub refutation_line_tokens : List EventName → ValueRefutationLine → List (List ℕ)
refutation_line_tokens names (Step s) = value_step_tokens names s
refutation_line_tokens names (ReadCase load source) = codes "case-read" ∷ event_token names load ∷ source_token names source ∷ []
refutation_line_tokens names (BeforeCase first second) = codes "case-before" ∷ event_token names first ∷ event_token names second ∷ []
refutation_line_tokens names Else = codes "else" ∷ []
refutation_line_tokens names (End e) = value_end_tokens names e

-- those of the line of an order
abbrev pub log_order_tokens : List EventName → List ℕ → List (List ℕ)
log_order_tokens names numbers = codes "order" ∷ map (event_token names) numbers

-- the tokens of the lines of evidence
abbrev pub log_evidence_tokens : List EventName → LogEvidenceValue → List (List (List ℕ))
log_evidence_tokens names (order_of numbers) = log_order_tokens names numbers ∷ []
log_evidence_tokens names (refutation_of lines) = map (refutation_line_tokens names) lines

-- the text of evidence about a log
unfoldable pub evidence_text_of_log : List EventName → LogEvidenceValue → List ℕ
evidence_text_of_log names e = flat_map line_text (log_evidence_tokens names e)

-- the text of evidence without cases: a line for each step, and the line of the end
abbrev pub value_evidence_text : List EventName → EvidenceValue → List ℕ
value_evidence_text names e = evidence_text_of_log names (without_cases e)

-- ---- the numbers of evidence

-- this holds of each event of the step
abbrev pub OfEachEvent : (ℕ → Type 0) → ValueStep → Type 0
OfEachEvent P (Read load source) = P load × ((source ≡ 0) ⊎ P source)
OfEachEvent P (In from load) = P from × P load
OfEachEvent P (Out load to) = P load × P to
OfEachEvent P (Over from to load) = P from × P to × P load
OfEachEvent P (SwapAfter swap to) = P swap × P to
OfEachEvent P (SwapBefore from swap) = P from × P swap

-- of that of the end
abbrev pub OfEndEvent : (ℕ → Type 0) → ValueEnd → Type 0
OfEndEvent P (NoSource load) = P load
OfEndEvent P (Cycle n) = P n

-- of each event of the line
abbrev pub OfLineEvents : (ℕ → Type 0) → ValueRefutationLine → Type 0
OfLineEvents P (Step s) = OfEachEvent P s
OfLineEvents P (ReadCase load source) = P load × ((source ≡ 0) ⊎ P source)
OfLineEvents P (BeforeCase first second) = P first × P second
OfLineEvents P Else = Unit {0}
OfLineEvents P (End e) = OfEndEvent P e

-- of each event of the evidence
abbrev pub OfAllEvents : (ℕ → Type 0) → LogEvidenceValue → Type 0
OfAllEvents P (order_of numbers) = All P numbers
OfAllEvents P (refutation_of lines) = All (OfLineEvents P) lines
