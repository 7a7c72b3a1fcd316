-- The text that explains a refutation by cases.
use Rattle.std.specs.Prelude.{ℕ, List, [], ◌∷◌, ◌++◌, codes}
use Rattle.std.specs.List.{filter, flat_map}
use Rattle.std.specs.Fmt.{decimal}
use Rattle.tso_ops.specs.declared.settings.Order.{Order}
use Rattle.tso_ops.specs.Values.{TraceValue}
use Rattle.tso_cert.specs.declared.steps.CertStep.{CertStep}
use Rattle.tso_evidence.specs.declared.refutations.RefutationLine.{RefutationLine}
use Rattle.tso_evidence.specs.declared.refutations.RefutationLine.TheVariants.{Step, Case, Else, Cycle}
use Rattle.trace_explanation.specs.JoinedTexts.{joined}
use Rattle.trace_explanation.specs.Explanations.{model_name, order_sentences}
use Rattle.trace_explanation.specs.Names.{event_numbers}
use Rattle.trace_explanation.specs.Namings.{name_text, naming_of}
use Rattle.trace_explanation.specs.Places.{place_text}
use Rattle.trace_explanation.specs.Steps.{is_named, links_of, step_numbers}
use Rattle.decision_explanation.specs.declared.in_force.NumberedPair.{NumberedPair}
use Rattle.decision_explanation.specs.InForce.{standing_after, beginning, case_number, pair_number, Standing}
use Rattle.decision_explanation.specs.Reasons.{reason_text}

-- what the memory model asks for, and how the lines show that there is no such order
unfoldable pub cases_head : Order → List ℕ
cases_head order = joined (
    codes "\n" ∷ model_name order ∷ order_sentences
    ∷ codes "No memory order explains this trace. The steps show it by cases: of two events one comes before the other, and each of the two leads to a contradiction.\nA step holds in each memory order in which what is supposed there is so. It rests only on steps of smaller numbers.\n\n" ∷ [])

-- a step, whose line has this number: its edge, and why it holds
unfoldable pub refutation_step_text : TraceValue → List NumberedPair → ℕ → CertStep → List ℕ
refutation_step_text t pairs number s = joined (
    decimal number ∷ codes ". " ∷ name_text (naming_of t) s.from ∷ codes " before " ∷ name_text (naming_of t) s.to ∷ codes ": " ∷ reason_text t pairs s.from s.to s.reason ∷ codes "\n" ∷ [])

-- the first part of a case, whose line has this number
unfoldable pub case_text : TraceValue → ℕ → ℕ → ℕ → List ℕ
case_text t number u v = joined (
    decimal number ∷ codes ". Suppose " ∷ name_text (naming_of t) u ∷ codes " came before " ∷ name_text (naming_of t) v ∷ codes ".\n" ∷ [])

-- its second part, which ends what the line of the first supposed
unfoldable pub else_text : TraceValue → ℕ → ℕ → ℕ → ℕ → List ℕ
else_text t number first u v = joined (
    decimal number ∷ codes ". Otherwise " ∷ name_text (naming_of t) u ∷ codes " came before " ∷ name_text (naming_of t) v
    ∷ codes ".\n   This ends what was supposed in step " ∷ decimal first ∷ codes ": no step below rests on that one, or on those after it up to here.\n" ∷ [])

-- the line of an edge of a cycle: the number that it leads to, and the line in force that has it
unfoldable pub link_of_pairs_text : TraceValue → List NumberedPair → ℕ × ℕ → List ℕ
link_of_pairs_text t pairs link = joined (
    codes "    before " ∷ name_text (naming_of t) link.1 ∷ codes ": step " ∷ decimal (pair_number pairs link) ∷ codes "\n" ∷ [])

-- a cycle as a chain: its first number, and the line of each edge, of which the last leads back to the first number
unfoldable pub chain_of_pairs_text : TraceValue → List NumberedPair → List ℕ → List ℕ
chain_of_pairs_text t pairs [] = []
chain_of_pairs_text t pairs (x ∷ rest) = (codes "  " ++ name_text (naming_of t) x ++ codes "\n") ++ flat_map (link_of_pairs_text t pairs) (links_of (x ∷ rest))

-- the contradiction that a cycle is
unfoldable pub contradiction_text : TraceValue → List NumberedPair → List ℕ → List ℕ
contradiction_text t pairs cycle =
    codes "\nA contradiction: the order would have to put each of these before the next, and the last is the first again.\n\n" ++ chain_of_pairs_text t pairs cycle ++ codes "\n"

-- the text of a line, where the refutation has come to this
abbrev pub refutation_line_text : TraceValue → Standing → RefutationLine → List ℕ
refutation_line_text t s (Step step) = refutation_step_text t s.pairs s.next step
refutation_line_text t s (Case u v) = case_text t s.next u v
refutation_line_text t s (Else u v) = else_text t s.next (case_number s.cases) u v
refutation_line_text t s (Cycle cycle) = contradiction_text t s.pairs cycle

-- the texts of these lines, where the refutation has come to this
abbrev pub refutation_lines_text : TraceValue → Standing → List RefutationLine → List ℕ
refutation_lines_text t s [] = []
refutation_lines_text t s (line ∷ lines) = refutation_line_text t s line ++ refutation_lines_text t (standing_after s line) lines

-- ---- the events that are named

-- the numbers that a line names for the first time: those of a second part are of its case, and those of a cycle of the lines that have its edges
abbrev pub line_numbers : TraceValue → RefutationLine → List ℕ
line_numbers t (Step s) = step_numbers t s
line_numbers t (Case u v) = u ∷ v ∷ []
line_numbers t (Else u v) = []
line_numbers t (Cycle cycle) = []

-- ---- the explanation

-- the explanation of a refutation by its lines, and where the events stand that they name
unfoldable pub cases_text : TraceValue → List RefutationLine → List ℕ
cases_text t lines =
    cases_head t.setting.order ++ refutation_lines_text t beginning lines
    ++ codes "The events named above, by their lines in the trace:\n\n" ++ flat_map (place_text (naming_of t) t) (filter (is_named (line_numbers t) lines) (event_numbers t))
