-- What stands at the nodes and edges of a picture, and how far apart the processors are.
use Rattle.std.specs.Prelude.{ℕ, suc, ◌+◌, ◌*◌, max, nat_lt, List, [], ◌∷◌, length, Option, None, Some, cond, codes}
use Rattle.std.specs.Option.{option_map_or}
use Rattle.std.specs.List.{fold}
use Rattle.std.specs.Fmt.{decimal}
use Rattle.tso_ops.specs.Values.{TraceValue}
use Rattle.tso_ops.specs.Operations.{operation_at}
use Rattle.tso_cert.specs.declared.steps.Reason.{Reason}
use Rattle.tso_cert.specs.declared.steps.Reason.TheVariants.{Base, Inferred}
use Rattle.tso_cert.specs.Printed.{base_name, inferred_name}
use Rattle.tso_model.specs.Axioms.{place}
use Rattle.trace_explanation.specs.Names.{outcome_text, part_text}
use Rattle.trace_explanation.specs.JoinedTexts.{joined}

-- an event: its operation, the part of a swap, the number
unfoldable pub event_label : TraceValue → ℕ → List ℕ
event_label t n = option_map_or (λ o. joined (outcome_text o.outcome ∷ part_text o.part ∷ codes " (" ∷ decimal n ∷ codes ")" ∷ [])) (operation_at t n) []

-- the number of event n in an order: its place, from 1; none where it doesn't stand there
abbrev pub number_in_order : List ℕ → ℕ → Option ℕ
number_in_order order n = cond (nat_lt (place order n) (length order)) (Some (suc (place order n))) None

-- what stands after the label of an event that has this number
unfoldable pub number_label : Option ℕ → List ℕ
number_label None = []
number_label (Some k) = joined (codes " <font color=\"#2e7d32\"><b>#" ∷ decimal k ∷ codes "</b></font>" ∷ [])

-- from one processor to the next, in points: 7 for each byte of the longest label of these events, and 150
abbrev pub column_width : TraceValue → List ℕ → ℕ
column_width t drawn = 150 + 7 * fold (λ longest n. max longest (length (event_label t n))) 0 drawn

-- the rule of a step
abbrev pub rule_name : Reason → List ℕ
rule_name (Base rule) = base_name rule
rule_name (Inferred rule load path) = inferred_name rule

-- a step by its number and rule
abbrev pub step_label : ℕ → Reason → List ℕ
step_label number reason = joined (decimal number ∷ codes " " ∷ rule_name reason ∷ [])
