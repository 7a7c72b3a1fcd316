-- The line of an event's operation is the line of the trace's text where it stands.
use Rattle.std.proofs.Common.{◌≡◌, ⊎_elim, sym, ap, refl, ◌∙◌, ℕ, zero, suc, ◌+◌, ◌-◌, ◌<◌, List, [], ◌∷◌, ◌++◌, length, map, Some, slice_get, arith, append_assoc}
use Rattle.std.specs.Prelude.{codes}
use Rattle.std.specs.List.{flat_map, join_with_byte}
use Rattle.std.proofs.lemmas.List.{length-map}
use Rattle.std.proofs.lemmas.List.Concat.{flat_map-append}
use Rattle.line_text.specs.Lines.{line_text}
use Rattle.tso_ops.specs.declared.ops.Outcome.{Outcome}
use Rattle.tso_ops.specs.declared.ops.Outcome.TheVariants.{Sw, Mb, Sb}
use Rattle.tso_ops.specs.declared.settings.Order.{Order}
use Rattle.tso_ops.specs.declared.settings.Order.TheVariants.{Tso, Pso}
use Rattle.tso_ops.specs.Settings.{SettingValue}
use Rattle.tso_ops.specs.Values.{TraceValue}
use Rattle.tso_text.specs.Printed.{trace_header, entry_tokens, items_text, model_text, outcome_tokens, processor_text, setting_text, trace_text, whole_text}
use Rattle.tso_ops.specs.declared.operations.EventOperation.{EventOperation}
use Rattle.tso_ops.proofs.PlaceFacts.{get-left, get-right, get-split}
use Rattle.trace_explanation.specs.Lines.{ended_line, model_line, processor_lines, setting_lines, text_lines}
use Rattle.trace_explanation.specs.Names.{outcome_text}
use Rattle.tso_ops.specs.Operations.{first_list_line, model_lines, operation_at, operations_from, operations_of, operations_of_lists}

-- ---- the line of an operation among others

-- some line of these, counted from the first, is that of the operation
abbrev IsLine : ℕ → List (List ℕ) → EventOperation → Type 0
IsLine line lines o = (j : ℕ) × (o.line ≡ line + j) × (slice_get lines j ≡ Some (outcome_text o.outcome))

line-here : (p place line : ℕ) (x : Outcome) (lines : List (List ℕ)) (d o : EventOperation) → Some d ≡ Some o → d.line ≡ line → d.outcome ≡ x → IsLine line (outcome_text x ∷ lines) o
line-here p place line x lines d o at here is =
    let same : d ≡ o = cc in
    (0, ap (λ (e : EventOperation). e.line) (sym same) ∙ here ∙ omega arith, ap (λ y. Some (outcome_text y)) (sym is ∙ ap (λ (e : EventOperation). e.outcome) same))

line-later : (line : ℕ) (first : List ℕ) (lines : List (List ℕ)) (o : EventOperation) → IsLine (suc line) lines o → IsLine line (first ∷ lines) o
line-later line first lines o (j, is, at) = (suc j, omega arith, at)

line_from : (p place line : ℕ) (ops : List Outcome) (k : ℕ) (o : EventOperation) → slice_get (operations_from p place line ops) k ≡ Some o → IsLine line (map outcome_text ops) o
line_from p place line [] k o at = absurd cc
line_from p place line (Sw a r v ∷ ops) zero o at = line-here p place line (Sw a r v) _ _ o at refl refl
line_from p place line (Sw a r v ∷ ops) (suc zero) o at = line-here p place line (Sw a r v) _ _ o at refl refl
line_from p place line (Sw a r v ∷ ops) (suc (suc k)) o at = line-later line _ _ o (line_from p (suc place) (suc line) ops k o at)
line_from p place line (Mb ∷ ops) k o at = line-later line _ _ o (line_from p (suc place) (suc line) ops k o at)
line_from p place line (Sb ∷ ops) k o at = line-later line _ _ o (line_from p (suc place) (suc line) ops k o at)
line_from p place line (x ∷ ops) zero o at = line-here p place line x _ _ o at refl refl
line_from p place line (x ∷ ops) (suc k) o at = line-later line _ _ o (line_from p (suc place) (suc line) ops k o at)

line_of_lists : (p line : ℕ) (lists : List (List Outcome)) (k : ℕ) (o : EventOperation) → slice_get (operations_of_lists p line lists) k ≡ Some o → IsLine line (flat_map processor_lines lists) o
line_of_lists p line [] k o at = absurd cc
line_of_lists p line (ops ∷ lists) k o at =
    ⊎_elim
    (λ here. let (j, is, got) = line_from p 0 (suc line) ops k o here in
    (suc j, omega arith, get-left (processor_lines ops) (flat_map processor_lines lists) (suc j) (outcome_text o.outcome) got))
    (λ (i, after, later).
    let (j, is, got) = line_of_lists (suc p) (suc line + length ops) lists i o later in
    let count = length-map ops outcome_text in
    (suc (length ops) + j, omega arith, get-right (processor_lines ops) (flat_map processor_lines lists) (suc (length ops) + j) j (omega (arith, count)) ∙ got))
    (get-split (operations_from p 0 (suc line) ops) (operations_of_lists (suc p) (suc line + length ops) lists) k o at)

setting_count : (setting : SettingValue) → suc (length (setting_lines setting)) ≡ first_list_line setting
setting_count setting = by_order setting.order
  where
    count : length (map (λ (entry : ℕ × ℕ). join_with_byte 32 (entry_tokens entry)) setting.first) ≡ length setting.first
    count = length-map setting.first (λ entry. join_with_byte 32 (entry_tokens entry))

    by_order : (order : Order) → suc (length ((trace_header setting.version ∷ model_line order) ++ map (λ (entry : ℕ × ℕ). join_with_byte 32 (entry_tokens entry)) setting.first)) ≡ 2 + model_lines order + length setting.first
    by_order Tso = omega (arith, count)
    by_order Pso = omega (arith, count)

-- line number o.line of the text is the operation's
pub line_is : (t : TraceValue) (n : ℕ) (o : EventOperation) → operation_at t n ≡ Some o → (0 < o.line) × (slice_get (text_lines t) (o.line - 1) ≡ Some (outcome_text o.outcome))
unfolding operations_of text_lines
line_is t zero o at = absurd cc
line_is t (suc k) o at =
    let (j, is, got) = line_of_lists 0 (first_list_line t.setting) t.lists k o at in
    let count = setting_count t.setting in
    let lists = flat_map processor_lines t.lists in
    (omega (arith, count), get-right (setting_lines t.setting) (lists ++ codes "end" ∷ []) (o.line - 1) j (omega (arith, count)) ∙ get-left lists (codes "end" ∷ []) j (outcome_text o.outcome) got)

-- ---- the lines of a text

ended_map : {X : Type 0} (f : X → List ℕ) (xs : List X) → flat_map ended_line (map f xs) ≡ flat_map (λ x. ended_line (f x)) xs
ended_map f [] = refl
ended_map f (x ∷ xs) = ap (λ rest. ended_line (f x) ++ rest) (ended_map f xs)

outcomes_ended : (ops : List Outcome) → flat_map ended_line (map outcome_text ops) ≡ items_text outcome_tokens ops
unfolding outcome_text items_text
outcomes_ended ops = ended_map outcome_text ops

lists_ended : (lists : List (List Outcome)) → flat_map ended_line (flat_map processor_lines lists) ≡ flat_map (processor_text outcome_tokens) lists
unfolding processor_text
lists_ended [] = refl
lists_ended (ops ∷ lists) =
    flat_map-append ended_line (processor_lines ops) (flat_map processor_lines lists)
    ∙ ap (λ rest. (ended_line (codes "proc") ++ flat_map ended_line (map outcome_text ops)) ++ rest) (lists_ended lists)
    ∙ ap (λ said. (ended_line (codes "proc") ++ said) ++ flat_map (processor_text outcome_tokens) lists) (outcomes_ended ops)

model_ended : (order : Order) → flat_map ended_line (model_line order) ≡ model_text order
model_ended Tso = refl
model_ended Pso = refl

entries_ended : (first : List (ℕ × ℕ)) → flat_map ended_line (map (λ entry. join_with_byte 32 (entry_tokens entry)) first) ≡ items_text entry_tokens first
unfolding items_text
entries_ended first = ended_map (λ entry. join_with_byte 32 (entry_tokens entry)) first

setting_ended : (setting : SettingValue) → flat_map ended_line (setting_lines setting) ≡ (trace_header setting.version ++ 10 ∷ []) ++ setting_text setting
unfolding setting_text
setting_ended setting =
    flat_map-append ended_line (trace_header setting.version ∷ model_line setting.order) (map (λ entry. join_with_byte 32 (entry_tokens entry)) setting.first)
    ∙ ap (λ rest. (ended_line (trace_header setting.version) ++ flat_map ended_line (model_line setting.order)) ++ rest) (entries_ended setting.first)
    ∙ ap (λ model. (ended_line (trace_header setting.version) ++ model) ++ items_text entry_tokens setting.first) (model_ended setting.order)
    ∙ append_assoc (ended_line (trace_header setting.version)) (model_text setting.order) (items_text entry_tokens setting.first)

-- the text is its lines, each with its line feed
pub text_is : (t : TraceValue) → trace_text t ≡ flat_map ended_line (text_lines t)
unfolding trace_text whole_text text_lines
text_is t =
    let header = trace_header t.setting.version in
    let setting = setting_text t.setting in
    let lists = flat_map (processor_text outcome_tokens) t.lists in
    let end = line_text (codes "end" ∷ []) in
    let front : flat_map ended_line (setting_lines t.setting) ≡ (header ++ 10 ∷ []) ++ setting = setting_ended t.setting in
    let back : flat_map ended_line (flat_map processor_lines t.lists ++ codes "end" ∷ []) ≡ lists ++ end =
    flat_map-append ended_line (flat_map processor_lines t.lists) (codes "end" ∷ []) ∙ ap (λ said. said ++ end) (lists_ended t.lists) in
    ap (λ x. x ++ end) (sym (append_assoc header (10 ∷ []) (setting ++ lists)) ∙ sym (append_assoc (header ++ 10 ∷ []) setting lists))
    ∙ append_assoc ((header ++ 10 ∷ []) ++ setting) lists end ∙ ap (λ x. x ++ (lists ++ end)) (sym front) ∙ ap (λ x. flat_map ended_line (setting_lines t.setting) ++ x) (sym back)
    ∙ sym (flat_map-append ended_line (setting_lines t.setting) (flat_map processor_lines t.lists ++ codes "end" ∷ []))
