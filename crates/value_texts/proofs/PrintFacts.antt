-- Lemmas on printing evidence, and the names of a log's events.
use Rattle.std.proofs.Common.{◌≡◌, ℕ, ◌+◌, ◌<◌, List, [], ◌∷◌, ◌++◌, length, get_or, take, map, Result, Ok, Err, refl, ap, sym, ◌∙◌, subst, arith, append_assoc}
use Rattle.std.specs.Global.{Vec}
use Rattle.std.specs.Prelude.{All}
use Rattle.std.specs.Result.{OnOk}
use Rattle.std.specs.List.{flat_map, join_with_byte}
use Rattle.std.proofs.lemmas.List.{append-nil, flat_map_more, get_or-map, length-map, take_more}
use Rattle.std.proofs.lemmas.List.Elements.{All-cons, All-nil, All-push}
use Rattle.std.proofs.lemmas.List.Folds.{flat_map-map}
use Rattle.line_text.specs.Lines.{line_text}
use Rattle.line_text.proofs.PrintFacts.{flat_map-take_more, line_spaced}
use Rattle.log_text.specs.declared.logs.LoggedOperation.{LoggedOperation}
use Rattle.tso_cert.proofs.SayingFacts.{all_first, all_after}
use Rattle.tso_ops.specs.Values.{rows}
use Rattle.value_evidence.specs.declared.steps.ValueStep.{ValueStep}
use Rattle.value_evidence.specs.declared.steps.ValueEnd.{ValueEnd}
use Rattle.value_evidence.specs.declared.refutations.ValueRefutationLine.{ValueRefutationLine}
use Rattle.value_evidence.specs.declared.refutations.ValueRefutationLine.TheVariants.{Step, End}
use Rattle.value_evidence.specs.Refutations.{evidence_lines}
use Rattle.value_texts.specs.declared.names.EventName.{EventName}
use Rattle.value_texts.specs.Names.{names_in}
use Rattle.value_texts.specs.Printed.{EvidenceValue, LogEvidenceValue, order_of, refutation_of, value_step_tokens, value_end_tokens, refutation_line_tokens, log_order_tokens, evidence_text_of_log, value_evidence_text, OfEachEvent, OfEndEvent, OfLineEvents}

-- ---- evidence without cases

-- its lines are those of its steps, and the line of its end
lines-text : (names : List EventName) (steps : List ValueStep) (e : ValueEnd) →
    flat_map line_text (map (refutation_line_tokens names) (evidence_lines steps e)) ≡ flat_map line_text (map (value_step_tokens names) steps) ++ line_text (value_end_tokens names e)
lines-text names [] e = append-nil (line_text (value_end_tokens names e))
lines-text names (s ∷ steps) e =
    let line = line_text (value_step_tokens names s) in
    ap (λ t. line ++ t) (lines-text names steps e) ∙ sym (append_assoc line (flat_map line_text (map (value_step_tokens names) steps)) (line_text (value_end_tokens names e)))

-- and so are its events
pub lines_from : (P : ℕ → Type 0) (steps : List ValueStep) (e : ValueEnd) → All (OfEachEvent P) steps → OfEndEvent P e → All (OfLineEvents P) (evidence_lines steps e)
lines_from P [] e all last = All-cons (OfLineEvents P) (End e) [] last (All-nil (OfLineEvents P))
lines_from P (s ∷ steps) e all last =
    All-cons (OfLineEvents P) (Step s) (evidence_lines steps e) (all_first (OfEachEvent P) s steps all) (lines_from P steps e (all_after (OfEachEvent P) s steps all) last)

pub from_lines : (P : ℕ → Type 0) (steps : List ValueStep) (e : ValueEnd) → All (OfLineEvents P) (evidence_lines steps e) → All (OfEachEvent P) steps × OfEndEvent P e
from_lines P [] e all = (All-nil (OfEachEvent P), all_first (OfLineEvents P) (End e) [] all)
from_lines P (s ∷ steps) e all =
    let more = from_lines P steps e (all_after (OfLineEvents P) (Step s) (evidence_lines steps e) all) in
    (All-cons (OfEachEvent P) s steps (all_first (OfLineEvents P) (Step s) (evidence_lines steps e) all) more.0, more.1)

-- the lines of steps, and the line of the end
pub without_cases-printed : {E : Type 0} (r : Result (Unit {0}) E) (names : List EventName) (e : EvidenceValue) (start stepped new : List ℕ) → stepped ≡ start ++ flat_map line_text (map (value_step_tokens names) e.steps) →
    OnOk r (new ≡ stepped ++ line_text (value_end_tokens names e.end)) → OnOk r (new ≡ start ++ value_evidence_text names e)
unfolding evidence_text_of_log
without_cases-printed (Ok u) names e start stepped new lines last =
    let steps = flat_map line_text (map (value_step_tokens names) e.steps) in
    let line = line_text (value_end_tokens names e.end) in
    last ∙ ap (λ t. t ++ line) lines ∙ append_assoc start steps line ∙ ap (λ t. start ++ t) (sym (lines-text names e.steps e.end))
without_cases-printed (Err why) names e start stepped new lines last = tt

-- ---- evidence

-- the line of a word and events
pub order-line : (start worded listed new word : List ℕ) (token : ℕ → List ℕ) (numbers : List ℕ) → worded ≡ start ++ word → listed ≡ worded ++ flat_map (λ n. 32 ∷ token n) numbers → new ≡ listed ++ 10 ∷ [] →
    new ≡ start ++ line_text (word ∷ map token numbers)
order-line start worded listed new word token numbers named numbered ended =
    let tokens = flat_map (λ t. 32 ∷ t) (map token numbers) in
    ended ∙ ap (λ t. t ++ 10 ∷ []) (numbered ∙ ap (λ t. t ++ flat_map (λ n. 32 ∷ token n) numbers) named ∙ ap (λ t. (start ++ word) ++ t) (each numbers))
    ∙ ap (λ t. t ++ 10 ∷ []) (append_assoc start word tokens ∙ ap (λ t. start ++ t) (sym (line_spaced word (map token numbers)))) ∙ append_assoc start (join_with_byte 32 (word ∷ map token numbers)) (10 ∷ [])
  where
    each : (ns : List ℕ) → flat_map (λ n. 32 ∷ token n) ns ≡ flat_map (λ t. 32 ∷ t) (map token ns)
    each [] = refl
    each (n ∷ ns) = ap (λ t. (32 ∷ token n) ++ t) (each ns)

-- the text of an order
pub order-printed : {E : Type 0} (r : Result (Unit {0}) E) (names : List EventName) (start new : List ℕ) (numbers : List ℕ) (e : LogEvidenceValue) → e ≡ order_of numbers →
    OnOk r (new ≡ start ++ line_text (log_order_tokens names numbers)) → OnOk r (new ≡ start ++ evidence_text_of_log names e)
unfolding evidence_text_of_log
order-printed (Ok u) names start new numbers e is line =
    line ∙ ap (λ t. start ++ t) (sym (append-nil (line_text (log_order_tokens names numbers)))) ∙ ap (λ d. start ++ evidence_text_of_log names d) (sym is)
order-printed (Err why) names start new numbers e is line = tt

-- the text of a refutation
pub refutation-printed : {E : Type 0} (r : Result (Unit {0}) E) (names : List EventName) (start new : List ℕ) (lines : List ValueRefutationLine) (e : LogEvidenceValue) → e ≡ refutation_of lines →
    OnOk r (new ≡ start ++ flat_map line_text (map (refutation_line_tokens names) lines)) → OnOk r (new ≡ start ++ evidence_text_of_log names e)
unfolding evidence_text_of_log
refutation-printed (Ok u) names start new lines e is all = all ∙ ap (λ d. start ++ evidence_text_of_log names d) (sym is)
refutation-printed (Err why) names start new lines e is all = tt

-- ---- loops

-- the bytes of one more element
pub bytes-printed : {X : Type 0} (bytes : X → List ℕ) (P : X → Type 0) (start old new : List ℕ) (xs : List X) (k : ℕ) (x : X) → k < length xs → x ≡ get_or xs k x →
    (old ≡ start ++ flat_map bytes (take k xs)) × All P (take k xs) → new ≡ old ++ bytes x → P x → (new ≡ start ++ flat_map bytes (take (k + 1) xs)) × All P (take (k + 1) xs)
bytes-printed bytes P start old new xs k x inside is before added holds =
    let more : take (k + 1) xs ≡ take k xs ++ x ∷ [] = take_more xs k x inside ∙ ap (λ y. take k xs ++ y ∷ []) (sym is) in (
      added ∙ ap (λ t. t ++ bytes x) before.0 ∙ flat_map_more bytes start (take k xs) x ∙ ap (λ l. start ++ flat_map bytes l) (sym more),
      subst (All P) (sym more) (All-push P (take k xs) x before.1 holds),
    )

-- the line of one more element
pub line-printed : {X : Type 0} (tokens : X → List (List ℕ)) (P : X → Type 0) (start old new : List ℕ) (xs : List X) (k : ℕ) (x : X) → k < length xs → x ≡ get_or xs k x →
    (old ≡ start ++ flat_map line_text (map tokens (take k xs))) × All P (take k xs) → new ≡ old ++ line_text (tokens x) → P x → (new ≡ start ++ flat_map line_text (map tokens (take (k + 1) xs))) × All P (take (k + 1) xs)
line-printed {X} tokens P start old new xs k x inside is before added holds =
    let lines : (l : List X) → flat_map line_text (map tokens l) ≡ flat_map (λ y. line_text (tokens y)) l = flat_map-map line_text tokens in
    let next = bytes-printed (λ y. line_text (tokens y)) P start old new xs k x inside is (before.0 ∙ ap (λ t. start ++ t) (lines (take k xs)), before.1) added holds in
    (next.0 ∙ ap (λ t. start ++ t) (sym (lines (take (k + 1) xs))), next.1)

-- the names of one more list
pub list-named : (lists : List (Vec LoggedOperation)) (i : ℕ) (row : Vec LoggedOperation) (old new : List EventName) → i < length lists → row ≡ get_or lists i row →
    old ≡ flat_map (flat_map names_in) (take i (rows lists)) → new ≡ old ++ flat_map names_in row.items → new ≡ flat_map (flat_map names_in) (take (i + 1) (rows lists))
list-named lists i row old new inside is before added =
    let low : i < length (rows lists) = omega (arith, inside, length-map lists (λ (r : Vec LoggedOperation). r.items)) in
    let here : row.items ≡ get_or (rows lists) i [] = ap (λ (r : Vec LoggedOperation). r.items) is ∙ sym (get_or-map (λ (r : Vec LoggedOperation). r.items) lists i row [] inside) in
    added ∙ ap (λ t. t ++ flat_map names_in row.items) before ∙ ap (λ l. flat_map (flat_map names_in) (take i (rows lists)) ++ flat_map names_in l) here
    ∙ sym (flat_map-take_more (flat_map names_in) (rows lists) i [] low)
