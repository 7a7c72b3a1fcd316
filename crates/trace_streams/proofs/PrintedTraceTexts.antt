-- The texts of traces one after another are cut into these texts: of the lines of a trace's text the last one alone is `end`.
use Rattle.std.proofs.Common.{◌≡◌, ◌≢◌, ℕ, zero, suc, ◌+◌, ◌/◌, ◌%◌, Bool, true, false, ltb, eqb, List, [], ◌∷◌, ◌++◌, get_or, map, refl, ap, sym, subst, ◌∙◌, arith, append_assoc}
use Rattle.std.specs.Prelude.{◌↔◌, codes, cond}
use Rattle.std.specs.Fmt.{decimal, digit_glyph, digits, digits_onto}
use Rattle.std.specs.List.{All, concat, flat_map, join_with_byte, list_all}
use Rattle.std.proofs.lemmas.Bool.Decides.{nat_tests}
use Rattle.std.proofs.lemmas.List.{append-nil}
use Rattle.std.proofs.lemmas.List.Elements.{All-append, All-cons, All-nil, All-weaker}
use Rattle.std.proofs.lemmas.List.Sums.{AllPass-from_list_all}
use Rattle.trace_streams.specs.TraceTexts.{AreTraceTexts, IsEndedText, IsOtherLine, IsWithinLine, end_line, lines_text}
use Rattle.trace_streams.proofs.TraceTextFacts.{ends_at_start, lines_text-append, one_list_of_trace_texts}
use Rattle.tso_ops.specs.declared.ops.Outcome.{Outcome}
use Rattle.tso_ops.specs.declared.ops.Outcome.TheVariants.{Ld, St, Sw, Mb, Sb}
use Rattle.tso_ops.specs.declared.settings.Order.{Order}
use Rattle.tso_ops.specs.declared.settings.Order.TheVariants.{Tso, Pso}
use Rattle.tso_ops.specs.declared.settings.Version.{Version}
use Rattle.tso_ops.specs.declared.settings.Version.TheVariants.{One, Two}
use Rattle.tso_ops.specs.Settings.{SettingValue}
use Rattle.tso_ops.specs.Values.{TraceValue}
use Rattle.tso_text.specs.Printed.{trace_header, entry_tokens, items_text, model_text, outcome_tokens, processor_text, setting_text, trace_text, whole_text}

-- ---- bytes that end no line

above : (b : ℕ) → ltb 10 b ≡ true → b ≢ 10
above b low = grind (arith, nat_tests)

word_within : (word : List ℕ) → list_all (λ b. ltb 10 b) word ≡ true → IsWithinLine word
word_within word all = All-weaker (λ b. ltb 10 b ≡ true) (λ b. b ≢ 10) above word (AllPass-from_list_all (λ b. ltb 10 b) word all)

glyph_within : (d : ℕ) → digit_glyph false d ≢ 10
glyph_within d = by (ltb d 10)
  where
    by : (small : Bool) → cond small (48 + d) (87 + d) ≢ 10
    by true e = omega (arith, e)
    by false e = omega (arith, e)

digits_within : (k n : ℕ) (after : List ℕ) → IsWithinLine after → IsWithinLine (digits_onto k 10 false n after)
digits_within zero n after rest = rest
digits_within (suc k) n after rest =
    let more = All-cons (λ b. b ≢ 10) (digit_glyph false (n % 10)) after (glyph_within (n % 10)) rest in
    either (eqb (n / 10) 0) _ _ more (digits_within k (n / 10) (digit_glyph false (n % 10) ∷ after) more)
  where
    either : (b : Bool) (xs ys : List ℕ) → IsWithinLine xs → IsWithinLine ys → IsWithinLine (cond b xs ys)
    either true xs ys p q = p
    either false xs ys p q = q

decimal_within : (n : ℕ) → IsWithinLine (decimal n)
unfolding digits
decimal_within n = digits_within 64 n [] (All-nil (λ b. b ≢ 10))

-- a word and numbers
tokens_within : (word : List ℕ) (ns : List ℕ) → IsWithinLine word → IsWithinLine (join_with_byte 32 (word ∷ map decimal ns))
tokens_within word [] within = within
tokens_within word (n ∷ ns) within =
    All-append (λ b. b ≢ 10) word (32 ∷ join_with_byte 32 (decimal n ∷ map decimal ns)) within
    (All-cons (λ b. b ≢ 10) 32 (join_with_byte 32 (decimal n ∷ map decimal ns)) (λ e. omega (arith, e)) (tokens_within (decimal n) ns (decimal_within n)))

-- ---- lines other than `end`

-- the bytes are lines other than `end`
record AreOthers (bytes : List ℕ) : Type 0 where
  lines : List (List ℕ)
  others : All IsOtherLine lines
  whole : bytes ≡ lines_text lines

no_lines : AreOthers []
no_lines = record { lines = []; others = All-nil IsOtherLine; whole = refl }

-- a line, which doesn't begin as `end` does, before others
next_line : (first : ℕ) (line rest : List ℕ) → first ≢ 101 → IsWithinLine (first ∷ line) → AreOthers rest → AreOthers ((first ∷ line) ++ 10 ∷ rest)
next_line first line rest other within after = record {
  lines = (first ∷ line) ∷ after.lines;
  others = All-cons IsOtherLine (first ∷ line) after.lines (within, λ e. other (ap (λ (bytes : List ℕ). get_or bytes 0 0) e)) after.others;
  whole = ap (λ t. (first ∷ line) ++ 10 ∷ t) after.whole;
}

more_lines : (xs ys : List ℕ) → AreOthers xs → AreOthers ys → AreOthers (xs ++ ys)
more_lines xs ys a b = record {
  lines = a.lines ++ b.lines;
  others = All-append IsOtherLine a.lines b.lines a.others b.others;
  whole = ap (λ t. t ++ ys) a.whole ∙ ap (λ t. lines_text a.lines ++ t) b.whole ∙ sym (lines_text-append a.lines b.lines);
}

lines_of_each : {X : Type 0} (text : X → List ℕ) → ((x : X) → AreOthers (text x)) → (xs : List X) → AreOthers (flat_map text xs)
lines_of_each text each [] = no_lines
lines_of_each text each (x ∷ xs) = more_lines (text x) (flat_map text xs) (each x) (lines_of_each text each xs)

-- a line of a word and numbers
word_line : (first : ℕ) (word : List ℕ) (ns : List ℕ) → first ≢ 101 → list_all (λ b. ltb 10 b) (first ∷ word) ≡ true → AreOthers (join_with_byte 32 ((first ∷ word) ∷ map decimal ns) ++ 10 ∷ [])
word_line first word [] other all = next_line first word [] other (word_within (first ∷ word) all) no_lines
word_line first word (n ∷ ns) other all =
    next_line first (word ++ 32 ∷ join_with_byte 32 (decimal n ∷ map decimal ns)) [] other (tokens_within (first ∷ word) (n ∷ ns) (word_within (first ∷ word) all)) no_lines

-- ---- the texts of traces

outcome_line : (outcome : Outcome) → AreOthers (join_with_byte 32 (outcome_tokens outcome) ++ 10 ∷ [])
outcome_line (Ld a r) = word_line 108 (100 ∷ []) (a ∷ r ∷ []) (λ e. omega (arith, e)) refl
outcome_line (St a v) = word_line 115 (116 ∷ []) (a ∷ v ∷ []) (λ e. omega (arith, e)) refl
outcome_line (Sw a r v) = word_line 115 (119 ∷ []) (a ∷ r ∷ v ∷ []) (λ e. omega (arith, e)) refl
outcome_line Mb = word_line 109 (98 ∷ []) [] (λ e. omega (arith, e)) refl
outcome_line Sb = word_line 115 (116 ∷ 98 ∷ 97 ∷ 114 ∷ []) [] (λ e. omega (arith, e)) refl

processor_lines : (outcomes : List Outcome) → AreOthers (processor_text outcome_tokens outcomes)
unfolding processor_text items_text
processor_lines outcomes =
    more_lines (codes "proc" ++ 10 ∷ []) (items_text outcome_tokens outcomes) (word_line 112 (114 ∷ 111 ∷ 99 ∷ []) [] (λ e. omega (arith, e)) refl)
    (lines_of_each (λ outcome. join_with_byte 32 (outcome_tokens outcome) ++ 10 ∷ []) outcome_line outcomes)

model_lines : (order : Order) → AreOthers (model_text order)
model_lines Tso = no_lines
model_lines Pso = next_line 109 (111 ∷ 100 ∷ 101 ∷ 108 ∷ 32 ∷ 112 ∷ 115 ∷ 111 ∷ []) [] (λ e. omega (arith, e)) (word_within (codes "model pso") refl) no_lines

entry_line : (entry : ℕ × ℕ) → AreOthers (join_with_byte 32 (entry_tokens entry) ++ 10 ∷ [])
entry_line entry = word_line 105 (110 ∷ 105 ∷ 116 ∷ []) (entry.0 ∷ entry.1 ∷ []) (λ e. omega (arith, e)) refl

setting_lines : (setting : SettingValue) → AreOthers (setting_text setting)
unfolding setting_text items_text
setting_lines setting =
    more_lines (model_text setting.order) (items_text entry_tokens setting.first) (model_lines setting.order)
    (lines_of_each (λ entry. join_with_byte 32 (entry_tokens entry) ++ 10 ∷ []) entry_line setting.first)

header_line : (version : Version) (rest : List ℕ) → AreOthers rest → AreOthers (trace_header version ++ 10 ∷ rest)
header_line One rest after = next_line 116 (115 ∷ 111 ∷ 32 ∷ 116 ∷ 114 ∷ 97 ∷ 99 ∷ 101 ∷ 32 ∷ 49 ∷ []) rest (λ e. omega (arith, e)) (word_within (codes "tso trace 1") refl) after
header_line Two rest after = next_line 116 (115 ∷ 111 ∷ 32 ∷ 116 ∷ 114 ∷ 97 ∷ 99 ∷ 101 ∷ 32 ∷ 50 ∷ []) rest (λ e. omega (arith, e)) (word_within (codes "tso trace 2") refl) after

-- lines other than `end`, and then the line `end`
ended : (bytes : List ℕ) → AreOthers bytes → IsEndedText (bytes ++ (end_line ++ 10 ∷ []))
ended bytes before = record {
  lines = before.lines;
  others = before.others;
  whole = ap (λ t. t ++ (end_line ++ 10 ∷ [])) before.whole ∙ sym (lines_text-append before.lines (end_line ∷ []));
}

ended_text : (t : TraceValue) → IsEndedText (trace_text t)
unfolding trace_text whole_text
ended_text t =
    let lists = flat_map (processor_text outcome_tokens) t.lists in
    let setting = setting_text t.setting in
    ended (trace_header t.setting.version ++ 10 ∷ (setting ++ lists))
    (header_line t.setting.version (setting ++ lists) (more_lines setting lists (setting_lines t.setting) (lines_of_each (processor_text outcome_tokens) processor_lines t.lists)))

-- ---- the trace texts

each_ended : (traces : List TraceValue) → All IsEndedText (map trace_text traces)
each_ended [] = All-nil IsEndedText
each_ended (t ∷ traces) = All-cons IsEndedText (trace_text t) (map trace_text traces) (ended_text t) (each_ended traces)

joined_texts : (traces : List TraceValue) → flat_map trace_text traces ≡ concat (map trace_text traces) ++ []
joined_texts [] = refl
joined_texts (t ∷ traces) = ap (λ text. trace_text t ++ text) (joined_texts traces) ∙ sym (append_assoc (trace_text t) (concat (map trace_text traces)) [])

are_trace_texts : (traces : List TraceValue) → AreTraceTexts (flat_map trace_text traces) (map trace_text traces)
are_trace_texts traces = record {
  ended = map trace_text traces;
  rest = [];
  cut = record { each = each_ended traces; no_end = ([], ends_at_start); whole = joined_texts traces };
  trace_texts_are = sym (append-nil (map trace_text traces));
}

-- these texts, and no others
pub trace_texts_of_traces : (traces : List TraceValue) (pieces : List (List ℕ)) → AreTraceTexts (flat_map trace_text traces) pieces ↔ (pieces ≡ map trace_text traces)
trace_texts_of_traces traces pieces = (
  λ are. one_list_of_trace_texts (flat_map trace_text traces) pieces (map trace_text traces) are (are_trace_texts traces),
  λ same. subst (AreTraceTexts (flat_map trace_text traces)) (sym same) (are_trace_texts traces),
)
