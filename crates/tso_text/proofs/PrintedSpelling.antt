-- The printed text of a value within the limits spells it.
use Rattle.std.proofs.Common.{◌≡◌, ℕ, ◌+◌, ◌*◌, ◌<◌, ◌≤◌, ◌^◌, false, List, [], ◌∷◌, ◌++◌, length, map, Some, Ok, refl, ap, sym, ◌∙◌, subst, arith, append_assoc, length-append, All}
use Rattle.std.specs.Prelude.{codes}
use Rattle.std.specs.Fmt.{decimal}
use Rattle.std.specs.List.{flat_map, join_with_byte, AllByRecursion}
use Rattle.std.proofs.lemmas.Fmt.{length-decimal-le}
use Rattle.std.proofs.lemmas.List.{map-append, length-map}
use Rattle.std.proofs.lemmas.List.Elements.{recursion_from_All, All-from_recursion}
use Rattle.tso_ops.specs.declared.ops.Op.{Op}
use Rattle.tso_ops.specs.declared.ops.Op.TheVariants.{Ld as OpLd, St as OpSt, Sw as OpSw, Mb as OpMb, Sb as OpSb}
use Rattle.tso_ops.specs.declared.ops.Outcome.{Outcome}
use Rattle.tso_ops.specs.declared.ops.Outcome.TheVariants.{Ld, St, Sw, Mb, Sb}
use Rattle.tso_ops.specs.declared.settings.Order.{Order}
use Rattle.tso_ops.specs.declared.settings.Order.TheVariants.{Tso, Pso}
use Rattle.tso_ops.specs.declared.settings.Version.{Version}
use Rattle.tso_ops.specs.declared.settings.Version.TheVariants.{One, Two}
use Rattle.tso_ops.specs.declared.faults.ValueFault.TheVariants.{StbarInTso}
use Rattle.tso_ops.specs.Settings.{SettingValue, version_one_tso, event_limit, barrier_limit}
use Rattle.tso_ops.specs.Limits.{KeepsLimits, IsProgram, IsTrace, address_of, stored_by, is_stbar_in_tso, has_fault}
use Rattle.tso_ops.specs.Values.{TraceValue, ProgramValue, ReadFits, op_of, program_of}
use Rattle.tso_ops.proofs.RefusalFacts.{each-middle, kept_faultless, kept_address, kept_value, kept_few}
use Rattle.tso_ops.proofs.EntryFacts.{KeepsEntries-few}
use Rattle.tso_ops.specs.declared.acts.Act.{Act}
use Rattle.tso_ops.specs.declared.acts.Act.TheVariants.{Issue, Drain}
use Rattle.tso_text.specs.declared.lines.Line.{Line}
use Rattle.tso_text.specs.declared.lines.Line.TheVariants.{Proc, Item, End}
use Rattle.tso_text.specs.Internal.Grammars.{trace_format, program_format, schedule_format, trace_grammar, program_grammar, schedule_grammar, outcome_fault, program_op_fault}
use Rattle.tso_text.specs.Internal.LineReadings.{trace_line, program_line, schedule_line}
use Rattle.tso_text.specs.Lines.{whole_lines}
use Rattle.tso_text.specs.Printed.{schedule_header, trace_header, program_header, items_text, processor_text, entry_tokens, model_text, setting_text, whole_text, outcome_tokens, op_tokens, act_tokens, trace_text, program_text, schedule_text, header_of}
use Rattle.tso_text.specs.Texts.{processor_of, text_byte_limit}
use Rattle.tso_text.specs.Numbers.{numbers}
use Rattle.line_text.specs.Lines.{line_text, parts_of}
use Rattle.tso_text.specs.Internal.Preambles.{setting_preamble}
use Rattle.tso_text.specs.Internal.Spelling.{Grammar, Format, preamble_of, items_of}
use Rattle.tso_text.specs.Internal.Spelled.{SpellsLists, HasTraceLines, HasProgramLines, HasScheduleLines}
use Rattle.tso_text.specs.Internal.Begun.{IsSetting, HasBegun}
use Rattle.tso_text.proofs.SaidItems.{stbar_known, trace_reads, program_reads, schedule_reads}
use Rattle.tso_text.proofs.CanonicalFacts.{tokens_by, Fits, numbers_without, address-within}
use Rattle.tso_text.proofs.FaultFacts.{no_fault, act_clean}
use Rattle.tso_text.proofs.LineFacts.{items_of-map}
use Rattle.tso_text.proofs.OneTextFacts.{made_by, made_by-text, flat_map-Item}
use Rattle.tso_text.proofs.PrintedLines.{AreFit, lists_accepted, items_accepted, length-made_by, IsReadBack, AreAccepted, length-lines, printed_parts}
use Rattle.tso_text.proofs.PrintedSetting.{AreHeaders, BeginsBody, printed_line, body_follows, setting_back, header_read}
use Rattle.tso_text.proofs.ReadersFacts.{begun_spells}
use Rattle.line_text.proofs.SplitFacts.{has_byte, has_byte_in}

-- ---- a word and numbers

length-decimal : (n : ℕ) → n < 2 ^ 64 → length (decimal n) ≤ 20
length-decimal n fits = length-decimal-le 20 n (omega arith) (omega arith) fits

length-tokens : (word : List ℕ) (ns : List ℕ) → AllByRecursion Fits ns → length (join_with_byte 32 (word ∷ map decimal ns)) ≤ length word + 21 * length ns
length-tokens word [] fit = omega arith
length-tokens word (n ∷ ns) fit =
    omega (arith, length-append word (32 ∷ join_with_byte 32 (decimal n ∷ map decimal ns)), length-tokens (decimal n) ns fit.1, length-decimal n fit.0)

-- a line of a word and numbers that is short
short_back : {X : Type 0} (g : Grammar X) (p : X → List (List ℕ)) (l : Line X) (word : List ℕ) (ns : List ℕ) → tokens_by p l ≡ word ∷ map decimal ns →
    has_byte 32 word ≡ false → has_byte 10 word ≡ false → length (join_with_byte 32 (word ∷ map decimal ns)) < 50 → AllByRecursion Fits ns → g.said_by (word ∷ map decimal ns) ≡ Ok l → IsReadBack g p l
short_back g p l word ns shape space end short fit says = record {
  says = ap (g.said_by) shape ∙ says;
  word = word;
  others = map decimal ns;
  some = shape;
  no_space = ap (has_byte_in 32) shape ∙ rw space (numbers_without 32 ns (omega arith));
  no_end = ap (has_byte_in 10) shape ∙ rw end (numbers_without 10 ns (omega arith));
  short = rw shape short;
}

-- a line of a word and up to two numbers
read_back : {X : Type 0} (g : Grammar X) (p : X → List (List ℕ)) (l : Line X) (word : List ℕ) (ns : List ℕ) → tokens_by p l ≡ word ∷ map decimal ns →
    has_byte 32 word ≡ false → has_byte 10 word ≡ false → length word ≤ 5 → length ns ≤ 2 → AllByRecursion Fits ns → g.said_by (word ∷ map decimal ns) ≡ Ok l → IsReadBack g p l
read_back g p l word ns shape space end short few fit says =
    short_back g p l word ns shape space end (let bound = length-tokens word ns fit in omega (arith, bound, short, few)) fit says

-- a line of a word, an address and two numbers
length-swap : (a r v : ℕ) → a < 256 → AllByRecursion Fits (a ∷ r ∷ v ∷ []) → length (join_with_byte 32 (codes "sw" ∷ map decimal (a ∷ r ∷ v ∷ []))) < 50
length-swap a r v low fit =
    let address : length (decimal a) ≤ 3 = length-decimal-le 3 a (omega arith) (omega (arith, low)) (omega (arith, low)) in
    let rest = length-tokens (decimal a) (r ∷ v ∷ []) fit.1 in
    omega (arith, address, rest, length-append (codes "sw") (32 ∷ join_with_byte 32 (decimal a ∷ decimal r ∷ decimal v ∷ [])))

-- ---- the lines of traces

pub trace_end : (setting : SettingValue) → IsReadBack (trace_grammar setting) outcome_tokens End
unfolding trace_line numbers
trace_end setting = read_back (trace_grammar setting) outcome_tokens End (codes "end") [] refl refl refl (omega arith) (omega arith) tt refl

trace_proc : (setting : SettingValue) → IsReadBack (trace_grammar setting) outcome_tokens Proc
unfolding trace_line numbers
trace_proc setting = read_back (trace_grammar setting) outcome_tokens Proc (codes "proc") [] refl refl refl (omega arith) (omega arith) tt refl

outcome_back : (setting : SettingValue) (x : Outcome) → ((a : ℕ) → address_of (op_of x) ≡ Some a → a < 256) → ((v : ℕ) → stored_by (op_of x) ≡ Some v → v < 2 ^ 64) → ReadFits x →
    is_stbar_in_tso setting.order (op_of x) ≡ false → IsReadBack (trace_grammar setting) outcome_tokens (Item x)
unfolding trace_line numbers
outcome_back setting (Ld a r) within writes reads no_stbar =
    let low = within a refl in
    let fits : a < 2 ^ 64 = omega (arith, low) in
    read_back (trace_grammar setting) outcome_tokens (Item (Ld a r)) (codes "ld") (a ∷ r ∷ []) refl refl refl (omega arith) (omega arith) (fits, (reads, tt))
    ((trace_reads setting.order).item (Ld a r) (no_stbar, All-from_recursion Fits (a ∷ r ∷ []) (fits, (reads, tt))) ∙ ap (λ b. Ok (Item (Ld b r))) (address-within a low))
outcome_back setting (St a v) within writes reads no_stbar =
    let low = within a refl in
    let fits : a < 2 ^ 64 = omega (arith, low) in
    let value = writes v refl in
    read_back (trace_grammar setting) outcome_tokens (Item (St a v)) (codes "st") (a ∷ v ∷ []) refl refl refl (omega arith) (omega arith) (fits, (value, tt))
    ((trace_reads setting.order).item (St a v) (no_stbar, All-from_recursion Fits (a ∷ v ∷ []) (fits, (value, tt))) ∙ ap (λ b. Ok (Item (St b v))) (address-within a low))
outcome_back setting (Sw a r v) within writes reads no_stbar =
    let low = within a refl in
    let fits : a < 2 ^ 64 = omega (arith, low) in
    let value = writes v refl in
    short_back (trace_grammar setting) outcome_tokens (Item (Sw a r v)) (codes "sw") (a ∷ r ∷ v ∷ []) refl refl refl (length-swap a r v low (fits, (reads, (value, tt)))) (fits, (reads, (value, tt)))
    ((trace_reads setting.order).item (Sw a r v) (no_stbar, All-from_recursion Fits (a ∷ r ∷ v ∷ []) (fits, (reads, (value, tt)))) ∙ ap (λ b. Ok (Item (Sw b r v))) (address-within a low))
outcome_back setting Mb within writes reads no_stbar = read_back (trace_grammar setting) outcome_tokens (Item Mb) (codes "mb") [] refl refl refl (omega arith) (omega arith) tt refl
outcome_back setting Sb within writes reads no_stbar = read_back (trace_grammar setting) outcome_tokens (Item Sb) (codes "stbar") [] refl refl refl (omega arith) (omega arith) tt (rw (stbar_known setting.order no_stbar) refl)

middle_limits : (setting : SettingValue) (items before : List Outcome) (x : Outcome) (after : List Outcome) → KeepsLimits setting (map op_of items) → items ≡ before ++ x ∷ after → KeepsLimits setting (map op_of before ++ op_of x ∷ map op_of after)
middle_limits setting items before x after limits at = subst (KeepsLimits setting) (ap (map op_of) at ∙ map-append op_of before (x ∷ after)) limits

outcomes_fit : (setting : SettingValue) (items : List Outcome) → KeepsLimits setting (map op_of items) → All ReadFits items → AreFit (trace_grammar setting) outcome_tokens items
unfolding outcome_fault
outcomes_fit setting items limits reads = record {
  back = λ before x after at.
      let kept = middle_limits setting items before x after limits at in
      outcome_back setting x (λ a is. kept_address setting (map op_of before) (op_of x) (map op_of after) a kept is) (λ v is. kept_value setting (map op_of before) (op_of x) (map op_of after) v kept is)
      (each-middle ReadFits before x after (subst (AllByRecursion ReadFits) at (recursion_from_All _ _ reads)))
      (kept_faultless setting (map op_of before) (op_of x) (map op_of after) kept StbarInTso);
  clean = λ before x after at. no_fault (has_fault setting (map op_of before) (op_of x)) (kept_faultless setting (map op_of before) (op_of x) (map op_of after) (middle_limits setting items before x after limits at));
}

-- lines of at most 16 processors and 16,000 items are a short text
short_lines : {X : Type 0} (g : Grammar X) (p : X → List (List ℕ)) (lists last : List (List X)) → AreAccepted g p [] (made_by lists) last → length lists ≤ 16 → length (items_of lists) ≤ 16000 →
    length (flat_map (processor_text p) lists) ≤ 800800
short_lines g p lists last accepted few some =
    let lines = length-lines g p [] (made_by lists) last accepted in
    let count = length-made_by lists in
    let same = ap length (made_by-text p lists) in
    omega (arith, lines, count, same, few, some)

-- ---- whole texts

-- the lines of lists and `end` don't begin with a keyword of the preamble
pub lists_begin : {X : Type 0} (p : X → List (List ℕ)) (row : List X) (lists : List (List X)) (last : List ℕ) → BeginsBody (flat_map (processor_text p) (row ∷ lists) ++ last)
unfolding processor_text
lists_begin p row lists last =
    let rest = flat_map (processor_text p) lists in
    let same : ((line_text (codes "proc" ∷ []) ++ items_text p row) ++ rest) ++ last ≡ line_text (codes "proc" ∷ []) ++ ((items_text p row ++ rest) ++ last) =
    ap (λ b. b ++ last) (append_assoc (line_text (codes "proc" ∷ [])) (items_text p row) rest) ∙ append_assoc (line_text (codes "proc" ∷ [])) (items_text p row ++ rest) last in
    rw same (record { word = codes "proc"; tokens = []; rest = (items_text p row ++ rest) ++ last; begins = printed_line (codes "proc") [] ((items_text p row ++ rest) ++ last) refl refl; no_model = refl; no_entry = refl })

pub body_begins : {X : Type 0} (p : X → List (List ℕ)) (lists : List (List X)) (rest : List ℕ) → BeginsBody (flat_map (processor_text p) lists ++ (line_text (codes "end" ∷ []) ++ rest))
body_begins p [] rest = record { word = codes "end"; tokens = []; rest = rest; begins = printed_line (codes "end") [] rest refl refl; no_model = refl; no_entry = refl }
body_begins p (row ∷ lists) rest = lists_begin p row lists (line_text (codes "end" ∷ []) ++ rest)

entries_length : (first : List (ℕ × ℕ)) → AllByRecursion (λ entry. entry.0 < 256) first → AllByRecursion (λ entry. entry.1 < 2 ^ 64) first → length (items_text entry_tokens first) ≤ 50 * length first
unfolding items_text
entries_length [] low fits = omega arith
entries_length (entry ∷ first) low fits =
    let address : entry.0 < 2 ^ 64 = omega (arith, low.0) in
    let line = length-tokens (codes "init") (entry.0 ∷ entry.1 ∷ []) (address, (fits.0, tt)) in
    let rest = entries_length first low.1 fits.1 in
    omega (arith, line, rest, length-append (line_text (entry_tokens entry)) (items_text entry_tokens first), length-append (join_with_byte 32 (entry_tokens entry)) (10 ∷ []))

model_length : (order : Order) → length (model_text order) ≤ 10
model_length Tso = omega arith
model_length Pso = omega arith

setting_length : (setting : SettingValue) → IsSetting setting → length (setting_text setting) ≤ 12810
unfolding setting_text
setting_length setting is =
    let entries = entries_length setting.first (recursion_from_All _ _ is.entries.addresses) (recursion_from_All _ _ is.entries.fits) in
    omega (arith, length-append (model_text setting.order) (items_text entry_tokens setting.first), model_length setting.order, entries, KeepsEntries-few setting.first is.entries)

length-whole : (header setting lines : List ℕ) → length header ≤ 20 → length setting ≤ 12810 → length lines ≤ 800800 → length (whole_text header (setting ++ lines)) ≤ text_byte_limit
unfolding whole_text
length-whole header setting lines short few some =
    omega (arith, length-append (header ++ 10 ∷ (setting ++ lines)) (line_text (codes "end" ∷ [])), length-append header (10 ∷ (setting ++ lines)), length-append setting lines, short, few, some)

length-header : (one two : List ℕ) (version : Version) → length one ≤ 20 → length two ≤ 20 → length (header_of one two version) ≤ 20
length-header one two One short also = short
length-header one two Two short also = also

-- The printed text of a setting and of lists, in a format with this preamble.
whole_spells : {X : Type 0} (f : Format X) (one two : List ℕ) (p : X → List (List ℕ)) (setting : SettingValue) (lists : List (List X)) →
    ((text : List ℕ) → preamble_of f text ≡ setting_preamble one two (whole_lines (parts_of text))) → AreHeaders one two → IsSetting setting → IsReadBack (f.grammar setting) p End → AreAccepted (f.grammar setting) p (f.grammar setting).start (made_by lists) lists →
    length (whole_text (header_of one two setting.version) (setting_text setting ++ flat_map (processor_text p) lists)) ≤ text_byte_limit →
    (setting ≡ (preamble_of f (whole_text (header_of one two setting.version) (setting_text setting ++ flat_map (processor_text p) lists))).setting) × SpellsLists f (whole_text (header_of one two setting.version) (setting_text setting ++ flat_map (processor_text p) lists)) lists
unfolding whole_text
whole_spells f one two p setting lists by headers is end accepted short =
    let lines = flat_map (processor_text p) lists in
    let text = whole_text (header_of one two setting.version) (setting_text setting ++ lines) in
    let read = setting_back one two setting lines (line_text (codes "end" ∷ [])) headers is (body_follows setting (lines ++ line_text (codes "end" ∷ [])) (body_begins p lists [])) in
    let begun : HasBegun (preamble_of f text) text setting read.0 (lines ++ line_text (codes "end" ∷ [])) = subst (λ q. HasBegun q text setting read.0 (lines ++ line_text (codes "end" ∷ []))) (sym (by text)) read.1 in
    (sym begun.says, begun_spells f text setting read.0 (lines ++ line_text (codes "end" ∷ [])) lists short begun (printed_parts (f.grammar setting) p (made_by lists) lists lines end accepted (made_by-text p lists)))

pub setting_of_program : (p : ProgramValue) → IsProgram p → IsSetting p.setting
setting_of_program p program = record { entries = program.entries; version_one = program.version_one }

few_items : (version : Version) (n : ℕ) → n ≤ event_limit version + barrier_limit version → n ≤ 16000
few_items One n low = omega (arith, low)
few_items Two n low = omega (arith, low)

pub trace_headers : AreHeaders (trace_header One) (trace_header Two)
trace_headers = record { differ = refl; same_one = refl; same_two = refl; whole_one = refl; whole_two = refl }

pub program_headers : AreHeaders (program_header One) (program_header Two)
program_headers = record { differ = refl; same_one = refl; same_two = refl; whole_one = refl; whole_two = refl }

pub trace_limits : (t : TraceValue) → IsTrace t → KeepsLimits t.setting (map op_of (items_of t.lists))
trace_limits t trace = subst (KeepsLimits t.setting) (items_of-map op_of t.lists) trace.program.limits

pub few_lists : (t : TraceValue) → IsTrace t → length t.lists ≤ 16
few_lists t trace = omega (arith, length-map t.lists (map op_of), trace.program.processors)

pub trace_accepted : (t : TraceValue) → IsTrace t → AreAccepted (trace_grammar t.setting) outcome_tokens [] (made_by t.lists) t.lists
trace_accepted t trace =
    lists_accepted (trace_grammar t.setting) outcome_tokens (items_of t.lists) (outcomes_fit t.setting (items_of t.lists) (trace_limits t trace) trace.reads) (trace_proc t.setting) [] t.lists (omega (arith, few_lists t trace)) refl

pub printed_trace_spells : (t : TraceValue) → IsTrace t → HasTraceLines (trace_text t) t
unfolding trace_text
printed_trace_spells t trace =
    let setting = t.setting in
    let is = setting_of_program (program_of t) trace.program in
    let limits = trace_limits t trace in
    let few = few_lists t trace in
    let accepted = trace_accepted t trace in
    let some : length (items_of t.lists) ≤ 16000 = few_items setting.version (length (items_of t.lists)) (omega (arith, kept_few setting (map op_of (items_of t.lists)) limits, length-map (items_of t.lists) op_of)) in
    let short = length-whole (trace_header setting.version) (setting_text setting) (flat_map (processor_text outcome_tokens) t.lists) (length-header (trace_header One) (trace_header Two) setting.version (omega arith) (omega arith)) (setting_length setting is)
    (short_lines (trace_grammar setting) outcome_tokens t.lists t.lists accepted few some) in
    whole_spells trace_format (trace_header One) (trace_header Two) outcome_tokens setting t.lists (λ text. refl) trace_headers is (trace_end setting) accepted short

-- ---- the lines of programs

pub program_end : (setting : SettingValue) → IsReadBack (program_grammar setting) op_tokens End
unfolding program_line numbers
program_end setting = read_back (program_grammar setting) op_tokens End (codes "end") [] refl refl refl (omega arith) (omega arith) tt refl

program_proc : (setting : SettingValue) → IsReadBack (program_grammar setting) op_tokens Proc
unfolding program_line numbers
program_proc setting = read_back (program_grammar setting) op_tokens Proc (codes "proc") [] refl refl refl (omega arith) (omega arith) tt refl

op_back : (setting : SettingValue) (x : Op) → ((a : ℕ) → address_of x ≡ Some a → a < 256) → ((v : ℕ) → stored_by x ≡ Some v → v < 2 ^ 64) → is_stbar_in_tso setting.order x ≡ false → IsReadBack (program_grammar setting) op_tokens (Item x)
unfolding program_line numbers
op_back setting (OpLd a) within writes no_stbar =
    let low = within a refl in
    let fits : a < 2 ^ 64 = omega (arith, low) in
    read_back (program_grammar setting) op_tokens (Item (OpLd a)) (codes "ld") (a ∷ []) refl refl refl (omega arith) (omega arith) (fits, tt)
    ((program_reads setting.order).item (OpLd a) (no_stbar, All-from_recursion Fits (a ∷ []) (fits, tt)) ∙ ap (λ b. Ok (Item (OpLd b))) (address-within a low))
op_back setting (OpSt a v) within writes no_stbar =
    let low = within a refl in
    let fits : a < 2 ^ 64 = omega (arith, low) in
    let value = writes v refl in
    read_back (program_grammar setting) op_tokens (Item (OpSt a v)) (codes "st") (a ∷ v ∷ []) refl refl refl (omega arith) (omega arith) (fits, (value, tt))
    ((program_reads setting.order).item (OpSt a v) (no_stbar, All-from_recursion Fits (a ∷ v ∷ []) (fits, (value, tt))) ∙ ap (λ b. Ok (Item (OpSt b v))) (address-within a low))
op_back setting (OpSw a v) within writes no_stbar =
    let low = within a refl in
    let fits : a < 2 ^ 64 = omega (arith, low) in
    let value = writes v refl in
    read_back (program_grammar setting) op_tokens (Item (OpSw a v)) (codes "sw") (a ∷ v ∷ []) refl refl refl (omega arith) (omega arith) (fits, (value, tt))
    ((program_reads setting.order).item (OpSw a v) (no_stbar, All-from_recursion Fits (a ∷ v ∷ []) (fits, (value, tt))) ∙ ap (λ b. Ok (Item (OpSw b v))) (address-within a low))
op_back setting OpMb within writes no_stbar = read_back (program_grammar setting) op_tokens (Item OpMb) (codes "mb") [] refl refl refl (omega arith) (omega arith) tt refl
op_back setting OpSb within writes no_stbar = read_back (program_grammar setting) op_tokens (Item OpSb) (codes "stbar") [] refl refl refl (omega arith) (omega arith) tt (rw (stbar_known setting.order no_stbar) refl)

ops_fit : (setting : SettingValue) (items : List Op) → KeepsLimits setting items → AreFit (program_grammar setting) op_tokens items
unfolding program_op_fault
ops_fit setting items limits = record {
  back = λ before x after at.
      let kept = subst (KeepsLimits setting) at limits in
      op_back setting x (λ a is. kept_address setting before x after a kept is) (λ v is. kept_value setting before x after v kept is) (kept_faultless setting before x after kept StbarInTso);
  clean = λ before x after at. no_fault (has_fault setting before x) (kept_faultless setting before x after (subst (KeepsLimits setting) at limits));
}

pub program_accepted : (p : ProgramValue) → IsProgram p → AreAccepted (program_grammar p.setting) op_tokens [] (made_by p.lists) p.lists
program_accepted p program =
    lists_accepted (program_grammar p.setting) op_tokens (items_of p.lists) (ops_fit p.setting (items_of p.lists) program.limits) (program_proc p.setting) [] p.lists (omega (arith, program.processors)) refl

pub printed_program_spells : (p : ProgramValue) → IsProgram p → HasProgramLines (program_text p) p
unfolding program_text
printed_program_spells p program =
    let setting = p.setting in
    let is = setting_of_program p program in
    let accepted = program_accepted p program in
    let some = few_items setting.version (length (items_of p.lists)) (kept_few setting (items_of p.lists) program.limits) in
    let short = length-whole (program_header setting.version) (setting_text setting) (flat_map (processor_text op_tokens) p.lists) (length-header (program_header One) (program_header Two) setting.version (omega arith) (omega arith)) (setting_length setting is)
    (short_lines (program_grammar setting) op_tokens p.lists p.lists accepted program.processors some) in
    whole_spells program_format (program_header One) (program_header Two) op_tokens setting p.lists (λ text. refl) program_headers is (program_end setting) accepted short

-- ---- the lines of schedules

pub schedule_end : IsReadBack schedule_grammar act_tokens End
unfolding schedule_line numbers
schedule_end = read_back schedule_grammar act_tokens End (codes "end") [] refl refl refl (omega arith) (omega arith) tt refl

act_back : (x : Act) → processor_of x ≤ 15 → IsReadBack schedule_grammar act_tokens (Item x)
unfolding schedule_line
act_back (Issue p) low =
    let fits : p < 2 ^ 64 = omega (arith, low) in
    read_back schedule_grammar act_tokens (Item (Issue p)) (codes "i") (p ∷ []) refl refl refl (omega arith) (omega arith) (fits, tt) (schedule_reads.item (Issue p) fits)
act_back (Drain p) low =
    let fits : p < 2 ^ 64 = omega (arith, low) in
    read_back schedule_grammar act_tokens (Item (Drain p)) (codes "d") (p ∷ []) refl refl refl (omega arith) (omega arith) (fits, tt) (schedule_reads.item (Drain p) fits)

acts_fit : (acts : List Act) → All (λ x. processor_of x ≤ 15) acts → AreFit schedule_grammar act_tokens acts
acts_fit acts within = record {
  back = λ before x after at. act_back x (each-middle (λ x. processor_of x ≤ 15) before x after (subst (AllByRecursion (λ x. processor_of x ≤ 15)) at (recursion_from_All _ _ within)));
  clean = λ before x after at. act_clean before x (each-middle (λ x. processor_of x ≤ 15) before x after (subst (AllByRecursion (λ x. processor_of x ≤ 15)) at (recursion_from_All _ _ within)));
}

pub acts_accepted : (acts : List Act) → All (λ x. processor_of x ≤ 15) acts → AreAccepted schedule_grammar act_tokens ([] ∷ []) (map Item acts) (acts ∷ [])
acts_accepted acts within = items_accepted schedule_grammar act_tokens acts (acts_fit acts within)

pub printed_schedule_spells : (acts : List Act) → All (λ x. processor_of x ≤ 15) acts → length (schedule_text acts) ≤ text_byte_limit → HasScheduleLines (schedule_text acts) acts
unfolding schedule_text items_text whole_text
printed_schedule_spells acts within short =
    let lines = flat_map (λ x. line_text (act_tokens x)) acts in
    let last = line_text (codes "end" ∷ []) in
    let same : (schedule_header ++ 10 ∷ lines) ++ last ≡ schedule_header ++ 10 ∷ (lines ++ last) = append_assoc schedule_header (10 ∷ lines) last in
    let begun = header_read schedule_header (lines ++ last) refl refl in
    let body = printed_parts schedule_grammar act_tokens (map Item acts) (acts ∷ []) lines schedule_end (acts_accepted acts within) (flat_map-Item (λ l. line_text (tokens_by act_tokens l)) acts) in
    rw same (begun_spells schedule_format (schedule_header ++ 10 ∷ (lines ++ last)) version_one_tso 1 (lines ++ last) (acts ∷ []) (subst (λ t. length t ≤ text_byte_limit) same short) begun body)
