-- Traces, programs and schedules as kinds of texts: their lines go on within the limits, and the grammar refuses what the kind does.
use Rattle.std.specs.Str.{bytes_eq}
use Rattle.std.proofs.Common.{◌≡◌, ◌⊎◌, ℕ, ◌≤◌, Bool, true, false, List, [], ◌∷◌, ◌++◌, length, map, All, Option, None, Ok, refl, ap, sym, ◌∙◌, subst, arith, append_assoc, inl, inr, ⊎_elim}
use Rattle.std.specs.Prelude.{codes}
use Rattle.std.specs.List.{flat_map, join_with_byte}
use Rattle.std.proofs.lemmas.Bool.{false≢true}
use Rattle.std.proofs.lemmas.List.{append-nil, length-map}
use Rattle.std.proofs.lemmas.List.Concat.{flat_map-append}
use Rattle.std.proofs.lemmas.List.Elements.{All-nil}
use Rattle.std.proofs.lemmas.Slice.Eq.{bytes_eq-Decides}
use Rattle.line_text.specs.Lines.{line_text, parts_of}
use Rattle.line_text.proofs.CutFacts.{HasLine, first_line}
use Rattle.line_text.proofs.SplitFacts.{has_byte}
use Rattle.tso_ops.specs.declared.acts.Act.{Act}
use Rattle.tso_ops.specs.declared.ops.Op.{Op}
use Rattle.tso_ops.specs.declared.ops.Outcome.{Outcome}
use Rattle.tso_ops.specs.declared.settings.Order.TheVariants.{Tso}
use Rattle.tso_ops.specs.declared.settings.Version.{Version}
use Rattle.tso_ops.specs.declared.settings.Version.TheVariants.{One, Two}
use Rattle.tso_ops.specs.Limits.{IsTrace, IsProgram, KeepsLimits}
use Rattle.tso_ops.specs.Settings.{SettingValue, version_one_tso}
use Rattle.tso_ops.specs.Values.{TraceValue, ProgramValue, ReadFits, op_of, program_of, trace_of_lists, program_of_lists}
use Rattle.tso_ops.specs.Tally.{Admitted}
use Rattle.tso_ops.proofs.EntryFacts.{KeepsEntries-nil}
use Rattle.tso_ops.proofs.LimitFacts.{KeepsLimits-nil}
use Rattle.tso_text.specs.declared.faults.Why.{Why}
use Rattle.tso_text.specs.declared.faults.Why.TheVariants.{BadHeader}
use Rattle.tso_text.specs.declared.lines.Line.{Line}
use Rattle.tso_text.specs.declared.lines.Line.TheVariants.{Proc, Item, End}
use Rattle.tso_text.specs.Printed.{header_of, trace_header, program_header, schedule_header, items_text, outcome_tokens, op_tokens, act_tokens}
use Rattle.tso_text.specs.Internal.LineReadings.{act_fault_after, trace_line, program_line, fault_of, line_fault_after, fault_in_lists, op_fault_after}
use Rattle.tso_text.proofs.LineFaults.{Faults, fault_is}
use Rattle.tso_text.proofs.SaidLines.{faults_of_lists}
use Rattle.tso_text.proofs.SaidItems.{trace_reads, trace_proc_said, IsWritableOutcome, IsWritableOp, short_outcome, short_outcome_fault, program_reads, program_proc_said, short_op, short_op_fault, schedule_found, faults_of_schedules, not_proc}
use Rattle.tso_text.specs.Refusals.{IsFaultAmong, StandsInSchedule, TextKind, IsLineRefusal, trace_kind, program_kind, schedule_kind}
use Rattle.tso_text.specs.Texts.{text_byte_limit, processor_of}
use Rattle.tso_text.specs.Internal.Accepted.{IsKept}
use Rattle.tso_text.specs.Internal.Begun.{IsSetting, HasBegun, IsPreambleRefusal}
use Rattle.tso_text.specs.Internal.Grammars.{trace_format, program_format, schedule_format, trace_grammar, program_grammar, schedule_grammar, outcome_fault, program_op_fault, act_fault}
use Rattle.tso_text.specs.Internal.Preambles.{header_alone, setting_preamble}
use Rattle.tso_text.specs.Internal.Spelling.{IsTextRefusal, items_of, line_fault, preamble_of, with_line}
use Rattle.tso_text.specs.Lines.{whole_lines}
use Rattle.tso_text.proofs.CanonicalFacts.{tokens_by, word_is}
use Rattle.tso_text.proofs.NextLines.{refused_as, GoesOn, IsKnownHeader, HasNoHeader, begun_text, starts_by, no_lines, refused_by_kind, refused_after_kind, refused_at_line, refused_after_end}
use Rattle.tso_text.proofs.NextOfLists.{IsListKind, IsLonger, SaysLine, line_says, lists_text, next_line}
use Rattle.tso_text.proofs.OneTextFacts.{prints_trace, prints_program, prints_schedule, acts_made, flat_map-Item, AreLawful, line_kept, trace_items, program_items, act_items}
use Rattle.tso_text.proofs.LineFacts.{items_of-map}
use Rattle.tso_text.proofs.PreambleFacts.{header_refused, no_header, no_line, alone_refused, alone_other, alone_none}
use Rattle.tso_text.proofs.PrintedSetting.{AreHeaders, header_read}
use Rattle.tso_text.proofs.PrintedSpelling.{trace_headers, program_headers, setting_of_program, few_lists, trace_limits, trace_accepted, program_accepted, acts_accepted, trace_end, program_end, schedule_end}
use Rattle.tso_text.proofs.ReadersFacts.{preamble_refused}

-- ---- headers

other_word : (line header : List ℕ) → bytes_eq line header ≡ false → header ≡ line → ⊥
other_word line header off same = false≢true (sym off ∙ (bytes_eq-Decides line header).1 (sym same))

header_whole : (one two : List ℕ) → AreHeaders one two → (version : Version) → has_byte 10 (header_of one two version) ≡ false
header_whole one two h One = h.whole_one
header_whole one two h Two = h.whole_two

-- version 1 or 2 under TSO, without first values
abbrev empty_setting : Version → SettingValue
empty_setting version = record { version = version; order = Tso; first = [] }

empty_is_setting : (version : Version) → IsSetting (empty_setting version)
empty_is_setting version = record { entries = KeepsEntries-nil; version_one = λ _. refl }

module _ {V : Type 0} (k : TextKind V) (one two : List ℕ) (version_in : V → Version) (empty : Version → V) (header : (v : V) → k.header v ≡ header_of one two (version_in v)) (version : (n : Version) → version_in (empty n) ≡ n) (is : (n : Version) → k.Is (empty n)) where
  header_of_empty : (n : Version) → k.header (empty n) ≡ header_of one two n
  header_of_empty n = header (empty n) ∙ ap (header_of one two) (version n)

  known_header : ((n : Version) → k.lines (empty n) ≡ []) → (line : List ℕ) → IsKnownHeader k line
  known_header none line = by_two (bytes_eq line two) refl
    where
      neither : bytes_eq line one ≡ false → bytes_eq line two ≡ false → (n : Version) → header_of one two n ≡ line → ⊥
      neither no_one no_two One same = other_word line one no_one same
      neither no_one no_two Two same = other_word line two no_two same

      by_one : bytes_eq line two ≡ false → (b : Bool) → bytes_eq line one ≡ b → IsKnownHeader k line
      by_one no_two true on = inl (empty One, is One, header_of_empty One ∙ sym (word_is line one on), none One)
      by_one no_two false no_one = inr (λ v same. neither no_one no_two (version_in v) (sym (header v) ∙ same))

      by_two : (b : Bool) → bytes_eq line two ≡ b → IsKnownHeader k line
      by_two true on = inl (empty Two, is Two, header_of_empty Two ∙ sym (word_is line two on), none Two)
      by_two false no_two = by_one no_two (bytes_eq line one) refl

  -- a text that begins with no header
  bad_header : (text : List ℕ) → HasNoHeader k text → IsPreambleRefusal (setting_preamble one two (whole_lines (parts_of text))) 1 BadHeader
  bad_header text none = ⊎_elim (λ cut. header_refused one two text (no_line one two text cut)) (λ l. by_two l (bytes_eq l.line two) refl) (first_line text)
    where
      not_empty : (l : HasLine text) (n : Version) → l.line ≡ header_of one two n → ⊥
      not_empty l n same = none (empty n) l.rest (is n) (l.bytes ∙ ap (λ line. line ++ 10 ∷ l.rest) (same ∙ sym (header_of_empty n)))

      by_one : (l : HasLine text) → bytes_eq l.line two ≡ false → (b : Bool) → bytes_eq l.line one ≡ b → IsPreambleRefusal (setting_preamble one two (whole_lines (parts_of text))) 1 BadHeader
      by_one l no_two true on = absurd (not_empty l One (word_is l.line one on))
      by_one l no_two false no_one = header_refused one two text (no_header one two text l.line l.rest l.parts no_two no_one)

      by_two : (l : HasLine text) (b : Bool) → bytes_eq l.line two ≡ b → IsPreambleRefusal (setting_preamble one two (whole_lines (parts_of text))) 1 BadHeader
      by_two l true on = absurd (not_empty l Two (word_is l.line two on))
      by_two l false no_two = by_one l no_two (bytes_eq l.line one) refl

-- one more line of a text
longer_text : {X : Type 0} (header : Version → List ℕ) (tokens : X → List (List ℕ)) (Is : SettingValue → List (List X) → Type 0) (setting : SettingValue) (lists : List (List X)) (line : List ℕ) → (l : IsLonger tokens Is setting lists line) →
    header l.new.version ++ 10 ∷ lists_text tokens l.new l.made ≡ (header setting.version ++ 10 ∷ lists_text tokens setting lists) ++ (line ++ 10 ∷ [])
longer_text header tokens Is setting lists line l =
    ap (λ v. header v ++ 10 ∷ lists_text tokens l.new l.made) l.version ∙ ap (λ t. header setting.version ++ 10 ∷ t) l.text ∙ sym (append_assoc (header setting.version) (10 ∷ lists_text tokens setting lists) (line ++ 10 ∷ []))

-- ---- traces

-- lists of outcomes within the limits are those of a trace
pub trace_within : (setting : SettingValue) (lists : List (List Outcome)) → IsSetting setting → length lists ≤ 16 → KeepsLimits setting (map op_of (items_of lists)) → All ReadFits (items_of lists) → IsTrace (trace_of_lists setting lists)
trace_within setting lists is few limits reads = record {
  program = record {
    processors = omega (arith, length-map lists (map op_of), few);
    version_one = is.version_one;
    entries = is.entries;
    limits = subst (KeepsLimits setting) (sym (items_of-map op_of lists)) limits;
  };
  reads = reads;
}

pub trace_kept : (setting : SettingValue) (lists : List (List Outcome)) → IsSetting setting → IsKept (λ tally items. Admitted setting tally (map op_of items) × All ReadFits items) lists → IsTrace (trace_of_lists setting lists)
trace_kept setting lists is kept = trace_within setting lists is kept.few kept.keeps_items.0.limits kept.keeps_items.1

abbrev outcome_fault_after : SettingValue → List Outcome → Outcome → Option Why
outcome_fault_after setting before x = op_fault_after setting (map op_of before) (op_of x)

abbrev IsTraceOf : SettingValue → List (List Outcome) → Type 0
IsTraceOf setting lists = IsTrace (trace_of_lists setting lists)

trace_setting : (setting : SettingValue) (lists : List (List Outcome)) → IsTraceOf setting lists → IsSetting setting
trace_setting setting lists is = setting_of_program (program_of (trace_of_lists setting lists)) is.program

trace_list_kind : IsListKind trace_grammar outcome_tokens outcome_fault_after IsTraceOf
unfolding outcome_fault
trace_list_kind = record {
  tells = λ setting before x. refl;
  prints = prints_trace;
  grows = λ setting lists ps l says clean is.
      let t = trace_of_lists setting lists in
      let kept = line_kept (trace_grammar setting) (AreLawful setting) (trace_items setting) lists ps l says clean (record { few = few_lists t is; items = record { limits = trace_limits t is; reads = is.reads } }) in
      trace_within setting (with_line lists l) (trace_setting setting lists is) kept.few kept.items.limits kept.items.reads;
  begins = λ setting is. trace_within setting [] is (omega arith) (KeepsLimits-nil setting) (All-nil _);
  setting = trace_setting;
}

abbrev empty_trace : Version → TraceValue
empty_trace version = trace_of_lists (empty_setting version) []

empty_trace_is : (version : Version) → IsTrace (empty_trace version)
empty_trace_is version = trace_list_kind.begins (empty_setting version) (empty_is_setting version)

trace_faults : (t : TraceValue) → Faults (trace_kind.Stands t) (λ ps. fault_in_lists t.setting t.lists ps (fault_of (trace_line t.setting.order ps) (line_fault_after (outcome_fault_after t.setting) t.lists)))
trace_faults t = faults_of_lists (trace_line t.setting.order) outcome_tokens (IsWritableOutcome t.setting.order) short_outcome (trace_reads t.setting.order) (trace_proc_said t.setting.order) t.setting (outcome_fault_after t.setting) (short_outcome_fault t.setting) t.lists

pub traces_go_on : GoesOn trace_kind
traces_go_on = record {
  starts = starts_by trace_kind (λ t. header_whole (trace_header One) (trace_header Two) trace_headers t.setting.version)
      (known_header trace_kind (trace_header One) (trace_header Two) (λ t. t.setting.version) empty_trace (λ t. refl) (λ n. refl) empty_trace_is (λ n. no_lines (empty_setting n) refl refl));
  fault = λ t ps. fault_in_lists t.setting t.lists ps (fault_of (trace_line t.setting.order ps) (line_fault_after (outcome_fault_after t.setting) t.lists));
  finds = trace_faults;
  next = λ t line is none. ⊎_elim
      (λ end. inl end)
      (λ l. inr (trace_of_lists l.new l.made, l.is, longer_text trace_header outcome_tokens IsTraceOf t.setting t.lists line l))
      (next_line trace_grammar outcome_tokens outcome_fault_after IsTraceOf trace_list_kind t.setting t.lists line is none);
}

pub trace_line_refused : (text : List ℕ) (line : ℕ) (why : Why) → length text ≤ text_byte_limit → IsLineRefusal trace_kind text line why → IsTextRefusal trace_format text line why
trace_line_refused text line why short (inl (none, at, is)) =
    rw (at, is) (preamble_refused trace_format text 1 BadHeader short (bad_header trace_kind (trace_header One) (trace_header Two) (λ t. t.setting.version) empty_trace (λ t. refl) (λ n. refl) empty_trace_is text none))
trace_line_refused text line why short (inr (inl (t, is, r))) =
    rw r.at (refused_by_kind trace_format (trace_header One) (trace_header Two) outcome_tokens outcome_fault_after trace_headers (λ text. refl) trace_list_kind.tells t.setting t.lists (trace_accepted t is) (trace_setting t.setting t.lists is) text r.rest why short r.whole (refused_as (IsFaultAmong (trace_kind.Stands t)) _ (fault_is (trace_kind.Stands t) _ (trace_faults t)) (parts_of r.rest) why r.refused))
trace_line_refused text line why short (inr (inr (t, is, r))) =
    rw (r.at, r.refused.1) (refused_after_kind trace_format (trace_header One) (trace_header Two) outcome_tokens outcome_fault_after trace_headers (λ text. refl) trace_list_kind.tells t.setting t.lists (trace_accepted t is) (trace_end t.setting) (trace_setting t.setting t.lists is) text r.rest short r.whole r.refused.0)

-- ---- programs

abbrev IsProgramOf : SettingValue → List (List Op) → Type 0
IsProgramOf setting lists = IsProgram (program_of_lists setting lists)

program_setting : (setting : SettingValue) (lists : List (List Op)) → IsProgramOf setting lists → IsSetting setting
program_setting setting lists is = setting_of_program (program_of_lists setting lists) is

program_list_kind : IsListKind program_grammar op_tokens op_fault_after IsProgramOf
unfolding program_op_fault
program_list_kind = record {
  tells = λ setting before op. refl;
  prints = prints_program;
  grows = λ setting lists ps l says clean is.
      let kept = line_kept (program_grammar setting) _ (program_items setting) lists ps l says clean (record { few = is.processors; items = is.limits }) in
      record { processors = kept.few; version_one = is.version_one; entries = is.entries; limits = kept.items };
  begins = λ setting is. record { processors = omega arith; version_one = is.version_one; entries = is.entries; limits = KeepsLimits-nil setting };
  setting = program_setting;
}

abbrev empty_program : Version → ProgramValue
empty_program version = program_of_lists (empty_setting version) []

empty_program_is : (version : Version) → IsProgram (empty_program version)
empty_program_is version = program_list_kind.begins (empty_setting version) (empty_is_setting version)

program_faults : (p : ProgramValue) → Faults (program_kind.Stands p) (λ ps. fault_in_lists p.setting p.lists ps (fault_of (program_line p.setting.order ps) (line_fault_after (op_fault_after p.setting) p.lists)))
program_faults p = faults_of_lists (program_line p.setting.order) op_tokens (IsWritableOp p.setting.order) short_op (program_reads p.setting.order) (program_proc_said p.setting.order) p.setting (op_fault_after p.setting) (short_op_fault p.setting) p.lists

pub programs_go_on : GoesOn program_kind
programs_go_on = record {
  starts = starts_by program_kind (λ p. header_whole (program_header One) (program_header Two) program_headers p.setting.version)
      (known_header program_kind (program_header One) (program_header Two) (λ p. p.setting.version) empty_program (λ p. refl) (λ n. refl) empty_program_is (λ n. no_lines (empty_setting n) refl refl));
  fault = λ p ps. fault_in_lists p.setting p.lists ps (fault_of (program_line p.setting.order ps) (line_fault_after (op_fault_after p.setting) p.lists));
  finds = program_faults;
  next = λ p line is none. ⊎_elim
      (λ end. inl end)
      (λ l. inr (program_of_lists l.new l.made, l.is, longer_text program_header op_tokens IsProgramOf p.setting p.lists line l))
      (next_line program_grammar op_tokens op_fault_after IsProgramOf program_list_kind p.setting p.lists line is none);
}

pub program_line_refused : (text : List ℕ) (line : ℕ) (why : Why) → length text ≤ text_byte_limit → IsLineRefusal program_kind text line why → IsTextRefusal program_format text line why
program_line_refused text line why short (inl (none, at, is)) =
    rw (at, is) (preamble_refused program_format text 1 BadHeader short (bad_header program_kind (program_header One) (program_header Two) (λ p. p.setting.version) empty_program (λ p. refl) (λ n. refl) empty_program_is text none))
program_line_refused text line why short (inr (inl (p, is, r))) =
    rw r.at (refused_by_kind program_format (program_header One) (program_header Two) op_tokens op_fault_after program_headers (λ text. refl) program_list_kind.tells p.setting p.lists (program_accepted p is) (program_setting p.setting p.lists is) text r.rest why short r.whole (refused_as (IsFaultAmong (program_kind.Stands p)) _ (fault_is (program_kind.Stands p) _ (program_faults p)) (parts_of r.rest) why r.refused))
program_line_refused text line why short (inr (inr (p, is, r))) =
    rw (r.at, r.refused.1) (refused_after_kind program_format (program_header One) (program_header Two) op_tokens op_fault_after program_headers (λ text. refl) program_list_kind.tells p.setting p.lists (program_accepted p is) (program_end p.setting) (program_setting p.setting p.lists is) text r.rest short r.whole r.refused.0)

-- ---- schedules

one_more_act : (acts : List Act) (line : List ℕ) → All (λ act. processor_of act ≤ 15) acts → (s : SaysLine schedule_grammar act_tokens (acts ∷ []) line) → (l : Line Act) → s.said_line ≡ l →
    (line ≡ codes "end") ⊎ ((others : List Act) × All (λ act. processor_of act ≤ 15) others × (begun_text schedule_kind others ≡ begun_text schedule_kind acts ++ (line ++ 10 ∷ [])))
unfolding items_text act_fault
one_more_act acts line is s Proc at = absurd (not_proc _ (s.says ∙ ap Ok at))
one_more_act acts line is s (Item x) at =
    let text : Act → List ℕ = λ act. line_text (act_tokens act) in
    let clean : line_fault schedule_grammar (acts ∷ []) (Item x) ≡ None = ap (λ l. line_fault schedule_grammar (acts ∷ []) l) (sym at) ∙ s.clean in
    let bytes : line ≡ join_with_byte 32 (act_tokens x) = s.bytes ∙ ap (λ l. join_with_byte 32 (tokens_by act_tokens l)) at in
    inr (
      acts ++ x ∷ [],
      act_items acts x _ (s.says ∙ ap Ok at) clean is,
      ap (λ t. schedule_header ++ 10 ∷ t) (flat_map-append text acts (x ∷ []) ∙ ap (λ t. flat_map text acts ++ t) (append-nil (text x) ∙ ap (λ b. b ++ 10 ∷ []) (sym bytes)))
          ∙ sym (append_assoc schedule_header (10 ∷ flat_map text acts) (line ++ 10 ∷ [])),
    )
one_more_act acts line is s End at = inl (s.bytes ∙ ap (λ l. join_with_byte 32 (tokens_by act_tokens l)) at)

known_schedule : (line : List ℕ) → IsKnownHeader schedule_kind line
unfolding items_text
known_schedule line = by (bytes_eq line schedule_header) refl
  where
    by : (b : Bool) → bytes_eq line schedule_header ≡ b → IsKnownHeader schedule_kind line
    by true on = inl ([], All-nil _, sym (word_is line schedule_header on), refl)
    by false off = inr (λ acts same. other_word line schedule_header off same)

pub schedules_go_on : GoesOn schedule_kind
unfolding act_fault
schedules_go_on = record {
  starts = starts_by schedule_kind (λ acts. refl) known_schedule;
  fault = schedule_found;
  finds = faults_of_schedules;
  next = λ acts line is none.
      let s = line_says schedule_grammar (λ before act. act_fault_after act) (λ before act. refl) acts_made act_tokens prints_schedule (acts ∷ []) line none in
      one_more_act acts line is s s.said_line refl;
}

schedule_header_refused : (text : List ℕ) → HasNoHeader schedule_kind text → IsPreambleRefusal (header_alone schedule_header (whole_lines (parts_of text))) 1 BadHeader
schedule_header_refused text none = ⊎_elim (λ cut. alone_refused schedule_header text (alone_none schedule_header text cut)) (λ l. by l (bytes_eq l.line schedule_header) refl) (first_line text)
  where
    by : (l : HasLine text) (b : Bool) → bytes_eq l.line schedule_header ≡ b → IsPreambleRefusal (header_alone schedule_header (whole_lines (parts_of text))) 1 BadHeader
    by l true on = absurd (none [] l.rest (All-nil _) (l.bytes ∙ ap (λ line. line ++ 10 ∷ l.rest) (word_is l.line schedule_header on)))
    by l false off = alone_refused schedule_header text (alone_other schedule_header text l.line l.rest l.parts off)

acts_text : (acts : List Act) → flat_map (λ l. line_text (tokens_by act_tokens l)) (map Item acts) ≡ items_text act_tokens acts
unfolding items_text
acts_text acts = flat_map-Item (λ l. line_text (tokens_by act_tokens l)) acts

pub schedule_line_refused : (text : List ℕ) (line : ℕ) (why : Why) → length text ≤ text_byte_limit → IsLineRefusal schedule_kind text line why → IsTextRefusal schedule_format text line why
unfolding act_fault
schedule_line_refused text line why short (inl (none, at, is)) = rw (at, is) (preamble_refused schedule_format text 1 BadHeader short (schedule_header_refused text none))
schedule_line_refused text line why short (inr (inl (acts, is, r))) =
    let lines = items_text act_tokens acts in
    let whole = r.whole ∙ append_assoc schedule_header (10 ∷ lines) r.rest in
    let begun = subst (λ t. HasBegun (header_alone schedule_header (whole_lines (parts_of t))) t version_one_tso 1 (lines ++ r.rest)) (sym whole) (header_read schedule_header (lines ++ r.rest) refl refl) in
    rw r.at (refused_at_line schedule_format act_tokens version_one_tso (acts ∷ []) (map Item acts) (acts_accepted acts is) (λ before act. act_fault_after act) (λ before act. refl) text (begun_text schedule_kind acts) r.rest 1 why short r.whole
    (subst (λ b. HasBegun (preamble_of schedule_format text) text version_one_tso 1 (b ++ r.rest)) (sym (acts_text acts)) begun) (refused_as (IsFaultAmong StandsInSchedule) _ (fault_is StandsInSchedule (schedule_found acts) (faults_of_schedules acts)) (parts_of r.rest) why r.refused))
schedule_line_refused text line why short (inr (inr (acts, is, r))) =
    let lines = items_text act_tokens acts in
    let last = line_text (codes "end" ∷ []) in
    let whole = r.whole ∙ append_assoc (begun_text schedule_kind acts) last r.rest ∙ append_assoc schedule_header (10 ∷ lines) (last ++ r.rest) in
    let begun = subst (λ t. HasBegun (header_alone schedule_header (whole_lines (parts_of t))) t version_one_tso 1 (lines ++ (last ++ r.rest))) (sym whole) (header_read schedule_header (lines ++ (last ++ r.rest)) refl refl) in
    rw (r.at, r.refused.1) (refused_after_end schedule_format act_tokens version_one_tso (acts ∷ []) (map Item acts) (acts_accepted acts is) schedule_end text (begun_text schedule_kind acts) r.rest 1 short r.whole r.refused.0
    (subst (λ b. HasBegun (preamble_of schedule_format text) text version_one_tso 1 (b ++ (last ++ r.rest))) (sym (acts_text acts)) begun))
