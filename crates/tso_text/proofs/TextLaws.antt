-- Laws on the texts of traces, programs and schedules.
use Rattle.std.proofs.Common.{◌≡◌, ℕ, ◌<◌, ◌≤◌, List, Some, sym, ◌∙◌, ap, arith, ⊎_elim, Ok, Err, refl, ◌⊎◌, ◌-◌, [], ◌∷◌, ◌++◌, length, get_or, Option, subst, inl, inr}
use Rattle.std.proofs.lemmas.Bool.{cases_lt}
use Rattle.tso_text.specs.declared.faults.Why.{Why}
use Rattle.tso_text.specs.declared.faults.Why.TheVariants.{BadHeader, BadLine, BadNumber, BeforeProc, TooManyProcessors, TooManyEvents, AddressRange, ZeroValue, RepeatedValue, MissingEnd, AfterEnd, TooLong, ProcessorRange, OutOfMemory, BadModel, InitOrder, MixedWidths, TooManyWaiting, Widths}
use Rattle.tso_text.specs.Internal.Spelling.{Format, IsTextRefusal, preamble_of}
use Rattle.tso_text.specs.Internal.Spelled.{SpellsLists, HasTraceLines, HasProgramLines, HasScheduleLines}
use Rattle.std.specs.Prelude.{codes}
use Rattle.std.specs.Global.{Vec}
use Rattle.std.specs.Option.{unwrap_or}
use Rattle.line_text.specs.Lines.{line_text}
use Rattle.tso_ops.specs.declared.acts.Act.{Act}
use Rattle.tso_ops.specs.declared.ops.Op.{Op}
use Rattle.tso_ops.specs.declared.ops.Outcome.{Outcome}
use Rattle.tso_ops.specs.Settings.{SettingValue}
use Rattle.tso_ops.specs.Values.{TraceValue, ProgramValue, trace_of_lists, program_of_lists, rows}
use Rattle.tso_text.specs.Printed.{trace_text, program_text, schedule_text, whole_text}
use Rattle.tso_text.specs.Refusals.{TextKind, IsLineRefusal, IsRefusalIn, trace_kind, program_kind, schedule_kind, IsTraceRefusal, IsProgramRefusal, IsScheduleRefusal}
use Rattle.tso_text.specs.Texts.{text_byte_limit, SpellsTrace, SpellsProgram, SpellsSchedule}
use Rattle.tso_text.specs.Internal.Grammars.{trace_format, program_format, schedule_format}
use Rattle.tso_text.proofs.KindFacts.{traces_go_on, programs_go_on, schedules_go_on, trace_line_refused, program_line_refused, schedule_line_refused}
use Rattle.tso_text.proofs.NextLines.{GoesOn, begun_text, whole_or_refused}
use Rattle.tso_text.proofs.PrintedSpelling.{printed_trace_spells, printed_program_spells, printed_schedule_spells}
use Rattle.tso_text.proofs.ReadersFacts.{too_long}

-- what can't be another refusal is that of memory
pub only_memory : (why : Why) → ((why ≡ OutOfMemory → ⊥) → ⊥) → why ≡ OutOfMemory
only_memory OutOfMemory none = refl
only_memory BadHeader none = absurd (none (λ e. absurd cc))
only_memory BadLine none = absurd (none (λ e. absurd cc))
only_memory BadNumber none = absurd (none (λ e. absurd cc))
only_memory BeforeProc none = absurd (none (λ e. absurd cc))
only_memory TooManyProcessors none = absurd (none (λ e. absurd cc))
only_memory TooManyEvents none = absurd (none (λ e. absurd cc))
only_memory AddressRange none = absurd (none (λ e. absurd cc))
only_memory ZeroValue none = absurd (none (λ e. absurd cc))
only_memory RepeatedValue none = absurd (none (λ e. absurd cc))
only_memory MissingEnd none = absurd (none (λ e. absurd cc))
only_memory AfterEnd none = absurd (none (λ e. absurd cc))
only_memory TooLong none = absurd (none (λ e. absurd cc))
only_memory ProcessorRange none = absurd (none (λ e. absurd cc))
only_memory BadModel none = absurd (none (λ e. absurd cc))
only_memory InitOrder none = absurd (none (λ e. absurd cc))
only_memory MixedWidths none = absurd (none (λ e. absurd cc))
only_memory TooManyWaiting none = absurd (none (λ e. absurd cc))
only_memory Widths none = absurd (none (λ e. absurd cc))

-- never both
pub not_both : {X : Type 0} (f : Format X) (text : List ℕ) (lists : List (List X)) (line : ℕ) (why : Why) → SpellsLists f text lists → IsTextRefusal f text line why → ⊥
not_both f text lists line why spells refusal = absurd (let s : Ok lists ≡ Err (line, why) = sym spells ∙ refusal in cc)

-- one value for a text
pub one_value : {X : Type 0} (f : Format X) (text : List ℕ) (lists others : List (List X)) → SpellsLists f text lists → SpellsLists f text others → lists ≡ others
one_value f text lists others spells also = let s : Ok lists ≡ Ok others = sym spells ∙ also in cc

-- one refusal for a text
pub one_refusal : {X : Type 0} (f : Format X) (text : List ℕ) (j k : ℕ) (v w : Why) → IsTextRefusal f text j v → IsTextRefusal f text k w → (j ≡ k) × (v ≡ w)
one_refusal f text j k v w r s =
    let both = sym r ∙ s in
    let same : (j, v) ≡ (k, w) = cc in
    (ap (λ (p : ℕ × Why). p.0) same, ap (λ (p : ℕ × Why). p.1) same)

-- ---- texts of one kind

-- Each text spells a value or is refused, never both; it spells one value, and gets one refusal; a text past the limit is refused for that.
pub record AreTextLaws {V : Type 0} (Spells : List ℕ → V → Type 0) (IsRefusal : List ℕ → ℕ → Why → Type 0) : Type 0 where
  pub either : (text : List ℕ) → ((v : V) × Spells text v) ⊎ ((line : ℕ) × (why : Why) × IsRefusal text line why)
  pub not_both : (text : List ℕ) (v : V) (line : ℕ) (why : Why) → Spells text v → IsRefusal text line why → ⊥
  pub one_value : (text : List ℕ) (v w : V) → Spells text v → Spells text w → v ≡ w
  pub one_refusal : (text : List ℕ) (j k : ℕ) (v w : Why) → IsRefusal text j v → IsRefusal text k w → (j ≡ k) × (v ≡ w)
  pub too_long : (text : List ℕ) → text_byte_limit < length text → IsRefusal text 0 TooLong

-- what holds of texts of a kind, and of the lists that a grammar reads of them
record IsKindOf {V X : Type 0} (k : TextKind V) (f : Format X) (Spells : List ℕ → V → Type 0) (lists_in : V → List (List X)) : Type 0 where
  go : GoesOn k
  refused_line : (text : List ℕ) (line : ℕ) (why : Why) → length text ≤ text_byte_limit → IsLineRefusal k text line why → IsTextRefusal f text line why
  lines : (text : List ℕ) (v : V) → Spells text v → SpellsLists f text (lists_in v)
  whole : (text : List ℕ) (v : V) → length text ≤ text_byte_limit → k.Is v → text ≡ begun_text k v ++ line_text (codes "end" ∷ []) → Spells text v
  one : (text : List ℕ) (v w : V) → Spells text v → Spells text w → v ≡ w

module _ {V X : Type 0} (k : TextKind V) (f : Format X) (Spells : List ℕ → V → Type 0) (lists_in : V → List (List X)) (is : IsKindOf k f Spells lists_in) where
  either : (text : List ℕ) → ((v : V) × Spells text v) ⊎ ((line : ℕ) × (why : Why) × IsRefusalIn k text line why)
  either text =
      ⊎_elim
      (λ (long : text_byte_limit < length text). inr (0, TooLong, inl (long, refl, refl)))
      (λ (short : length text ≤ text_byte_limit). ⊎_elim (λ s. inl (s.0, is.whole text s.0 short s.1 s.2)) (λ r. inr (r.0, r.1, inr (short, r.2))) (whole_or_refused k is.go text))
      (cases_lt text_byte_limit (length text))

  refused : (text : List ℕ) (line : ℕ) (why : Why) → IsRefusalIn k text line why → IsTextRefusal f text line why
  refused text line why (inl (long, at, is_long)) = rw (at, is_long) (too_long f text long)
  refused text line why (inr (short, refusal)) = is.refused_line text line why short refusal

  laws : AreTextLaws Spells (λ text line why. IsRefusalIn k text line why)
  laws = record {
    either = either;
    not_both = λ text v line why s r. not_both f text (lists_in v) line why (is.lines text v s) (refused text line why r);
    one_value = is.one;
    one_refusal = λ text j l v w r s. one_refusal f text j l v w (refused text j v r) (refused text l w s);
    too_long = λ text long. inl (long, refl, refl);
  }

  -- what a reader refuses
  refusal : (text : List ℕ) (line : ℕ) (why : Why) → IsTextRefusal f text line why → IsRefusalIn k text line why
  refusal text line why r =
      ⊎_elim
      (λ (s : (v : V) × Spells text v). absurd (not_both f text (lists_in s.0) line why (is.lines text s.0 s.1) r))
      (λ (other : (j : ℕ) × (w : Why) × IsRefusalIn k text j w).
      let same = one_refusal f text other.0 line other.1 why (refused text other.0 other.1 other.2) r in
      subst (λ w. IsRefusalIn k text line w) same.1 (subst (λ j. IsRefusalIn k text j other.1) same.0 other.2))
      (either text)

  -- what a reader reads
  spelled : (text : List ℕ) (lists : List (List X)) → SpellsLists f text lists → (v : V) × Spells text v × (lists_in v ≡ lists)
  spelled text lists spells =
      ⊎_elim
      (λ (s : (v : V) × Spells text v). (s.0, s.1, one_value f text (lists_in s.0) lists (is.lines text s.0 s.1) spells))
      (λ (other : (j : ℕ) × (w : Why) × IsRefusalIn k text j w). absurd (not_both f text lists other.0 other.1 spells (refused text other.0 other.1 other.2)))
      (either text)

-- ---- traces

pub trace_lines : (text : List ℕ) (t : TraceValue) → SpellsTrace text t → HasTraceLines text t
trace_lines text t spells = subst (λ b. HasTraceLines b t) (sym spells.1) (printed_trace_spells t spells.0)

one_trace : (text : List ℕ) (t u : TraceValue) → SpellsTrace text t → SpellsTrace text u → t ≡ u
one_trace text t u spells also =
    let s = trace_lines text t spells in
    let r = trace_lines text u also in
    ap (λ setting. trace_of_lists setting t.lists) (s.0 ∙ sym r.0) ∙ ap (trace_of_lists u.setting) (one_value trace_format text t.lists u.lists s.1 r.1)

traces_are : IsKindOf trace_kind trace_format SpellsTrace (λ t. t.lists)
unfolding trace_text whole_text
traces_are = record { go = traces_go_on; refused_line = trace_line_refused; lines = λ text t spells. (trace_lines text t spells).1; whole = λ text t short is whole. (is, whole); one = one_trace }

pub trace_laws : AreTextLaws SpellsTrace IsTraceRefusal
unfolding IsTraceRefusal
trace_laws = laws trace_kind trace_format SpellsTrace (λ t. t.lists) traces_are

pub trace_refusal : (text : List ℕ) (line : ℕ) (why : Why) → IsTextRefusal trace_format text line why → IsTraceRefusal text line why
unfolding IsTraceRefusal
trace_refusal = refusal trace_kind trace_format SpellsTrace (λ t. t.lists) traces_are

pub trace_read : (text : List ℕ) (t : TraceValue) (setting : SettingValue) (lists : List (List Outcome)) → (preamble_of trace_format text).setting ≡ setting → SpellsLists trace_format text lists → t ≡ trace_of_lists setting lists → SpellsTrace text t
trace_read text t setting lists says spells is =
    let s = spelled trace_kind trace_format SpellsTrace (λ t. t.lists) traces_are text lists spells in
    subst (SpellsTrace text) (ap (λ setting. trace_of_lists setting s.0.lists) ((trace_lines text s.0 s.1).0 ∙ says) ∙ ap (trace_of_lists setting) s.2 ∙ sym is) s.1

-- ---- programs

pub program_lines : (text : List ℕ) (p : ProgramValue) → SpellsProgram text p → HasProgramLines text p
program_lines text p spells = subst (λ b. HasProgramLines b p) (sym spells.1) (printed_program_spells p spells.0)

one_program : (text : List ℕ) (p q : ProgramValue) → SpellsProgram text p → SpellsProgram text q → p ≡ q
one_program text p q spells also =
    let s = program_lines text p spells in
    let r = program_lines text q also in
    ap (λ setting. program_of_lists setting p.lists) (s.0 ∙ sym r.0) ∙ ap (program_of_lists q.setting) (one_value program_format text p.lists q.lists s.1 r.1)

programs_are : IsKindOf program_kind program_format SpellsProgram (λ p. p.lists)
unfolding program_text whole_text
programs_are = record { go = programs_go_on; refused_line = program_line_refused; lines = λ text p spells. (program_lines text p spells).1; whole = λ text p short is whole. (is, whole); one = one_program }

pub program_laws : AreTextLaws SpellsProgram IsProgramRefusal
unfolding IsProgramRefusal
program_laws = laws program_kind program_format SpellsProgram (λ p. p.lists) programs_are

pub program_refusal : (text : List ℕ) (line : ℕ) (why : Why) → IsTextRefusal program_format text line why → IsProgramRefusal text line why
unfolding IsProgramRefusal
program_refusal = refusal program_kind program_format SpellsProgram (λ p. p.lists) programs_are

pub program_read : (text : List ℕ) (p : ProgramValue) (setting : SettingValue) (lists : List (List Op)) → (preamble_of program_format text).setting ≡ setting → SpellsLists program_format text lists → p ≡ program_of_lists setting lists → SpellsProgram text p
program_read text p setting lists says spells is =
    let s = spelled program_kind program_format SpellsProgram (λ p. p.lists) programs_are text lists spells in
    subst (SpellsProgram text) (ap (λ setting. program_of_lists setting s.0.lists) ((program_lines text s.0 s.1).0 ∙ says) ∙ ap (program_of_lists setting) s.2 ∙ sym is) s.1

-- ---- schedules

schedule_lines : (text : List ℕ) (acts : List Act) → SpellsSchedule text acts → HasScheduleLines text acts
schedule_lines text acts spells =
    subst (λ b. HasScheduleLines b acts) (sym spells.2) (printed_schedule_spells acts spells.0 (subst (λ b. length b ≤ text_byte_limit) spells.2 spells.1))

one_schedule : (text : List ℕ) (acts others : List Act) → SpellsSchedule text acts → SpellsSchedule text others → acts ≡ others
one_schedule text acts others spells also =
    let same = one_value schedule_format text (acts ∷ []) (others ∷ []) (schedule_lines text acts spells) (schedule_lines text others also) in cc

schedules_are : IsKindOf schedule_kind schedule_format SpellsSchedule (λ acts. acts ∷ [])
unfolding schedule_text whole_text
schedules_are = record { go = schedules_go_on; refused_line = schedule_line_refused; lines = schedule_lines; whole = λ text acts short is whole. (is, short, whole); one = one_schedule }

pub schedule_laws : AreTextLaws SpellsSchedule IsScheduleRefusal
unfolding IsScheduleRefusal
schedule_laws = laws schedule_kind schedule_format SpellsSchedule (λ acts. acts ∷ []) schedules_are

pub schedule_refusal : (text : List ℕ) (line : ℕ) (why : Why) → IsTextRefusal schedule_format text line why → IsScheduleRefusal text line why
unfolding IsScheduleRefusal
schedule_refusal = refusal schedule_kind schedule_format SpellsSchedule (λ acts. acts ∷ []) schedules_are

-- ---- the one list of a schedule

only_vector : (lists : List (Vec Act)) (row : List Act) (n : ℕ) (o : Option (Vec Act)) (d r : Vec Act) → rows lists ≡ row ∷ [] → n ≡ length lists →
    ((d : Vec Act) → 0 < n → o ≡ Some (get_or lists (n - 1) d)) → r ≡ unwrap_or o d → row ≡ r.items
only_vector [] row n o d r one count pops is = absurd cc
only_vector (v ∷ []) row n o d r one count pops is =
    let at : n - 1 ≡ 0 = omega arith in
    let last : o ≡ Some v = pops d (omega arith) ∙ ap (λ k. Some (get_or (v ∷ []) k d)) at in
    let same : r ≡ v = is ∙ ap (λ o. unwrap_or o d) last in
    let head : row ≡ v.items = cc in
    head ∙ ap (λ (w : Vec Act). w.items) (sym same)
only_vector (v ∷ w ∷ lists) row n o d r one count pops is = absurd cc

-- the list that is popped is the one that the text spells
pub schedule_popped : (text : List ℕ) (lists : List (Vec Act)) (n : ℕ) (o : Option (Vec Act)) (d r : Vec Act) → SpellsLists schedule_format text (rows lists) → n ≡ length lists →
    ((d : Vec Act) → 0 < n → o ≡ Some (get_or lists (n - 1) d)) → r ≡ unwrap_or o d → SpellsSchedule text r.items
schedule_popped text lists n o d r spells count pops is =
    let s = spelled schedule_kind schedule_format SpellsSchedule (λ acts. acts ∷ []) schedules_are text (rows lists) spells in
    subst (SpellsSchedule text) (only_vector lists s.0 n o d r (sym s.2) count pops is) s.1
