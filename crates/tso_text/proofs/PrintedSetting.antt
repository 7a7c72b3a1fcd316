-- A line of a preamble without a fault is written in one way, and the printed lines of a setting within the limits are read back as that setting.
use Rattle.std.specs.Str.{bytes_eq}
use Rattle.std.proofs.Common.{◌≡◌, ℕ, ◌<◌, ◌^◌, Bool, true, false, List, [], ◌∷◌, drop, None, Result, Ok, Err, refl, ap, sym, ◌∙◌, subst, ltb, ◌||◌, ◌+◌, eqb, ◌++◌, length, Option, arith, append_assoc, length-append}
use Rattle.std.specs.Prelude.{codes}
use Rattle.std.specs.Fmt.{decimal}
use Rattle.std.specs.List.{join_with_byte, slice_split, take_while}
use Rattle.std.proofs.lemmas.Bool.{false≢true}
use Rattle.std.proofs.lemmas.List.Splits.{join_with_byte-slice_split}
use Rattle.line_text.specs.Lines.{tokens_of, line_text, parts_of}
use Rattle.tso_text.specs.declared.faults.Why.{Why}
use Rattle.tso_text.specs.Internal.LineReadings.{address, model_said, entry_by, entry_fault_after}
use Rattle.tso_text.specs.Numbers.{numbers, number_at}
use Rattle.tso_text.specs.Lines.{begins_with, has_keyword, model_line_in, whole_lines}
use Rattle.tso_text.specs.Internal.Preambles.{after_keyword, entry_said, said_entry_fault, SettingLines, entry_lines, header_fault, header_alone, preamble_by, setting_lines, setting_preamble}
use Rattle.tso_text.specs.Printed.{entry_tokens, header_of, items_text, model_text, setting_text}
use Rattle.tso_text.proofs.CanonicalFacts.{bind_ok, two_is, word_is, in_range, numbers_without, two-decimal, address-within}
use Rattle.tso_ops.specs.declared.faults.ValueFault.TheVariants.{AddressRange as PastAddresses}
use Rattle.tso_text.proofs.FaultFacts.{entry_clean_back, no_fault}
use Rattle.std.proofs.lemmas.List.{append-nil}
use Rattle.std.proofs.lemmas.List.Elements.{recursion_from_All}
use Rattle.line_text.proofs.SplitFacts.{has_byte, has_byte_in, split_part, split_joined, joined_without}
use Rattle.tso_ops.specs.declared.settings.Order.{Order}
use Rattle.tso_ops.specs.declared.settings.Order.TheVariants.{Tso, Pso}
use Rattle.tso_ops.specs.declared.settings.Version.{Version}
use Rattle.tso_ops.specs.declared.settings.Version.TheVariants.{One, Two}
use Rattle.tso_ops.specs.Settings.{SettingValue, version_one_tso}
use Rattle.tso_ops.specs.Limits.{KeepsEntries, has_entry_fault}
use Rattle.tso_ops.proofs.RefusalFacts.{each-middle, kept_entry}
use Rattle.tso_text.specs.Internal.Spelling.{Preamble}
use Rattle.tso_text.specs.Internal.Begun.{IsSetting, HasBegun, HasHeader, HasModel, HasEntries}
use Rattle.tso_text.proofs.PreambleFacts.{header_one, header_two, model_read, model_other, entries_start, entries_next, no_entry_line, begun_one, begun_two, alone_begun, preamble_after}

-- the tokens of a line with a keyword
keyword_first : (word : List ℕ) (tokens : List (List ℕ)) → begins_with (λ token. bytes_eq token word) tokens ≡ true → tokens ≡ word ∷ drop 1 tokens
keyword_first word [] e = absurd (false≢true e)
keyword_first word (token ∷ tokens) e = ap (λ p. p ∷ tokens) (word_is token word e)

keyword_tokens : (word line : List ℕ) → has_keyword word line ≡ true → tokens_of line ≡ word ∷ after_keyword line
unfolding has_keyword
keyword_tokens word line e = keyword_first word (tokens_of line) e

-- a line is its tokens
pub line_is : (line : List ℕ) (tokens : List (List ℕ)) → tokens_of line ≡ tokens → line ≡ join_with_byte 32 tokens
unfolding tokens_of
line_is line tokens same = sym (join_with_byte-slice_split 32 line) ∙ ap (join_with_byte 32) same

-- ---- the memory model

pub model_name : (tokens : List (List ℕ)) (u : Unit {0}) → model_said tokens ≡ Ok u → tokens ≡ codes "pso" ∷ []
unfolding model_said
model_name [] u e = absurd cc
model_name (name ∷ []) u e = named (bytes_eq name (codes "pso")) refl
  where
    named : (b : Bool) → bytes_eq name (codes "pso") ≡ b → name ∷ [] ≡ codes "pso" ∷ []
    named true is = ap (λ n. n ∷ []) (word_is name (codes "pso") is)
    named false is = absurd (let off = rw is at e in cc)
model_name (name ∷ next ∷ tokens) u e = absurd cc

-- ---- first values

-- The line says this entry, which has no fault after those before.
pub record SaysEntry (before : List (ℕ × ℕ)) (line : List ℕ) : Type 0 where
  pub entry : ℕ × ℕ
  pub says : entry_said line ≡ Ok entry
  pub clean : entry_fault_after before entry ≡ None
  pub bytes : line ≡ join_with_byte 32 (entry_tokens entry)
  pub fits : entry.1 < 2 ^ 64

pub entry_read : (before : List (ℕ × ℕ)) (line : List ℕ) → has_keyword (codes "init") line ≡ true → said_entry_fault before (entry_said line) ≡ None → SaysEntry before line
entry_read before line is clean =
    let read = ok (entry_said line) refl clean in
    let b = bind_ok (numbers 2 (after_keyword line)) _ read.0 read.1 in
    let says = b.2 in
    let a = number_at b.0 0 in
    let v = number_at b.0 1 in
    let same : (address a, v) ≡ read.0 = cc in
    let low : a ≡ address a = in_range a (ap (λ (e : ℕ × ℕ). ltb 255 e.0) same ∙ entry_clean_back before read.0 read.2 PastAddresses) in
    let tokens : tokens_of line ≡ entry_tokens read.0 =
    keyword_tokens (codes "init") line is ∙ ap (λ ps. codes "init" ∷ ps) (two_is (after_keyword line) b.0 b.1).0 ∙ ap (λ n. codes "init" ∷ decimal n ∷ decimal v ∷ []) low ∙ ap entry_tokens same in
    record {
      entry = read.0;
      says = read.1;
      clean = read.2;
      bytes = line_is line _ tokens;
      fits = subst (λ (e : ℕ × ℕ). e.1 < 2 ^ 64) same (two_is (after_keyword line) b.0 b.1).2;
    }
  where
    ok : (r : Result (ℕ × ℕ) Why) → entry_said line ≡ r → said_entry_fault before r ≡ None → (e : ℕ × ℕ) × (entry_said line ≡ Ok e) × (entry_fault_after before e ≡ None)
    ok (Ok e) says none = (e, says, none)
    ok (Err why) says none = absurd cc

-- ---- the first line of bytes

-- The bytes begin with a line of these tokens; `rest` is what stands after it.
pub record BeginsWith (text word : List ℕ) (tokens : List (List ℕ)) (rest : List ℕ) : Type 0 where
  pub line : List ℕ
  pub parts : parts_of text ≡ line ∷ parts_of rest
  pub cut : tokens_of line ≡ word ∷ tokens
  pub shorter : length rest < length text

-- a printed line of tokens without spaces and line ends
pub printed_line : (word : List ℕ) (tokens : List (List ℕ)) (rest : List ℕ) → has_byte_in 32 (word ∷ tokens) ≡ false → has_byte_in 10 (word ∷ tokens) ≡ false → BeginsWith (line_text (word ∷ tokens) ++ rest) word tokens rest
unfolding parts_of tokens_of
printed_line word tokens rest no_space no_end = record {
  line = join_with_byte 32 (word ∷ tokens);
  parts =
      ap (slice_split (λ b. eqb b 10)) (append_assoc (join_with_byte 32 (word ∷ tokens)) (10 ∷ []) rest)
      ∙ split_part 10 (join_with_byte 32 (word ∷ tokens)) rest (joined_without 10 32 (word ∷ tokens) refl no_end);
  cut = split_joined 32 word tokens no_space;
  shorter = omega (arith, length-append (line_text (word ∷ tokens)) rest, length-append (join_with_byte 32 (word ∷ tokens)) (10 ∷ []));
}

-- ---- the memory model

-- The bytes begin with a line of another keyword than `model` and `init`.
pub record BeginsBody (text : List ℕ) : Type 0 where
  pub word : List ℕ
  pub tokens : List (List ℕ)
  pub rest : List ℕ
  pub begins : BeginsWith text word tokens rest
  pub no_model : bytes_eq word (codes "model") ≡ false
  pub no_entry : bytes_eq word (codes "init") ≡ false

-- What follows the lines of the setting in a text is none of them.
pub record Follows (setting : SettingValue) (body : List ℕ) : Type 0 where
  pub no_model : setting.order ≡ Tso → setting.first ≡ [] → HasModel body Tso 0 body
  pub no_entry : setting.version ≡ Two → take_while (has_keyword (codes "init")) (whole_lines (parts_of body)) ≡ []

pub body_follows : (setting : SettingValue) (body : List ℕ) → BeginsBody body → Follows setting body
body_follows setting body b = record {
  no_model = λ _ _. model_other body b.begins.line b.rest b.word b.tokens b.begins.parts b.begins.cut b.no_model;
  no_entry = λ _. no_entry_line body b.begins.line b.rest b.word b.tokens b.begins.parts b.begins.cut b.no_entry;
}

numbers_fit : (first before : List (ℕ × ℕ)) (entry : ℕ × ℕ) (after : List (ℕ × ℕ)) → KeepsEntries first → first ≡ before ++ entry ∷ after → (entry.0 < 256) × (entry.1 < 2 ^ 64)
numbers_fit first before entry after keeps at =
    let whole : KeepsEntries (before ++ entry ∷ after) = subst KeepsEntries at keeps in (
      each-middle (λ (e : ℕ × ℕ). e.0 < 256) before entry after (recursion_from_All _ _ whole.addresses),
      each-middle (λ (e : ℕ × ℕ). e.1 < 2 ^ 64) before entry after (recursion_from_All _ _ whole.fits),
    )

-- the line of an entry
entry_line : (entry : ℕ × ℕ) (rest : List ℕ) → BeginsWith (line_text (entry_tokens entry) ++ rest) (codes "init") (decimal entry.0 ∷ decimal entry.1 ∷ []) rest
entry_line entry rest = printed_line (codes "init") (decimal entry.0 ∷ decimal entry.1 ∷ []) rest (numbers_without 32 (entry.0 ∷ entry.1 ∷ []) (omega arith)) (numbers_without 10 (entry.0 ∷ entry.1 ∷ []) (omega arith))

-- entries and what follows them don't begin with the line `model`
entries_begin : (first : List (ℕ × ℕ)) (body : List ℕ) → KeepsEntries first → (first ≡ [] → HasModel body Tso 0 body) → HasModel (items_text entry_tokens first ++ body) Tso 0 (items_text entry_tokens first ++ body)
unfolding items_text
entries_begin [] body keeps none = none refl
entries_begin (entry ∷ first) body keeps none =
    let after = items_text entry_tokens first ++ body in
    let line = entry_line entry after in
    subst (λ t. HasModel t Tso 0 t) (sym (append_assoc (line_text (entry_tokens entry)) (items_text entry_tokens first) body))
    (model_other (line_text (entry_tokens entry) ++ after) line.line after (codes "init") (decimal entry.0 ∷ decimal entry.1 ∷ []) line.parts line.cut refl)

-- how many lines say the memory model
abbrev pub model_count : Order → ℕ
model_count Tso = 0
model_count Pso = 1

pub model_back : (order : Order) (first : List (ℕ × ℕ)) (body : List ℕ) → KeepsEntries first → (order ≡ Tso → first ≡ [] → HasModel body Tso 0 body) → HasModel (model_text order ++ (items_text entry_tokens first ++ body)) order (model_count order) (items_text entry_tokens first ++ body)
unfolding model_said
model_back Tso first body keeps none = entries_begin first body keeps (none refl)
model_back Pso first body keeps none =
    let rest = items_text entry_tokens first ++ body in
    let line = printed_line (codes "model") (codes "pso" ∷ []) rest refl refl in
    model_read (model_text Pso ++ rest) line.line rest (codes "model") (codes "pso" ∷ []) line.parts line.cut refl refl line.shorter

-- ---- first values

-- from some entries on, the lines of the others are read
entries_read : (first before after : List (ℕ × ℕ)) (text body : List ℕ) (lines : ℕ) → KeepsEntries first → first ≡ before ++ after → HasEntries text before lines (items_text entry_tokens after ++ body) →
    (n : ℕ) × HasEntries text first n body
unfolding items_text
entries_read first before [] text body lines keeps at read = (lines, subst (λ f. HasEntries text f lines body) (sym (at ∙ append-nil before)) read)
entries_read first before (entry ∷ after) text body lines keeps at read =
    let fit = numbers_fit first before entry after keeps at in
    let address : entry.0 < 2 ^ 64 = omega (arith, fit.0) in
    let rest = items_text entry_tokens after ++ body in
    let line = entry_line entry rest in
    let here : HasEntries text before lines (line_text (entry_tokens entry) ++ rest) = subst (HasEntries text before lines) (append_assoc (line_text (entry_tokens entry)) (items_text entry_tokens after) body) read in
    let says : entry_by (decimal entry.0 ∷ decimal entry.1 ∷ []) ≡ Ok entry = rw (two-decimal entry.0 entry.1 address fit.1) (ap (λ a. Ok (a, entry.1)) (address-within entry.0 fit.0)) in
    let clean = no_fault (has_entry_fault before entry) (kept_entry before entry after (subst KeepsEntries at keeps)) in
    entries_read first (before ++ entry ∷ []) after text body (lines + 1) keeps (at ∙ sym (append_assoc before (entry ∷ []) after))
    (entries_next text before lines (line_text (entry_tokens entry) ++ rest) line.line rest (codes "init") (decimal entry.0 ∷ decimal entry.1 ∷ []) entry here line.parts line.cut refl says clean line.shorter)

pub entries_back : (first : List (ℕ × ℕ)) (body : List ℕ) → KeepsEntries first → (n : ℕ) × HasEntries (items_text entry_tokens first ++ body) first n body
entries_back first body keeps = let text = items_text entry_tokens first ++ body in entries_read first [] first text body 0 keeps refl (entries_start text)

-- ---- the whole preamble

-- two headers that differ and have no line end
pub record AreHeaders (one two : List ℕ) : Type 0 where
  pub differ : bytes_eq one two ≡ false
  pub same_one : bytes_eq one one ≡ true
  pub same_two : bytes_eq two two ≡ true
  pub whole_one : has_byte 10 one ≡ false
  pub whole_two : has_byte 10 two ≡ false

pub header_back : (one two : List ℕ) (version : Version) (rest : List ℕ) → AreHeaders one two → HasHeader one two (header_of one two version ++ 10 ∷ rest) version rest
unfolding parts_of
header_back one two One rest h =
    header_one one two (one ++ 10 ∷ rest) one rest (split_part 10 one rest h.whole_one) h.differ h.same_one (omega (arith, length-append one (10 ∷ rest)))
header_back one two Two rest h =
    header_two one two (two ++ 10 ∷ rest) two rest (split_part 10 two rest h.whole_two) h.same_two (omega (arith, length-append two (10 ∷ rest)))

-- The preamble of the text has this setting and no fault; `body` stands after it.
abbrev pub IsReadPreamble : List ℕ → List ℕ → List ℕ → SettingValue → List ℕ → Type 0
IsReadPreamble one two text setting body = (lines : ℕ) × HasBegun (setting_preamble one two (whole_lines (parts_of text))) text setting lines body

by_version : (one two : List ℕ) (setting : SettingValue) (body : List ℕ) → AreHeaders one two → IsSetting setting → Follows setting body → (version : Version) → setting.version ≡ version →
    IsReadPreamble one two (header_of one two version ++ 10 ∷ (model_text setting.order ++ (items_text entry_tokens setting.first ++ body))) (record { version = version; order = setting.order; first = setting.first }) body
unfolding items_text
by_version one two setting body h is follows Two at =
    let rest = items_text entry_tokens setting.first ++ body in
    let model = model_back setting.order setting.first body is.entries follows.no_model in
    let all = entries_back setting.first body is.entries in
    (model_count setting.order + all.0 + 1, begun_two one two (two ++ 10 ∷ (model_text setting.order ++ rest)) setting.order (model_count setting.order) (model_text setting.order ++ rest) rest setting.first all.0 body (header_back one two Two (model_text setting.order ++ rest) h) model (record { read = all.1; none = follows.no_entry at }) is.entries)
by_version one two setting body h is follows One at =
    let empty : setting.first ≡ [] = is.version_one at in
    subst (λ f. IsReadPreamble one two (one ++ 10 ∷ (model_text setting.order ++ (items_text entry_tokens f ++ body))) (record { version = One; order = setting.order; first = f }) body) (sym empty) (
      model_count setting.order + 1,
      begun_one one two (one ++ 10 ∷ (model_text setting.order ++ body)) setting.order (model_count setting.order) (model_text setting.order ++ body) body (header_back one two One (model_text setting.order ++ body) h)
          (model_back setting.order [] body (subst KeepsEntries empty is.entries) (λ tso _. follows.no_model tso empty)),
    )

-- the lines of a setting by their parts
pub setting_parts : (header : List ℕ) (setting : SettingValue) (lines rest : List ℕ) →
    (header ++ 10 ∷ (setting_text setting ++ lines)) ++ rest ≡ header ++ 10 ∷ (model_text setting.order ++ (items_text entry_tokens setting.first ++ (lines ++ rest)))
unfolding setting_text
setting_parts header setting lines rest =
    let model = model_text setting.order in
    let entries = items_text entry_tokens setting.first in
    append_assoc header (10 ∷ ((model ++ entries) ++ lines)) rest
    ∙ ap (λ b. header ++ 10 ∷ b) (append_assoc (model ++ entries) lines rest ∙ append_assoc model entries (lines ++ rest))

-- the printed text of a setting, and what follows it
pub setting_back : (one two : List ℕ) (setting : SettingValue) (lines rest : List ℕ) → AreHeaders one two → IsSetting setting → Follows setting (lines ++ rest) →
    IsReadPreamble one two ((header_of one two setting.version ++ 10 ∷ (setting_text setting ++ lines)) ++ rest) setting (lines ++ rest)
setting_back one two setting lines rest h is follows =
    subst (λ t. IsReadPreamble one two t setting (lines ++ rest)) (sym (setting_parts (header_of one two setting.version) setting lines rest)) (by_version one two setting (lines ++ rest) h is follows setting.version refl)

-- a text that begins with its one header
pub header_read : (header body : List ℕ) → has_byte 10 header ≡ false → bytes_eq header header ≡ true → HasBegun (header_alone header (whole_lines (parts_of (header ++ 10 ∷ body)))) (header ++ 10 ∷ body) version_one_tso 1 body
unfolding parts_of
header_read header body whole same = alone_begun header (header ++ 10 ∷ body) header body (split_part 10 header body whole) same (omega (arith, length-append header (10 ∷ body)))

-- ---- texts without a memory model

setting_by : (header : Option Why) (s : SettingLines) → s.version ≡ One → s.model ≡ [] → s.entries ≡ [] → (preamble_by header s).setting ≡ version_one_tso
setting_by header s version model entries = rw (version, model, entries) refl

no_entry_lines : (version : Version) (lines : List (List ℕ)) → version ≡ One → entry_lines version lines ≡ []
no_entry_lines One lines is = refl
no_entry_lines Two lines is = absurd cc

-- a text of version 1 that has no line `model`
pub setting_without_model : (one two rest : List ℕ) → AreHeaders one two → model_line_in (whole_lines (parts_of rest)) ≡ [] → (setting_preamble one two (whole_lines (parts_of (one ++ 10 ∷ rest)))).setting ≡ version_one_tso
setting_without_model one two rest h none =
    let header = header_back one two One rest h in
    let lines = setting_lines two header.line (whole_lines (parts_of rest)) in
    ap (λ (p : Preamble). p.setting) (preamble_after one two (one ++ 10 ∷ rest) One rest header)
    ∙ setting_by (header_fault (λ line. bytes_eq line one || bytes_eq line two) (header.line ∷ whole_lines (parts_of rest))) lines header.says none (no_entry_lines lines.version _ header.says)
