-- Each text spells a value of its kind or is refused, after the lines of a value, and there by the grammar of its lines.
use Rattle.std.proofs.Common.{◌≡◌, ◌⊎◌, ℕ, suc, zero, ◌<◌, false, eqb, List, [], ◌∷◌, ◌++◌, length, Option, Some, None, cond, refl, ap, sym, ◌∙◌, subst, arith, append_assoc, inl, inr, ⊎_elim, length-append, ◌+◌, ◌≤◌, ◌&&◌, Bool, true, not, drop, Result, Ok, Err}
use Rattle.std.specs.Prelude.{codes, ◌≢◌}
use Rattle.std.proofs.lemmas.List.{append-nil, length-drop}
use Rattle.line_text.specs.Lines.{parts_of, tokens_of, is_empty, line_text}
use Rattle.line_text.proofs.CutFacts.{split_parts, HasLine, first_line}
use Rattle.line_text.proofs.SplitFacts.{has_byte, split_part}
use Rattle.tso_text.specs.declared.faults.Why.{Why}
use Rattle.tso_text.specs.declared.faults.Why.TheVariants.{BadHeader, BadLine, MissingEnd, AfterEnd}
use Rattle.tso_text.proofs.LineFaults.{Faults, Classified}
use Rattle.tso_text.specs.Refusals.{IsFaultAmong, TextKind, IsLineRefusal}
use Rattle.line_text.specs.Refusals.{ArePartsRefused}
use Rattle.std.specs.Str.{bytes_eq}
use Rattle.std.specs.List.{flat_map}
use Rattle.std.proofs.lemmas.Bool.{false≢true}
use Rattle.std.proofs.lemmas.List.Splits.{length-slice_split}
use Rattle.std.proofs.lemmas.List.Sums.{sum_by-append}
use Rattle.line_text.proofs.NumberFacts.{and_parts}
use Rattle.tso_ops.specs.declared.settings.Order.TheVariants.{Tso}
use Rattle.tso_ops.specs.declared.settings.Version.{Version}
use Rattle.tso_ops.specs.declared.settings.Version.TheVariants.{Two}
use Rattle.tso_ops.specs.Settings.{SettingValue}
use Rattle.tso_text.specs.declared.lines.Line.{Line}
use Rattle.tso_text.specs.declared.lines.Line.TheVariants.{End}
use Rattle.tso_text.specs.Internal.LineReadings.{has_stbar, model_said, entry_by, line_fault_after, fault_in_lists, fault_of, has_entries, entry_fault_after}
use Rattle.tso_text.specs.Lines.{model_line_in, whole_lines}
use Rattle.tso_text.specs.Printed.{header_of, items_text, processor_text, setting_text, model_text, entry_tokens}
use Rattle.tso_text.specs.Texts.{text_byte_limit}
use Rattle.tso_text.specs.Internal.Begun.{IsSetting, HasBegun, HasHeader, IsBodyRefusal, IsPreambleRefusal}
use Rattle.tso_text.specs.Internal.Preambles.{entry_said, entries_after, said_entry_fault, model_fault, setting_preamble}
use Rattle.tso_text.specs.Internal.Spelling.{Grammar, Format, IsTextRefusal, preamble_of, said, said_fault}
use Rattle.tso_text.proofs.CanonicalFacts.{tokens_by, word_is, no_stbar, no_first, two as two_is}
use Rattle.tso_text.proofs.NextOfLists.{fault_same, lists_text}
use Rattle.tso_text.proofs.OneTextFacts.{made_by, made_by-text}
use Rattle.tso_text.proofs.PreambleFacts.{keyword_is, after_keyword-is, whole_lines-parts, model_none, model_other, model_refusal, entry_here, entry_refusal, no_entry_line}
use Rattle.tso_text.proofs.PrintedLines.{IsReadBack, AreAccepted, printed_reached, reads_end}
use Rattle.tso_text.proofs.PrintedSetting.{AreHeaders, Follows, body_follows, setting_parts, setting_back, header_back, model_back, model_count, entries_back}
use Rattle.tso_text.proofs.PrintedSpelling.{lists_begin, body_begins}
use Rattle.tso_text.proofs.ReadersFacts.{line_refused, unended_refused, ended_refused, preamble_refused, begun_refused}

-- the text of a value without its line `end`
abbrev pub begun_text : {V : Type 0} → TextKind V → V → List ℕ
begun_text k v = k.header v ++ 10 ∷ k.lines v

-- no value's text begins with the header of this one
abbrev pub HasNoHeader : {V : Type 0} → TextKind V → List ℕ → Type 0
HasNoHeader {V} k text = (v : V) (rest : List ℕ) → k.Is v → text ≡ k.header v ++ 10 ∷ rest → ⊥

-- the text begins with the lines of a value
pub record Begins {V : Type 0} (k : TextKind V) (text : List ℕ) : Type 0 where
  pub value : V
  pub is : k.Is value
  pub rest : List ℕ
  pub whole : text ≡ begun_text k value ++ rest

-- A text begins with the header of a value, or with none; a line without a fault ends a text, or it makes a longer beginning of one.
pub record GoesOn {V : Type 0} (k : TextKind V) : Type 0 where
  pub starts : (text : List ℕ) → Begins k text ⊎ HasNoHeader k text
  pub fault : V → List (List ℕ) → Option Why
  pub finds : (v : V) → Faults (k.Stands v) (fault v)
  pub next : (v : V) (line : List ℕ) → k.Is v → fault v (tokens_of line) ≡ None → (line ≡ codes "end") ⊎ ((w : V) × k.Is w × (begun_text k w ≡ begun_text k v ++ (line ++ 10 ∷ [])))

-- the text is that of a value
abbrev pub IsWhole : {V : Type 0} → TextKind V → List ℕ → Type 0
IsWhole {V} k text = (v : V) × k.Is v × (text ≡ begun_text k v ++ line_text (codes "end" ∷ []))

abbrev pub IsRefused : {V : Type 0} → TextKind V → List ℕ → Type 0
IsRefused k text = (line : ℕ) × (why : Why) × IsLineRefusal k text line why

-- the parts after the lines of a value are refused by a function of the tokens of lines
abbrev pub AreRefusedBy : (List (List ℕ) → Option Why) → List (List ℕ) → Why → Type 0
AreRefusedBy fault parts why = ArePartsRefused MissingEnd BadLine (λ tokens w. fault tokens ≡ Some w) parts why

-- the same by what has the same faults
pub refused_as : (Has Also : List (List ℕ) → Why → Type 0) → ((ps : List (List ℕ)) (w : Why) → Has ps w → Also ps w) → (parts : List (List ℕ)) (why : Why) → ArePartsRefused MissingEnd BadLine Has parts why → ArePartsRefused MissingEnd BadLine Also parts why
refused_as Has Also to [] why refused = refused
refused_as Has Also to (part ∷ []) why refused = refused
refused_as Has Also to (part ∷ next ∷ parts) why refused = to (tokens_of part) why refused

pub line_refused_by : (fault : List (List ℕ) → Option Why) (rest line after : List ℕ) (why : Why) → parts_of rest ≡ line ∷ parts_of after → fault (tokens_of line) ≡ Some why → AreRefusedBy fault (parts_of rest) why
unfolding parts_of
line_refused_by fault rest line after why cut is = let p = split_parts (λ b. eqb b 10) after in rw (cut ∙ ap (λ x. line ∷ x) p.2) is

-- and the other way round
pub line_fault_of : (fault : List (List ℕ) → Option Why) (rest line after : List ℕ) (why : Why) → parts_of rest ≡ line ∷ parts_of after → AreRefusedBy fault (parts_of rest) why → fault (tokens_of line) ≡ Some why
unfolding parts_of
line_fault_of fault rest line after why cut refused = let p = split_parts (λ b. eqb b 10) after in subst (λ ps. AreRefusedBy fault ps why) (cut ∙ ap (λ x. line ∷ x) p.2) refused

-- a line with a fault that the function finds
has_fault : {Stands : List (List ℕ) → Option Why → Type 0} {fault : List (List ℕ) → Option Why} → Faults Stands fault → (rest line after : List ℕ) (why : Why) → parts_of rest ≡ line ∷ parts_of after → fault (tokens_of line) ≡ Some why →
    ArePartsRefused MissingEnd BadLine (IsFaultAmong Stands) (parts_of rest) why
has_fault {Stands} {fault} finds rest line after why cut is =
    refused_as (λ ps w. fault ps ≡ Some w) (IsFaultAmong Stands) (λ ps w e. subst (Classified Stands ps) e (finds.classified ps)) (parts_of rest) why (line_refused_by fault rest line after why cut is)

-- after a line without a fault
abbrev AfterLine : {V : Type 0} → TextKind V → List ℕ → List ℕ → Type 0
AfterLine {V} k text after = (v : V) → k.Is v → text ≡ begun_text k v ++ after → IsWhole k text ⊎ IsRefused k text

ended : {V : Type 0} (k : TextKind V) (text : List ℕ) (v : V) (after : List ℕ) → k.Is v → text ≡ (begun_text k v ++ line_text (codes "end" ∷ [])) ++ after → IsWhole k text ⊎ IsRefused k text
ended k text v [] is whole = inl (v, is, whole ∙ append-nil (begun_text k v ++ line_text (codes "end" ∷ [])))
ended k text v (b ∷ after) is whole = inr (_, _, inr (inr (v, is, record { rest = b ∷ after; whole = whole; at = refl; refused = (λ e. absurd (let no : b ∷ after ≡ [] = e in cc), refl) })))

by_fault : {V : Type 0} (k : TextKind V) → (go : GoesOn k) → (text rest : List ℕ) (v : V) → k.Is v → text ≡ begun_text k v ++ rest → (l : HasLine rest) → AfterLine k text l.rest → (o : Option Why) → go.fault v (tokens_of l.line) ≡ o →
    IsWhole k text ⊎ IsRefused k text
by_fault k go text rest v is whole l after (Some why) has =
    inr (_, why, inr (inl (v, is, record { rest = rest; whole = whole; at = refl; refused = has_fault (go.finds v) rest l.line l.rest why l.parts has })))
by_fault {V} k go text rest v is whole l after None has =
    let bytes : text ≡ (begun_text k v ++ (l.line ++ 10 ∷ [])) ++ l.rest =
    whole ∙ ap (λ r. begun_text k v ++ r) (l.bytes ∙ sym (append_assoc l.line (10 ∷ []) l.rest)) ∙ sym (append_assoc (begun_text k v) (l.line ++ 10 ∷ []) l.rest) in
    ⊎_elim
    (λ (end : l.line ≡ codes "end"). ended k text v l.rest is (bytes ∙ ap (λ line. (begun_text k v ++ (line ++ 10 ∷ [])) ++ l.rest) end))
    (λ (more : (w : V) × k.Is w × (begun_text k w ≡ begun_text k v ++ (l.line ++ 10 ∷ []))). after more.0 more.1 (bytes ∙ ap (λ b. b ++ l.rest) (sym more.2)))
    (go.next v l.line is has)

from_here : {V : Type 0} (k : TextKind V) → GoesOn k → (text : List ℕ) (n : ℕ) (rest : List ℕ) → length rest < n → AfterLine k text rest
from_here k go text zero rest few v is whole = absurd (omega (arith, few))
from_here k go text (suc n) rest few v is whole =
    ⊎_elim
    (λ (cut : parts_of rest ≡ rest ∷ []).
    inr (_, cond (is_empty rest) MissingEnd BadLine, inr (inl (v, is, record { rest = rest; whole = whole; at = refl; refused = subst (λ ps. ArePartsRefused MissingEnd BadLine (IsFaultAmong (k.Stands v)) ps (cond (is_empty rest) MissingEnd BadLine)) (sym cut) refl }))))
    (λ (l : HasLine rest).
    let shorter : length l.rest < n = omega (arith, few, ap length l.bytes, length-append l.line (10 ∷ l.rest)) in
    by_fault k go text rest v is whole l (from_here k go text n l.rest shorter) (go.fault v (tokens_of l.line)) refl)
    (first_line rest)

pub whole_or_refused : {V : Type 0} (k : TextKind V) → GoesOn k → (text : List ℕ) → IsWhole k text ⊎ IsRefused k text
whole_or_refused k go text =
    ⊎_elim
    (λ (begins : Begins k text). from_here k go text (suc (length begins.rest)) begins.rest (omega arith) begins.value begins.is begins.whole)
    (λ (none : HasNoHeader k text). inr (1, BadHeader, inl (none, refl, refl)))
    (go.starts text)

-- ---- the header

-- the line is the header of a value of which the text has no line between header and `end`, or of none
abbrev pub IsKnownHeader : {V : Type 0} → TextKind V → List ℕ → Type 0
IsKnownHeader {V} k line = ((v : V) × k.Is v × (k.header v ≡ line) × (k.lines v ≡ [])) ⊎ ((v : V) → k.header v ≡ line → ⊥)

-- a line of a text is its header, where the text begins with one
same_line : (header rest line : List ℕ) (others : List (List ℕ)) → has_byte 10 header ≡ false → parts_of (header ++ 10 ∷ rest) ≡ line ∷ others → header ≡ line
unfolding parts_of
same_line header rest line others whole cut = let parts = split_part 10 header rest whole in cc

pub starts_by : {V : Type 0} (k : TextKind V) → ((v : V) → has_byte 10 (k.header v) ≡ false) → ((line : List ℕ) → IsKnownHeader k line) → (text : List ℕ) → Begins k text ⊎ HasNoHeader k text
starts_by {V} k whole known text =
    ⊎_elim
    (λ (cut : parts_of text ≡ text ∷ []). inr (λ v rest is at. no_line v rest (sym (ap parts_of at) ∙ cut) (ap length at)))
    (λ (l : HasLine text).
    ⊎_elim
    (λ (header : (v : V) × k.Is v × (k.header v ≡ l.line) × (k.lines v ≡ [])).
    let bytes : l.line ++ 10 ∷ l.rest ≡ begun_text k header.0 ++ l.rest = ap (λ line. line ++ 10 ∷ l.rest) (sym header.2) ∙ sym (append_assoc (k.header header.0) (10 ∷ []) l.rest) ∙ ap (λ lines. (k.header header.0 ++ 10 ∷ lines) ++ l.rest) (sym header.3) in
    inl (record { value = header.0; is = header.1; rest = l.rest; whole = l.bytes ∙ bytes }))
    (λ (other : (v : V) → k.header v ≡ l.line → ⊥). inr (λ v rest is at. other v (same_line (k.header v) rest l.line (parts_of l.rest) (whole v) (sym (ap parts_of at) ∙ l.parts))))
    (known l.line))
    (first_line text)
  where
    no_line : (v : V) (rest : List ℕ) → parts_of (k.header v ++ 10 ∷ rest) ≡ text ∷ [] → length text ≡ length (k.header v ++ 10 ∷ rest) → ⊥
    no_line v rest cut count =
        let same = same_line (k.header v) rest text [] (whole v) cut in
        omega (arith, count, ap length same, length-append (k.header v) (10 ∷ rest))

-- what a grammar says of tokens, by the faults of its items
said_same : {X : Type 0} (g : Grammar X) (after : List X → X → Option Why) → ((items : List X) (x : X) → g.item_fault items x ≡ after items x) → (lists : List (List X)) (r : Result (Line X) Why) → said_fault g lists r ≡ fault_of r (line_fault_after after lists)
said_same g after tells lists (Err why) = refl
said_same g after tells lists (Ok l) = fault_same g after tells lists l

-- ---- the number of a line

-- the parts of bytes and of what follows them
length-parts : (xs rest : List ℕ) → length (parts_of (xs ++ rest)) + 1 ≡ length (parts_of xs) + length (parts_of rest)
unfolding parts_of
length-parts xs rest =
    let ends : ℕ → Bool = λ b. eqb b 10 in
    omega (arith, length-slice_split ends (xs ++ rest), length-slice_split ends xs, length-slice_split ends rest, sum_by-append (λ b. cond (ends b) 1 0) xs rest)

some_parts : (rest : List ℕ) → 0 < length (parts_of rest)
unfolding parts_of
some_parts rest = let count = length-slice_split (λ b. eqb b 10) rest in omega (arith, count)

-- the line after these parts
line_after : (xs rest : List ℕ) (prefix : List (List ℕ)) → parts_of (xs ++ rest) ≡ prefix ++ parts_of rest → length (parts_of xs) ≡ length prefix + 1
line_after xs rest prefix are = omega (arith, length-parts xs rest, ap length are, length-append prefix (parts_of rest))

-- the same after a preamble and so many lines
line_after_preamble : (xs rest body : List ℕ) (n k : ℕ) → drop n (parts_of (xs ++ rest)) ≡ parts_of body → length (parts_of body) ≡ k + length (parts_of rest) → length (parts_of xs) ≡ n + k + 1
line_after_preamble xs rest body n k left are = omega (arith, length-parts xs rest, ap length left, length-drop n (parts_of (xs ++ rest)), are, some_parts rest)

-- ---- after lines that are accepted

module _ {X : Type 0} (f : Format X) (p : X → List (List ℕ)) (setting : SettingValue) (lists : List (List X)) (ls : List (Line X)) (accepted : AreAccepted (f.grammar setting) p (f.grammar setting).start ls lists) where
  -- a refusal of the lines after the preamble is that of the text
  body_line : (text xs rest body : List ℕ) (n k : ℕ) (why : Why) → length text ≤ text_byte_limit → text ≡ xs ++ rest → HasBegun (preamble_of f text) text setting n body → length (parts_of body) ≡ k + length (parts_of rest) →
      IsBodyRefusal (f.grammar setting) (parts_of body) k why → IsTextRefusal f text (length (parts_of xs)) why
  body_line text xs rest body n k why short whole begun are refused =
      let left : drop (length (preamble_of f text).faults) (parts_of (xs ++ rest)) ≡ parts_of body = ap (λ t. drop (length (preamble_of f text).faults) (parts_of t)) (sym whole) ∙ begun.body in
      let line : length (parts_of xs) ≡ k + suc n = omega (arith, line_after_preamble xs rest body (length (preamble_of f text).faults) k left are, begun.count) in
      begun_refused f text setting n body (length (parts_of xs)) why short begun (refused (suc n) (length (parts_of xs)) line)

  -- a line with a fault, or no whole line
  pub refused_at_line : (after : List X → X → Option Why) → ((items : List X) (x : X) → (f.grammar setting).item_fault items x ≡ after items x) → (text xs rest : List ℕ) (n : ℕ) (why : Why) → length text ≤ text_byte_limit → text ≡ xs ++ rest →
      HasBegun (preamble_of f text) text setting n (flat_map (λ l. line_text (tokens_by p l)) ls ++ rest) → AreRefusedBy (λ ps. fault_of ((f.grammar setting).said_by ps) (line_fault_after after lists)) (parts_of rest) why → IsTextRefusal f text (length (parts_of xs)) why
  refused_at_line after tells text xs rest n why short whole begun refused =
      let g = f.grammar setting in
      let body = flat_map (λ l. line_text (tokens_by p l)) ls ++ rest in
      let r = printed_reached g p ls lists rest accepted in
      let at = body_line text xs rest body n (length ls) why short whole begun r.count in
      ⊎_elim
      (λ (cut : parts_of rest ≡ rest ∷ []).
      let is = subst (λ ps. AreRefusedBy (λ ps. fault_of (g.said_by ps) (line_fault_after after lists)) ps why) cut refused in
      at (unended_refused g (parts_of body) (length ls) rest lists why r cut is))
      (λ (l : HasLine rest).
      let fault = line_fault_of (λ ps. fault_of (g.said_by ps) (line_fault_after after lists)) rest l.line l.rest why l.parts refused in
      let first = said_same g after tells lists (said g l.line) ∙ fault in
      at (line_refused g (parts_of body) (length ls) rest lists l.line l.rest why r l.parts first))
      (first_line rest)

  -- bytes after the line `end`
  pub refused_after_end : IsReadBack (f.grammar setting) p End → (text xs rest : List ℕ) (n : ℕ) → length text ≤ text_byte_limit → text ≡ (xs ++ line_text (codes "end" ∷ [])) ++ rest → rest ≢ [] →
      HasBegun (preamble_of f text) text setting n (flat_map (λ l. line_text (tokens_by p l)) ls ++ (line_text (codes "end" ∷ []) ++ rest)) → IsTextRefusal f text (length (parts_of (xs ++ line_text (codes "end" ∷ [])))) AfterEnd
  unfolding parts_of
  refused_after_end end text xs rest n short whole some begun =
      let g = f.grammar setting in
      let last = line_text (codes "end" ∷ []) in
      let body = flat_map (λ l. line_text (tokens_by p l)) ls ++ (last ++ rest) in
      let r = printed_reached g p ls lists (last ++ rest) accepted in
      let cut : parts_of (last ++ rest) ≡ codes "end" ∷ parts_of rest = split_part 10 (codes "end") rest refl in
      let bytes : length rest ≡ 0 → ⊥ = λ none. some (nothing rest none) in
      let count : length (parts_of body) ≡ suc (length ls) + length (parts_of rest) = omega (arith, r.count, ap length cut) in
      body_line text (xs ++ last) rest body n (suc (length ls)) AfterEnd short whole begun count (ended_refused g (parts_of body) (length ls) (last ++ rest) lists (codes "end") rest lists r cut (reads_end g p lists end) bytes)
    where
      nothing : (rest : List ℕ) → length rest ≡ 0 → rest ≡ []
      nothing [] none = refl
      nothing (b ∷ rest) none = absurd (omega (arith, none))

-- ---- traces and programs

-- a line has a token
some_token : (line : List ℕ) → (word : List ℕ) × (others : List (List ℕ)) × (tokens_of line ≡ word ∷ others)
unfolding tokens_of
some_token line = split_parts (λ b. eqb b 32) line

-- version 1 under TSO has no lines
pub no_lines : (setting : SettingValue) → setting.order ≡ Tso → setting.first ≡ [] → setting_text setting ++ [] ≡ []
unfolding setting_text items_text
no_lines setting tso none = rw (tso, none) refl

module _ {X : Type 0} (f : Format X) (one two : List ℕ) (p : X → List (List ℕ)) (after : SettingValue → List X → X → Option Why) (headers : AreHeaders one two) (by : (text : List ℕ) → preamble_of f text ≡ setting_preamble one two (whole_lines (parts_of text)))
    (tells : (setting : SettingValue) (items : List X) (x : X) → (f.grammar setting).item_fault items x ≡ after setting items x) where
  -- the text up to these lists
  abbrev begun : SettingValue → List (List X) → List ℕ
  begun setting lists = header_of one two setting.version ++ 10 ∷ lists_text p setting lists

  read : (text rest : List ℕ) (setting : SettingValue) (lists : List (List X)) → IsSetting setting → text ≡ begun setting lists ++ rest → Follows setting (flat_map (processor_text p) lists ++ rest) →
      (n : ℕ) × HasBegun (preamble_of f text) text setting n (flat_map (λ l. line_text (tokens_by p l)) (made_by lists) ++ rest)
  read text rest setting lists is whole follows =
      let lines = flat_map (processor_text p) lists in
      let back = setting_back one two setting lines rest headers is follows in (
        back.0,
        subst (λ b. HasBegun (preamble_of f text) text setting back.0 (b ++ rest)) (sym (made_by-text p lists))
            (subst (λ q. HasBegun q text setting back.0 (lines ++ rest)) (sym (by text)) (subst (λ t. HasBegun (setting_preamble one two (whole_lines (parts_of t))) t setting back.0 (lines ++ rest)) (sym whole) back.1)),
      )

  -- a line among those of lists
  in_lists : (setting : SettingValue) (lists : List (List X)) → AreAccepted (f.grammar setting) p (f.grammar setting).start (made_by lists) lists → IsSetting setting → (text rest : List ℕ) (why : Why) → length text ≤ text_byte_limit → text ≡ begun setting lists ++ rest →
      Follows setting (flat_map (processor_text p) lists ++ rest) → AreRefusedBy (λ ps. fault_of ((f.grammar setting).said_by ps) (line_fault_after (after setting) lists)) (parts_of rest) why → IsTextRefusal f text (length (parts_of (begun setting lists))) why
  in_lists setting lists accepted is text rest why short whole follows refused =
      let back = read text rest setting lists is whole follows in
      refused_at_line f p setting lists (made_by lists) accepted (after setting) (tells setting) text (begun setting lists) rest back.0 why short whole back.1 refused

  preamble_line : (text : List ℕ) (line : ℕ) (why : Why) → length text ≤ text_byte_limit → IsPreambleRefusal (setting_preamble one two (whole_lines (parts_of text))) line why → IsTextRefusal f text line why
  preamble_line text line why short refusal = preamble_refused f text line why short (subst (λ q. IsPreambleRefusal q line why) (sym (by text)) refusal)

  -- a line `model`
  in_model : (version : Version) (text rest word : List ℕ) (others : List (List ℕ)) (why : Why) (l : HasLine rest) → length text ≤ text_byte_limit → text ≡ (header_of one two version ++ 10 ∷ []) ++ rest → tokens_of l.line ≡ word ∷ others → bytes_eq word (codes "model") ≡ true →
      fault_of (model_said others) (λ _. None) ≡ Some why → IsTextRefusal f text (length (parts_of (header_of one two version ++ 10 ∷ []))) why
  in_model version text rest word others why l short whole cut word_model fault =
      let xs = header_of one two version ++ 10 ∷ [] in
      let header : HasHeader one two text version rest = subst (λ t. HasHeader one two t version rest) (sym (whole ∙ append_assoc (header_of one two version) (10 ∷ []) rest)) (header_back one two version rest headers) in
      let is : model_line_in (whole_lines (parts_of rest)) ≡ l.line ∷ [] = rw (l.parts, whole_lines-parts l.line l.rest, keyword_is (codes "model") l.line word others cut, word_model) refl in
      let first : model_fault l.line ≡ Some why = ap (λ ps. fault_of (model_said ps) (λ _. None)) (after_keyword-is l.line word others cut) ∙ fault in
      let line : length (parts_of xs) ≡ 2 = line_after xs rest (header.line ∷ []) (sym (ap parts_of whole) ∙ header.parts) in
      subst (λ n. IsTextRefusal f text n why) (sym line) (preamble_line text 2 why short (model_refusal one two text version rest l.line why header is first))

  -- a line `init`
  in_entry : (setting : SettingValue) (text rest word : List ℕ) (others : List (List ℕ)) (why : Why) (l : HasLine rest) → IsSetting setting → setting.version ≡ Two → length text ≤ text_byte_limit → text ≡ begun setting [] ++ rest → tokens_of l.line ≡ word ∷ others →
      bytes_eq word (codes "init") ≡ true → fault_of (entry_by others) (entry_fault_after setting.first) ≡ Some why → IsTextRefusal f text (length (parts_of (begun setting []))) why
  in_entry setting text rest word others why l is version short whole cut word_init fault =
      let xs = begun setting [] in
      let entries = items_text entry_tokens setting.first ++ rest in
      let bytes : text ≡ header_of one two Two ++ 10 ∷ (model_text setting.order ++ entries) = whole ∙ setting_parts (header_of one two setting.version) setting [] rest ∙ ap (λ v. header_of one two v ++ 10 ∷ (model_text setting.order ++ entries)) version in
      let header : HasHeader one two text Two (model_text setting.order ++ entries) = subst (λ t. HasHeader one two t Two (model_text setting.order ++ entries)) (sym bytes) (header_back one two Two (model_text setting.order ++ entries) headers) in
      let other : word ≡ codes "init" = word_is word (codes "init") word_init in
      let no_model = model_other rest l.line l.rest word others l.parts cut (ap (λ w. bytes_eq w (codes "model")) other) in
      let model = model_back setting.order setting.first rest is.entries (λ _ _. no_model) in
      let read = entries_back setting.first rest is.entries in
      let here = read.1.is ∙ ap (λ ls. read.1.done ++ ls) (entry_here rest l.line l.rest word others l.parts cut word_init) in
      let first : said_entry_fault (entries_after [] read.1.done) (entry_said l.line) ≡ Some why =
      ap (λ r. said_entry_fault (entries_after [] read.1.done) r) (ap entry_by (after_keyword-is l.line word others cut)) ∙ ap (λ b. said_entry_fault b (entry_by others)) read.1.says ∙ fault in
      let prefix = header.line ∷ (model.model ++ read.1.done) in
      let are : parts_of (xs ++ rest) ≡ prefix ++ parts_of rest =
      sym (ap parts_of whole) ∙ header.parts ∙ ap (λ ps. header.line ∷ ps) (model.parts ∙ ap (λ ps. model.model ++ ps) read.1.parts ∙ sym (append_assoc model.model read.1.done (parts_of rest))) in
      let line : length (parts_of xs) ≡ model_count setting.order + 2 + length read.1.done = omega (arith, line_after xs rest prefix are, length-append model.model read.1.done, model.count) in
      subst (λ n. IsTextRefusal f text n why) (sym line)
      (preamble_line text (model_count setting.order + 2 + length read.1.done) why short
      (entry_refusal one two text setting.order (model_count setting.order) (model_text setting.order ++ entries) entries why header model read.1.done l.line _ here read.1.clean first))

  -- ---- each line

  pub refused_by_kind : (setting : SettingValue) (lists : List (List X)) → AreAccepted (f.grammar setting) p (f.grammar setting).start (made_by lists) lists → IsSetting setting → (text rest : List ℕ) (why : Why) → length text ≤ text_byte_limit → text ≡ begun setting lists ++ rest →
      AreRefusedBy (λ ps. fault_in_lists setting lists ps (fault_of ((f.grammar setting).said_by ps) (line_fault_after (after setting) lists))) (parts_of rest) why → IsTextRefusal f text (length (parts_of (begun setting lists))) why
  refused_by_kind setting (row ∷ lists) accepted is text rest why short whole refused =
      in_lists setting (row ∷ lists) accepted is text rest why short whole (body_follows setting _ (lists_begin p row lists rest)) refused
  refused_by_kind setting [] accepted is text rest why short whole refused = ⊎_elim unended by_line (first_line rest)
    where
      unended : parts_of rest ≡ rest ∷ [] → IsTextRefusal f text (length (parts_of (begun setting []))) why
      unended cut =
          let is_why = subst (λ ps. AreRefusedBy (λ qs. fault_in_lists {X = X} setting [] qs (fault_of ((f.grammar setting).said_by qs) (line_fault_after (after setting) []))) ps why) cut refused in
          in_lists setting [] accepted is text rest why short whole (record { no_model = λ _ _. model_none rest cut; no_entry = λ _. rw cut refl })
          (subst (λ ps. AreRefusedBy (λ qs. fault_of ((f.grammar setting).said_by qs) (line_fault_after (after setting) [])) ps why) (sym cut) is_why)

      in_body : (l : HasLine rest) (word : List ℕ) (others : List (List ℕ)) → tokens_of l.line ≡ word ∷ others → (bytes_eq word (codes "model") && (not (has_stbar setting.order) && is_empty setting.first)) ≡ false →
          (bytes_eq word (codes "init") && has_entries setting.version) ≡ false → fault_of ((f.grammar setting).said_by (tokens_of l.line)) (line_fault_after (after setting) []) ≡ Some why → IsTextRefusal f text (length (parts_of (begun setting []))) why
      in_body l word others cut no_model no_init fault =
          in_lists setting [] accepted is text rest why short whole
          (record {
            no_model = λ tso none. model_other rest l.line l.rest word others l.parts cut (off (bytes_eq word (codes "model")) _ no_model (rw (tso, none) refl));
            no_entry = λ at. no_entry_line rest l.line l.rest word others l.parts cut (off (bytes_eq word (codes "init")) _ no_init (rw at refl));
          })
          (line_refused_by (λ ps. fault_of ((f.grammar setting).said_by ps) (line_fault_after (after setting) [])) rest l.line l.rest why l.parts fault)
        where
          off : (b c : Bool) → (b && c) ≡ false → c ≡ true → b ≡ false
          off true c e on = absurd (false≢true (sym e ∙ on))
          off false c e on = refl

      by_entry : (l : HasLine rest) (word : List ℕ) (others : List (List ℕ)) → tokens_of l.line ≡ word ∷ others → (bytes_eq word (codes "model") && (not (has_stbar setting.order) && is_empty setting.first)) ≡ false → (b : Bool) → (bytes_eq word (codes "init") && has_entries setting.version) ≡ b →
          cond b (fault_of (entry_by others) (entry_fault_after setting.first)) (fault_of ((f.grammar setting).said_by (tokens_of l.line)) (line_fault_after (after setting) [])) ≡ Some why → IsTextRefusal f text (length (parts_of (begun setting []))) why
      by_entry l word others cut no_model true on fault =
          let both = and_parts (bytes_eq word (codes "init")) (has_entries setting.version) on in in_entry setting text rest word others why l is (two_is setting.version both.1) short whole cut both.0 fault
      by_entry l word others cut no_model false no_init fault = in_body l word others cut no_model no_init fault

      by_model : (l : HasLine rest) (word : List ℕ) (others : List (List ℕ)) → tokens_of l.line ≡ word ∷ others → (b : Bool) → (bytes_eq word (codes "model") && (not (has_stbar setting.order) && is_empty setting.first)) ≡ b →
          cond b (fault_of (model_said others) (λ _. None)) (cond (bytes_eq word (codes "init") && has_entries setting.version) (fault_of (entry_by others) (entry_fault_after setting.first)) (fault_of ((f.grammar setting).said_by (tokens_of l.line)) (line_fault_after (after setting) []))) ≡ Some why →
          IsTextRefusal f text (length (parts_of (begun setting []))) why
      by_model l word others cut true on fault =
          let both = and_parts (bytes_eq word (codes "model")) (not (has_stbar setting.order) && is_empty setting.first) on in
          let where_it_can = and_parts (not (has_stbar setting.order)) (is_empty setting.first) both.1 in
          let xs : begun setting [] ≡ header_of one two setting.version ++ 10 ∷ [] = ap (λ t. header_of one two setting.version ++ 10 ∷ t) (no_lines setting (no_stbar setting.order where_it_can.0) (no_first setting.first where_it_can.1)) in
          subst (λ b. IsTextRefusal f text (length (parts_of b)) why) (sym xs) (in_model setting.version text rest word others why l short (whole ∙ ap (λ b. b ++ rest) xs) cut both.0 fault)
      by_model l word others cut false no_model fault = by_entry l word others cut no_model (bytes_eq word (codes "init") && has_entries setting.version) refl fault

      by_line : HasLine rest → IsTextRefusal f text (length (parts_of (begun setting []))) why
      by_line l =
          let fault = line_fault_of (λ ps. fault_in_lists {X = X} setting [] ps (fault_of ((f.grammar setting).said_by ps) (line_fault_after (after setting) []))) rest l.line l.rest why l.parts refused in
          let tokens = some_token l.line in
          let here = subst (λ ps. fault_in_lists {X = X} setting [] ps (fault_of ((f.grammar setting).said_by (tokens_of l.line)) (line_fault_after (after setting) [])) ≡ Some why) tokens.2 fault in
          by_model l tokens.0 tokens.1 tokens.2 (bytes_eq tokens.0 (codes "model") && (not (has_stbar setting.order) && is_empty setting.first)) refl here

  pub refused_after_kind : (setting : SettingValue) (lists : List (List X)) → AreAccepted (f.grammar setting) p (f.grammar setting).start (made_by lists) lists → IsReadBack (f.grammar setting) p End → IsSetting setting → (text rest : List ℕ) → length text ≤ text_byte_limit →
      text ≡ (begun setting lists ++ line_text (codes "end" ∷ [])) ++ rest → rest ≢ [] → IsTextRefusal f text (length (parts_of (begun setting lists ++ line_text (codes "end" ∷ [])))) AfterEnd
  refused_after_kind setting lists accepted end is text rest short whole some =
      let last = line_text (codes "end" ∷ []) in
      let back = read text (last ++ rest) setting lists is (whole ∙ append_assoc (begun setting lists) last rest) (body_follows setting _ (body_begins p lists rest)) in
      refused_after_end f p setting lists (made_by lists) accepted end text (begun setting lists) rest back.0 short whole some back.1
