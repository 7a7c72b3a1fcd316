-- A text and its parts: faults in the preamble and in the parts after it, and how far a reader has come in these.
use Rattle.std.proofs.Common.{◌≡◌, ℕ, suc, ◌+◌, ◌<◌, ◌≤◌, Bool, true, false, not, ◌&&◌, ltb, eqb, cond, List, [], ◌∷◌, ◌++◌, length, Option, Some, None, Result, Ok, Err, refl, ap, sym, ◌∙◌, arith, ⊎_elim}
use Rattle.std.proofs.lemmas.Bool.Decides.{nat_tests}
use Rattle.line_text.specs.Lines.{parts_of, is_empty}
use Rattle.line_text.proofs.CutFacts.{split_parts, some_part}
use Rattle.tso_ops.specs.Settings.{SettingValue}
use Rattle.tso_text.specs.declared.faults.Why.{Why}
use Rattle.tso_text.specs.declared.faults.Why.TheVariants.{TooLong, AfterEnd, OutOfMemory}
use Rattle.tso_text.specs.declared.lines.Line.{Line}
use Rattle.tso_text.specs.Internal.Spelling.{Format, Grammar, IsTextRefusal, text_read, lists_read, or_fault, or_first_fault, ended, preamble_of, preamble_lines, grammar_of, body_of, said_fault, said, with_said, with_line, is_end, unended_text_fault}
use Rattle.tso_text.specs.Internal.Spelled.{SpellsLists}
use Rattle.tso_text.specs.Internal.Accepted.{IsRefusedFor, AcceptsLine}
use Rattle.tso_text.specs.Internal.Begun.{AreFaultless, HasBegun, IsPreambleRefusal, SpellsBody, IsBodyRefusal, IsBodyRefusedAfter}
use Rattle.tso_text.specs.Texts.{text_byte_limit}

-- ---- lists of faults

pub AreFaultless-append : (faults more : List (Option Why)) → AreFaultless faults → AreFaultless more → AreFaultless (faults ++ more)
AreFaultless-append [] more clean also = also
AreFaultless-append (fault ∷ faults) more clean also = (clean.0, AreFaultless-append faults more clean.1 also)

faultless_read : {A : Type 0} (n : ℕ) (faults : List (Option Why)) (read : Result A (ℕ × Why)) → AreFaultless faults → or_first_fault n faults read ≡ read
faultless_read n [] read clean = refl
faultless_read n (None ∷ faults) read clean = faultless_read (suc n) faults read clean.1
faultless_read n (Some why ∷ faults) read clean = absurd (let e = clean.0 in cc)

first_read : {A : Type 0} (n line : ℕ) (before : List (Option Why)) (why : Why) (after : List (Option Why)) (read : Result A (ℕ × Why)) → AreFaultless before → line ≡ length before + n → or_first_fault n (before ++ Some why ∷ after) read ≡ Err (line, why)
first_read n line [] why after read clean at = ap (λ m. Err (m, why)) (let same : n ≡ line = omega (arith, at) in same)
first_read n line (None ∷ before) why after read clean at = first_read (suc n) line before why after read clean.1 (omega (arith, at))
first_read n line (Some other ∷ before) why after read clean at = absurd (let e = clean.0 in cc)

-- ---- from parts to the text

-- too many bytes
pub too_long : {X : Type 0} (f : Format X) (text : List ℕ) → text_byte_limit < length text → IsTextRefusal f text 0 TooLong
unfolding text_read
too_long f text long = let on : ltb text_byte_limit (length text) ≡ true = grind (arith, nat_tests) in rw on refl

short_read : {X : Type 0} (f : Format X) (text : List ℕ) → length text ≤ text_byte_limit →
    text_read f text ≡ or_first_fault 1 (preamble_of f text).faults (lists_read (grammar_of f text) (suc (preamble_lines f text)) (grammar_of f text).start (body_of f text))
unfolding text_read
short_read f text short =
    let read = or_first_fault 1 (preamble_of f text).faults (lists_read (grammar_of f text) (suc (preamble_lines f text)) (grammar_of f text).start (body_of f text)) in
    let off : ltb text_byte_limit (length text) ≡ false = grind (arith, nat_tests) in
    ap (λ b. cond b (Err (0, TooLong)) read) off

-- a refusal of the preamble is that of the text
pub preamble_refused : {X : Type 0} (f : Format X) (text : List ℕ) (line : ℕ) (why : Why) → length text ≤ text_byte_limit → IsPreambleRefusal (preamble_of f text) line why → IsTextRefusal f text line why
preamble_refused f text line why short r =
    let read = lists_read (grammar_of f text) (suc (preamble_lines f text)) (grammar_of f text).start (body_of f text) in
    short_read f text short ∙ ap (λ faults. or_first_fault 1 faults read) r.parts ∙ first_read 1 line r.before why r.after read r.clean r.at

-- after a preamble that was read, the parts after it are
begun_read : {X : Type 0} (f : Format X) (text : List ℕ) (setting : SettingValue) (lines : ℕ) (rest : List ℕ) → length text ≤ text_byte_limit → HasBegun (preamble_of f text) text setting lines rest →
    text_read f text ≡ lists_read (f.grammar setting) (suc lines) (f.grammar setting).start (parts_of rest)
begun_read f text setting lines rest short begun =
    let read = lists_read (grammar_of f text) (suc (preamble_lines f text)) (grammar_of f text).start (body_of f text) in
    short_read f text short
    ∙ faultless_read 1 (preamble_of f text).faults read begun.clean
    ∙ ap (λ parts. lists_read (grammar_of f text) (suc (preamble_lines f text)) (grammar_of f text).start parts) begun.body
    ∙ ap (λ n. lists_read (grammar_of f text) (suc n) (grammar_of f text).start (parts_of rest)) begun.count
    ∙ ap (λ s. lists_read (f.grammar s) (suc lines) (f.grammar s).start (parts_of rest)) begun.says

pub begun_spells : {X : Type 0} (f : Format X) (text : List ℕ) (setting : SettingValue) (lines : ℕ) (rest : List ℕ) (lists : List (List X)) → length text ≤ text_byte_limit →
    HasBegun (preamble_of f text) text setting lines rest → SpellsBody (f.grammar setting) (parts_of rest) lists → SpellsLists f text lists
begun_spells f text setting lines rest lists short begun body = begun_read f text setting lines rest short begun ∙ body (suc lines)

pub begun_refused : {X : Type 0} (f : Format X) (text : List ℕ) (setting : SettingValue) (lines : ℕ) (rest : List ℕ) (line : ℕ) (why : Why) → length text ≤ text_byte_limit →
    HasBegun (preamble_of f text) text setting lines rest → IsBodyRefusedAfter (f.grammar setting) (parts_of rest) lines line why → IsTextRefusal f text line why
begun_refused f text setting lines rest line why short begun refused = begun_read f text setting lines rest short begun ∙ refused

-- ---- the place among the parts

-- The reader has read i lines, which make `lists`; `rest` is what stands after them.
pub record Reached {X : Type 0} (g : Grammar X) (parts : List (List ℕ)) (i : ℕ) (rest : List ℕ) (lists : List (List X)) : Type 0 where
  pub read : (n m : ℕ) → m ≡ i + n → lists_read g n g.start parts ≡ lists_read g m lists (parts_of rest)
  pub count : length parts ≡ i + length (parts_of rest)

-- before the first line
pub Reached-start : {X : Type 0} (g : Grammar X) (rest : List ℕ) → Reached g (parts_of rest) 0 rest g.start
Reached-start g rest = record { read = λ n m at. ap (λ k. lists_read g k g.start (parts_of rest)) (let same : n ≡ m = omega (arith, at) in same); count = omega arith }

-- what is read after a line, by what it says
abbrev read_after : {X : Type 0} → Grammar X → ℕ → List (List X) → Result (Line X) Why → List (List ℕ) → Result (List (List X)) (ℕ × Why)
read_after g n lists r parts = cond (is_end r) (ended (suc n) (with_said lists r) parts) (lists_read g (suc n) (with_said lists r) parts)

line_read : {X : Type 0} (g : Grammar X) (n : ℕ) (lists : List (List X)) (rest line after : List ℕ) → parts_of rest ≡ line ∷ parts_of after →
    lists_read g n lists (parts_of rest) ≡ or_fault n (said_fault g lists (said g line)) (read_after g n lists (said g line) (parts_of after))
unfolding parts_of
line_read g n lists rest line after cut =
    let p = split_parts (λ b. eqb b 10) after in
    ap (λ parts. lists_read g n lists parts) (cut ∙ ap (λ parts. line ∷ parts) p.2)
    ∙ ap (λ parts. or_fault n (said_fault g lists (said g line)) (read_after g n lists (said g line) parts)) (sym p.2)

accepted_read : {X : Type 0} (g : Grammar X) (n : ℕ) (lists : List (List X)) (rest line after : List ℕ) (end : Bool) (new : List (List X)) → parts_of rest ≡ line ∷ parts_of after → AcceptsLine g lists line end new →
    lists_read g n lists (parts_of rest) ≡ cond end (ended (suc n) new (parts_of after)) (lists_read g (suc n) new (parts_of after))
accepted_read g n lists rest line after end new cut accepts =
    let l = accepts.line_said in
    line_read g n lists rest line after cut
    ∙ ap (λ r. or_fault n (said_fault g lists r) (read_after g n lists r (parts_of after))) accepts.says
    ∙ ap (λ o. or_fault n o (read_after g n lists (Ok l) (parts_of after))) accepts.accepts.clean
    ∙ ap (λ b. cond b (ended (suc n) (with_line lists l) (parts_of after)) (lists_read g (suc n) (with_line lists l) (parts_of after))) accepts.accepts.ends
    ∙ ap (λ made. cond end (ended (suc n) made (parts_of after)) (lists_read g (suc n) made (parts_of after))) accepts.accepts.after

-- the reader continues after a line
pub Reached-next : {X : Type 0} (g : Grammar X) (parts : List (List ℕ)) (i : ℕ) (rest : List ℕ) (lists : List (List X)) (line after : List ℕ) (new : List (List X)) →
    Reached g parts i rest lists → parts_of rest ≡ line ∷ parts_of after → AcceptsLine g lists line false new → Reached g parts (suc i) after new
Reached-next g parts i rest lists line after new r cut accepts = record {
  read = λ n m at.
      r.read n (i + n) refl ∙ accepted_read g (i + n) lists rest line after false new cut accepts ∙ ap (λ k. lists_read g k new (parts_of after)) (let same : suc (i + n) ≡ m = omega (arith, at) in same);
  count = omega (arith, r.count, ap length cut);
}

-- ---- refusals

-- a line with a fault
pub line_refused : {X : Type 0} (g : Grammar X) (parts : List (List ℕ)) (i : ℕ) (rest : List ℕ) (lists : List (List X)) (line after : List ℕ) (why : Why) → Reached g parts i rest lists →
    parts_of rest ≡ line ∷ parts_of after → said_fault g lists (said g line) ≡ Some why → IsBodyRefusal g parts i why
line_refused g parts i rest lists line after why r cut first = λ n m at.
    r.read n m at ∙ line_read g m lists rest line after cut ∙ ap (λ o. or_fault m o (read_after g m lists (said g line) (parts_of after))) first

-- no line end, and no `end` before
pub unended_refused : {X : Type 0} (g : Grammar X) (parts : List (List ℕ)) (i : ℕ) (rest : List ℕ) (lists : List (List X)) (why : Why) → Reached g parts i rest lists →
    parts_of rest ≡ rest ∷ [] → why ≡ unended_text_fault rest → IsBodyRefusal g parts i why
unended_refused g parts i rest lists why r cut is = λ n m at. r.read n m at ∙ ap (λ ps. lists_read g m lists ps) cut ∙ ap (λ w. Err (m, w)) (sym is)

not_true : (b : Bool) → not b ≡ true → b ≡ false
not_true true e = absurd cc
not_true false e = refl

bytes_after : {A : Type 0} (n : ℕ) (read : A) (after : List ℕ) → (length after ≡ 0 → ⊥) → ended n read (parts_of after) ≡ Err (n, AfterEnd)
unfolding parts_of
bytes_after n read after some =
    let p = split_parts (λ b. eqb b 10) after in
    let stands : (is_empty p.1 && is_empty p.0) ≡ false = not_true (is_empty p.1 && is_empty p.0) (some_part after p.0 p.1 p.2 some) in
    ap (λ parts. ended n read parts) p.2 ∙ ap (λ b. cond b (Ok read) (Err (n, AfterEnd))) stands

-- a byte after the `end` line
pub ended_refused : {X : Type 0} (g : Grammar X) (parts : List (List ℕ)) (i : ℕ) (rest : List ℕ) (lists : List (List X)) (line after : List ℕ) (new : List (List X)) →
    Reached g parts i rest lists → parts_of rest ≡ line ∷ parts_of after → AcceptsLine g lists line true new → (length after ≡ 0 → ⊥) → IsBodyRefusal g parts (suc i) AfterEnd
ended_refused g parts i rest lists line after new r cut accepts some = λ n m at.
    r.read n (i + n) refl ∙ accepted_read g (i + n) lists rest line after true new cut accepts
    ∙ bytes_after (suc (i + n)) new after some ∙ ap (λ k. Err (k, AfterEnd)) (let same : suc (i + n) ≡ m = omega (arith, at) in same)

-- nothing after the `end` line: the parts spell what their lines say
pub Reached-end : {X : Type 0} (g : Grammar X) (parts : List (List ℕ)) (i : ℕ) (rest : List ℕ) (lists : List (List X)) (line after : List ℕ) (new : List (List X)) →
    Reached g parts i rest lists → parts_of rest ≡ line ∷ parts_of after → AcceptsLine g lists line true new → length after ≡ 0 → SpellsBody g parts new
unfolding parts_of
Reached-end g parts i rest lists line [] new r cut accepts none = λ n. r.read n (i + n) refl ∙ accepted_read g (i + n) lists rest line [] true new cut accepts
Reached-end g parts i rest lists line (b ∷ after) new r cut accepts none = absurd (omega arith)

-- ---- what the reader answers

-- the fault that a reader answers is the refusal at its line, unless memory ran out
pub answered : {X : Type 0} (g : Grammar X) (parts : List (List ℕ)) (lines line i : ℕ) (why : Why) (fault_line : ℕ) (fault_why : Why) → line ≡ lines + i + 1 → fault_why ≡ why →
    ((why ≡ OutOfMemory → ⊥) → fault_line ≡ line) → ((why ≡ OutOfMemory → ⊥) → IsBodyRefusal g parts i why) → (fault_why ≡ OutOfMemory → ⊥) → IsBodyRefusedAfter g parts lines fault_line fault_why
answered g parts lines line i why fault_line fault_why at is stands refusal other =
    let not_memory : why ≡ OutOfMemory → ⊥ = λ memory. other (is ∙ memory) in
    let same = stands not_memory in
    refusal not_memory (suc lines) fault_line (omega (arith, same, at)) ∙ ap (λ w. Err (fault_line, w)) (sym is)

-- what is refused for another reason than memory has a fault
pub first_fault : (fault : Option Why) (why : Why) → IsRefusedFor fault why → (why ≡ OutOfMemory → ⊥) → fault ≡ Some why
first_fault fault why away other = ⊎_elim (λ memory. absurd (other memory)) (λ is. is) away
