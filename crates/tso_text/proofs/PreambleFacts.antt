-- How far a reader has come in a preamble: its header, memory model and first values.
use Rattle.std.proofs.Common.{◌≡◌, ℕ, suc, ◌+◌, ◌<◌, ◌≤◌, ◌||◌, Bool, true, false, List, [], ◌∷◌, ◌++◌, length, map, drop, eqb, Option, Some, None, Ok, Err, inr, refl, ap, sym, ◌∙◌, subst, arith, append_assoc, length-append}
use Rattle.std.specs.Prelude.{codes}
use Rattle.std.specs.List.{take_while, prefix_len}
use Rattle.std.specs.Str.{bytes_eq}
use Rattle.std.proofs.Math.Seq.{drop-append_seam}
use Rattle.std.proofs.lemmas.List.{append-nil, length-map}
use Rattle.line_text.specs.Lines.{parts_of, tokens_of}
use Rattle.line_text.proofs.CutFacts.{split_parts}
use Rattle.tso_ops.specs.declared.settings.Order.{Order}
use Rattle.tso_ops.specs.declared.settings.Order.TheVariants.{Tso, Pso}
use Rattle.tso_ops.specs.declared.settings.Version.{Version}
use Rattle.tso_ops.specs.declared.settings.Version.TheVariants.{One, Two}
use Rattle.tso_ops.specs.Settings.{version_one_tso}
use Rattle.tso_ops.specs.Limits.{KeepsEntries}
use Rattle.tso_ops.proofs.EntryFacts.{KeepsEntries-nil}
use Rattle.tso_text.specs.declared.faults.Why.{Why}
use Rattle.tso_text.specs.declared.faults.Why.TheVariants.{BadHeader, OutOfMemory}
use Rattle.tso_text.specs.Lines.{begins_with, has_keyword, model_line_in, whole_lines}
use Rattle.tso_text.specs.Internal.LineReadings.{model_said, entry_by, entry_fault_after}
use Rattle.tso_text.specs.Internal.Preambles.{header_fault, header_alone, after_keyword, model_fault, entry_lines, entry_said, said_entry_fault, with_said_entry, entries_after, entry_faults, version_of, setting_lines, preamble_by, setting_preamble}
use Rattle.tso_text.specs.Internal.Begun.{AreFaultless, IsSetting, HasBegun, IsPreambleRefusal, HasHeader, HasNoHeader, HasModel, HasBadModel, HasEntries, HasAllEntries, HasBadEntry, IsEntryRefused}
use Rattle.tso_text.proofs.ReadersFacts.{first_fault, AreFaultless-append}

-- ---- lines among parts

-- one more line before the parts of a text
pub whole_lines-parts : (line rest : List ℕ) → whole_lines (line ∷ parts_of rest) ≡ line ∷ whole_lines (parts_of rest)
unfolding parts_of
whole_lines-parts line rest = let p = split_parts (λ b. eqb b 10) rest in rw p.2 refl

pub whole_lines-append : (lines : List (List ℕ)) (rest : List ℕ) → whole_lines (lines ++ parts_of rest) ≡ lines ++ whole_lines (parts_of rest)
whole_lines-append [] rest = refl
whole_lines-append (line ∷ []) rest = whole_lines-parts line rest
whole_lines-append (line ∷ next ∷ lines) rest = ap (λ ls. line ∷ ls) (whole_lines-append (next ∷ lines) rest)

pub take_while-yes : {X : Type 0} (p : X → Bool) (x : X) (xs : List X) → p x ≡ true → take_while p (x ∷ xs) ≡ x ∷ take_while p xs
take_while-yes p x xs passes = let more : 1 + prefix_len p xs ≡ suc (prefix_len p xs) = omega arith in rw (passes, more) refl

pub take_while-no : {X : Type 0} (p : X → Bool) (x : X) (xs : List X) → p x ≡ false → take_while p (x ∷ xs) ≡ []
take_while-no p x xs fails = rw fails refl

-- ---- keywords

pub keyword_is : (word line token : List ℕ) (tokens : List (List ℕ)) → tokens_of line ≡ token ∷ tokens → has_keyword word line ≡ bytes_eq token word
unfolding has_keyword
keyword_is word line token tokens cut = rw cut refl

pub after_keyword-is : (line token : List ℕ) (tokens : List (List ℕ)) → tokens_of line ≡ token ∷ tokens → after_keyword line ≡ tokens
after_keyword-is line token tokens cut = ap (drop 1) cut

-- ---- the header

pub header_two : (one two text line rest : List ℕ) → parts_of text ≡ line ∷ parts_of rest → bytes_eq line two ≡ true → length rest < length text → HasHeader one two text Two rest
header_two one two text line rest cut same shorter = record { line = line; parts = cut; is = rw same (or_true (bytes_eq line one)); says = rw same refl; shorter = shorter }
  where
    or_true : (b : Bool) → (b || true) ≡ true
    or_true true = refl
    or_true false = refl

pub header_one : (one two text line rest : List ℕ) → parts_of text ≡ line ∷ parts_of rest → bytes_eq line two ≡ false → bytes_eq line one ≡ true → length rest < length text → HasHeader one two text One rest
header_one one two text line rest cut other same shorter = record { line = line; parts = cut; is = rw same refl; says = rw other refl; shorter = shorter }

pub no_header : (one two text line rest : List ℕ) → parts_of text ≡ line ∷ parts_of rest → bytes_eq line two ≡ false → bytes_eq line one ≡ false → HasNoHeader one two text
no_header one two text line rest cut other another = rw (cut, whole_lines-parts line rest, another, other) refl

pub no_line : (one two text : List ℕ) → parts_of text ≡ text ∷ [] → HasNoHeader one two text
no_line one two text cut = rw cut refl

-- ---- the memory model

pub model_read : (text line rest word : List ℕ) (tokens : List (List ℕ)) → parts_of text ≡ line ∷ parts_of rest → tokens_of line ≡ word ∷ tokens → bytes_eq word (codes "model") ≡ true → model_said tokens ≡ Ok tt → length rest < length text →
    HasModel text Pso 1 rest
model_read text line rest word tokens cut token is says shorter = record {
  model = line ∷ [];
  is = rw (cut, whole_lines-parts line rest, keyword_is (codes "model") line word tokens token, is) refl;
  says = refl;
  count = refl;
  clean = (rw (after_keyword-is line word tokens token, says) refl, tt);
  parts = cut;
  room = omega (arith, shorter);
}

pub model_refused : (text line rest word : List ℕ) (tokens : List (List ℕ)) (why : Why) → parts_of text ≡ line ∷ parts_of rest → tokens_of line ≡ word ∷ tokens → bytes_eq word (codes "model") ≡ true → model_said tokens ≡ Err why →
    HasBadModel text why
model_refused text line rest word tokens why cut token is says = record {
  line = line;
  is = rw (cut, whole_lines-parts line rest, keyword_is (codes "model") line word tokens token, is) refl;
  refused = inr (rw (after_keyword-is line word tokens token, says) refl);
}

pub model_other : (text line rest word : List ℕ) (tokens : List (List ℕ)) → parts_of text ≡ line ∷ parts_of rest → tokens_of line ≡ word ∷ tokens → bytes_eq word (codes "model") ≡ false → HasModel text Tso 0 text
model_other text line rest word tokens cut token not = record {
  model = [];
  is = rw (cut, whole_lines-parts line rest, keyword_is (codes "model") line word tokens token, not) refl;
  says = refl;
  count = refl;
  clean = tt;
  parts = refl;
  room = omega arith;
}

pub model_none : (text : List ℕ) → parts_of text ≡ text ∷ [] → HasModel text Tso 0 text
model_none text cut = record { model = []; is = rw cut refl; says = refl; count = refl; clean = tt; parts = refl; room = omega arith }

-- ---- first values

abbrev is_entry_line : List ℕ → Bool
is_entry_line line = has_keyword (codes "init") line

entries_after-push : (before : List (ℕ × ℕ)) (lines : List (List ℕ)) (line : List ℕ) → entries_after before (lines ++ line ∷ []) ≡ with_said_entry (entries_after before lines) (entry_said line)
entries_after-push before [] line = refl
entries_after-push before (other ∷ lines) line = entries_after-push (with_said_entry before (entry_said other)) lines line

pub entry_faults-append : (before : List (ℕ × ℕ)) (lines more : List (List ℕ)) → entry_faults before (lines ++ more) ≡ entry_faults before lines ++ entry_faults (entries_after before lines) more
entry_faults-append before [] more = refl
entry_faults-append before (line ∷ lines) more = ap (λ tests. said_entry_fault before (entry_said line) ∷ tests) (entry_faults-append (with_said_entry before (entry_said line)) lines more)

pub length-entry_faults : (before : List (ℕ × ℕ)) (lines : List (List ℕ)) → length (entry_faults before lines) ≡ length lines
length-entry_faults before [] = refl
length-entry_faults before (line ∷ lines) = ap suc (length-entry_faults (with_said_entry before (entry_said line)) lines)

pub entries_start : (text : List ℕ) → HasEntries text [] 0 text
entries_start text = record { done = []; is = refl; says = refl; count = refl; clean = tt; parts = refl; room = omega arith }

pub entry_here : (rest line after word : List ℕ) (tokens : List (List ℕ)) → parts_of rest ≡ line ∷ parts_of after → tokens_of line ≡ word ∷ tokens → bytes_eq word (codes "init") ≡ true →
    take_while is_entry_line (whole_lines (parts_of rest)) ≡ line ∷ take_while is_entry_line (whole_lines (parts_of after))
entry_here rest line after word tokens cut token is =
    ap (λ ps. take_while is_entry_line (whole_lines ps)) cut ∙ ap (take_while is_entry_line) (whole_lines-parts line after)
    ∙ take_while-yes is_entry_line line (whole_lines (parts_of after)) (keyword_is (codes "init") line word tokens token ∙ is)

pub entries_next : (text : List ℕ) (first : List (ℕ × ℕ)) (lines : ℕ) (rest line after word : List ℕ) (tokens : List (List ℕ)) (entry : ℕ × ℕ) → HasEntries text first lines rest → parts_of rest ≡ line ∷ parts_of after →
    tokens_of line ≡ word ∷ tokens → bytes_eq word (codes "init") ≡ true → entry_by tokens ≡ Ok entry → entry_fault_after first entry ≡ None → length after < length rest → HasEntries text (first ++ entry ∷ []) (lines + 1) after
entries_next text first lines rest line after word tokens entry read cut token is says clean shorter =
    let said : entry_said line ≡ Ok entry = ap entry_by (after_keyword-is line word tokens token) ∙ says in
    record {
      done = read.done ++ line ∷ [];
      is = read.is ∙ ap (λ ls. read.done ++ ls) (entry_here rest line after word tokens cut token is) ∙ sym (append_assoc read.done (line ∷ []) (take_while is_entry_line (whole_lines (parts_of after))));
      says = entries_after-push [] read.done line ∙ ap (λ r. with_said_entry (entries_after [] read.done) r) said ∙ ap (λ f. f ++ entry ∷ []) read.says;
      count = omega (arith, length-append read.done (line ∷ []), read.count);
      clean =
          subst AreFaultless (sym (entry_faults-append [] read.done (line ∷ [])))
          (AreFaultless-append (entry_faults [] read.done) (entry_faults (entries_after [] read.done) (line ∷ [])) read.clean (rw (said, read.says) clean, tt));
      parts = read.parts ∙ ap (λ ps. read.done ++ ps) cut ∙ sym (append_assoc read.done (line ∷ []) (parts_of after));
      room = omega (arith, read.room, shorter);
    }

pub no_entry_line : (rest line after word : List ℕ) (tokens : List (List ℕ)) → parts_of rest ≡ line ∷ parts_of after → tokens_of line ≡ word ∷ tokens → bytes_eq word (codes "init") ≡ false →
    take_while is_entry_line (whole_lines (parts_of rest)) ≡ []
no_entry_line rest line after word tokens cut token not =
    ap (λ ps. take_while is_entry_line (whole_lines ps)) cut ∙ ap (take_while is_entry_line) (whole_lines-parts line after)
    ∙ take_while-no is_entry_line line (whole_lines (parts_of after)) (keyword_is (codes "init") line word tokens token ∙ not)

pub entries_other : (text : List ℕ) (first : List (ℕ × ℕ)) (lines : ℕ) (rest line after word : List ℕ) (tokens : List (List ℕ)) → HasEntries text first lines rest → parts_of rest ≡ line ∷ parts_of after →
    tokens_of line ≡ word ∷ tokens → bytes_eq word (codes "init") ≡ false → HasAllEntries text first lines rest
entries_other text first lines rest line after word tokens read cut token not = record { read = read; none = no_entry_line rest line after word tokens cut token not }

pub entries_refused : (text : List ℕ) (first : List (ℕ × ℕ)) (lines : ℕ) (rest line after word : List ℕ) (tokens : List (List ℕ)) (why : Why) → HasEntries text first lines rest → parts_of rest ≡ line ∷ parts_of after →
    tokens_of line ≡ word ∷ tokens → bytes_eq word (codes "init") ≡ true → IsEntryRefused first tokens why → HasBadEntry text lines why
entries_refused text first lines rest line after word tokens why read cut token is refused =
    record {
      done = read.done;
      line = line;
      after = take_while is_entry_line (whole_lines (parts_of after));
      is = read.is ∙ ap (λ ls. read.done ++ ls) (entry_here rest line after word tokens cut token is);
      count = read.count;
      clean = read.clean;
      refused = rw (read.says, after_keyword-is line word tokens token) refused;
      room = omega (arith, read.room);
    }

-- ---- the whole preamble

abbrev header_test : List ℕ → List ℕ → List ℕ → Bool
header_test one two line = bytes_eq line one || bytes_eq line two

-- the preamble of a text that begins with a header
pub preamble_after : (one two text : List ℕ) (version : Version) (rest : List ℕ) → (h : HasHeader one two text version rest) →
    setting_preamble one two (whole_lines (parts_of text)) ≡ preamble_by (header_fault (header_test one two) (h.line ∷ whole_lines (parts_of rest))) (setting_lines two h.line (whole_lines (parts_of rest)))
unfolding setting_preamble
preamble_after one two text version rest h = rw (h.parts, whole_lines-parts h.line rest) refl

pub header_clean : (one two text : List ℕ) (version : Version) (rest : List ℕ) → (h : HasHeader one two text version rest) → (lines : List (List ℕ)) → header_fault (header_test one two) (h.line ∷ lines) ≡ None
header_clean one two text version rest h lines = rw h.is refl

-- the lines after those of the memory model
pub after_model : (text : List ℕ) (order : Order) (lines : ℕ) (rest : List ℕ) → (m : HasModel text order lines rest) → drop (length (model_line_in (whole_lines (parts_of text)))) (whole_lines (parts_of text)) ≡ whole_lines (parts_of rest)
after_model text order lines rest m =
    ap (λ ls. drop (length ls) (whole_lines (parts_of text))) m.is
    ∙ ap (λ ps. drop (length m.model) (whole_lines ps)) m.parts ∙ ap (drop (length m.model)) (whole_lines-append m.model rest) ∙ drop-append_seam m.model (whole_lines (parts_of rest))

-- what a reader has found of the preamble of a text
record Found (one two text : List ℕ) (version : Version) (order : Order) (lines : ℕ) (model rest : List ℕ) : Type 0 where
  header : HasHeader one two text version model
  said : HasModel model order lines rest

-- the preamble of a text, by its lines
found_preamble : (one two text : List ℕ) (version : Version) (order : Order) (lines : ℕ) (after rest : List ℕ) → (f : Found one two text version order lines after rest) → (entries : List (List ℕ)) → entry_lines version (whole_lines (parts_of rest)) ≡ entries →
    setting_preamble one two (whole_lines (parts_of text)) ≡ preamble_by (header_fault (header_test one two) (f.header.line ∷ whole_lines (parts_of after))) (record { version = version; model = f.said.model; entries = entries })
found_preamble one two text version order lines after rest f entries are =
    preamble_after one two text version after f.header
    ∙ ap (λ s. preamble_by (header_fault (header_test one two) (f.header.line ∷ whole_lines (parts_of after))) s)
    (rw (after_model after order lines rest f.said, f.said.is, f.header.says, are) refl)

length-faults : (header : Option Why) (model entries : List (List ℕ)) → length (header ∷ map model_fault model ++ entry_faults [] entries) ≡ 1 + (length model + length entries)
length-faults header model entries = omega (arith, length-append (map model_fault model) (entry_faults [] entries), length-map model model_fault, length-entry_faults [] entries)

-- the preamble is read
found_begun : (one two text : List ℕ) (version : Version) (order : Order) (lines : ℕ) (after rest : List ℕ) → (f : Found one two text version order lines after rest) → (entries : List (List ℕ)) → entry_lines version (whole_lines (parts_of rest)) ≡ entries →
    (last : List ℕ) → AreFaultless (entry_faults [] entries) → parts_of rest ≡ entries ++ parts_of last → length entries + length last ≤ length rest → IsSetting (record { version = version; order = order; first = entries_after [] entries }) →
    HasBegun (setting_preamble one two (whole_lines (parts_of text))) text (record { version = version; order = order; first = entries_after [] entries }) (lines + length entries + 1) last
found_begun one two text version order lines after rest f entries are last clean parts room setting =
    let header = header_fault (header_test one two) (f.header.line ∷ whole_lines (parts_of after)) in
    let all : parts_of text ≡ (f.header.line ∷ (f.said.model ++ entries)) ++ parts_of last =
    f.header.parts ∙ ap (λ ps. f.header.line ∷ ps) (f.said.parts ∙ ap (λ ps. f.said.model ++ ps) parts ∙ sym (append_assoc f.said.model entries (parts_of last))) in
    let count : length (header ∷ map model_fault f.said.model ++ entry_faults [] entries) ≡ length (f.header.line ∷ (f.said.model ++ entries)) =
    omega (arith, length-faults header f.said.model entries, length-append f.said.model entries) in
    rw (found_preamble one two text version order lines after rest f entries are) record {
      says = rw f.said.says refl;
      count = omega (arith, length-faults header f.said.model entries, f.said.count);
      clean = (header_clean one two text version after f.header (whole_lines (parts_of after)), AreFaultless-append (map model_fault f.said.model) (entry_faults [] entries) f.said.clean clean);
      body = rw (all, count) (drop-append_seam (f.header.line ∷ (f.said.model ++ entries)) (parts_of last));
      room = omega (arith, f.header.shorter, f.said.room, room);
      setting_is = setting;
    }

pub begun_one : (one two text : List ℕ) (order : Order) (lines : ℕ) (after rest : List ℕ) → HasHeader one two text One after → HasModel after order lines rest →
    HasBegun (setting_preamble one two (whole_lines (parts_of text))) text (record { version = One; order = order; first = [] }) (lines + 1) rest
begun_one one two text order lines after rest header model =
    let at : lines + 0 + 1 ≡ lines + 1 = omega arith in
    subst (λ n. HasBegun (setting_preamble one two (whole_lines (parts_of text))) text (record { version = One; order = order; first = [] }) n rest) at
    (found_begun one two text One order lines after rest (record { header = header; said = model }) [] refl rest tt refl (omega arith) (record { entries = KeepsEntries-nil; version_one = λ _. refl }))

pub begun_two : (one two text : List ℕ) (order : Order) (lines : ℕ) (after rest : List ℕ) (first : List (ℕ × ℕ)) (entries : ℕ) (last : List ℕ) → HasHeader one two text Two after → HasModel after order lines rest → HasAllEntries rest first entries last → KeepsEntries first →
    HasBegun (setting_preamble one two (whole_lines (parts_of text))) text (record { version = Two; order = order; first = first }) (lines + entries + 1) last
begun_two one two text order lines after rest first entries last header model all keeps =
    let are : entry_lines Two (whole_lines (parts_of rest)) ≡ all.read.done = all.read.is ∙ ap (λ ls. all.read.done ++ ls) all.none ∙ append-nil all.read.done in
    subst (λ n. HasBegun (setting_preamble one two (whole_lines (parts_of text))) text (record { version = Two; order = order; first = first }) (lines + n + 1) last) all.read.count
    (subst (λ f. HasBegun (setting_preamble one two (whole_lines (parts_of text))) text (record { version = Two; order = order; first = f }) (lines + length all.read.done + 1) last) all.read.says
    (found_begun one two text Two order lines after rest (record { header = header; said = model }) all.read.done are last all.read.clean all.read.parts (omega (arith, all.read.count, all.read.room))
    (record { entries = rw all.read.says keeps; version_one = λ e. absurd cc })))

-- ---- refusals

bad_header : (one two : List ℕ) (lines : List (List ℕ)) → begins_with (header_test one two) lines ≡ false → header_fault (header_test one two) lines ≡ Some BadHeader
bad_header one two lines none = rw none refl

lines_refused : (one two : List ℕ) (lines : List (List ℕ)) → begins_with (header_test one two) lines ≡ false → IsPreambleRefusal (setting_preamble one two lines) 1 BadHeader
unfolding setting_preamble
lines_refused one two [] none = record { before = []; after = []; parts = ap (λ fault. fault ∷ []) (bad_header one two [] none); clean = tt; at = refl }
lines_refused one two (line ∷ lines) none =
    let s = setting_lines two line lines in
    let after = map model_fault s.model ++ entry_faults [] s.entries in
    record { before = []; after = after; parts = ap (λ fault. fault ∷ after) (bad_header one two (line ∷ lines) none); clean = tt; at = refl }

-- a text that begins with no header
pub header_refused : (one two text : List ℕ) → HasNoHeader one two text → IsPreambleRefusal (setting_preamble one two (whole_lines (parts_of text))) 1 BadHeader
header_refused one two text none = lines_refused one two (whole_lines (parts_of text)) none

pub model_refusal : (one two text : List ℕ) (version : Version) (after line : List ℕ) (why : Why) → HasHeader one two text version after → model_line_in (whole_lines (parts_of after)) ≡ line ∷ [] → model_fault line ≡ Some why →
    IsPreambleRefusal (setting_preamble one two (whole_lines (parts_of text))) 2 why
model_refusal one two text version after line why header is first =
    let entries = entry_faults [] (entry_lines (version_of two header.line) (drop (length (model_line_in (whole_lines (parts_of after)))) (whole_lines (parts_of after)))) in
    rw (preamble_after one two text version after header) record {
      before = header_fault (header_test one two) (header.line ∷ whole_lines (parts_of after)) ∷ [];
      after = entries;
      parts = ap (λ lines. header_fault (header_test one two) (header.line ∷ whole_lines (parts_of after)) ∷ map model_fault lines ++ entries) is ∙ ap (λ fault. header_fault (header_test one two) (header.line ∷ whole_lines (parts_of after)) ∷ fault ∷ entries) first;
      clean = (header_clean one two text version after header (whole_lines (parts_of after)), tt);
      at = refl;
    }

pub model_answered : (one two text : List ℕ) (version : Version) (after : List ℕ) (why : Why) → HasHeader one two text version after → HasBadModel after why → (why ≡ OutOfMemory → ⊥) →
    IsPreambleRefusal (setting_preamble one two (whole_lines (parts_of text))) 2 why
model_answered one two text version after why header bad other = model_refusal one two text version after bad.line why header bad.is (first_fault (model_fault bad.line) why bad.refused other)

pub entry_refusal : (one two text : List ℕ) (order : Order) (lines : ℕ) (after rest : List ℕ) (why : Why) → HasHeader one two text Two after → HasModel after order lines rest → (done : List (List ℕ)) (line : List ℕ) (more : List (List ℕ)) →
    take_while is_entry_line (whole_lines (parts_of rest)) ≡ done ++ line ∷ more → AreFaultless (entry_faults [] done) → said_entry_fault (entries_after [] done) (entry_said line) ≡ Some why →
    IsPreambleRefusal (setting_preamble one two (whole_lines (parts_of text))) (lines + 2 + length done) why
entry_refusal one two text order lines after rest why header model done line more at clean first =
    let test = header_fault (header_test one two) (header.line ∷ whole_lines (parts_of after)) in
    let is = found_preamble one two text Two order lines after rest (record { header = header; said = model }) (done ++ line ∷ more) at in
    rw is record {
      before = test ∷ (map model_fault model.model ++ entry_faults [] done);
      after = entry_faults (with_said_entry (entries_after [] done) (entry_said line)) more;
      parts =
          ap (λ tests. test ∷ tests)
          (ap (λ tests. map model_fault model.model ++ tests) (entry_faults-append [] done (line ∷ more))
          ∙ sym (append_assoc (map model_fault model.model) (entry_faults [] done) (entry_faults (entries_after [] done) (line ∷ more)))
          ∙ ap (λ fault. (map model_fault model.model ++ entry_faults [] done) ++ fault ∷ entry_faults (with_said_entry (entries_after [] done) (entry_said line)) more) first);
      clean = (header_clean one two text Two after header (whole_lines (parts_of after)), AreFaultless-append (map model_fault model.model) (entry_faults [] done) model.clean clean);
      at = omega (arith, length-faults test model.model done, model.count);
    }

pub entry_answered : (one two text : List ℕ) (order : Order) (lines : ℕ) (after rest : List ℕ) (entries : ℕ) (why : Why) → HasHeader one two text Two after → HasModel after order lines rest → HasBadEntry rest entries why → (why ≡ OutOfMemory → ⊥) →
    IsPreambleRefusal (setting_preamble one two (whole_lines (parts_of text))) (lines + 2 + entries) why
entry_answered one two text order lines after rest entries why header model bad other =
    subst (λ n. IsPreambleRefusal (setting_preamble one two (whole_lines (parts_of text))) (lines + 2 + n) why) bad.count
    (entry_refusal one two text order lines after rest why header model bad.done bad.line bad.after bad.is bad.clean (first_fault (said_entry_fault (entries_after [] bad.done) (entry_said bad.line)) why bad.refused other))

-- ---- a header alone

pub alone_begun : (header text line rest : List ℕ) → parts_of text ≡ line ∷ parts_of rest → bytes_eq line header ≡ true → length rest < length text → HasBegun (header_alone header (whole_lines (parts_of text))) text version_one_tso 1 rest
unfolding header_alone
alone_begun header text line rest cut same shorter = record {
  says = refl;
  count = refl;
  clean = (rw (cut, whole_lines-parts line rest, same) refl, tt);
  body = ap (drop 1) cut;
  room = omega (arith, shorter);
  setting_is = record { entries = KeepsEntries-nil; version_one = λ _. refl };
}

pub alone_refused : (header text : List ℕ) → begins_with (λ line. bytes_eq line header) (whole_lines (parts_of text)) ≡ false → IsPreambleRefusal (header_alone header (whole_lines (parts_of text))) 1 BadHeader
unfolding header_alone
alone_refused header text none = record {
  before = [];
  after = [];
  parts = rw none refl;
  clean = tt;
  at = refl;
}

pub alone_other : (header text line rest : List ℕ) → parts_of text ≡ line ∷ parts_of rest → bytes_eq line header ≡ false → begins_with (λ line. bytes_eq line header) (whole_lines (parts_of text)) ≡ false
alone_other header text line rest cut other = rw (cut, whole_lines-parts line rest) other

pub alone_none : (header text : List ℕ) → parts_of text ≡ text ∷ [] → begins_with (λ line. bytes_eq line header) (whole_lines (parts_of text)) ≡ false
alone_none header text cut = rw cut refl
