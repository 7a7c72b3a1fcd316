-- Lemmas on the texts of logs: how far a reader has come, and that a text spells one log or has a refusal.
use Rattle.std.proofs.Common.{◌≡◌, ◌≢◌, ℕ, suc, ◌+◌, ◌&&◌, eqb, Bool, true, false, not, List, [], ◌∷◌, ◌++◌, length, map, None, Some, Result, Ok, refl, ap, sym, ◌∙◌, arith, append_assoc, ⊎_elim, ◌⊎◌, inl, inr, zero, ◌<◌, get_or}
use Rattle.std.proofs.lemmas.Bool.Decides.{nat_tests}
use Rattle.std.proofs.lemmas.List.{append_cancel_right, length_push, map-append}
use Rattle.std.specs.List.{list_any}
use Rattle.line_text.specs.Lines.{parts_of}
use Rattle.line_text.proofs.CutFacts.{split_parts}
use Rattle.tso_text.specs.declared.faults.Why.{Why}
use Rattle.tso_text.specs.declared.faults.Why.TheVariants.{BadLine, OutOfMemory}
use Rattle.log_text.specs.declared.lines.LogLine.{LogLine}
use Rattle.std.specs.HashSet.{keys}
use Rattle.run_lines.specs.declared.arguments.Widths.{Widths}
use Rattle.log_text.specs.declared.cutting.Cutting.{Cutting}
use Rattle.log_text.specs.declared.lines.SaidLine.{SaidLine}
use Rattle.log_text.specs.declared.readings.Reading.{Reading}
use Rattle.log_text.specs.LogLines.{line_said}
use Rattle.log_text.specs.LogTexts.{fault_after, fault_of_said, is_end, line_fault, lines_told, log_of_lines, places_of_text, AreSaid, SpellsLog, IsEndedAsNeeded, IsLogRefusal, IsPartRefused}
use Rattle.log_text.specs.LogValues.{NumberedLog}
use Rattle.log_text.specs.Splits.{boundaries_of_lines, split_lines}
use Rattle.log_text.specs.Internal.Cuts.{AreTextsSaid, HasBoundaries, IsWithin}
use Rattle.log_text.specs.Internal.Readings.{HoldsLines, HoldsSaid, IsTextAccepted, IsTextRefused, split_at}
use Rattle.log_text.proofs.ReadingFacts.{stages_told}
use Rattle.log_text.proofs.SplitFacts.{alike_split}

-- ---- lists

-- the last of some elements, or one of those before
split_push : {X : Type 0} (xs before after : List X) (x y : X) → xs ++ x ∷ [] ≡ before ++ y ∷ after → ((xs ≡ before) × (x ≡ y)) ⊎ ((rest : List X) × (xs ≡ before ++ y ∷ rest))
split_push [] [] after x y e = inl (refl, cc)
split_push [] (b ∷ []) after x y e = absurd cc
split_push [] (b ∷ c ∷ before) after x y e = absurd cc
split_push (z ∷ xs) [] after x y e = let head : z ≡ y = cc in inr (xs, ap (λ w. w ∷ xs) head)
split_push {X} (z ∷ xs) (b ∷ before) after x y e =
    let head : z ≡ b = cc in
    let tail : xs ++ x ∷ [] ≡ before ++ y ∷ after = cc in
    ⊎_elim
    (λ (last : (xs ≡ before) × (x ≡ y)). inl (cc, last.1))
    (λ (within : (rest : List X) × (xs ≡ before ++ y ∷ rest)). inr (within.0, (let same = within.1 in cc)))
    (split_push xs before after x y tail)

-- where something follows an element, it is one of those before the last
pub split_last : {X : Type 0} (xs before after : List X) (x y z : X) → xs ++ x ∷ [] ≡ before ++ y ∷ z ∷ after → (rest : List X) × (xs ≡ before ++ y ∷ rest)
split_last [] [] after x y z e = absurd cc
split_last [] (b ∷ []) after x y z e = absurd cc
split_last [] (b ∷ c ∷ before) after x y z e = absurd cc
split_last (w ∷ xs) [] after x y z e = let head : w ≡ y = cc in (xs, ap (λ h. h ∷ xs) head)
split_last (w ∷ xs) (b ∷ before) after x y z e =
    let head : w ≡ b = cc in
    let tail : xs ++ x ∷ [] ≡ before ++ y ∷ z ∷ after = cc in
    let more = split_last xs before after x y z tail in
    (more.0, (let same = more.1 in cc))

-- the last elements of equal lists
same_last : {X : Type 0} (xs ys : List X) (x y : X) → xs ++ x ∷ [] ≡ ys ++ y ∷ [] → x ≡ y
same_last [] [] x y e = cc
same_last [] (b ∷ []) x y e = absurd cc
same_last [] (b ∷ c ∷ ys) x y e = absurd cc
same_last (a ∷ []) [] x y e = absurd cc
same_last (a ∷ c ∷ xs) [] x y e = absurd cc
same_last (a ∷ xs) (b ∷ ys) x y e = same_last xs ys x y cc

-- what the test of a length against 0 says
pub some_elements : {X : Type 0} (xs : List X) (n : ℕ) (b : Bool) → n ≡ length xs → b ≡ eqb n 0 → b ≡ false → xs ≢ []
some_elements [] n b count is off none = grind (arith, nat_tests)
some_elements (x ∷ xs) n b count is off none = absurd cc

-- ---- what lines say

abbrev pub said_ok : SaidLine → Result SaidLine Why
said_ok line = Ok line

-- equal texts say equal lines
pub same_said : (lines others : List SaidLine) → map said_ok lines ≡ map said_ok others → lines ≡ others
same_said [] [] e = refl
same_said (line ∷ lines) (other ∷ others) e =
    let head : line ≡ other = cc in
    let tail : lines ≡ others = same_said lines others cc in
    cc
same_said lines others e = absurd cc

-- what a text says among others stands in its place among the lines
said_at : (places : Widths) (texts : List (List ℕ)) (text : List ℕ) (after : List (List ℕ)) (lines all : List SaidLine) → map (line_said places) texts ≡ map Ok lines →
    map (line_said places) (texts ++ text ∷ after) ≡ map Ok all → (line : SaidLine) × (rest : List SaidLine) × (line_said places text ≡ Ok line) × (all ≡ lines ++ line ∷ rest)
said_at places [] text after [] (line ∷ all) said whole = (line, all, cc, refl)
said_at places (before ∷ texts) text after (line ∷ lines) (first ∷ all) said whole =
    let here : said_ok line ≡ said_ok first = cc in
    let head : first ≡ line = cc in
    let some : map (line_said places) texts ≡ map Ok lines = cc in
    let others : map (line_said places) (texts ++ text ∷ after) ≡ map Ok all = cc in
    let more = said_at places texts text after lines all some others in
    (more.0, more.1, more.2, (let tail = more.3 in cc))
said_at places texts text after lines all said whole = absurd cc

AreSaid-nil : (places : Widths) → AreSaid places [] []
AreSaid-nil places = record { said = refl; clean = none }
  where
    none : (before : List SaidLine) (line : SaidLine) (after : List SaidLine) → [] ≡ before ++ line ∷ after → fault_after (lines_told before) line.line ≡ None
    none [] line after e = absurd cc
    none (b ∷ before) line after e = absurd cc

AreSaid-push : (places : Widths) (texts : List (List ℕ)) (lines : List SaidLine) (text : List ℕ) (line : SaidLine) → AreSaid places texts lines → line_said places text ≡ Ok line →
    fault_after (lines_told lines) line.line ≡ None → AreSaid places (texts ++ text ∷ []) (lines ++ line ∷ [])
AreSaid-push places texts lines text line are says clean = record {
  said = map-append (line_said places) texts (text ∷ []) ∙ ap (λ xs. xs ++ line_said places text ∷ []) are.said ∙ ap (λ r. map Ok lines ++ r ∷ []) says ∙ sym (map-append Ok lines (line ∷ []));
  clean = λ before other after parts. ⊎_elim
      (λ (last : (lines ≡ before) × (line ≡ other)). ap (λ l. fault_after (lines_told l) other.line) (sym last.0) ∙ ap (λ (l : SaidLine). fault_after (lines_told lines) l.line) (sym last.1) ∙ clean)
      (λ (within : (rest : List SaidLine) × (lines ≡ before ++ other ∷ rest)). are.clean before other within.0 within.1)
      (split_push lines before after line other parts);
}

-- ---- one log or one refusal

-- two readings of a text that isn't cut have the same lines
same_lines : (places : Widths) (texts others : List (List ℕ)) (lines all : List SaidLine) → texts ++ [] ∷ [] ≡ others ++ [] ∷ [] → AreSaid places texts lines → AreSaid places others all → lines ≡ all
same_lines places texts others lines all same said spelled =
    let parts : texts ≡ others = append_cancel_right texts others ([] ∷ []) same in
    same_said lines all (sym said.said ∙ ap (map (line_said places)) parts ∙ spelled.said)

-- a text spells one log at most
pub one_log : (text : List ℕ) (t u : NumberedLog) → SpellsLog text t → SpellsLog text u → t ≡ u
one_log text t u s r =
    let lines : s.lines ≡ r.lines = same_lines (places_of_text text) s.texts r.texts s.lines r.lines (sym s.whole ∙ r.whole) s.said r.said in
    s.is ∙ ap (λ ls. log_of_lines (split_lines (places_of_text text) ls)) lines ∙ sym r.is

not_both : (needs_end : Bool) (text : List ℕ) (texts : List (List ℕ)) (lines : List SaidLine) (part : List ℕ) (after : List (List ℕ)) (why : Why) (whole : List (List ℕ)) (all : List SaidLine) →
    parts_of text ≡ whole ++ [] ∷ [] → parts_of text ≡ texts ++ part ∷ after → AreSaid (places_of_text text) texts lines → AreSaid (places_of_text text) whole all → IsEndedAsNeeded needs_end text →
    IsPartRefused needs_end (places_of_text text) lines part after why → ⊥
not_both needs_end text texts lines part [] why whole all is cut said spelled ended fault =
    let last : [] ≡ part = same_last whole texts [] part (sym is ∙ cut) in
    ⊎_elim
    (λ (some : part ≢ []). some (sym last))
    (λ (missing : (needs_end ≡ true) × (list_any is_end (lines_told lines) ≡ false)).
    let end = ended missing.0 in
    let same : lines ≡ end.lines = same_lines (places_of_text text) texts end.texts lines end.lines (ap (λ p. texts ++ p ∷ []) last ∙ sym cut ∙ end.whole) said end.said in
    let both : true ≡ false = sym end.ended ∙ ap (λ ls. list_any is_end (lines_told ls)) (sym same) ∙ missing.1 in
    absurd cc)
    fault.0
not_both needs_end text texts lines part (next ∷ after) why whole all is cut said spelled ended fault =
    let places = places_of_text text in
    let same : whole ++ [] ∷ [] ≡ texts ++ part ∷ next ∷ after = sym is ∙ cut in
    let at = split_last whole texts after [] part next same in
    let line = said_at places texts part at.0 lines all said.said (ap (map (line_said places)) (sym at.1) ∙ spelled.said) in
    let clean : fault_after (lines_told lines) line.0.line ≡ None = spelled.clean lines line.0 line.1 line.3 in
    let none : None ≡ Some why = sym clean ∙ sym (ap (fault_of_said (lines_told lines)) line.2) ∙ fault in
    absurd cc

-- a text with a refusal spells no log
pub never_both : (needs_end : Bool) (text : List ℕ) (t : NumberedLog) (line : ℕ) (why : Why) → SpellsLog text t → IsEndedAsNeeded needs_end text → IsLogRefusal needs_end text line why → ⊥
never_both needs_end text t line why s ended r = not_both needs_end text r.texts r.lines r.part r.after why s.texts s.lines s.whole r.whole r.said s.said ended r.fault

-- ---- the reader

-- The reader is at this line, and its next operation has this number: the lines before have no fault, and the reading holds what they say; `rest` is what
-- stands after them.
pub record Reached (text : List ℕ) (cutting : Cutting) (line number : ℕ) (rest : List ℕ) (reading : Reading) : Type 0 where
  pub texts : List (List ℕ)
  pub lines : List SaidLine
  pub whole : parts_of text ≡ texts ++ parts_of rest
  pub said : AreSaid (places_of_text text) texts lines
  pub within : (k : ℕ) (d : SaidLine) → k < length lines → IsWithin (get_or lines k d)
  pub count : line ≡ suc (length texts)
  pub holds : HoldsSaid reading (keys cutting.boundaries) lines number

pub Reached-start : (text : List ℕ) (cutting : Cutting) (reading : Reading) → HoldsLines reading [] → Reached text cutting 1 1 text reading
Reached-start text cutting reading holds =
    record { texts = []; lines = []; whole = refl; said = AreSaid-nil (places_of_text text); within = λ k d low. absurd (omega (arith, low)); count = refl; holds = record { holds = holds; count = refl } }

-- what is so of each line of a list and of one more is so of all
pub more_within : (lines : List SaidLine) (line : SaidLine) → ((k : ℕ) (d : SaidLine) → k < length lines → IsWithin (get_or lines k d)) → IsWithin line →
    (k : ℕ) (d : SaidLine) → k < length (lines ++ line ∷ []) → IsWithin (get_or (lines ++ line ∷ []) k d)
more_within [] line all one zero d low = one
more_within [] line all one (suc k) d low = absurd (omega (arith, low))
more_within (first ∷ lines) line all one zero d low = all 0 d (omega arith)
more_within (first ∷ lines) line all one (suc k) d low = more_within lines line (λ j e below. all (suc j) e (omega (arith, below))) one k d (omega (arith, low))

pub Reached-next : (text : List ℕ) (cutting : Cutting) (line number : ℕ) (rest : List ℕ) (reading : Reading) (part after : List ℕ) (new : Reading) (next : ℕ) →
    cutting.places ≡ places_of_text text → Reached text cutting line number rest reading → parts_of rest ≡ part ∷ parts_of after →
    IsTextAccepted cutting reading number part new next → Reached text cutting (line + 1) next after new
Reached-next text cutting line number rest reading part after new next places r cut accepted =
    let step = accepted r.lines r.holds in
    let says : line_said (places_of_text text) part ≡ Ok step.line = ap (λ p. line_said p part) (sym places) ∙ step.says in
    record {
      texts = r.texts ++ part ∷ [];
      lines = r.lines ++ step.line ∷ [];
      whole = r.whole ∙ ap (λ x. r.texts ++ x) cut ∙ sym (append_assoc r.texts (part ∷ []) (parts_of after));
      said = AreSaid-push (places_of_text text) r.texts r.lines part step.line r.said says step.clean;
      within = more_within r.lines step.line r.within step.within;
      count = omega (arith, length_push r.texts part, r.count);
      holds = step.holds;
    }

-- nothing stands after the last line
pub Reached-end : (text : List ℕ) (cutting : Cutting) (line number : ℕ) (rest : List ℕ) (reading : Reading) (log : NumberedLog) → cutting.places ≡ places_of_text text →
    ((lines : List SaidLine) → AreTextsSaid cutting.places (parts_of text) lines → HasBoundaries cutting.boundaries (boundaries_of_lines cutting.places lines)) →
    Reached text cutting line number rest reading → parts_of rest ≡ rest ∷ [] → rest ≡ [] → ((lines : List LogLine) → HoldsLines reading lines → log ≡ log_of_lines lines) → SpellsLog text log
Reached-end text cutting line number rest reading log places has r cut none is =
    let whole : parts_of text ≡ r.texts ++ [] ∷ [] = r.whole ∙ ap (λ x. r.texts ++ x) (cut ∙ ap (λ x. x ∷ []) none) in
    let said : AreTextsSaid cutting.places (parts_of text) r.lines = record { texts = r.texts; whole = whole; said = ap (λ p. map (line_said p) r.texts) places ∙ r.said.said } in
    let alike : split_at (keys cutting.boundaries) r.lines ≡ split_at (boundaries_of_lines cutting.places r.lines) r.lines =
    alike_split (keys cutting.boundaries) (boundaries_of_lines cutting.places r.lines) (has r.lines said) r.lines r.within in
    record {
      texts = r.texts;
      lines = r.lines;
      whole = whole;
      said = r.said;
      is = is (split_at (keys cutting.boundaries) r.lines) r.holds.holds ∙ ap log_of_lines alike ∙ ap (λ p. log_of_lines (split_lines p r.lines)) places;
    }

-- and an `end` that is needed came
pub Reached-ended : (needs_end : Bool) (text : List ℕ) (cutting : Cutting) (line number : ℕ) (rest : List ℕ) (reading : Reading) → Reached text cutting line number rest reading → parts_of rest ≡ rest ∷ [] → rest ≡ [] → (needs_end && not reading.is_ended) ≡ false →
    IsEndedAsNeeded needs_end text
Reached-ended needs_end text cutting line number rest reading r cut none lacks = λ needed. record {
  texts = r.texts;
  lines = r.lines;
  whole = r.whole ∙ ap (λ x. r.texts ++ x) (cut ∙ ap (λ x. x ∷ []) none);
  said = r.said;
  ended = sym (stages_told reading (keys cutting.boundaries) r.lines number r.holds).ended ∙ came needs_end reading.is_ended lacks needed;
}
  where
    came : (needed ended : Bool) → (needed && not ended) ≡ false → needed ≡ true → ended ≡ true
    came true true lacks is = refl
    came true false lacks is = absurd cc
    came false ended lacks is = absurd cc

-- or it didn't
pub lacking_refused : (needs_end : Bool) (text : List ℕ) (cutting : Cutting) (line number : ℕ) (rest : List ℕ) (reading : Reading) → Reached text cutting line number rest reading → parts_of rest ≡ rest ∷ [] → (needs_end && not reading.is_ended) ≡ true →
    IsLogRefusal needs_end text line BadLine
lacking_refused needs_end text cutting line number rest reading r cut lacks = record {
  texts = r.texts;
  lines = r.lines;
  part = rest;
  after = [];
  whole = r.whole ∙ ap (λ x. r.texts ++ x) cut;
  said = r.said;
  is = r.count;
  fault = (inr (missing needs_end reading.is_ended lacks (stages_told reading (keys cutting.boundaries) r.lines number r.holds).ended), refl);
}
  where
    missing : (needed ended : Bool) → (needed && not ended) ≡ true → ended ≡ list_any is_end (lines_told r.lines) → (needed ≡ true) × (list_any is_end (lines_told r.lines) ≡ false)
    missing true false lacks is = (refl, sym is)
    missing true true lacks is = absurd cc
    missing false ended lacks is = absurd cc

-- the line is refused
pub line_refused : (needs_end : Bool) (text : List ℕ) (cutting : Cutting) (line number : ℕ) (rest : List ℕ) (reading : Reading) (part after : List ℕ) (why : Why) →
    cutting.places ≡ places_of_text text → Reached text cutting line number rest reading → parts_of rest ≡ part ∷ parts_of after → IsTextRefused cutting reading part why →
    (why ≡ OutOfMemory) ⊎ IsLogRefusal needs_end text line why
unfolding parts_of
line_refused needs_end text cutting line number rest reading part after why places r cut refused =
    let p = split_parts (λ b. eqb b 10) after in
    ⊎_elim
    (λ (memory : why ≡ OutOfMemory). inl memory)
    (λ (fault : line_fault cutting.places r.lines part ≡ Some why). inr (record {
      texts = r.texts;
      lines = r.lines;
      part = part;
      after = p.0 ∷ p.1;
      whole = r.whole ∙ ap (λ x. r.texts ++ x) (cut ∙ ap (λ x. part ∷ x) p.2);
      said = r.said;
      is = r.count;
      fault = ap (λ w. line_fault w r.lines part) (sym places) ∙ fault;
    }))
    (refused (keys cutting.boundaries) r.lines number r.holds)

-- bytes stand after the last line
pub unended_refused : (needs_end : Bool) (text : List ℕ) (cutting : Cutting) (line number : ℕ) (rest : List ℕ) (reading : Reading) → Reached text cutting line number rest reading → parts_of rest ≡ rest ∷ [] → rest ≢ [] → IsLogRefusal needs_end text line BadLine
unended_refused needs_end text cutting line number rest reading r cut some = record {
  texts = r.texts;
  lines = r.lines;
  part = rest;
  after = [];
  whole = r.whole ∙ ap (λ x. r.texts ++ x) cut;
  said = r.said;
  is = r.count;
  fault = (inl some, refl);
}

-- the fault that a reader answers is the refusal at its line, unless memory ran out
pub answered : (needs_end : Bool) (text : List ℕ) (line : ℕ) (why : Why) (fault_line : ℕ) (fault_why : Why) → fault_why ≡ why → (why ≢ OutOfMemory → fault_line ≡ line) →
    (why ≡ OutOfMemory) ⊎ IsLogRefusal needs_end text line why → fault_why ≢ OutOfMemory → IsLogRefusal needs_end text fault_line fault_why
answered needs_end text line why fault_line fault_why is stands refused other =
    let not_memory : why ≢ OutOfMemory = λ memory. other (is ∙ memory) in
    ⊎_elim
    (λ (memory : why ≡ OutOfMemory). absurd (not_memory memory))
    (λ (refusal : IsLogRefusal needs_end text line why). rw (is, stands not_memory) refusal)
    refused
