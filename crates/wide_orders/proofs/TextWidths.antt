-- The lines of a text have widths as its places are, so the law of lines holds of texts.
use Rattle.std.proofs.Common.{◌≡◌, ◌∙◌, ℕ, ◌<◌, ◌==◌, Bool, true, false, if◌then◌else◌, List, [], ◌∷◌, ◌++◌, map, Option, None, Some, Result, Ok, Err, inl, inr, refl, sym, ap, subst}
use Rattle.std.specs.List.{Contains, flat_map}
use Rattle.std.proofs.lemmas.Bool.{true≢false}
use Rattle.tso_text.specs.declared.faults.Why.{Why}
use Rattle.tso_model.specs.Axioms.{IsConsistent}
use Rattle.run_lines.specs.declared.arguments.Widths.{Widths}
use Rattle.run_lines.specs.declared.arguments.Widths.TheVariants.{Unseen, Locations, Bytes}
use Rattle.run_lines.specs.Lines.{LineNumbers, line_read}
use Rattle.log_text.specs.declared.lines.SaidLine.{SaidLine}
use Rattle.log_text.specs.LogLines.{line_said, result_told, said_told, width_named, widths_named, widths_read, widths_of_texts}
use Rattle.log_text.specs.LogTexts.{log_of_lines, unknown_in, places_of_text, SpellsLog}
use Rattle.log_text.specs.LogValues.{NumberedLog, log_operations}
use Rattle.log_text.specs.Splits.{has_bytes, split_lines}
use Rattle.wide_orders.specs.WideOrders.{plain_lines, HasWideOrder, AreWideLines, names_place}
use Rattle.wide_orders.proofs.Members.{Has}
use Rattle.wide_orders.proofs.LocationOrders.{location_orders, same_lines}
use Rattle.wide_orders.proofs.ReadWidths.{HasWidthOf, gives_line, unnamed_width}
use Rattle.wide_orders.proofs.SplitLogs.{contains_has, split_consistent}

-- ---- lines

-- the line says this, and was read
abbrev IsReadAs : Widths → List ℕ → SaidLine → Type 0
IsReadAs places text s = (n : LineNumbers) × (line_read places text ≡ Ok n) × (said_told n ≡ s)

-- what was read of a line that says something
read_told : (places : Widths) (r : Result LineNumbers Why) (s : SaidLine) → result_told places r ≡ Ok s → (n : LineNumbers) × (r ≡ Ok n) × (said_told n ≡ s)
read_told places (Err why) s e = absurd cc
read_told places (Ok n) s e = (n, refl, (let same : said_told n ≡ s = cc in same))

-- of its bytes
read_as : (places : Widths) (text : List ℕ) (s : SaidLine) → line_said places text ≡ Ok s → IsReadAs places text s
unfolding line_said
read_as places text s e = read_told places (line_read places text) s e

-- each of the lines has a width as the places are
each_line : (places : Widths) (texts : List (List ℕ)) (lines : List SaidLine) → map (line_said places) texts ≡ map Ok lines → (s : SaidLine) → Has lines s →
    (n : LineNumbers) × HasWidthOf places n × (said_told n ≡ s)
each_line places texts [] said s none = absurd none
each_line places [] (line ∷ lines) said s has = absurd cc
each_line places (text ∷ texts) (line ∷ lines) said s (inl same) =
    let here : line_said places text ≡ Ok line = cc in
    let read = read_as places text line here in
    (read.0, gives_line places text read.0 read.1, read.2 ∙ same)
each_line places (text ∷ texts) (line ∷ lines) said s (inr later) = let rest : map (line_said places) texts ≡ map Ok lines = cc in each_line places texts lines rest s later

-- ---- texts without places

-- a text in which no width was seen names none
none_named : (named : Option ℕ) (later : Widths) → widths_named named later ≡ Unseen → (named ≡ None) × (later ≡ Unseen)
none_named None later unseen = (refl, unseen)
none_named (Some width) later unseen = by_test (width == 0) unseen
  where
    by_test : (b : Bool) → (if b then Locations else Bytes) ≡ Unseen → (Some width ≡ None) × (later ≡ Unseen)
    by_test true is = absurd cc
    by_test false is = absurd cc

-- what is seen of a line that is read
none_read : (r : Result LineNumbers Why) (n : LineNumbers) (later : Widths) → r ≡ Ok n → widths_read r later ≡ Unseen → (width_named n ≡ None) × (later ≡ Unseen)
none_read r n later is unseen = none_named (width_named n) later (subst (λ t. widths_read t later ≡ Unseen) is unseen)

-- so none of its lines has a width
no_widths : (texts rest : List (List ℕ)) (lines : List SaidLine) → widths_of_texts (texts ++ rest) ≡ Unseen → map (line_said Unseen) texts ≡ map Ok lines → (s : SaidLine) → Has lines s →
    s.width ≡ 0
no_widths texts rest [] unseen said s none = absurd none
no_widths [] rest (line ∷ lines) unseen said s has = absurd cc
no_widths (text ∷ texts) rest (line ∷ lines) unseen said s has =
    let here : line_said Unseen text ≡ Ok line = cc in
    let others : map (line_said Unseen) texts ≡ map Ok lines = cc in
    let read = read_as Unseen text line here in
    let none = none_read (line_read Unseen text) read.0 (widths_of_texts (texts ++ rest)) read.1 unseen in
    by_place (ap (λ (l : SaidLine). l.width) (sym read.2) ∙ unnamed_width read.0 none.0) (no_widths texts rest lines none.1 others s) has
  where
    by_place : line.width ≡ 0 → (Has lines s → s.width ≡ 0) → Has (line ∷ lines) s → s.width ≡ 0
    by_place first further (inl same) = ap (λ (l : SaidLine). l.width) (sym same) ∙ first
    by_place first further (inr later) = further later

-- ---- all texts

-- among locations, or where no place is named, no line has a width
not_wide : (places : Widths) (texts rest : List (List ℕ)) (lines : List SaidLine) → widths_of_texts (texts ++ rest) ≡ places → map (line_said places) texts ≡ map Ok lines →
    has_bytes places ≡ false → (s : SaidLine) → Has lines s → s.width ≡ 0
not_wide Unseen texts rest lines of_text said is s has = no_widths texts rest lines of_text said s has
not_wide Locations texts rest lines of_text said is s has =
    let found = each_line Locations texts lines said s has in
    ap (λ (l : SaidLine). l.width) (sym found.2) ∙ found.1.locations refl
not_wide Bytes texts rest lines of_text said is s has = absurd (true≢false is)

-- the lines have widths as the places are
wide_lines : (places : Widths) (texts rest : List (List ℕ)) (lines : List SaidLine) → widths_of_texts (texts ++ rest) ≡ places → map (line_said places) texts ≡ map Ok lines →
    AreWideLines places lines
wide_lines places texts rest lines of_text said = record {
  bytes = λ s has is names.
      let found = each_line places texts lines said s (contains_has lines s has.0 has.1 has.2) in
      subst (λ (l : SaidLine). names_place l.line ≡ true → 0 < l.width) found.2 (found.1.bytes is) names;
  locations = λ s has is. not_wide places texts rest lines of_text said is s (contains_has lines s has.0 has.1 has.2);
  others = λ s has none.
      let found = each_line places texts lines said s (contains_has lines s has.0 has.1 has.2) in
      subst (λ (l : SaidLine). names_place l.line ≡ false → l.width ≡ 0) found.2 found.1.others none;
}

-- so have those of a text that spells a log
pub text_lines_wide : (text : List ℕ) (log : NumberedLog) (spells : SpellsLog text log) → AreWideLines (places_of_text text) spells.lines
text_lines_wide text log spells = wide_lines (places_of_text text) spells.texts ([] ∷ []) spells.lines (ap widths_of_texts (sym spells.whole)) spells.said.said

-- and where their accesses have an order, the log has one
pub text_consistent : (text : List ℕ) (log : NumberedLog) (spells : SpellsLog text log) → HasWideOrder spells.lines → IsConsistent (log_operations log)
text_consistent text log spells ordered =
    subst (λ l. IsConsistent (log_operations l)) (sym spells.is) (split_consistent (places_of_text text) spells.lines (text_lines_wide text log spells) ordered)

-- ---- texts of locations

-- of such a text nothing is cut
uncut_lines : (places : Widths) (lines : List SaidLine) → has_bytes places ≡ false → split_lines places lines ≡ split_lines Locations lines
uncut_lines Unseen lines is = refl
uncut_lines Locations lines is = refl
uncut_lines Bytes lines is = absurd (true≢false is)

-- where its log has an order, and no line is `un`, the accesses have one
pub text_orders : (text : List ℕ) (log : NumberedLog) (spells : SpellsLog text log) → has_bytes (places_of_text text) ≡ false → flat_map unknown_in (plain_lines spells.lines) ≡ [] →
    IsConsistent (log_operations log) → HasWideOrder spells.lines
text_orders text log spells is clear consistent =
    let none : (s : SaidLine) → Contains spells.lines s → s.width ≡ 0 = λ s has. (text_lines_wide text log spells).locations s has is in
    location_orders spells.lines none clear
    (subst (λ lines. IsConsistent (log_operations (log_of_lines lines))) (uncut_lines (places_of_text text) spells.lines is ∙ same_lines spells.lines none)
    (subst (λ l. IsConsistent (log_operations l)) spells.is consistent))
