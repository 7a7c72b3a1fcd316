-- The printed lines of lists spell these lists, in any grammar: each line says what it was printed from, and no item has a fault after those before it.
use Rattle.std.proofs.Common.{◌≡◌, ℕ, suc, ◌*◌, ◌<◌, ◌≤◌, true, false, eqb, List, [], ◌∷◌, ◌++◌, length, map, None, Ok, refl, ap, sym, ◌∙◌, subst, arith, append_assoc, length-append, ◌+◌, ltb}
use Rattle.std.specs.Prelude.{codes}
use Rattle.std.specs.List.{flat_map, slice_split, join_with_byte}
use Rattle.std.proofs.lemmas.List.{append-nil, length-map}
use Rattle.tso_text.specs.declared.lines.Line.{Line}
use Rattle.tso_text.specs.declared.lines.Line.TheVariants.{End, Proc, Item}
use Rattle.line_text.specs.Lines.{line_text, parts_of, tokens_of, is_empty}
use Rattle.tso_text.specs.Internal.Spelling.{Grammar, said, line_fault, with_line, is_end, push_last, items_of}
use Rattle.tso_text.specs.Internal.Begun.{SpellsBody}
use Rattle.tso_text.proofs.CanonicalFacts.{tokens_by}
use Rattle.tso_text.specs.Internal.Accepted.{AcceptsLine}
use Rattle.tso_text.proofs.ReadersFacts.{Reached, Reached-start, Reached-next, Reached-end}
use Rattle.line_text.proofs.SplitFacts.{has_byte, has_byte_in, split_part, split_joined, joined_without}
use Rattle.std.proofs.lemmas.Bool.Decides.{nat_tests}
use Rattle.std.proofs.lemmas.List.Concat.{flat_map-append}
use Rattle.tso_text.proofs.LineFacts.{items_of-push_last}
use Rattle.tso_text.proofs.OneTextFacts.{made_by}

-- ---- lines that are read back

-- the bytes of a line, without its line end
abbrev pub line_of : {X : Type 0} → (X → List (List ℕ)) → Line X → List ℕ
line_of p l = join_with_byte 32 (tokens_by p l)

-- The tokens of the line say it; there is a token, no token has a space or a line end, and the line isn't long.
pub record IsReadBack {X : Type 0} (g : Grammar X) (p : X → List (List ℕ)) (l : Line X) : Type 0 where
  pub says : g.said_by (tokens_by p l) ≡ Ok l
  pub word : List ℕ
  pub others : List (List ℕ)
  pub some : tokens_by p l ≡ word ∷ others
  pub no_space : has_byte_in 32 (tokens_by p l) ≡ false
  pub no_end : has_byte_in 10 (tokens_by p l) ≡ false
  pub short : length (line_of p l) < 50

-- a printed line is read as what it was printed from
pub said-line_of : {X : Type 0} (g : Grammar X) (p : X → List (List ℕ)) (l : Line X) → IsReadBack g p l → said g (line_of p l) ≡ Ok l
unfolding tokens_of
said-line_of g p l back =
    let none : has_byte_in 32 (back.word ∷ back.others) ≡ false = ap (has_byte_in 32) (sym back.some) ∙ back.no_space in
    let tokens : slice_split (λ b. eqb b 32) (join_with_byte 32 (tokens_by p l)) ≡ tokens_by p l =
    ap (λ ps. slice_split (λ b. eqb b 32) (join_with_byte 32 ps)) back.some ∙ split_joined 32 back.word back.others none ∙ sym back.some in
    ap (g.said_by) tokens ∙ back.says

-- a printed line has no line end within
line_of-whole : {X : Type 0} (g : Grammar X) (p : X → List (List ℕ)) (l : Line X) → IsReadBack g p l → has_byte 10 (line_of p l) ≡ false
line_of-whole g p l back = joined_without 10 32 (tokens_by p l) refl back.no_end

-- ---- lines that are accepted one after another

-- the line is read back, has no fault after these lists, and doesn't end the text
pub record IsAccepted {X : Type 0} (g : Grammar X) (p : X → List (List ℕ)) (lists : List (List X)) (l : Line X) : Type 0 where
  pub back : IsReadBack g p l
  pub clean : line_fault g lists l ≡ None
  pub continues : is_end (Ok l) ≡ false

-- after the first lists these lines are accepted, and make the last
abbrev pub AreAccepted : {X : Type 0} → Grammar X → (X → List (List ℕ)) → List (List X) → List (Line X) → List (List X) → Type 0
AreAccepted g p first [] last = first ≡ last
AreAccepted g p first (l ∷ ls) last = (accepted : IsAccepted g p first l) × AreAccepted g p (with_line first l) ls last

-- a line that is accepted is so by the reader
reads_line : {X : Type 0} (g : Grammar X) (p : X → List (List ℕ)) (lists : List (List X)) (l : Line X) → IsAccepted g p lists l → AcceptsLine g lists (line_of p l) false (with_line lists l)
reads_line g p lists l accepted = record { line_said = l; says = said-line_of g p l accepted.back; accepts = record { clean = accepted.clean; ends = accepted.continues; after = refl } }

-- the reader goes on over these lines
reached_lines : {X : Type 0} (g : Grammar X) (p : X → List (List ℕ)) (parts : List (List ℕ)) (i n : ℕ) (first : List (List X)) (ls : List (Line X)) (last : List (List X)) (rest : List ℕ) → n ≡ i + length ls → AreAccepted g p first ls last →
    Reached g parts i (flat_map (λ l. line_text (tokens_by p l)) ls ++ rest) first → Reached g parts n rest last
unfolding parts_of
reached_lines g p parts i n first [] last rest count accepted r = subst (λ m. Reached g parts m rest last) (let same : i ≡ n = omega (arith, count) in same) (subst (Reached g parts i rest) accepted r)
reached_lines g p parts i n first (l ∷ ls) last rest count accepted r =
    let after = flat_map (λ l. line_text (tokens_by p l)) ls in
    let bytes : ((line_of p l ++ 10 ∷ []) ++ after) ++ rest ≡ line_of p l ++ 10 ∷ (after ++ rest) =
    append_assoc (line_of p l ++ 10 ∷ []) after rest ∙ append_assoc (line_of p l) (10 ∷ []) (after ++ rest) in
    let cut = ap (slice_split (λ b. eqb b 10)) bytes ∙ split_part 10 (line_of p l) (after ++ rest) (line_of-whole g p l accepted.0.back) in
    reached_lines g p parts (suc i) n (with_line first l) ls last rest (omega (arith, count)) accepted.1
    (Reached-next g parts i (((line_of p l ++ 10 ∷ []) ++ after) ++ rest) first (line_of p l) (after ++ rest) (with_line first l) r cut (reads_line g p first l accepted.0))

pub printed_reached : {X : Type 0} (g : Grammar X) (p : X → List (List ℕ)) (ls : List (Line X)) (last : List (List X)) (rest : List ℕ) → AreAccepted g p g.start ls last →
    Reached g (parts_of (flat_map (λ l. line_text (tokens_by p l)) ls ++ rest)) (length ls) rest last
printed_reached g p ls last rest accepted =
    let lines = flat_map (λ l. line_text (tokens_by p l)) ls in
    reached_lines g p (parts_of (lines ++ rest)) 0 (length ls) g.start ls last rest (omega arith) accepted (Reached-start g (lines ++ rest))

-- the lines are as long as their number allows
pub length-lines : {X : Type 0} (g : Grammar X) (p : X → List (List ℕ)) (first : List (List X)) (ls : List (Line X)) (last : List (List X)) → AreAccepted g p first ls last →
    length (flat_map (λ l. line_text (tokens_by p l)) ls) ≤ 50 * length ls
length-lines g p first [] last accepted = omega arith
length-lines g p first (l ∷ ls) last accepted =
    let short = accepted.0.back.short in
    let rest = length-lines g p (with_line first l) ls last accepted.1 in
    omega (arith, short, rest, length-append (line_text (tokens_by p l)) (flat_map (λ l. line_text (tokens_by p l)) ls), length-append (line_of p l) (10 ∷ []))

-- the line `end` is accepted after all lists
pub reads_end : {X : Type 0} (g : Grammar X) (p : X → List (List ℕ)) (lists : List (List X)) → IsReadBack g p End → AcceptsLine g lists (codes "end") true lists
reads_end g p lists end = record { line_said = End; says = said-line_of g p End end; accepts = record { clean = refl; ends = refl; after = refl } }

-- lines that are accepted, and `end`, spell what the lines make
pub printed_parts : {X : Type 0} (g : Grammar X) (p : X → List (List ℕ)) (ls : List (Line X)) (last : List (List X)) (lines : List ℕ) → IsReadBack g p End → AreAccepted g p g.start ls last → flat_map (λ l. line_text (tokens_by p l)) ls ≡ lines →
    SpellsBody g (parts_of (lines ++ line_text (codes "end" ∷ []))) last
unfolding parts_of
printed_parts {X} g p ls last lines end accepted bytes =
    let ending = line_text (codes "end" ∷ []) in
    let whole = flat_map (λ l. line_text (tokens_by p l)) ls ++ ending in
    subst (λ b. SpellsBody g (parts_of (b ++ ending)) last) bytes
    (Reached-end g (parts_of whole) (length ls) ending last (codes "end") [] last (printed_reached g p ls last ending accepted) (split_part 10 (codes "end") [] refl) (reads_end g p last end) refl)

-- Each of the items is read back, and has no fault after those before it.
pub record AreFit {X : Type 0} (g : Grammar X) (p : X → List (List ℕ)) (items : List X) : Type 0 where
  pub back : (before : List X) (x : X) (after : List X) → items ≡ before ++ x ∷ after → IsReadBack g p (Item x)
  pub clean : (before : List X) (x : X) (after : List X) → items ≡ before ++ x ∷ after → g.item_fault before x ≡ None

some_list : {X : Type 0} (done : List (List X)) (row : List X) → is_empty (done ++ row ∷ []) ≡ false
some_list [] row = refl
some_list (list ∷ done) row = refl

push_last-at : {X : Type 0} (done : List (List X)) (row : List X) (x : X) → push_last (done ++ row ∷ []) x ≡ done ++ (row ++ x ∷ []) ∷ []
push_last-at [] row x = refl
push_last-at (list ∷ []) row x = refl
push_last-at (list ∷ next ∷ done) row x = ap (λ lists. list ∷ lists) (push_last-at (next ∷ done) row x)

-- one more item is accepted
item_accepted : {X : Type 0} (g : Grammar X) (p : X → List (List ℕ)) (items : List X) → AreFit g p items → (done : List (List X)) (row : List X) (x : X) (after : List X) →
    items ≡ items_of (done ++ row ∷ []) ++ x ∷ after → IsAccepted g p (done ++ row ∷ []) (Item x)
item_accepted g p items fit done row x after at = record {
  back = fit.back (items_of (done ++ row ∷ [])) x after at;
  clean = rw (some_list done row) (fit.clean (items_of (done ++ row ∷ [])) x after at);
  continues = refl;
}

-- the rest of a row is accepted
row_accepted : {X : Type 0} (g : Grammar X) (p : X → List (List ℕ)) (items : List X) → AreFit g p items → (done : List (List X)) (seen row : List X) (more : List (Line X)) (remaining : List X) (last : List (List X)) →
    items ≡ items_of (done ++ seen ∷ []) ++ (row ++ remaining) → AreAccepted g p (done ++ (seen ++ row) ∷ []) more last → AreAccepted g p (done ++ seen ∷ []) (map Item row ++ more) last
row_accepted g p items fit done seen [] more remaining last at rest = subst (λ r. AreAccepted g p (done ++ r ∷ []) more last) (append-nil seen) rest
row_accepted g p items fit done seen (x ∷ row) more remaining last at rest =
    let next : push_last (done ++ seen ∷ []) x ≡ done ++ (seen ++ x ∷ []) ∷ [] = push_last-at done seen x in
    let longer : items_of (done ++ (seen ++ x ∷ []) ∷ []) ≡ items_of (done ++ seen ∷ []) ++ x ∷ [] =
    ap items_of (sym next) ∙ items_of-push_last (done ++ seen ∷ []) x (omega (arith, length-append done (seen ∷ []))) in
    let place : items ≡ items_of (done ++ (seen ++ x ∷ []) ∷ []) ++ (row ++ remaining) =
    at ∙ sym (append_assoc (items_of (done ++ seen ∷ [])) (x ∷ []) (row ++ remaining)) ∙ ap (λ prefix. prefix ++ (row ++ remaining)) (sym longer) in
    let whole : AreAccepted g p (done ++ ((seen ++ x ∷ []) ++ row) ∷ []) more last = subst (λ r. AreAccepted g p (done ++ r ∷ []) more last) (sym (append_assoc seen (x ∷ []) row)) rest in (
      item_accepted g p items fit done seen x (row ++ remaining) at,
      subst (λ lists. AreAccepted g p lists (map Item row ++ more) last) (sym next) (row_accepted g p items fit done (seen ++ x ∷ []) row more remaining last place whole),
    )

proc_accepted : {X : Type 0} (g : Grammar X) (p : X → List (List ℕ)) (lists : List (List X)) → IsReadBack g p Proc → length lists < 16 → IsAccepted g p lists Proc
proc_accepted g p lists back few = record {
  back = back;
  clean = let off : ltb 15 (length lists) ≡ false = grind (arith, nat_tests) in rw off refl;
  continues = refl;
}

-- the lines of processors are accepted, and make their lists
pub lists_accepted : {X : Type 0} (g : Grammar X) (p : X → List (List ℕ)) (items : List X) → AreFit g p items → IsReadBack g p Proc → (done lists : List (List X)) →
    length done + length lists ≤ 16 → items ≡ items_of done ++ items_of lists → AreAccepted g p done (made_by lists) (done ++ lists)
lists_accepted g p items fit proc done [] few at = sym (append-nil done)
lists_accepted g p items fit proc done (row ∷ lists) few at =
    let empty : items_of (done ++ [] ∷ []) ≡ items_of done = flat_map-append (λ r. r) done ([] ∷ []) ∙ append-nil (items_of done) in
    let full : items_of (done ++ row ∷ []) ≡ items_of done ++ row = flat_map-append (λ r. r) done (row ∷ []) ∙ ap (λ r. items_of done ++ r) (append-nil row) in
    let remaining : items ≡ items_of (done ++ row ∷ []) ++ items_of lists = at ∙ sym (append_assoc (items_of done) row (items_of lists)) ∙ ap (λ prefix. prefix ++ items_of lists) (sym full) in
    let count : length (done ++ row ∷ []) ≡ length done + 1 = length-append done (row ∷ []) in
    let rest = lists_accepted g p items fit proc (done ++ row ∷ []) lists (omega (arith, count, few)) remaining in (
      proc_accepted g p done proc (omega (arith, few)),
      row_accepted g p items fit done [] row (made_by lists) (items_of lists) (done ++ row ∷ lists)
          (at ∙ ap (λ prefix. prefix ++ (row ++ items_of lists)) (sym empty))
          (subst (AreAccepted g p (done ++ row ∷ []) (made_by lists)) (append_assoc done (row ∷ []) lists) rest),
    )

-- the lines of one list, which no line begins
pub items_accepted : {X : Type 0} (g : Grammar X) (p : X → List (List ℕ)) (items : List X) → AreFit g p items → AreAccepted g p ([] ∷ []) (map Item items) (items ∷ [])
items_accepted {X} g p items fit =
    subst (λ (ls : List (Line X)). AreAccepted g p ([] ∷ []) ls (items ∷ [])) (append-nil (map Item items))
    (row_accepted g p items fit [] [] items [] [] (items ∷ []) (sym (append-nil items)) refl)

-- one line for each processor, and one for each item
pub length-made_by : {X : Type 0} (lists : List (List X)) → length (made_by lists) ≡ length lists + length (items_of lists)
length-made_by [] = refl
length-made_by (row ∷ lists) =
    omega (arith, length-append (map Item row) (made_by lists), length-map row Item, length-made_by lists, length-append row (items_of lists))
