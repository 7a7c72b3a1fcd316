-- Lemmas on the tags of lines, one line after another.
use Rattle.std.proofs.Common.{◌≡◌, ◌∙◌, ℕ, zero, suc, ◌+◌, ◌-◌, ◌<◌, ◌≤◌, List, [], ◌∷◌, ◌++◌, length, get_or, take, drop, max, refl, sym, ap, arith, ⊎_elim, subst}
use Rattle.std.specs.Prelude.{◌==◌, ◌&&◌, nat_le, nat_lt, slice_range, map, true, false, Ok, Err}
use Rattle.std.specs.List.{All, list_all}
use Rattle.std.proofs.lemmas.List.Sums.{AllPass-from_list_all}
use Rattle.std.proofs.lemmas.Bool.{cases_Bool, cases_eq, cases_lt}
use Rattle.std.proofs.lemmas.Bool.Decides.{nat_tests}
use Rattle.std.proofs.lemmas.List.{drop-append-le, get_or_append_left, get_or_default, get_or_past, length-append, length-drop, length_push, take-append-le, take_all}
use Rattle.std.proofs.Math.Seq.{drop-append_seam, get_or-append_seam}
use Rattle.std.specs.Str.{IsAscii}
use Rattle.std.proofs.lemmas.Str.{IsAscii-drop}
use Rattle.std.proofs.lemmas.Str.Ascii.{IsAscii-from_all, IsAscii-nil}
use Rattle.line_text.specs.Lines.{parts_of}
use Rattle.run_lines.specs.Lines.{is_plain}
use Rattle.run_lines.specs.Tags.{before_tag, begins_tag}
use Rattle.tso_text.specs.declared.faults.Why.TheVariants.{BadLine}
use Rattle.run_lines.specs.declared.arguments.Widths.{Widths}
use Rattle.log_text.specs.declared.lines.SaidLine.{SaidLine}
use Rattle.log_text.specs.LogLines.{line_said, result_told}
use Rattle.log_text.specs.LogTexts.{places_of_text, SpellsLog}
use Rattle.log_text.specs.LogValues.{NumberedLog}
use Rattle.log_text.specs.declared.tags.LineTags.{LineTags}
use Rattle.log_text.specs.Tags.{bytes_between, start_at, tag_at, tag_of, tag_of_index}
use Rattle.log_text.specs.Internal.TagLists.{HoldsTags}

-- ---- bytes between places

between : (bytes : List ℕ) (start end : ℕ) → start ≤ end → end ≤ length bytes → bytes_between bytes start end ≡ slice_range bytes start end
between bytes start end rising within =
    let one : nat_le start end ≡ true = grind (arith, nat_tests) in
    let two : nat_le end (length bytes) ≡ true = grind (arith, nat_tests) in
    rw (one, two) refl

-- the same where more bytes follow
between_more : (bytes more : List ℕ) (start end : ℕ) → start ≤ end → end ≤ length bytes → bytes_between (bytes ++ more) start end ≡ bytes_between bytes start end
between_more bytes more start end rising within =
    let count = length-append bytes more in
    let left = length-drop start bytes in
    between (bytes ++ more) start end rising (omega (arith, within, count))
    ∙ ap (take (end - start)) (drop-append-le start bytes more (omega (arith, rising, within)))
    ∙ take-append-le (end - start) (drop start bytes) more (omega (arith, left, within))
    ∙ sym (between bytes start end rising within)

-- what follows them
between_end : (bytes more : List ℕ) (end : ℕ) → end ≡ length (bytes ++ more) → bytes_between (bytes ++ more) (length bytes) end ≡ more
between_end bytes more end is =
    let count = length-append bytes more in
    between (bytes ++ more) (length bytes) end (omega (arith, is, count)) (omega (arith, is))
    ∙ ap (take (end - length bytes)) (drop-append_seam bytes more)
    ∙ take_all (end - length bytes) more (omega (arith, is, count))

-- none between a place and itself
between_none : (bytes : List ℕ) (end : ℕ) → end ≡ length bytes → bytes_between bytes end end ≡ []
between_none bytes end is =
    between bytes end end (omega arith) (omega (arith, is)) ∙ (let none : end - end ≡ 0 = omega arith in ap (λ n. take n (drop end bytes)) none)

-- ---- lines

-- what stands before a tag is no longer than the line
pub before_tag-le : (line : List ℕ) → length (before_tag line) ≤ length line
before_tag-le [] = omega arith
before_tag-le (b ∷ bs) = ⊎_elim
    (λ (is : (b == 32) && begins_tag bs ≡ true). rw is (omega arith))
    (λ (other : (b == 32) && begins_tag bs ≡ false). rw other (omega (arith, before_tag-le bs)))
    (cases_Bool ((b == 32) && begins_tag bs))

-- and its tag is all that follows
pub tag_follows : (line : List ℕ) → before_tag line ++ tag_of line ≡ line
tag_follows [] = refl
tag_follows (b ∷ bs) = ⊎_elim
    (λ (is : (b == 32) && begins_tag bs ≡ true). rw is refl)
    (λ (other : (b == 32) && begins_tag bs ≡ false). rw other (ap (λ xs. b ∷ xs) (tag_follows bs)))
    (cases_Bool ((b == 32) && begins_tag bs))

-- ---- the lines of a log

bytes_ascii : (bytes : List ℕ) → list_all (λ b. nat_lt b 128) bytes ≡ true → All (λ b. b < 128) bytes
bytes_ascii bytes plain k d within = let test : nat_lt (get_or bytes k d) 128 ≡ true = AllPass-from_list_all (λ b. nat_lt b 128) bytes plain k d within in grind (arith, nat_tests)

-- a line that is read is ASCII
said_ascii : (places : Widths) (line : List ℕ) (said : SaidLine) → line_said places line ≡ Ok said → IsAscii line
unfolding line_said
said_ascii places line said is = ⊎_elim
    (λ (plain : is_plain line ≡ true). IsAscii-from_all line (bytes_ascii line plain))
    (λ (other : is_plain line ≡ false). absurd (let refused : result_told places (Err BadLine) ≡ Ok said = sym (rw other refl) ∙ is in cc))
    (cases_Bool (is_plain line))

lines_ascii : (places : Widths) (texts : List (List ℕ)) (lines : List SaidLine) → map (line_said places) texts ≡ map Ok lines → (k : ℕ) → IsAscii (get_or (texts ++ [] ∷ []) k [])
lines_ascii places [] lines said zero = IsAscii-nil
lines_ascii places [] lines said (suc k) = IsAscii-nil
lines_ascii places (text ∷ texts) [] said k = absurd cc
lines_ascii places (text ∷ texts) (line ∷ lines) said zero = said_ascii places text line cc
lines_ascii places (text ∷ texts) (line ∷ lines) said (suc k) = let others : map (line_said places) texts ≡ map Ok lines = cc in lines_ascii places texts lines others k

pub tags_ascii : (text : List ℕ) (log : NumberedLog) → SpellsLog text log → (number : ℕ) → IsAscii (tag_at (parts_of text) number)
tags_ascii text log spells number =
    let line : IsAscii (get_or (parts_of text) (number - 1) []) =
    subst (λ (parts : List (List ℕ)). IsAscii (get_or parts (number - 1) [])) (sym spells.whole) (lines_ascii (places_of_text text) spells.texts spells.lines spells.said.said (number - 1)) in
    IsAscii-drop (get_or (parts_of text) (number - 1) []) (length (before_tag (get_or (parts_of text) (number - 1) []))) line

-- ---- one line after another

-- the lines before the new one stay, and no line after it has a tag
line_kept : (lines : List (List ℕ)) (line : List ℕ) (k : ℕ) → (k ≡ length lines → ⊥) → get_or (lines ++ line ∷ []) k [] ≡ get_or lines k []
line_kept lines line k other = ⊎_elim
    (λ (low : k < length lines). get_or_append_left lines (line ∷ []) [] k low)
    (λ (high : length lines ≤ k).
    let long = length_push lines line in
    get_or_past (lines ++ line ∷ []) k [] (omega (arith, high, other, long)) ∙ sym (get_or_past lines k [] high))
    (cases_lt k (length lines))

pub HoldsTags-nil : (tags : LineTags) → tags.starts.items ≡ [] → tags.bytes.items ≡ [] → HoldsTags tags []
HoldsTags-nil tags starts bytes = record {
  short = rw starts (omega arith);
  rising = λ k. rw (starts, bytes) (omega arith);
  within = λ k. rw (starts, bytes) (omega arith);
  are = λ k. rw (starts, bytes) refl;
}

-- a line without a tag
pub HoldsTags-plain : (tags : LineTags) (lines : List (List ℕ)) (line : List ℕ) → tag_of line ≡ [] → HoldsTags tags lines → HoldsTags tags (lines ++ line ∷ [])
HoldsTags-plain tags lines line none holds = record {
  short = let long = length_push lines line in omega (arith, long, holds.short);
  rising = holds.rising;
  within = holds.within;
  are = λ k. ⊎_elim
      (λ (here : k ≡ length lines). holds.are k ∙ ap tag_of (get_or_past lines k [] (omega (arith, here))) ∙ sym none
      ∙ ap tag_of (sym (get_or-append_seam lines line [] [])) ∙ ap (λ i. tag_of (get_or (lines ++ line ∷ []) i [])) (sym here))
      (λ (other : k ≡ length lines → ⊥). holds.are k ∙ ap tag_of (sym (line_kept lines line k other)))
      (cases_eq k (length lines));
}

-- one with a tag: `noted` has where the tags of it and of the lines before it begin
module _ (old noted new : LineTags) (lines : List (List ℕ)) (line : List ℕ) (holds : HoldsTags old lines)
    (same : (k : ℕ) → start_at noted k ≡ start_at old k) (bytes : noted.bytes.items ≡ old.bytes.items) (count : length noted.starts.items ≡ max (length lines + 1) (length old.starts.items))
    (starts : new.starts.items ≡ noted.starts.items) (added : new.bytes.items ≡ old.bytes.items ++ tag_of line) where
  begun : length new.starts.items ≡ length lines + 1
  begun = omega (arith, count, holds.short, ap length starts)

  whole : length new.bytes.items ≡ length old.bytes.items + length (tag_of line)
  whole = ap length added ∙ length-append old.bytes.items (tag_of line)

  low : (k : ℕ) → k ≤ length lines → start_at new k ≡ start_at old k
  low k within =
      let inside : k < length new.starts.items = omega (arith, begun, within) in
      get_or_default new.starts.items k (length new.bytes.items) (length noted.bytes.items) inside ∙ ap (λ xs. get_or xs k (length noted.bytes.items)) starts ∙ same k

  high : (k : ℕ) → length lines < k → start_at new k ≡ length new.bytes.items
  high k past = get_or_past new.starts.items k (length new.bytes.items) (omega (arith, begun, past))

  last : start_at old (length lines) ≡ length old.bytes.items
  last = get_or_past old.starts.items (length lines) (length old.bytes.items) holds.short

  are : (k : ℕ) → tag_of_index new k ≡ tag_of (get_or (lines ++ line ∷ []) k [])
  are k = ⊎_elim
      (λ (before : k < length lines).
      let next = low (k + 1) (omega (arith, before)) in
      let this = low k (omega (arith, before)) in
      rw (this, next, added) (between_more old.bytes.items (tag_of line) (start_at old k) (start_at old (k + 1)) (holds.rising k) (holds.within (k + 1)))
      ∙ holds.are k ∙ ap tag_of (sym (line_kept lines line k (λ here. omega (arith, here, before)))))
      (λ (after : length lines ≤ k). ⊎_elim
      (λ (here : k ≡ length lines).
      let next = high (k + 1) (omega (arith, here)) in
      let this : start_at new k ≡ length old.bytes.items = low k (omega (arith, here)) ∙ ap (start_at old) here ∙ last in
      ap (λ s. bytes_between new.bytes.items s (start_at new (k + 1))) this ∙ ap (λ xs. bytes_between xs (length old.bytes.items) (start_at new (k + 1))) added
      ∙ between_end old.bytes.items (tag_of line) (start_at new (k + 1)) (next ∙ ap length added)
      ∙ ap tag_of (sym (get_or-append_seam lines line [] [])) ∙ ap (λ i. tag_of (get_or (lines ++ line ∷ []) i [])) (sym here))
      (λ (other : k ≡ length lines → ⊥).
      let long = length_push lines line in
      let this = high k (omega (arith, after, other)) in
      let next = high (k + 1) (omega (arith, after)) in
      rw (next, this) (between_none new.bytes.items (length new.bytes.items) refl)
      ∙ ap tag_of (sym (get_or_past (lines ++ line ∷ []) k [] (omega (arith, after, other, long)))))
      (cases_eq k (length lines)))
      (cases_lt k (length lines))

  pub HoldsTags-next : HoldsTags new (lines ++ line ∷ [])
  HoldsTags-next = record {
    short = let long = length_push lines line in omega (arith, long, begun);
    rising = λ k. ⊎_elim
        (λ (before : k < length lines). let this = low k (omega (arith, before)) in let next = low (k + 1) (omega (arith, before)) in omega (arith, this, next, holds.rising k))
        (λ (after : length lines ≤ k). let next = high (k + 1) (omega (arith, after)) in omega (arith, next, inside k))
        (cases_lt k (length lines));
    within = inside;
    are = are;
  }
    where
      inside : (k : ℕ) → start_at new k ≤ length new.bytes.items
      inside k = ⊎_elim
          (λ (past : length lines < k). let this = high k past in omega (arith, this))
          (λ (within : k ≤ length lines). let this = low k within in omega (arith, this, whole, holds.within k))
          (cases_lt (length lines) k)
