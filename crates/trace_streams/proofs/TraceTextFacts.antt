-- Lemmas on the trace texts of a stream: byte by byte, some trace texts, and no others.
use Rattle.std.proofs.Common.{◌≡◌, ◌≢◌, ◌⊎◌, ℕ, ◌++◌, List, [], ◌∷◌, length, Bool, true, false, refl, ap, sym, subst, ◌∙◌, inl, inr, arith, append_assoc, eqb}
use Rattle.std.specs.List.{All, concat, slice_split}
use Rattle.std.proofs.lemmas.Bool.{cases_eq, cases_Bool, ne_eqb}
use Rattle.std.proofs.lemmas.List.{append-nil, append_cancel_left}
use Rattle.std.proofs.lemmas.List.Elements.{All-nil, All-cons, All-push, All-head, All-tail, All-append, All-weaker}
use Rattle.std.proofs.lemmas.List.Splits.{slice_split_none, slice_split_at, length-slice_split}
use Rattle.std.proofs.lemmas.Slice.Eq.{bytes_eq-Decides}
use Rattle.std.specs.Str.{bytes_eq}
use Rattle.trace_streams.specs.TraceTexts.{AreTraceTexts, EndsWithin, HasNoEnd, IsSplit, IsEndedText, IsOtherLine, IsWithinLine, end_line, last_trace_text, lines_text}

-- ---- byte by byte

pub lines_text-append : (xs ys : List (List ℕ)) → lines_text (xs ++ ys) ≡ lines_text xs ++ lines_text ys
lines_text-append [] ys = refl
lines_text-append (x ∷ xs) ys = ap (λ t. x ++ 10 ∷ t) (lines_text-append xs ys) ∙ sym (append_assoc x (10 ∷ lines_text xs) (lines_text ys))

-- a line end after these lines and this part of one
line_ends : (lines : List (List ℕ)) (part : List ℕ) → (lines_text lines ++ part) ++ 10 ∷ [] ≡ lines_text (lines ++ part ∷ [])
line_ends lines part = append_assoc (lines_text lines) part (10 ∷ []) ∙ sym (lines_text-append lines (part ∷ []))

-- nothing
pub ends_at_start : EndsWithin [] []
ends_at_start = record { lines = []; others = All-nil IsOtherLine; within = All-nil (λ b. b ≢ 10); whole = refl }

-- one more byte, which ends no line
pub ends_later : (bytes part : List ℕ) (b : ℕ) → b ≢ 10 → EndsWithin bytes part → EndsWithin (bytes ++ b ∷ []) (part ++ b ∷ [])
ends_later bytes part b other e = record {
  lines = e.lines;
  others = e.others;
  within = All-push (λ c. c ≢ 10) part b e.within other;
  whole = ap (λ t. t ++ b ∷ []) e.whole ∙ append_assoc (lines_text e.lines) part (b ∷ []);
}

-- the end of another line
pub ends_line : (bytes part : List ℕ) → part ≢ end_line → EndsWithin bytes part → EndsWithin (bytes ++ 10 ∷ []) []
ends_line bytes part other e = record {
  lines = e.lines ++ part ∷ [];
  others = All-push IsOtherLine e.lines part e.others (e.within, other);
  within = All-nil (λ b. b ≢ 10);
  whole = ap (λ t. t ++ 10 ∷ []) e.whole ∙ line_ends e.lines part ∙ sym (append-nil (lines_text (e.lines ++ part ∷ [])));
}

-- the end of a line `end`
pub ends_trace_text : (bytes part : List ℕ) → part ≡ end_line → EndsWithin bytes part → IsEndedText (bytes ++ 10 ∷ [])
ends_trace_text bytes part is e = record {
  lines = e.lines;
  others = e.others;
  whole = ap (λ t. t ++ 10 ∷ []) e.whole ∙ line_ends e.lines part ∙ ap (λ p. lines_text (e.lines ++ p ∷ [])) is;
}

-- ---- joined

pub concat-append : (xs ys : List (List ℕ)) → concat (xs ++ ys) ≡ concat xs ++ concat ys
concat-append [] ys = refl
concat-append (x ∷ xs) ys = ap (λ t. x ++ t) (concat-append xs ys) ∙ sym (append_assoc x (concat xs) (concat ys))

-- nothing
pub cut_at_start : IsSplit [] [] []
cut_at_start = record { each = All-nil IsEndedText; no_end = ([], ends_at_start); whole = refl }

-- what follows is cut from the last trace text on
pub cut_joined : (xs ys rest last : List ℕ) (ended more : List (List ℕ)) → IsSplit xs ended rest → IsSplit (rest ++ ys) more last → IsSplit (xs ++ ys) (ended ++ more) last
cut_joined xs ys rest last ended more first second = record {
  each = All-append IsEndedText ended more first.each second.each;
  no_end = second.no_end;
  whole =
      ap (λ t. t ++ ys) first.whole ∙ append_assoc (concat ended) rest ys ∙ ap (λ t. concat ended ++ t) second.whole ∙ sym (append_assoc (concat ended) (concat more) last)
      ∙ ap (λ t. t ++ last) (sym (concat-append ended more));
}

-- ---- some trace texts

is_end_line : (part : List ℕ) → (part ≡ end_line) ⊎ (part ≢ end_line)
is_end_line part =
    let decided = bytes_eq-Decides part end_line in
    elim (cases_Bool (bytes_eq part end_line)) [
      | inl same ↦ inl (decided.0 same)
      | inr other ↦ inr (λ is. absurd (false_true (bytes_eq part end_line) other (decided.1 is)))
    ]
  where
    false_true : (b : Bool) → b ≡ false → b ≡ true → ⊥
    false_true b off on = cc

-- one byte more
snoc : (bytes ys : List ℕ) (b : ℕ) → (bytes ++ b ∷ []) ++ ys ≡ bytes ++ b ∷ ys
snoc bytes ys b = append_assoc bytes (b ∷ []) ys

pub some_cut : (ys bytes part : List ℕ) → EndsWithin bytes part → (ended : List (List ℕ)) × (rest : List ℕ) × IsSplit (bytes ++ ys) ended rest
some_cut [] bytes part e = ([], bytes, record { each = All-nil IsEndedText; no_end = (part, e); whole = append-nil bytes })
some_cut (b ∷ ys) bytes part e = elim (cases_eq b 10) [
  | inr other ↦
      let more = some_cut ys (bytes ++ b ∷ []) (part ++ b ∷ []) (ends_later bytes part b other e) in
      (more.0, more.1, subst (λ t. IsSplit t more.0 more.1) (snoc bytes ys b) more.2)
  | inl at ↦ elim (is_end_line part) [
    | inr other ↦
        let more = some_cut ys (bytes ++ b ∷ []) [] (subst (λ c. EndsWithin (bytes ++ c ∷ []) []) (sym at) (ends_line bytes part other e)) in
        (more.0, more.1, subst (λ t. IsSplit t more.0 more.1) (snoc bytes ys b) more.2)
    | inl is ↦
        let more = some_cut ys [] [] ends_at_start in
        let piece = subst (λ c. IsEndedText (bytes ++ c ∷ [])) (sym at) (ends_trace_text bytes part is e) in (
          (bytes ++ b ∷ []) ∷ more.0,
          more.1,
          record {
            each = All-cons IsEndedText (bytes ++ b ∷ []) more.0 piece more.2.each;
            no_end = more.2.no_end;
            whole =
                sym (snoc bytes ys b) ∙ ap (λ t. (bytes ++ b ∷ []) ++ t) more.2.whole ∙ sym (append_assoc (bytes ++ b ∷ []) (concat more.0) more.1);
          },
        )
  ]
]

pub some_trace_texts : (stream : List ℕ) → (pieces : List (List ℕ)) × AreTraceTexts stream pieces
some_trace_texts stream =
    let cut = some_cut stream [] [] ends_at_start in
    (cut.0 ++ last_trace_text cut.1, record { ended = cut.0; rest = cut.1; cut = cut.2; trace_texts_are = refl })

-- ---- no others

-- the parts between line ends
parts : List ℕ → List (List ℕ)
parts bytes = slice_split (λ b. eqb b 10) bytes

within_parts : (line : List ℕ) → IsWithinLine line → All (λ b. eqb b 10 ≡ false) line
within_parts line within = All-weaker (λ b. b ≢ 10) (λ b. eqb b 10 ≡ false) (λ b other. ne_eqb b 10 other) line within

lines_parts : (lines : List (List ℕ)) (rest : List ℕ) → All IsWithinLine lines → parts (lines_text lines ++ rest) ≡ lines ++ parts rest
unfolding parts
lines_parts [] rest within = refl
lines_parts (line ∷ lines) rest within =
    ap parts (append_assoc line (10 ∷ lines_text lines) rest)
    ∙ slice_split_at (λ b. eqb b 10) line 10 (lines_text lines ++ rest) (within_parts line (All-head IsWithinLine line lines within)) refl
    ∙ ap (λ ps. line ∷ ps) (lines_parts lines rest (All-tail IsWithinLine line lines within))

lines_within : (lines : List (List ℕ)) → All IsOtherLine lines → All IsWithinLine lines
lines_within lines others = All-weaker IsOtherLine IsWithinLine (λ line other. other.0) lines others

end_line_within : IsWithinLine end_line
end_line_within = All-cons (λ b. b ≢ 10) 101 (110 ∷ 100 ∷ []) (λ e. absurd (omega (arith, e))) (All-cons (λ b. b ≢ 10) 110 (100 ∷ []) (λ e. absurd (omega (arith, e))) (All-cons (λ b. b ≢ 10) 100 [] (λ e. absurd (omega (arith, e))) (All-nil (λ b. b ≢ 10))))

-- the parts of what an ended trace text begins
ended_parts : (piece rest : List ℕ) (e : IsEndedText piece) → parts (piece ++ rest) ≡ e.lines ++ end_line ∷ parts rest
ended_parts piece rest e =
    ap (λ p. parts (p ++ rest)) e.whole
    ∙ lines_parts (e.lines ++ end_line ∷ []) rest (All-push IsWithinLine e.lines end_line (lines_within e.lines e.others) end_line_within)
    ∙ append_assoc e.lines (end_line ∷ []) (parts rest)

-- and of bytes without an ended trace text
unended_parts : (bytes part : List ℕ) (e : EndsWithin bytes part) → parts bytes ≡ e.lines ++ part ∷ []
unfolding parts
unended_parts bytes part e =
    ap parts e.whole ∙ lines_parts e.lines part (lines_within e.lines e.others)
    ∙ ap (λ ps. e.lines ++ ps) (slice_split_none (λ b. eqb b 10) part (within_parts part e.within))

-- the lines before the first line `end`
first_end : (ls ms xs ys : List (List ℕ)) → All IsOtherLine ls → All IsOtherLine ms → ls ++ end_line ∷ xs ≡ ms ++ end_line ∷ ys → ls ≡ ms
first_end [] [] xs ys p q e = refl
first_end [] (b ∷ ms) xs ys p q e = absurd ((All-head IsOtherLine b ms q).1 cc)
first_end (a ∷ ls) [] xs ys p q e = absurd ((All-head IsOtherLine a ls p).1 cc)
first_end (a ∷ ls) (b ∷ ms) xs ys p q e =
    let rest = first_end ls ms xs ys (All-tail IsOtherLine a ls p) (All-tail IsOtherLine b ms q) cc in
    cc

no_first_end : (ls ms xs : List (List ℕ)) (part : List ℕ) → All IsOtherLine ms → (xs ≡ [] → ⊥) → ls ++ end_line ∷ xs ≡ ms ++ part ∷ [] → ⊥
no_first_end [] [] xs part q some e = some cc
no_first_end [] (b ∷ ms) xs part q some e = (All-head IsOtherLine b ms q).1 cc
no_first_end (a ∷ ls) [] xs part q some e = nonempty ls xs cc
  where
    nonempty : (ls xs : List (List ℕ)) → ls ++ end_line ∷ xs ≡ [] → ⊥
    nonempty [] xs e = cc
    nonempty (a ∷ ls) xs e = cc
no_first_end (a ∷ ls) (b ∷ ms) xs part q some e = no_first_end ls ms xs part (All-tail IsOtherLine b ms q) some cc

some_parts : (bytes : List ℕ) → parts bytes ≡ [] → ⊥
unfolding parts
some_parts bytes none = absurd (omega (arith, ap length none, length-slice_split (λ b. eqb b 10) bytes))

-- two ended trace texts that begin the same bytes are one
pub one_ended : (p q xs ys : List ℕ) → IsEndedText p → IsEndedText q → p ++ xs ≡ q ++ ys → (p ≡ q) × (xs ≡ ys)
one_ended p q xs ys ep eq same =
    let lines = first_end ep.lines eq.lines (parts xs) (parts ys) ep.others eq.others (sym (ended_parts p xs ep) ∙ ap parts same ∙ ended_parts q ys eq) in
    let is : p ≡ q = ep.whole ∙ ap (λ ls. lines_text (ls ++ end_line ∷ [])) lines ∙ sym eq.whole in
    (is, append_cancel_left q xs ys (ap (λ t. t ++ xs) (sym is) ∙ same))

-- bytes without an ended trace text begin with none
pub no_ended : (p xs rest : List ℕ) → IsEndedText p → HasNoEnd rest → p ++ xs ≡ rest → ⊥
no_ended p xs rest ep none same =
    no_first_end ep.lines none.1.lines (parts xs) none.0 none.1.others (some_parts xs) (sym (ended_parts p xs ep) ∙ ap parts same ∙ unended_parts rest none.0 none.1)

one_cut_of : (ended others : List (List ℕ)) (rest last : List ℕ) → All IsEndedText ended → All IsEndedText others → HasNoEnd rest → HasNoEnd last → concat ended ++ rest ≡ concat others ++ last →
    (ended ≡ others) × (rest ≡ last)
one_cut_of [] [] rest last p q r l same = (refl, same)
one_cut_of [] (b ∷ ms) rest last p q r l same = absurd (no_ended b (concat ms ++ last) rest (All-head IsEndedText b ms q) r (sym (append_assoc b (concat ms) last) ∙ sym same))
one_cut_of (a ∷ ls) [] rest last p q r l same = absurd (no_ended a (concat ls ++ rest) last (All-head IsEndedText a ls p) l (sym (append_assoc a (concat ls) rest) ∙ same))
one_cut_of (a ∷ ls) (b ∷ ms) rest last p q r l same =
    let first = one_ended a b (concat ls ++ rest) (concat ms ++ last) (All-head IsEndedText a ls p) (All-head IsEndedText b ms q) (sym (append_assoc a (concat ls) rest) ∙ same ∙ append_assoc b (concat ms) last) in
    let others = one_cut_of ls ms rest last (All-tail IsEndedText a ls p) (All-tail IsEndedText b ms q) r l first.1 in
    (ap (λ x. x ∷ ls) first.0 ∙ ap (λ xs. b ∷ xs) others.0, others.1)

pub one_cut : (stream rest last : List ℕ) (ended others : List (List ℕ)) → IsSplit stream ended rest → IsSplit stream others last → (ended ≡ others) × (rest ≡ last)
one_cut stream rest last ended others p q = one_cut_of ended others rest last p.each q.each p.no_end q.no_end (sym p.whole ∙ q.whole)

pub one_list_of_trace_texts : (stream : List ℕ) (ps qs : List (List ℕ)) → AreTraceTexts stream ps → AreTraceTexts stream qs → ps ≡ qs
one_list_of_trace_texts stream ps qs p q =
    let same = one_cut stream p.rest q.rest p.ended q.ended p.cut q.cut in
    p.trace_texts_are ∙ ap (λ es. es ++ last_trace_text p.rest) same.0 ∙ ap (λ r. q.ended ++ last_trace_text r) same.1 ∙ sym q.trace_texts_are

concat-last_trace_text : (rest : List ℕ) → concat (last_trace_text rest) ≡ rest
concat-last_trace_text [] = refl
concat-last_trace_text (b ∷ rest) = append-nil (b ∷ rest)

pub joined_trace_texts : (stream : List ℕ) (pieces : List (List ℕ)) → AreTraceTexts stream pieces → stream ≡ concat pieces
joined_trace_texts stream pieces p =
    p.cut.whole ∙ ap (λ r. concat p.ended ++ r) (sym (concat-last_trace_text p.rest)) ∙ sym (concat-append p.ended (last_trace_text p.rest)) ∙ ap concat (sym p.trace_texts_are)
