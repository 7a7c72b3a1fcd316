-- Lemmas on what a splitter keeps.
use Rattle.std.proofs.Common.{◌≡◌, ◌≢◌, ℕ, zero, suc, ◌++◌, List, [], ◌∷◌, ◌+◌, ◌-◌, ◌<◌, ◌≤◌, drop, get_or, length, take, map, refl, ap, sym, subst, ◌∙◌, arith, append_assoc, None, Option, Some}
use Rattle.std.specs.Global.{Vec}
use Rattle.std.proofs.Math.Seq.{take-add}
use Rattle.std.proofs.lemmas.List.{append-nil, drop-append-le, drop-take, drop_all, length-append, length-drop, length-take, take_all, take_more, take_rest, map-append}
use Rattle.std.proofs.lemmas.List.Elements.{All-cons, All-nil}
use Rattle.trace_streams.specs.StreamSplitters.{StreamSplitterValue, Cuts, IsAt, TakesStretch, part_at}
use Rattle.trace_streams.specs.TraceTexts.{EndsWithin, IsSplit, IsEndedText, end_line}
use Rattle.trace_streams.proofs.TraceTextFacts.{cut_joined, ends_later, ends_line, ends_trace_text}

-- ---- lines

-- a part of a short line is its first 4 bytes
kept_whole : (part after : List ℕ) → length (take 4 part ++ after) ≡ 3 → take 4 part ≡ part
kept_whole part after short =
    let both = length-append (take 4 part) after in
    let kept = length-take 4 part in
    take_all 4 part (omega (arith, short, both, kept))

-- the first 4 bytes of a part tell whether the line is `end`
whole_line : (part after : List ℕ) → take 4 part ++ after ≡ end_line → part ++ after ≡ end_line
whole_line part after is = ap (λ p. p ++ after) (sym (kept_whole part after (ap length is))) ∙ is

kept_line : (part after : List ℕ) → part ++ after ≡ end_line → take 4 part ++ after ≡ end_line
kept_line part after is =
    let both = length-append part after in
    let short : length (part ++ after) ≡ 3 = ap length is in
    ap (λ p. p ++ after) (take_all 4 part (omega (arith, short, both))) ∙ is

-- nothing of the part is of a later line
pub part_later : (start : ℕ) (part : List ℕ) → 0 < start → part_at start part ≡ []
part_later zero part later = absurd (omega (arith, later))
part_later (suc start) part later = refl

-- and all of it is of the first one
pub part_first : (start : ℕ) (part : List ℕ) → start ≤ 0 → part_at start part ≡ part
part_first zero part first = refl
part_first (suc start) part first = absurd (omega (arith, first))

-- a chunk up to a byte of it, the last line of which is this part and what follows the line's start in the chunk
module _ (bytes part chunk : List ℕ) (start i : ℕ) (reached : start ≤ i) (inside : i < length chunk) (ends : EndsWithin (bytes ++ take i chunk) (part ++ drop start (take i chunk))) where
  abbrev last : List ℕ
  last = part ++ drop start (take i chunk)

  with_byte : (bytes ++ take i chunk) ++ get_or chunk i 0 ∷ [] ≡ bytes ++ take (i + 1) chunk
  with_byte = append_assoc bytes (take i chunk) (get_or chunk i 0 ∷ []) ∙ ap (λ t. bytes ++ t) (sym (take_more chunk i 0 inside))

  line_with_byte : last ++ get_or chunk i 0 ∷ [] ≡ part ++ drop start (take (i + 1) chunk)
  line_with_byte =
      let count = length-take i chunk in
      append_assoc part (drop start (take i chunk)) (get_or chunk i 0 ∷ [])
      ∙ ap (λ t. part ++ t)
      (sym (drop-append-le start (take i chunk) (get_or chunk i 0 ∷ []) (omega (arith, count, reached, inside))) ∙ ap (drop start) (sym (take_more chunk i 0 inside)))

  -- the byte ends no line
  pub within_line : get_or chunk i 0 ≢ 10 → EndsWithin (bytes ++ take (i + 1) chunk) (part ++ drop start (take (i + 1) chunk))
  within_line other =
      subst (λ b. EndsWithin b (part ++ drop start (take (i + 1) chunk))) with_byte
      (subst (EndsWithin ((bytes ++ take i chunk) ++ get_or chunk i 0 ∷ [])) line_with_byte (ends_later (bytes ++ take i chunk) last (get_or chunk i 0) other ends))

  of_line : take (i - start) (drop start chunk) ≡ drop start (take i chunk)
  of_line =
      let count : start + (i - start) ≡ i = omega (arith, reached) in
      sym (drop-take start (i - start) chunk) ∙ ap (λ n. drop start (take n chunk)) count

  with_line_end : get_or chunk i 0 ≡ 10 → (bytes ++ take i chunk) ++ 10 ∷ [] ≡ bytes ++ take (i + 1) chunk
  with_line_end is = ap (λ b. (bytes ++ take i chunk) ++ b ∷ []) (sym is) ∙ with_byte

  module _ (before : List ℕ) (kept : before ≡ take 4 part) (is : get_or chunk i 0 ≡ 10) where
    -- it ends a line other than `end`
    pub at_line_end : before ++ take (i - start) (drop start chunk) ≢ end_line → EndsWithin (bytes ++ take (i + 1) chunk) []
    at_line_end other =
        subst (λ b. EndsWithin b []) (with_line_end is)
        (ends_line (bytes ++ take i chunk) last (λ end. other (ap (λ b. b ++ take (i - start) (drop start chunk)) kept ∙ ap (λ t. take 4 part ++ t) of_line ∙ kept_line part (drop start (take i chunk)) end)) ends)

    -- it ends a line `end`
    pub at_trace_text_end : before ++ take (i - start) (drop start chunk) ≡ end_line → IsEndedText (bytes ++ take (i + 1) chunk)
    at_trace_text_end end =
        subst IsEndedText (with_line_end is)
        (ends_trace_text (bytes ++ take i chunk) last (whole_line part (drop start (take i chunk)) (ap (λ t. take 4 part ++ t) (sym of_line) ∙ ap (λ b. b ++ take (i - start) (drop start chunk)) (sym kept) ∙ end)) ends)

-- the last line begins after that byte
pub line_begins : (bytes part chunk : List ℕ) (i : ℕ) → EndsWithin (bytes ++ take (i + 1) chunk) [] → EndsWithin (bytes ++ take (i + 1) chunk) (part_at (i + 1) part ++ drop (i + 1) (take (i + 1) chunk))
line_begins bytes part chunk i ends =
    let count = length-take (i + 1) chunk in
    let none : drop (i + 1) (take (i + 1) chunk) ≡ [] = drop_all (i + 1) (take (i + 1) chunk) (omega (arith, count)) in
    subst (EndsWithin (bytes ++ take (i + 1) chunk)) (sym (ap (λ p. p ++ drop (i + 1) (take (i + 1) chunk)) (part_later (i + 1) part (omega arith)) ∙ none)) ends

-- ---- a chunk

-- nothing of it
pub cuts_start : (old : StreamSplitterValue) (bytes : List ℕ) → IsAt old bytes → Cuts old old bytes [] []
cuts_start old bytes at = record {
  ended = [];
  rest = bytes;
  cut = record { each = All-nil IsEndedText; no_end = (at.part, at.ends); whole = append-nil bytes };
  kept = refl;
  limit = refl;
  now = at;
}

-- a stretch more of it, in which no trace text ends
cuts_later : (old mid new : StreamSplitterValue) (bytes chunk stretch : List ℕ) (pieces : List (Vec ℕ)) → Cuts old mid bytes chunk pieces → new.limit ≡ mid.limit →
    ((rest : List ℕ) → IsAt mid rest → IsAt new (rest ++ stretch)) → Cuts old new bytes (chunk ++ stretch) pieces
cuts_later old mid new bytes chunk stretch pieces before limit takes =
    let now = takes before.rest before.now in
    let last = before.rest ++ stretch in
    let after : IsSplit last [] last = record { each = All-nil IsEndedText; no_end = (now.part, now.ends); whole = refl } in
    let joined = cut_joined (bytes ++ chunk) stretch before.rest last before.ended [] before.cut after in
    record {
      ended = before.ended;
      rest = last;
      cut = subst (λ s. IsSplit s before.ended last) (append_assoc bytes chunk stretch) (subst (λ e. IsSplit ((bytes ++ chunk) ++ stretch) e last) (append-nil before.ended) joined);
      kept = before.kept;
      limit = limit ∙ before.limit;
      now = now;
    }

-- a stretch more of it, which ends a trace text
cuts_trace_text : (old mid new : StreamSplitterValue) (bytes chunk stretch : List ℕ) (pieces : List (Vec ℕ)) (piece : Vec ℕ) → Cuts old mid bytes chunk pieces → new.limit ≡ mid.limit →
    ((rest : List ℕ) → IsAt mid rest → TakesStretch mid new rest stretch (Some piece)) → Cuts old new bytes (chunk ++ stretch) (pieces ++ piece ∷ [])
cuts_trace_text old mid new bytes chunk stretch pieces piece before limit takes =
    let now = takes before.rest before.now in
    let whole = before.rest ++ stretch in
    let after : IsSplit whole (whole ∷ []) [] = record {
      each = All-cons IsEndedText whole [] now.0 (All-nil IsEndedText);
      no_end = (now.2.part, now.2.ends);
      whole = sym (append-nil whole) ∙ sym (append-nil (whole ++ []));
    } in
    let joined = cut_joined (bytes ++ chunk) stretch before.rest [] before.ended (whole ∷ []) before.cut after in
    let first : List ℕ → List ℕ = λ p. take old.limit p in
    record {
      ended = before.ended ++ whole ∷ [];
      rest = [];
      cut = subst (λ s. IsSplit s (before.ended ++ whole ∷ []) []) (append_assoc bytes chunk stretch) joined;
      kept =
          map-append (λ (row : Vec ℕ). row.items) pieces (piece ∷ []) ∙ ap (λ rs. rs ++ piece.items ∷ []) before.kept
          ∙ ap (λ r. map first before.ended ++ r ∷ []) (now.1 ∙ ap (λ n. take n whole) before.limit) ∙ sym (map-append first before.ended (whole ∷ []));
      limit = limit ∙ before.limit;
      now = now.2;
    }

-- as many bytes as the rest of the chunk has
pub within_chunk : (chunk : List ℕ) (from count : ℕ) → from ≤ length chunk → count ≤ length (take (length chunk - from) (drop from chunk)) → from + count ≤ length chunk
within_chunk chunk from count so_far more =
    let rest = ap length (take_rest chunk from) in
    let left = length-drop from chunk in
    omega (arith, rest, left, so_far, more)

-- the next bytes of the chunk, after those up to a place, which were taken
module _ (old mid new : StreamSplitterValue) (bytes chunk : List ℕ) (from count : ℕ) (answer : Option (Vec ℕ)) (pieces : List (Vec ℕ)) (before : Cuts old mid bytes (take from chunk) pieces) (limit : new.limit ≡ mid.limit)
    (takes : (rest : List ℕ) → IsAt mid rest → TakesStretch mid new rest (take count (take (length chunk - from) (drop from chunk))) answer) where
  with_taken : take from chunk ++ take count (take (length chunk - from) (drop from chunk)) ≡ take (from + count) chunk
  with_taken = ap (λ d. take from chunk ++ take count d) (take_rest chunk from) ∙ sym (take-add from count chunk)

  -- no trace text ends in them
  pub cuts_on : answer ≡ None → Cuts old new bytes (take (from + count) chunk) pieces
  cuts_on is =
      let next = take count (take (length chunk - from) (drop from chunk)) in
      subst (λ t. Cuts old new bytes t pieces) with_taken (cuts_later old mid new bytes (take from chunk) next pieces before limit (λ rest now. subst (TakesStretch mid new rest next) is (takes rest now)))

  -- they end a trace text
  pub cuts_one : (piece : Vec ℕ) → answer ≡ Some piece → Cuts old new bytes (take (from + count) chunk) (pieces ++ piece ∷ [])
  cuts_one piece is =
      let next = take count (take (length chunk - from) (drop from chunk)) in
      subst (λ t. Cuts old new bytes t (pieces ++ piece ∷ [])) with_taken
      (cuts_trace_text old mid new bytes (take from chunk) next pieces piece before limit (λ rest now. subst (TakesStretch mid new rest next) is (takes rest now)))
