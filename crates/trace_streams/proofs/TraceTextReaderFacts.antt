-- Lemmas on what a reader of trace texts has given.
use Rattle.std.proofs.Common.{◌≡◌, ◌∙◌, ℕ, ◌+◌, ◌-◌, ◌≤◌, ◌<◌, List, [], ◌∷◌, ◌++◌, length, take, drop, map, true, false, None, Some, refl, ap, sym, subst, true≢false, inl, inr, arith, append_assoc}
use Rattle.std.specs.Prelude.{IsSome, Option, option_to_list}
use Rattle.std.specs.Global.{Vec}
use Rattle.std.specs.Io.KnownBytes.{Consumes, IsAtEnd}
use Rattle.tso_ops.specs.Values.{rows}
use Rattle.std.proofs.KnownBytes.{Consumes-nil, Consumes-trans, Consumes-whole}
use Rattle.std.proofs.lemmas.List.{append-nil, drop-drop, drop-take, length-append, map-append, take-append-drop}
use Rattle.trace_streams.specs.StreamSplitters.{Cuts, IsAt, IsLastTraceText}
use Rattle.trace_streams.specs.TraceTextReading.{AreFirstBytes, CutsOff, GivesNext, HasGiven, IsPastStream, IsWithinStream, TraceTextReaderValue, first_bytes}
use Rattle.trace_streams.specs.TraceTexts.{last_trace_text}
use Rattle.trace_streams.proofs.TraceTextFacts.{cut_at_start, cut_joined}
use Rattle.trace_streams.specs.Limits.{trace_read_limit}
use Rattle.text_streams.proofs.ReadingFacts.{reads_whole}

-- nothing was read
pub given_at_start : (reader : TraceTextReaderValue) (stream : Option (List ℕ)) → reader.ended ≡ false → reader.uncut ≡ [] → reader.splitter.limit ≡ trace_read_limit → IsAt reader.splitter [] →
    IsWithinStream reader stream stream []
given_at_start reader stream open_yet none limit at = record {
  open_yet = open_yet;
  bytes = [];
  ended = [];
  rest = [];
  taken = subst (Consumes stream stream) (sym none) (Consumes-nil stream);
  cut = cut_at_start;
  limit = limit;
  at = at;
  given_are = refl;
}

-- some of what was read is cut, and trace texts end in it
pub cut_off : (old new : TraceTextReaderValue) (stream now : Option (List ℕ)) (given : List (List ℕ)) (s : IsWithinStream old stream now given) (first : List ℕ) (pieces : List (Vec ℕ)) →
    Cuts old.splitter new.splitter s.rest first pieces → old.uncut ≡ first ++ new.uncut → new.ended ≡ old.ended → IsWithinStream new stream now (given ++ rows pieces)
cut_off old new stream now given s first pieces c whole same = record {
  open_yet = same ∙ s.open_yet;
  bytes = s.bytes ++ first;
  ended = s.ended ++ c.ended;
  rest = c.rest;
  taken = subst (Consumes stream now) (ap (λ t. s.bytes ++ t) whole ∙ sym (append_assoc s.bytes first new.uncut)) s.taken;
  cut = cut_joined s.bytes first s.rest c.rest s.ended c.ended s.cut c.cut;
  limit = c.limit ∙ s.limit;
  at = c.now;
  given_are =
      ap (λ g. g ++ rows pieces) s.given_are
      ∙ ap (λ r. first_bytes s.ended ++ r) (c.kept ∙ ap (λ n. map (λ (piece : List ℕ). take n piece) c.ended) s.limit)
      ∙ sym (map-append (λ (piece : List ℕ). take trace_read_limit piece) s.ended c.ended);
}

-- more was read
pub read_on : (old new : TraceTextReaderValue) (stream before now : Option (List ℕ)) (given : List (List ℕ)) → old.uncut ≡ [] → Consumes before now new.uncut → new.splitter ≡ old.splitter → new.ended ≡ old.ended →
    IsWithinStream old stream before given → IsWithinStream new stream now given
read_on old new stream before now given none more splitter same s =
    let taken : Consumes stream before s.bytes = subst (Consumes stream before) (ap (λ t. s.bytes ++ t) none ∙ append-nil s.bytes) s.taken in
    record {
      open_yet = same ∙ s.open_yet;
      bytes = s.bytes;
      ended = s.ended;
      rest = s.rest;
      taken = Consumes-trans stream before now s.bytes new.uncut taken more;
      cut = s.cut;
      limit = ap (λ c. c.limit) splitter ∙ s.limit;
      at = subst (λ c. IsAt c s.rest) (sym splitter) s.at;
      given_are = s.given_are;
    }

module _ (old new : TraceTextReaderValue) (stream now : Option (List ℕ)) (given : List (List ℕ)) (s : IsWithinStream old stream now given) (none : old.uncut ≡ []) (end : IsAtEnd now) (closed : new.ended ≡ true) where
  all_bytes : Consumes stream now s.bytes
  all_bytes = subst (Consumes stream now) (ap (λ t. s.bytes ++ t) none ∙ append-nil s.bytes) s.taken

  -- all trace texts were given, with these
  past : (more : List (List ℕ)) → more ≡ first_bytes (last_trace_text s.rest) → IsPastStream new stream now (given ++ more)
  past more is = record {
    closed = closed;
    read =
        reads_whole (AreFirstBytes (given ++ more)) stream s.bytes (Consumes-whole stream now s.bytes (λ all. s.bytes ≡ all) all_bytes end refl) (
          s.ended ++ last_trace_text s.rest,
          record { ended = s.ended; rest = s.rest; cut = s.cut; trace_texts_are = refl },
          ap (λ g. g ++ more) s.given_are ∙ ap (λ m. first_bytes s.ended ++ m) is ∙ sym (map-append (λ (piece : List ℕ). take trace_read_limit piece) s.ended (last_trace_text s.rest)),
        );
    taken = Consumes-whole stream now s.bytes (λ all. Consumes stream now all) all_bytes end all_bytes;
  }

  -- the stream is at its end: what follows the last trace text that ended
  pub at_end : (result : Option (Vec ℕ)) → IsLastTraceText old.splitter s.rest result → GivesNext new stream now given result
  at_end None is = subst (IsPastStream new stream now) (append-nil given) (past [] (sym (ap first_bytes is)))
  at_end (Some piece) is = inr (past (piece.items ∷ []) (ap (λ t. t ∷ []) (is.1 ∙ ap (λ n. take n s.rest) s.limit) ∙ sym (ap first_bytes is.0)))

-- one trace text at most ended, and it is taken from these
pub taken_off : (reader : TraceTextReaderValue) (stream now : Option (List ℕ)) (given : List (List ℕ)) (pieces left : List (Vec ℕ)) (result : Option (Vec ℕ)) →
    IsWithinStream reader stream now (given ++ rows pieces) → length pieces ≤ 1 → pieces ≡ left ++ option_to_list result → (0 < length pieces → IsSome result) →
    CutsOff reader stream now given result
taken_off reader stream now given [] left None within few same some = subst (IsWithinStream reader stream now) (append-nil given) within
taken_off reader stream now given (p ∷ pieces) left None within few same some = absurd (true≢false (sym (some (omega arith))))
taken_off reader stream now given pieces [] (Some piece) within few same some = subst (λ ps. IsWithinStream reader stream now (given ++ rows ps)) same within
taken_off reader stream now given pieces (v ∷ left) (Some piece) within few same some =
    let count = ap length same in
    let more = length-append left (piece ∷ []) in
    absurd (omega (arith, count, more, few))

-- before the end of the stream
pub open_given : (reader : TraceTextReaderValue) (stream now : Option (List ℕ)) (given : List (List ℕ)) → reader.ended ≡ false → HasGiven reader stream now given → IsWithinStream reader stream now given
open_given reader stream now given open_yet (inl within) = within
open_given reader stream now given open_yet (inr past) = absurd (other (sym open_yet ∙ past.closed))
  where
    other : false ≡ true → ⊥
    other same = absurd cc

-- and after it
pub past_given : (reader : TraceTextReaderValue) (stream now : Option (List ℕ)) (given : List (List ℕ)) → reader.ended ≡ true → HasGiven reader stream now given → IsPastStream reader stream now given
past_given reader stream now given closed (inr past) = past
past_given reader stream now given closed (inl within) = absurd (other (sym closed ∙ within.open_yet))
  where
    other : true ≡ false → ⊥
    other same = absurd cc

-- ---- the bytes that were read

-- those from a place on, up to the number that were read
pub cut_part : (from to : ℕ) (bytes : List ℕ) → from ≤ to → take (to - from) (drop from bytes) ≡ drop from (take to bytes)
cut_part from to bytes within = sym (drop-take from (to - from) bytes) ∙ ap (λ n. drop from (take n bytes)) (omega arith)

-- and those after some of them
pub uncut_after : (from to count : ℕ) (bytes : List ℕ) → drop from (take to bytes) ≡ take count (drop from (take to bytes)) ++ drop (from + count) (take to bytes)
uncut_after from to count bytes =
    let part = drop from (take to bytes) in
    sym (take-append-drop count part) ∙ ap (λ rest. take count part ++ rest) (drop-drop count from (take to bytes))
