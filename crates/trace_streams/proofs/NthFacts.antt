-- Lemmas on the search for the trace text of one number.
use Rattle.std.proofs.Common.{◌≡◌, ◌≢◌, ◌∙◌, ℕ, zero, suc, ◌+◌, ◌-◌, ◌<◌, List, [], ◌∷◌, ◌++◌, length, take, drop, map, None, Some, IfSome, refl, ap, sym, subst, arith, append_assoc}
use Rattle.std.specs.Prelude.{Option, option_map, slice_get}
use Rattle.std.specs.Global.{Vec}
use Rattle.std.specs.Io.KnownBytes.{Consumes, IsAtEnd}
use Rattle.tso_ops.specs.Values.{rows}
use Rattle.std.proofs.KnownBytes.{Consumes-nil, Consumes-trans, Consumes-whole}
use Rattle.std.proofs.lemmas.List.{append-nil, length-append, length-map, take-append-drop}
use Rattle.std.proofs.lemmas.Option.{slice_get-map, slice_get_past}
use Rattle.trace_streams.specs.StreamSplitters.{StreamSplitterValue, Cuts, IsAt, IsLastTraceText, TakesStretch}
use Rattle.trace_streams.specs.Internal.Searches.{Finds, IsBefore}
use Rattle.trace_streams.specs.NthTraceTexts.{IsKeptOfNth}
use Rattle.trace_streams.specs.TraceTexts.{AreTraceTexts, last_trace_text}
use Rattle.trace_streams.specs.declared.nth_trace_texts.Search.{Search}
use Rattle.trace_streams.proofs.StreamSplitterFacts.{cuts_on, cuts_one, cuts_start}
use Rattle.trace_streams.proofs.TraceTextFacts.{cut_at_start, cut_joined, some_cut}
use Rattle.trace_streams.specs.Limits.{trace_read_limit}
use Rattle.text_streams.specs.Readings.{ReadsAs}
use Rattle.text_streams.proofs.ReadingFacts.{reads_whole}

-- ---- elements of joined lists

zero_plus : (k : ℕ) → 0 + k ≡ k
zero_plus k = omega arith

suc_plus : (a b : ℕ) → suc a + b ≡ suc (a + b)
suc_plus a b = omega arith

-- one after the first list
after_first : {X : Type 0} (xs ys : List X) (k : ℕ) → slice_get (xs ++ ys) (length xs + k) ≡ slice_get ys k
after_first [] ys k = ap (slice_get ys) (zero_plus k)
after_first (x ∷ xs) ys k = ap (slice_get (x ∷ (xs ++ ys))) (suc_plus (length xs) k) ∙ after_first xs ys k

-- one in it
in_first : {X : Type 0} (xs ys : List X) (k : ℕ) → k < length xs → slice_get (xs ++ ys) k ≡ slice_get xs k
in_first [] ys k inside = absurd (omega (arith, inside))
in_first (x ∷ xs) ys zero inside = refl
in_first (x ∷ xs) ys (suc k) inside = in_first xs ys k (omega (arith, inside))

-- the last one
at_last : {X : Type 0} (xs : List X) (x : X) → slice_get (xs ++ x ∷ []) (length xs) ≡ Some x
at_last [] x = refl
at_last (y ∷ xs) x = at_last xs x

-- ---- what was kept of the trace texts that ended

module _ (limit : ℕ) (pieces : List (Vec ℕ)) (ended : List (List ℕ)) (are : rows pieces ≡ map (λ piece. take limit piece) ended) where
  as_many : length pieces ≡ length ended
  as_many =
      let first = length-map pieces (λ (row : Vec ℕ). row.items) in
      let second = length-map ended (λ (piece : List ℕ). take limit piece) in
      let same = ap length are in
      omega (arith, first, second, same)

kept_last : (limit : ℕ) (pieces : List (Vec ℕ)) (piece : Vec ℕ) (ended : List (List ℕ)) → rows (pieces ++ piece ∷ []) ≡ map (λ piece. take limit piece) ended →
    Some piece.items ≡ option_map (take limit) (slice_get ended (length pieces))
kept_last limit pieces piece ended are =
    sym (slice_get-map (λ (row : Vec ℕ). row.items) (pieces ++ piece ∷ []) (length pieces) ∙ ap (option_map (λ (row : Vec ℕ). row.items)) (at_last pieces piece))
    ∙ ap (λ (rs : List (List ℕ)). slice_get rs (length pieces)) are ∙ slice_get-map (take limit) ended (length pieces)

-- ---- a chunk, stretch by stretch

-- nothing of it
pub finds_start : (old : Search) (bytes : List ℕ) → IsAt old.splitter bytes → Finds old old bytes [] None
finds_start old bytes at = ([], cuts_start old.splitter bytes at, zero_plus old.before)

module _ (old mid : Search) (after : StreamSplitterValue) (bytes chunk : List ℕ) (from count : ℕ) (answer : Option (Vec ℕ)) (limit : after.limit ≡ mid.splitter.limit)
    (takes : (rest : List ℕ) → IsAt mid.splitter rest → TakesStretch mid.splitter after rest (take count (take (length chunk - from) (drop from chunk))) answer) (so_far : Finds old mid bytes (take from chunk) None) where
  -- the next bytes, in which no trace text ends
  pub finds_on : answer ≡ None → Finds old (record { splitter = after; before = mid.before }) bytes (take (from + count) chunk) None
  finds_on none = (so_far.0, cuts_on old.splitter mid.splitter after bytes chunk from count answer so_far.0 so_far.1 limit takes none, so_far.2)

  module _ (piece : Vec ℕ) (is : answer ≡ Some piece) where
    cuts_also : Cuts old.splitter after bytes (take (from + count) chunk) (so_far.0 ++ piece ∷ [])
    cuts_also = cuts_one old.splitter mid.splitter after bytes chunk from count answer so_far.0 so_far.1 limit takes piece is

    -- those that end a trace text before
    pub finds_later : mid.before ≢ 0 → Finds old (record { splitter = after; before = mid.before - 1 }) bytes (take (from + count) chunk) None
    finds_later some =
        let more = length-append so_far.0 (piece ∷ []) in
        let before = so_far.2 in
        (so_far.0 ++ piece ∷ [], cuts_also, omega (arith, more, before, some))

    -- those that end the trace text
    pub finds_it : mid.before ≡ 0 → (new : Search) → Finds old new bytes chunk (Some piece)
    finds_it none new =
        let before = so_far.2 in
        (so_far.0, from + count, after, cuts_also, omega (arith, before, none))

-- ---- while the stream is read

pub before_start : (number : ℕ) (remaining : Option (List ℕ)) (search : Search) → search.splitter.limit ≡ trace_read_limit → IsAt search.splitter [] → search.before ≡ number - 1 →
    IsBefore number remaining remaining search
before_start number remaining search limit at count = record {
  bytes = [];
  taken = Consumes-nil remaining;
  ended = [];
  rest = [];
  cut = cut_at_start;
  limit = limit;
  at = at;
  count = zero_plus search.before ∙ count;
}

-- a read that gave nothing
pub before_later : (number : ℕ) (remaining before now : Option (List ℕ)) (search : Search) (chunk : List ℕ) (count : ℕ) → count ≡ 0 → IsBefore number remaining before search → Consumes before now (take count chunk) →
    IsBefore number remaining now search
before_later number remaining before now search chunk count none s taken = record {
  bytes = s.bytes;
  taken = subst (Consumes remaining now) (ap (λ n. s.bytes ++ take n chunk) none ∙ append-nil s.bytes) (Consumes-trans remaining before now s.bytes (take count chunk) s.taken taken);
  ended = s.ended;
  rest = s.rest;
  cut = s.cut;
  limit = s.limit;
  at = s.at;
  count = s.count;
}

-- what of known bytes is left after some of the last that were read
left_of : (remaining now : Option (List ℕ)) (bytes chunk : List ℕ) (n : ℕ) → Consumes remaining now (bytes ++ chunk) → (later : List ℕ) × IfSome remaining (λ all. (bytes ++ take n chunk) ++ later ≡ all)
left_of None now bytes chunk n taken = ([], tt)
left_of (Some all) None bytes chunk n taken = absurd taken
left_of (Some all) (Some rest) bytes chunk n taken = (
  drop n chunk ++ rest,
  append_assoc bytes (take n chunk) (drop n chunk ++ rest)
      ∙ ap (λ t. bytes ++ t) (sym (append_assoc (take n chunk) (drop n chunk) rest) ∙ ap (λ t. t ++ rest) (take-append-drop n chunk))
      ∙ sym (append_assoc bytes chunk rest) ∙ sym taken,
)

module _ (number : ℕ) (remaining before now : Option (List ℕ)) (old new : Search) (s : IsBefore number remaining before old) (chunk : List ℕ) (taken : Consumes before now chunk) where
  all_taken : Consumes remaining now (s.bytes ++ chunk)
  all_taken = Consumes-trans remaining before now s.bytes chunk s.taken taken

  -- the trace text isn't among those that ended
  pub before_more : ((bytes : List ℕ) → IsAt old.splitter bytes → Finds old new bytes chunk None) → IsBefore number remaining now new
  before_more finds =
      let found = finds s.rest s.at in
      let c = found.1 in
      record {
        bytes = s.bytes ++ chunk;
        taken = all_taken;
        ended = s.ended ++ c.ended;
        rest = c.rest;
        cut = cut_joined s.bytes chunk s.rest c.rest s.ended c.ended s.cut c.cut;
        limit = c.limit ∙ s.limit;
        at = c.now;
        count =
            (let many = as_many old.splitter.limit found.0 c.ended c.kept in
            let more = found.2 in
            let both = length-append s.ended c.ended in
            let first = s.count in
            omega (arith, many, more, both, first));
      }

  -- it is the last of them
  module _ (pieces : List (Vec ℕ)) (piece : Vec ℕ) (n : ℕ) (splitter : StreamSplitterValue) (c : Cuts old.splitter splitter s.rest (take n chunk) (pieces ++ piece ∷ [])) (many : length pieces ≡ old.before) where
    within : length pieces < length c.ended
    within =
        let all = as_many old.splitter.limit (pieces ++ piece ∷ []) c.ended c.kept in
        let more = length-append pieces (piece ∷ []) in
        omega (arith, all, more)

    trace_text_kept : (later : List ℕ) → IsKeptOfNth number ((s.bytes ++ take n chunk) ++ later) (Some piece.items)
    trace_text_kept later =
        let joined = cut_joined s.bytes (take n chunk) s.rest c.rest s.ended c.ended s.cut c.cut in
        let more = some_cut later c.rest joined.no_end.0 joined.no_end.1 in
        let after = more.0 ++ last_trace_text more.1 in
        let all = ((s.ended ++ c.ended) ++ more.0) ++ last_trace_text more.1 in
        let order : all ≡ s.ended ++ (c.ended ++ after) = append_assoc (s.ended ++ c.ended) more.0 (last_trace_text more.1) ∙ append_assoc s.ended c.ended after in
        let place : number - 1 ≡ length s.ended + length pieces = (let first = s.count in omega (arith, first, many)) in
        let there : slice_get all (number - 1) ≡ slice_get c.ended (length pieces) =
        ap (λ (ps : List (List ℕ)). slice_get ps (number - 1)) order ∙ ap (slice_get (s.ended ++ (c.ended ++ after))) place ∙ after_first s.ended (c.ended ++ after) (length pieces)
        ∙ in_first c.ended after (length pieces) within in
        let are : AreTraceTexts ((s.bytes ++ take n chunk) ++ later) all =
        record { ended = (s.ended ++ c.ended) ++ more.0; rest = more.1; cut = cut_joined (s.bytes ++ take n chunk) later c.rest more.1 (s.ended ++ c.ended) more.0 joined more.2; trace_texts_are = refl } in (
          slice_get c.ended (length pieces),
          (all, are, sym there),
          kept_last old.splitter.limit pieces piece c.ended c.kept ∙ ap (λ limit. option_map (take limit) (slice_get c.ended (length pieces))) s.limit,
        )

    last_of_ended : ReadsAs remaining (λ stream. IsKeptOfNth number stream (Some piece.items))
    last_of_ended =
        let left = left_of remaining now s.bytes chunk n all_taken in
        reads_whole (λ stream. IsKeptOfNth number stream (Some piece.items)) remaining ((s.bytes ++ take n chunk) ++ left.0) left.1 (trace_text_kept left.0)

  pub trace_text_read : (piece : Vec ℕ) → ((bytes : List ℕ) → IsAt old.splitter bytes → Finds old new bytes chunk (Some piece)) → ReadsAs remaining (λ stream. IsKeptOfNth number stream (Some piece.items))
  trace_text_read piece finds =
      let found = finds s.rest s.at in
      last_of_ended found.0 piece found.1 found.2 found.3 found.4

  -- these bytes were taken
  pub bytes_taken : (bytes : List ℕ) × Consumes remaining now bytes
  bytes_taken = (s.bytes ++ chunk, all_taken)

-- ---- at the end of the stream

module _ (number : ℕ) (remaining now : Option (List ℕ)) (search : Search) (s : IsBefore number remaining now search) (end : IsAtEnd now) where
  pub whole_taken : IfSome remaining (λ all. Consumes remaining now all)
  whole_taken = Consumes-whole remaining now s.bytes (λ all. Consumes remaining now all) s.taken end s.taken

  -- what is kept of the trace text of the whole stream
  of_whole : (kept : Option (List ℕ)) → IsKeptOfNth number s.bytes kept → ReadsAs remaining (λ stream. IsKeptOfNth number stream kept)
  of_whole kept is = reads_whole (λ stream. IsKeptOfNth number stream kept) remaining s.bytes (Consumes-whole remaining now s.bytes (λ all. s.bytes ≡ all) s.taken end refl) is

  abbrev all : List (List ℕ)
  all = s.ended ++ last_trace_text s.rest

  are : AreTraceTexts s.bytes all
  are = record { ended = s.ended; rest = s.rest; cut = s.cut; trace_texts_are = refl }

  few : length (last_trace_text s.rest) < 2
  few = go s.rest
    where
      go : (rest : List ℕ) → length (last_trace_text rest) < 2
      go [] = omega arith
      go (b ∷ rest) = omega arith

  -- there are fewer
  fewer : 0 < search.before → IsKeptOfNth number s.bytes None
  fewer some =
      let both = length-append s.ended (last_trace_text s.rest) in
      let count = s.count in
      let most = few in
      (None, (all, are, sym (slice_get_past all (number - 1) (omega (arith, both, count, most, some)))), refl)

  -- it is the last one, if there is a last one
  last_kept : search.before ≡ 0 → (result : Option (Vec ℕ)) → IsLastTraceText search.splitter s.rest result → IsKeptOfNth number s.bytes (option_map (λ piece. piece.items) result)
  last_kept none result is =
      let place : number - 1 ≡ length s.ended + 0 = (let count = s.count in omega (arith, count, none)) in
      let there : slice_get all (number - 1) ≡ slice_get (last_trace_text s.rest) 0 = ap (slice_get all) place ∙ after_first s.ended (last_trace_text s.rest) 0 in
      (slice_get (last_trace_text s.rest) 0, (all, are, sym there), go result is)
    where
      go : (result : Option (Vec ℕ)) → IsLastTraceText search.splitter s.rest result → option_map (λ piece. piece.items) result ≡ option_map (take trace_read_limit) (slice_get (last_trace_text s.rest) 0)
      go None is = sym (ap (λ (ps : List (List ℕ)). option_map (take trace_read_limit) (slice_get ps 0)) is)
      go (Some piece) is =
          ap Some (is.1 ∙ ap (λ limit. take limit s.rest) s.limit) ∙ sym (ap (λ (ps : List (List ℕ)). option_map (take trace_read_limit) (slice_get ps 0)) is.0)

  pub end_read : (result : Option (Vec ℕ)) → (search.before ≡ 0 → (bytes : List ℕ) → IsAt search.splitter bytes → IsLastTraceText search.splitter bytes result) → (0 < search.before → result ≡ None) →
      ReadsAs remaining (λ stream. IsKeptOfNth number stream (option_map (λ piece. piece.items) result))
  end_read result last none = go search.before refl
    where
      go : (n : ℕ) → search.before ≡ n → ReadsAs remaining (λ stream. IsKeptOfNth number stream (option_map (λ piece. piece.items) result))
      go zero e = of_whole (option_map (λ piece. piece.items) result) (last_kept e result (last e s.rest s.at))
      go (suc n) e =
          let some : 0 < search.before = omega (arith, e) in
          subst (λ (r : Option (Vec ℕ)). ReadsAs remaining (λ stream. IsKeptOfNth number stream (option_map (λ piece. piece.items) r))) (sym (none some)) (of_whole None (fewer some))
