-- Trace texts of a stream, given one after the other.
use Rattle.std.specs.Prelude.{◌≡◌, ◌⊎◌, ℕ, Bool, true, false, List, [], ◌∷◌, ◌++◌, map, take, Option, None, Some, IfSome}
use Rattle.std.specs.Global.{Vec}
use Rattle.std.specs.Io.KnownBytes.{Consumes}
use Rattle.trace_streams.specs.StreamSplitters.{IsAt, StreamSplitterValue}
use Rattle.trace_streams.specs.TraceTexts.{AreTraceTexts, IsSplit}
use Rattle.trace_streams.specs.Limits.{trace_read_limit}
use Rattle.text_streams.specs.Readings.{ReadsAs}

-- of each trace text the first bytes, as many as are kept of a trace text
abbrev pub first_bytes : List (List ℕ) → List (List ℕ)
first_bytes pieces = map (λ piece. take trace_read_limit piece) pieces

-- These are the first bytes of the stream's trace texts, all, in order.
abbrev pub AreFirstBytes : List (List ℕ) → List ℕ → Type 0
AreFirstBytes given stream = (pieces : List (List ℕ)) × AreTraceTexts stream pieces × (given ≡ first_bytes pieces)

-- what cuts the stream, the bytes that were read and aren't cut yet, and whether the stream is at its end
pub record TraceTextReaderValue : Type 0 where
  pub splitter : StreamSplitterValue
  pub uncut : List ℕ
  pub ended : Bool

-- Of the stream, of which this is left now, the reader of trace texts has given these, and not all.
pub record IsWithinStream (reader : TraceTextReaderValue) (stream now : Option (List ℕ)) (given : List (List ℕ)) : Type 0 where
  pub open_yet : reader.ended ≡ false
  pub bytes : List ℕ
  pub ended : List (List ℕ)
  pub rest : List ℕ
  pub taken : Consumes stream now (bytes ++ reader.uncut)
  pub cut : IsSplit bytes ended rest
  pub limit : reader.splitter.limit ≡ trace_read_limit
  pub at : IsAt reader.splitter rest
  pub given_are : given ≡ first_bytes ended

-- It has given all trace texts of the stream, of which nothing is left.
pub record IsPastStream (reader : TraceTextReaderValue) (stream now : Option (List ℕ)) (given : List (List ℕ)) : Type 0 where
  pub closed : reader.ended ≡ true
  pub read : ReadsAs stream (AreFirstBytes given)
  pub taken : IfSome stream (λ all. Consumes stream now all)

-- It has given the first bytes of these trace texts, which are the first of the stream.
abbrev pub HasGiven : TraceTextReaderValue → Option (List ℕ) → Option (List ℕ) → List (List ℕ) → Type 0
HasGiven reader stream now given = IsWithinStream reader stream now given ⊎ IsPastStream reader stream now given

-- The first bytes of the next trace text, or None after the last one.
abbrev pub GivesNext : TraceTextReaderValue → Option (List ℕ) → Option (List ℕ) → List (List ℕ) → Option (Vec ℕ) → Type 0
GivesNext reader stream now given (Some piece) = HasGiven reader stream now (given ++ piece.items ∷ [])
GivesNext reader stream now given None = IsPastStream reader stream now given

-- The first bytes of the next trace text that ends in what was read, or None where none ends there.
abbrev pub CutsOff : TraceTextReaderValue → Option (List ℕ) → Option (List ℕ) → List (List ℕ) → Option (Vec ℕ) → Type 0
CutsOff reader stream now given (Some piece) = IsWithinStream reader stream now (given ++ piece.items ∷ [])
CutsOff reader stream now given None = IsWithinStream reader stream now given
