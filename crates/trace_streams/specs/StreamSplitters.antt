-- What a splitter keeps of a stream, and which trace texts it gives.
use Rattle.std.specs.Prelude.{◌≡◌, ◌≤◌, ◌<◌, ℕ, zero, suc, List, [], ◌∷◌, ◌++◌, drop, length, map, take, Option, None, Some}
use Rattle.std.specs.Global.{Vec}
use Rattle.tso_ops.specs.Values.{rows}
use Rattle.trace_streams.specs.TraceTexts.{EndsWithin, IsSplit, IsEndedText, last_trace_text}
use Rattle.trace_streams.specs.declared.stream_splitters.Found.{Found}
use Rattle.trace_streams.specs.declared.stream_splitters.Found.TheVariants.{TraceTextEnd, LastLine}

-- of a trace text the first bytes, as many as the limit, and of a line the first 4
pub record StreamSplitterValue : Type 0 where
  pub limit : ℕ
  pub kept : List ℕ
  pub line : List ℕ

-- These bytes came after the last trace text that ended.
pub record IsAt (splitter : StreamSplitterValue) (bytes : List ℕ) : Type 0 where
  pub part : List ℕ
  pub ends : EndsWithin bytes part
  pub kept : splitter.kept ≡ take splitter.limit bytes
  pub line : splitter.line ≡ take 4 part

-- of a part of a line before a chunk, what is of the line that begins at this place of the chunk: all of it at the chunk's start, and nothing later
abbrev pub part_at : ℕ → List ℕ → List ℕ
part_at zero part = part
part_at (suc start) part = []

-- These bytes end with this part of a line. After them the chunk's bytes up to this place end a trace text, or no trace text ends in the chunk, and its last
-- line begins at this place, or with the part.
abbrev pub IsFound : List ℕ → List ℕ → List ℕ → Found → Type 0
IsFound bytes part chunk (TraceTextEnd end) = IsEndedText (bytes ++ take end chunk)
IsFound bytes part chunk (LastLine start) = EndsWithin (bytes ++ chunk) (part_at start part ++ drop start chunk)

-- These places are in the chunk, and a trace text that ends in it has a byte of it.
abbrev pub IsPlaceOf : List ℕ → Found → Type 0
IsPlaceOf chunk (TraceTextEnd end) = (0 < end) × (end ≤ length chunk)
IsPlaceOf chunk (LastLine start) = start ≤ length chunk

-- The stretch after these bytes ends a trace text, whose first bytes these are, or no trace text ends in it.
abbrev pub TakesStretch : StreamSplitterValue → StreamSplitterValue → List ℕ → List ℕ → Option (Vec ℕ) → Type 0
TakesStretch old new bytes stretch None = IsAt new (bytes ++ stretch)
TakesStretch old new bytes stretch (Some piece) = IsEndedText (bytes ++ stretch) × (piece.items ≡ take old.limit (bytes ++ stretch)) × IsAt new []

-- These are the first bytes of the trace texts that end in the chunk after these bytes.
pub record Cuts (old new : StreamSplitterValue) (bytes chunk : List ℕ) (pieces : List (Vec ℕ)) : Type 0 where
  pub ended : List (List ℕ)
  pub rest : List ℕ
  pub cut : IsSplit (bytes ++ chunk) ended rest
  pub kept : rows pieces ≡ map (λ piece. take old.limit piece) ended
  pub limit : new.limit ≡ old.limit
  pub now : IsAt new rest

-- the first bytes of the last trace text, if there is one
abbrev pub IsLastTraceText : StreamSplitterValue → List ℕ → Option (Vec ℕ) → Type 0
IsLastTraceText splitter bytes None = last_trace_text bytes ≡ []
IsLastTraceText splitter bytes (Some piece) = (last_trace_text bytes ≡ bytes ∷ []) × (piece.items ≡ take splitter.limit bytes)
