-- How far a search for the trace text of one number has come.
use Rattle.std.specs.Prelude.{◌≡◌, ◌+◌, ◌-◌, ◌++◌, ℕ, List, [], ◌∷◌, length, take, Option, None, Some}
use Rattle.std.specs.Global.{Vec}
use Rattle.std.specs.Io.KnownBytes.{Consumes}
use Rattle.trace_streams.specs.StreamSplitters.{StreamSplitterValue, Cuts, IsAt}
use Rattle.trace_streams.specs.TraceTexts.{IsSplit}
use Rattle.trace_streams.specs.declared.nth_trace_texts.Search.{Search}
use Rattle.trace_streams.specs.Limits.{trace_read_limit}

-- What the next bytes of the stream, after these, gave: none of the trace texts that end in them is the one that is searched for, or this is, after as many as
-- were still to end before it.
abbrev pub Finds : Search → Search → List ℕ → List ℕ → Option (Vec ℕ) → Type 0
Finds old new bytes chunk None = (pieces : List (Vec ℕ)) × Cuts old.splitter new.splitter bytes chunk pieces × (length pieces + new.before ≡ old.before)
Finds old new bytes chunk (Some piece) =
    (pieces : List (Vec ℕ)) × (count : ℕ) × (splitter : StreamSplitterValue) × Cuts old.splitter splitter bytes (take count chunk) (pieces ++ piece ∷ []) × (length pieces ≡ old.before)

-- All that was read is cut, and the trace text of this number has not ended in it.
pub record IsBefore (number : ℕ) (remaining now : Option (List ℕ)) (search : Search) : Type 0 where
  pub bytes : List ℕ
  pub taken : Consumes remaining now bytes
  pub ended : List (List ℕ)
  pub rest : List ℕ
  pub cut : IsSplit bytes ended rest
  pub limit : search.splitter.limit ≡ trace_read_limit
  pub at : IsAt search.splitter rest
  pub count : length ended + search.before ≡ number - 1
