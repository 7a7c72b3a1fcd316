-- Traces that are cut out of a log: some operations of each processor, in their order, with other addresses and values.
use Rattle.std.specs.Prelude.{◌≡◌, ℕ, suc, ◌+◌, List, [], ◌∷◌, ◌++◌, map, Some, slice_get, get_or, nat_eq}
use Rattle.std.specs.List.{IsDistinct}
use Rattle.tso_ops.specs.declared.ops.Outcome.{Outcome}
use Rattle.tso_ops.specs.declared.ops.Outcome.TheVariants.{Ld, St, Sw, Mb, Sb}
use Rattle.tso_ops.specs.Values.{TraceValue, op_of}
use Rattle.tso_ops.specs.Limits.{event_count, total_events}
use Rattle.tso_ops.specs.Events.{IsLoad, HasSource}
use Rattle.log_selections.specs.Sources.{IsOnlySource}

-- What is kept of an operation of the log, whose first event has number n, and the numbers in the log of the events that this gives. Address b
-- of the trace is the log's address at place b of `addresses`. Values may be any: which of them are equal follows from the sources of loads, below.
pub data IsKept (addresses : List ℕ) : ℕ → Outcome → List Outcome → List ℕ → Type 0 where
  -- an operation or a barrier is left out
  nothing : (n : ℕ) (x : Outcome) → IsKept addresses n x [] []
  -- it is kept
  load : (n a b r q : ℕ) → slice_get addresses b ≡ Some a → IsKept addresses n (Ld a r) (Ld b q ∷ []) (n ∷ [])
  store : (n a b v w : ℕ) → slice_get addresses b ≡ Some a → IsKept addresses n (St a v) (St b w ∷ []) (n ∷ [])
  swap : (n a b r v q w : ℕ) → slice_get addresses b ≡ Some a → IsKept addresses n (Sw a r v) (Sw b q w ∷ []) (n ∷ suc n ∷ [])
  membar : (n : ℕ) → IsKept addresses n Mb (Mb ∷ []) []
  stbar : (n : ℕ) → IsKept addresses n Sb (Sb ∷ []) []
  -- of a swap its load alone is kept, or its store
  swap_load : (n a b r v q : ℕ) → slice_get addresses b ≡ Some a → IsKept addresses n (Sw a r v) (Ld b q ∷ []) (n ∷ [])
  swap_store : (n a b r v w : ℕ) → slice_get addresses b ≡ Some a → IsKept addresses n (Sw a r v) (St b w ∷ []) (suc n ∷ [])

-- The same of a processor's operations, the first event of which has number n: what is kept of each, in their order.
pub data IsCutFrom (addresses : List ℕ) : ℕ → List Outcome → List Outcome → List ℕ → Type 0 where
  ended : (n : ℕ) → IsCutFrom addresses n [] [] []
  operation : (n : ℕ) (x : Outcome) (kept : List Outcome) (here : List ℕ) (xs ys : List Outcome) (origins : List ℕ) → IsKept addresses n x kept here
      → IsCutFrom addresses (n + event_count (op_of x)) xs ys origins → IsCutFrom addresses n (x ∷ xs) (kept ++ ys) (here ++ origins)

-- The same of the lists of the log's processors, the first event of which has number n. A processor may be left out; the others keep their order.
pub data AreCutFrom (addresses : List ℕ) : ℕ → List (List Outcome) → List (List Outcome) → List ℕ → Type 0 where
  no_more : (n : ℕ) → AreCutFrom addresses n [] [] []
  left_out : (n : ℕ) (xs : List Outcome) (logs lists : List (List Outcome)) (origins : List ℕ)
      → AreCutFrom addresses (n + total_events (map op_of xs)) logs lists origins → AreCutFrom addresses n (xs ∷ logs) lists origins
  processor : (n : ℕ) (xs ys : List Outcome) (here : List ℕ) (logs lists : List (List Outcome)) (origins : List ℕ) → IsCutFrom addresses n xs ys here
      → AreCutFrom addresses (n + total_events (map op_of xs)) logs lists origins → AreCutFrom addresses n (xs ∷ logs) (ys ∷ lists) (here ++ origins)

-- the number in the log of event n of the trace; number 0, the writer of the first values, is itself
abbrev pub origin_in : List ℕ → ℕ → ℕ
origin_in origins n = get_or (0 ∷ origins) n 0

-- The trace is cut out of the log, with these addresses of the log for its addresses 0, 1, .. and these numbers in the log for its events 1, 2, ..
pub record IsCutBy (log t : TraceValue) (addresses origins : List ℕ) : Type 0 where
  -- the trace has the log's memory model
  pub model : t.setting.order ≡ log.setting.order
  -- different addresses of the trace are different ones of the log
  pub distinct : IsDistinct nat_eq addresses
  pub lists : AreCutFrom addresses 1 log.lists t.lists origins
  -- Each load, also a swap's, reads in the trace from the store whose origin is its only source in the log, or it reads the first value in both.
  pub sources : (l : ℕ) → IsLoad t l → (s : ℕ) × HasSource t l s × IsOnlySource log (origin_in origins l) (origin_in origins s)

-- The trace is cut out of the log.
abbrev pub IsCut : TraceValue → TraceValue → Type 0
IsCut log t = (addresses : List ℕ) × (origins : List ℕ) × IsCutBy log t addresses origins
