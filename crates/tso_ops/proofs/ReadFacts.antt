-- Lemmas on reading the tables of a trace by an event number.
use Rattle.std.proofs.Common.{◌≡◌, ◌∙◌, sym, ap, subst, refl, ℕ, zero, suc, ◌-◌, ◌<◌, ◌≤◌, List, length, get_or, Option, Some, None, Bor, IsSome, IfSome, slice_get, arith, ◌↔◌}
use Rattle.std.specs.Option.{option_copied}
use Rattle.std.specs.Slice.{IsGetResult}
use Rattle.std.proofs.lemmas.Bool.{false≢true}
use Rattle.std.proofs.lemmas.Option.{slice_get_past, slice_get_read}
use Rattle.tso_ops.specs.declared.events.Source.{Source}
use Rattle.tso_ops.specs.Values.{TraceValue}
use Rattle.tso_ops.specs.Events.{events_of, event_at, event_total, IsLoad, SourceIs}
use Rattle.tso_ops.specs.Internal.Tables.{AreSources, IsSourceRow}

-- what `get` gives, copied
pub option_copied-get : {X : Type 0} (xs : List X) (k : ℕ) (r : Option (Bor X)) → IsGetResult xs k k r → option_copied r ≡ slice_get xs k
option_copied-get xs k None got = sym (slice_get_past xs k got.3)
option_copied-get xs k (Some x) got = sym (slice_get_read xs (length xs) k x.now refl got.3.0 got.1)

-- number 0 is no event
pub event_at-before_first : (t : TraceValue) (n : ℕ) → (1 ≤ n → ⊥) → event_at t n ≡ None
unfolding event_at
event_at-before_first t zero before = refl
event_at-before_first t (suc n) before = absurd (before (omega arith))

-- an event by its place
pub event_at-place : (t : TraceValue) (n k : ℕ) → 1 ≤ n → k ≡ n - 1 → event_at t n ≡ slice_get (events_of t) k
unfolding event_at
event_at-place t zero k within place = absurd (omega arith)
event_at-place t (suc n) k within place = let same : k ≡ n = omega arith in ap (slice_get (events_of t)) (sym same)

-- past the last event there is none
pub event_at-past : (t : TraceValue) (n k : ℕ) → 1 ≤ n → k ≡ n - 1 → event_total t ≤ k → event_at t n ≡ None
event_at-past t n k within place past = event_at-place t n k within place ∙ slice_get_past (events_of t) k past

-- where there is no event there is no load
pub no_load : (t : TraceValue) (n : ℕ) → event_at t n ≡ None → IsLoad t n → ⊥
no_load t n none (e, at, load) = absurd (let clash = sym none ∙ at in cc)

-- a row of the table of sources is that of the event of its place
pub source_row : (t : TraceValue) (sources : List (Option Source)) → AreSources t sources → (n k : ℕ) (row : Option Source) → 1 ≤ n → k ≡ n - 1 →
    slice_get sources k ≡ Some row → IsSourceRow t n row
source_row t sources are zero k row within place at = absurd (omega arith)
source_row t sources are (suc n) k row within place at = let same : k ≡ n = omega arith in subst (λ j. IsSourceRow t (suc j) row) same (are.each k row at)

-- what a row says of loads and their sources
pub row_tells_load : (t : TraceValue) (n : ℕ) (row : Option Source) → IsSourceRow t n row → IsSome row ↔ IsLoad t n
row_tells_load t n None none = (λ e. absurd (false≢true e), λ load. absurd (none load))
row_tells_load t n (Some source) is = (λ _. is.0, λ _. refl)

pub row_tells_source : (t : TraceValue) (n : ℕ) (row : Option Source) → IsSourceRow t n row → IfSome row (SourceIs t n)
row_tells_source t n None none = tt
row_tells_source t n (Some source) is = is.1

-- no answer where there is no event
pub nothing_told : (t : TraceValue) (n : ℕ) (r : Option Source) → r ≡ None → event_at t n ≡ None → IsSome r ↔ IsLoad t n
nothing_told t n r none no_event = rw none (λ e. absurd (false≢true e), λ load. absurd (no_load t n no_event load))

-- the row that `get` gives
pub row_read : (t : TraceValue) (sources table : List (Option Source)) → AreSources t sources → table ≡ sources → (n k : ℕ) (row : Option Source) → 1 ≤ n → k ≡ n - 1 →
    k < length table → row ≡ get_or table k row → IsSourceRow t n row
row_read t sources table are same n k row within place inside read =
    source_row t sources are n k row within place
    (ap (λ rows. slice_get rows k) (sym same) ∙ slice_get_read table (length table) k row refl inside read)
