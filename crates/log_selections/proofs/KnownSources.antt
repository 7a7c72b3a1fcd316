-- In each order of a log's operations a load reads from its only source.
use Rattle.std.proofs.Common.{ℕ, zero, suc, List, inl, inr, subst, arith}
use Rattle.tso_ops.specs.Values.{TraceValue}
use Rattle.tso_ops.specs.Events.{IsLoad}
use Rattle.tso_ops.proofs.NumberFacts.{event_above_zero, store_event, store_source}
use Rattle.tso_model.specs.Axioms.{IsUpTo, IsVisible, ReadsGreatest, IsModelOrder}
use Rattle.log_selections.specs.Sources.{IsOnlySource}

-- Load l reads from this number in the order: the store is the last that it sees, or it sees none where the number is 0. That is Value (SPARC V8, K.2),
-- said of the store and not of what it wrote.
abbrev pub ReadsFrom : TraceValue → List ℕ → ℕ → ℕ → Type 0
ReadsFrom t order l zero = (s : ℕ) → IsVisible t order s l → ⊥
ReadsFrom t order l (suc k) = IsVisible t order (suc k) l × ((other : ℕ) → IsVisible t order other l → IsUpTo order other (suc k))

-- a load reads from the store that it sees as the last
reads_last : (t : TraceValue) (order : List ℕ) (l s : ℕ) → IsVisible t order s l → ((other : ℕ) → IsVisible t order other l → IsUpTo order other s) → ReadsFrom t order l s
reads_last t order l zero visible last = let above = event_above_zero t 0 (store_event t 0 visible.0) in absurd (omega arith)
reads_last t order l (suc k) visible last = (visible, last)

-- what it reads from is a source by the values, so it is the only one
pub reads_only : (t : TraceValue) (order : List ℕ) → IsModelOrder t order → (l s : ℕ) → IsLoad t l → IsOnlySource t l s → ReadsFrom t order l s
reads_only t order axioms l s load only = by_cases (axioms.value l load)
  where
    by_cases : ReadsGreatest t order l → ReadsFrom t order l s
    by_cases (inl read) = subst (ReadsFrom t order l) (only.1 0 (load, read.0)) read.1
    by_cases (inr read) =
        subst (ReadsFrom t order l) (only.1 read.0 (store_source t l read.0 load read.1.0 read.1.1 read.2)) (reads_last t order l read.0 read.1 read.3)
