-- Lemmas on the pairs that program order gives.
use Rattle.std.proofs.Common.{◌≡◌, inl, ℕ, suc, ◌<◌, ◌≤◌, List, length, set, sym, subst, arith}
use Rattle.std.specs.Prelude.{bit_or}
use Rattle.std.proofs.lemmas.List.{get_or-set_same, get_or-set_other}
use Rattle.bitsets.specs.Rows.{HasBit}
use Rattle.bitsets.proofs.WordFacts.{HasBit-or}
use Rattle.tso_ops.specs.Values.{TraceValue}
use Rattle.tso_ops.specs.Events.{event_total}
use Rattle.tso_ops.proofs.NumberFacts.{event_at-within}
use Rattle.tso_rules.specs.Rows.{IsLater}
use Rattle.tso_rules.proofs.BaseFacts.{later_earlier}
use Rattle.acyclic_traces.specs.Internal.Pairs.{HasPair}

-- program order leads from an event to an event
pub later_from : (t : TraceValue) (u v : ℕ) → IsLater t u v → (0 < u) × (u ≤ event_total t)
later_from t u v later = let e = later_earlier t u v later in event_at-within t u e.0 e.2

pub later_to : (t : TraceValue) (u v : ℕ) → IsLater t u v → (0 < v) × (v ≤ event_total t)
later_to t u v later = let e = later_earlier t u v later in event_at-within t v e.1 e.3

-- the pairs of the number whose row was written, and those of the others
pub written_pair : (rows : List ℕ) (u word v : ℕ) → u < length rows → HasBit word v → HasPair (set rows u word) u v
written_pair rows u word v low bit = subst (λ w. HasBit w v) (sym (get_or-set_same rows u word 0 low)) bit

pub other_pair : (rows : List ℕ) (u word x v : ℕ) → (x ≡ u → ⊥) → HasPair rows x v → HasPair (set rows u word) x v
other_pair rows u word x v other has = subst (λ w. HasBit w v) (sym (get_or-set_other rows u x word 0 other)) has

-- a row that begins with what program order gives has it
pub later_pair : (t : TraceValue) (rows : List ℕ) (u later joined : ℕ) → suc (event_total t) ≤ 64 → length rows ≡ 64 → u < 64 →
    ((k : ℕ) → k < 64 → IsLater t u k → HasBit later k) → (v : ℕ) → IsLater t u v → HasPair (set rows u (bit_or later joined)) u v
later_pair t rows u later joined few sized low is v edge =
    let within : v ≤ event_total t = (later_to t u v edge).1 in
    written_pair rows u (bit_or later joined) v (omega (arith, sized, low)) ((HasBit-or later joined v).1 (inl (is v (omega (arith, within, few)) edge)))
