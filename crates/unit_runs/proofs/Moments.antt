-- Moments of a run of both machines: their states are the same, and each is as large as it should be.
use Rattle.std.proofs.Common.{◌≡◌, ◌∙◌, inl, inr, sym, ap, refl, subst, ℕ, zero, suc, ◌-◌, ◌<◌, ◌==◌, Bool, true, false, cond, Some, List, [], ◌∷◌, ◌++◌, length, map, get_or, set, replicate, slice_index, arith}
use Rattle.std.proofs.lemmas.Bool.{cases_eq, cases_lt, eq-eqb, ne_eqb}
use Rattle.std.proofs.lemmas.List.{get_or-append_right, get_or_append_left, get_or-replicate, get_or-set_same, get_or-set_other, length-append, length-replicate}
use Rattle.std.proofs.Math.ListN.{get_or-eq_default}
use Rattle.unit_core.specs.Machine.{Entry, State, buffer_of, stbars_of}
use Rattle.run_steps.specs.declared.cells.Cell.{Cell}
use Rattle.run_steps.specs.declared.cells.Cell.TheVariants.{Stored}
use Rattle.run_steps.specs.declared.places.Place.{Place}
use Rattle.run_steps.specs.declared.processors.Taken.{Taken}
use Rattle.run_steps.specs.declared.processors.WaitingStore.{WaitingStore}
use Rattle.run_steps.specs.Machine.{MachineState, ProcessorState, admitted, idle, processor_in, processors_after, reaching, waits_of, without_reserved}
use Rattle.run_steps.specs.Places.{cell_parts, parts_from}
use Rattle.run_steps.specs.Reads.{Memory, filled, seen_in, with_cell}
use Rattle.run_steps.specs.Widths.{cells_of}
use Rattle.unit_runs.specs.Lines.{IsLocationAt}
use Rattle.unit_runs.specs.States.{AreSameStores, HoldsValue, IsSameState}
use Rattle.unit_runs.proofs.Loads.{value_seen}

-- the buffers have the same stores, and no STBAR stands at this line or later
abbrev pub IsMatched : ℕ → List Entry → List WaitingStore → ℕ → ℕ → Type 0
IsMatched line buffer waits m u = AreSameStores 0 0 buffer waits m u × (u < line)

abbrev pub IsMatchedAt : ℕ → State → MachineState → ℕ → Type 0
IsMatchedAt line s r p = IsMatched line (buffer_of s p) (waits_of r p) (stbars_of s p) (processor_in r p).stbar

-- What holds of the two states before the line of this number.
pub record IsMoment (line : ℕ) (s : State) (r : MachineState) : Type 0 where
  pub words : length s.memory ≡ 256
  pub buffers : length s.buffers ≡ 16
  pub stbars : length s.stbars ≡ 16
  pub memory : (a : ℕ) → a < 256 → HoldsValue r a (slice_index s.memory a)
  pub matched : (p : ℕ) → p < 16 → IsMatchedAt line s r p

pub same_state : (line : ℕ) (s : State) (r : MachineState) → IsMoment line s r → IsSameState s r
same_state line s r moment = record { memory = moment.memory; stores = λ p small. (moment.matched p small).0 }

-- ---- processors

idle_at : (n q : ℕ) → get_or (replicate n idle) q idle ≡ idle
idle_at n q = elim (cases_lt q n) [
  | inl within ↦ get_or-replicate n q idle idle within
  | inr past ↦ get_or-eq_default (replicate n idle) idle (let many = length-replicate n idle in omega (arith, many, past))
]

idle_after : (xs : List ProcessorState) (n q : ℕ) → get_or (xs ++ replicate n idle) q idle ≡ get_or xs q idle
idle_after xs n q = elim (cases_lt q (length xs)) [
  | inl within ↦ get_or_append_left xs (replicate n idle) idle q within
  | inr past ↦ get_or-append_right xs (replicate n idle) (length xs) q idle refl past ∙ idle_at n (q - length xs) ∙ sym (get_or-eq_default xs idle past)
]

pub has_place : (p : ℕ) (r : MachineState) → p < length (admitted p r).processors
has_place p r =
    let n = suc p - length r.processors in
    let many = length-append r.processors (replicate n idle) in
    let more = length-replicate n idle in
    omega (arith, many, more)

-- a place for a processor changes nothing
pub moment-admitted : (line : ℕ) (s : State) (p : ℕ) (r : MachineState) → IsMoment line s r → IsMoment line s (admitted p r)
moment-admitted line s p r moment = record {
  words = moment.words;
  buffers = moment.buffers;
  stbars = moment.stbars;
  memory = moment.memory;
  matched = λ q small.
      subst (λ (x : ProcessorState). IsMatched line (buffer_of s q) x.waits (stbars_of s q) x.stbar)
      (sym (idle_after r.processors (suc p - length r.processors) q)) (moment.matched q small);
}

pub matched-equal : (line : ℕ) (buffer other_buffer : List Entry) (waits others : List WaitingStore) (m n u t : ℕ) → buffer ≡ other_buffer →
    waits ≡ others → m ≡ n → u ≡ t →
    IsMatched line other_buffer others n t → IsMatched line buffer waits m u
matched-equal line buffer other_buffer waits others m n u t one two three four matched =
    subst (λ x. IsMatched line x waits m u) (sym one) (subst (λ x. IsMatched line other_buffer x m u) (sym two)
    (subst (λ x. IsMatched line other_buffer others x u) (sym three) (subst (λ x. IsMatched line other_buffer others n x) (sym four) matched)))

pub matched-later : (line : ℕ) (buffer : List Entry) (waits : List WaitingStore) (m u : ℕ) → IsMatched line buffer waits m u →
    IsMatched (suc line) buffer waits m u
matched-later line buffer waits m u matched = (matched.0, let before = matched.1 in omega (arith, before))

-- of two states and those after them, the buffers of a processor and its STBARs are as they were
pub record IsKept (s next : State) (r new : MachineState) (q : ℕ) : Type 0 where
  pub buffer : buffer_of next q ≡ buffer_of s q
  pub waits : waits_of new q ≡ waits_of r q
  pub count : stbars_of next q ≡ stbars_of s q
  pub line : (processor_in new q).stbar ≡ (processor_in r q).stbar

-- one processor has changed
pub matched-all : (line : ℕ) (s next : State) (r new : MachineState) (p : ℕ) → IsMoment line s r → IsMatchedAt (suc line) next new p → ((q : ℕ) → (q ≡ p →
    ⊥) → IsKept s next r new q) →
    (q : ℕ) → q < 16 → IsMatchedAt (suc line) next new q
matched-all line s next r new p moment own others q small = elim (cases_eq q p) [
  | inl same ↦ subst (λ k. IsMatchedAt (suc line) next new k) (sym same) own
  | inr other ↦
      let kept = others q other in
      matched-equal (suc line) _ _ _ _ _ _ _ _ kept.buffer kept.waits kept.count kept.line (matched-later line _ _ _ _ (moment.matched q small))
]

-- ---- stores that reach memory

unreserved_same : (b : Bool) (place : Place) (by : Taken) (x : ProcessorState) →
    ((cond b x (without_reserved place by x)).waits ≡ x.waits) × ((cond b x (without_reserved place by x)).stbar ≡ x.stbar)
unreserved_same true place by x = (refl, refl)
unreserved_same false place by x = (refl, refl)

-- a store that reaches memory changes no buffer
pub reached_same : (p : ℕ) (place : Place) (by : Taken) (i : ℕ) (xs : List ProcessorState) (q : ℕ) →
    ((get_or (processors_after p place by i xs) q idle).waits ≡ (get_or xs q idle).waits) ×
    ((get_or (processors_after p place by i xs) q idle).stbar ≡ (get_or xs q idle).stbar)
reached_same p place by i [] q = (refl, refl)
reached_same p place by i (x ∷ xs) zero = unreserved_same (i == p) place by x
reached_same p place by i (x ∷ xs) (suc q) = reached_same p place by (suc i) xs q

cell_holds : (r : MachineState) (b : ℕ) (cell : Cell) (v : ℕ) (memory : List ℕ) → length memory ≡ 256 → b < 256 → value_seen (seen_in cell) ≡ Some v →
    ((a : ℕ) → a < 256 → HoldsValue r a (slice_index memory a)) → (a : ℕ) → a < 256 →
    value_seen (seen_in (with_cell r.memory b cell a)) ≡ Some (slice_index (set memory b v) a)
cell_holds r b cell v memory words within is before a small = elim (cases_eq b a) [
  | inl same ↦
      ap (λ t. value_seen (seen_in (cond t cell (r.memory a)))) (eq-eqb b a same) ∙ is
      ∙ ap Some (sym (subst (λ n. slice_index (set memory b v) n ≡ v) same (get_or-set_same memory b v 0 (omega (arith, words, within)))))
  | inr other ↦
      ap (λ t. value_seen (seen_in (cond t cell (r.memory a)))) (ne_eqb b a other) ∙ before a small
      ∙ ap Some (sym (get_or-set_other memory b a v 0 (λ same. other (sym same))))
]

-- what is written to a location is written into its one cell
pub filled_one : (memory : Memory) (b : ℕ) (place : Place) (cell : ℕ → Cell) (v : ℕ) → IsLocationAt b place →
    filled memory place.address (map cell (cell_parts place v)) ≡ with_cell memory b (cell v)
filled_one memory b place cell v is =
    ap (λ n. filled memory place.address (map cell (parts_from n (cells_of n) v))) is.width
    ∙ ap (λ n. with_cell memory n (cell v)) is.address

-- a store to a location that reaches memory
pub reached_holds : (line p : ℕ) (w : WaitingStore) (r : MachineState) (b v : ℕ) (memory : List ℕ) → IsLocationAt b w.place → w.value ≡ v →
    length memory ≡ 256 → b < 256 →
    ((a : ℕ) → a < 256 → HoldsValue r a (slice_index memory a)) → (a : ℕ) → a < 256 → HoldsValue (reaching line p w r) a (slice_index (set memory b v) a)
reached_holds line p w r b v memory is value words within before a small =
    ap (λ m. value_seen (seen_in (m a))) (filled_one r.memory b w.place _ w.value is)
    ∙ cell_holds r b (Stored w.value w.store line) v memory words within (ap Some value) before a small
