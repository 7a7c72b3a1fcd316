-- What states of the machine of runs have of each processor, after changes of one.
use Rattle.std.proofs.Common.{◌≡◌, ◌∙◌, ap, refl, ℕ, zero, suc, ◌-◌, ◌<◌, ◌==◌, Bool, true, false, cond, Option, List, [], ◌∷◌, ◌++◌, length, map, get_or, set, replicate, length-append, arith}
use Rattle.std.proofs.lemmas.Bool.{eq-eqb, ne_eqb}
use Rattle.std.proofs.lemmas.List.{get_or-set_same, get_or-set_other, length-replicate}
use Rattle.run_steps.specs.declared.cells.Cell.{Cell}
use Rattle.run_steps.specs.declared.places.Place.{Place}
use Rattle.run_steps.specs.declared.processors.Reservation.{Reservation}
use Rattle.run_steps.specs.declared.processors.Taken.{Taken}
use Rattle.run_steps.specs.declared.processors.WaitingStore.{WaitingStore}
use Rattle.run_steps.specs.Machine.{ProcessorState, MachineState, admitted, idle, processor_in, processors_after, reaching, waits_of, with_processor, with_reserved, without_reserved}
use Rattle.run_steps.specs.Places.{cell_parts}
use Rattle.run_steps.specs.Reads.{Memory, filled, with_cell}
use Rattle.embedding.proofs.RunOrderFacts.{same_or}
use Rattle.run_orders.specs.RunLogs.{IsLocation}
use Rattle.run_orders.proofs.Waiting.{parts_whole}

-- the line of the last STBAR of a processor
abbrev pub tag_of : MachineState → ℕ → ℕ
tag_of s p = (processor_in s p).stbar

-- the stores of processor q that wait, and its last STBAR, are those of the other state
abbrev pub IsSame : MachineState → MachineState → ℕ → Type 0
IsSame t s q = (waits_of t q ≡ waits_of s q) × (tag_of t q ≡ tag_of s q)

pub same_after : (r t s : MachineState) (q : ℕ) → IsSame r t q → IsSame t s q → IsSame r s q
same_after r t s q first second = (first.0 ∙ second.0, first.1 ∙ second.1)

-- ---- a processor that is given a place

padded : {X : Type 0} (xs : List X) (n q : ℕ) (x : X) → get_or (xs ++ replicate n x) q x ≡ get_or xs q x
padded [] n q x = same_or n q x
padded (y ∷ xs) n zero x = refl
padded (y ∷ xs) n (suc q) x = padded xs n q x

pub admitted_same : (p : ℕ) (s : MachineState) (q : ℕ) → IsSame (admitted p s) s q
admitted_same p s q =
    let same = padded s.processors (suc p - length s.processors) q idle in
    (ap (λ (x : ProcessorState). x.waits) same, ap (λ (x : ProcessorState). x.stbar) same)

pub admitted_within : (p : ℕ) (s : MachineState) → p < length (admitted p s).processors
admitted_within p s =
    let both = length-append s.processors (replicate (suc p - length s.processors) idle) in
    let more = length-replicate (suc p - length s.processors) idle in
    omega (arith, both, more)

-- ---- a processor that is changed

pub own_processor : (s : MachineState) (p : ℕ) (x : ProcessorState) → p < length s.processors → processor_in (with_processor s p x) p ≡ x
own_processor s p x within = get_or-set_same s.processors p x idle within

pub other_processor : (s : MachineState) (p : ℕ) (x : ProcessorState) (q : ℕ) → (q ≡ p → ⊥) → IsSame (with_processor s p x) s q
other_processor s p x q other =
    let same = get_or-set_other s.processors p q x idle other in
    (ap (λ (y : ProcessorState). y.waits) same, ap (λ (y : ProcessorState). y.stbar) same)

reserved_at : (xs : List ProcessorState) (p q : ℕ) (x : ProcessorState) → x.waits ≡ (get_or xs p idle).waits → x.stbar ≡ (get_or xs p idle).stbar →
    ((get_or (set xs p x) q idle).waits ≡ (get_or xs q idle).waits) × ((get_or (set xs p x) q idle).stbar ≡ (get_or xs q idle).stbar)
reserved_at [] zero q x waits tag = (refl, refl)
reserved_at [] (suc p) q x waits tag = (refl, refl)
reserved_at (y ∷ xs) zero zero x waits tag = (waits, tag)
reserved_at (y ∷ xs) zero (suc q) x waits tag = (refl, refl)
reserved_at (y ∷ xs) (suc p) zero x waits tag = (refl, refl)
reserved_at (y ∷ xs) (suc p) (suc q) x waits tag = reserved_at xs p q x waits tag

pub reserved_same : (s : MachineState) (p : ℕ) (r : Option Reservation) (q : ℕ) → IsSame (with_reserved s p r) s q
reserved_same s p r q = reserved_at s.processors p q (record (processor_in s p) { reserved = r }) refl refl

-- ---- a store that reaches memory

passed : (b : Bool) (place : Place) (by : Taken) (x : ProcessorState) →
    ((cond b x (without_reserved place by x)).waits ≡ x.waits) × ((cond b x (without_reserved place by x)).stbar ≡ x.stbar)
passed true place by x = (refl, refl)
passed false place by x = (refl, refl)

all_passed : (p : ℕ) (place : Place) (by : Taken) (n : ℕ) (xs : List ProcessorState) (q : ℕ) →
    ((get_or (processors_after p place by n xs) q idle).waits ≡ (get_or xs q idle).waits) × ((get_or (processors_after p place by n xs) q idle).stbar ≡ (get_or xs q idle).stbar)
all_passed p place by n [] q = (refl, refl)
all_passed p place by n (x ∷ xs) zero = passed (n == p) place by x
all_passed p place by n (x ∷ xs) (suc q) = all_passed p place by (suc n) xs q

pub reaching_same : (line p : ℕ) (w : WaitingStore) (s : MachineState) (q : ℕ) → IsSame (reaching line p w s) s q
reaching_same line p w s q = all_passed p w.place (record { store = w.store; reached = line }) 0 s.processors q

pub filled_location : (memory : Memory) (place : Place) (v : ℕ) (f : ℕ → Cell) → IsLocation place →
    filled memory place.address (map f (cell_parts place v)) ≡ with_cell memory place.address (f v)
filled_location memory place v f location = ap (λ parts. filled memory place.address (map f parts)) (parts_whole place v location)

pub with_cell_here : (memory : Memory) (a : ℕ) (cell : Cell) (b : ℕ) → a ≡ b → with_cell memory a cell b ≡ cell
with_cell_here memory a cell b same = ap (λ t. cond t cell (memory b)) (eq-eqb a b same)

pub with_cell_other : (memory : Memory) (a : ℕ) (cell : Cell) (b : ℕ) → (a ≡ b → ⊥) → with_cell memory a cell b ≡ memory b
with_cell_other memory a cell b other = ap (λ t. cond t cell (memory b)) (ne_eqb a b other)
