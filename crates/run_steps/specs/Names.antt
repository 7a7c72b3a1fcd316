-- Which stores a state and a refusal name: their lines are among these, which are given by a test of line numbers.
use Rattle.std.specs.Prelude.{ℕ, Bool, IfSome, IsTrue}
use Rattle.std.specs.List.{AllByRecursion}
use Rattle.run_steps.specs.declared.blocks.Block.{Block}
use Rattle.run_steps.specs.declared.cells.Cell.{Cell}
use Rattle.run_steps.specs.declared.cells.Cell.TheVariants.{First, Stored, Unknown}
use Rattle.run_steps.specs.declared.refusals.Origin.{Origin}
use Rattle.run_steps.specs.declared.refusals.Origin.TheVariants as origin
use Rattle.run_steps.specs.Machine.{ProcessorState, MachineState}
use Rattle.run_steps.specs.Reads.{RefusalValue, value, waiting, order, nothing_waits, reservation, no_reservation}

-- the store that left there what memory holds
abbrev pub CellNames : (ℕ → Bool) → Cell → Type 0
CellNames among (First v) = Unit {0}
CellNames among (Stored v store reached) = IsTrue (among store)
CellNames among Unknown = Unit {0}

-- the stores that left there what the cells of a block hold
abbrev pub BlockNames : (ℕ → Bool) → Block → Type 0
BlockNames among block = AllByRecursion (CellNames among) block.cells

-- the stores that wait, and the one by which the reservation was lost
pub record ProcessorNames (among : ℕ → Bool) (x : ProcessorState) : Type 0 where
  pub waits : AllByRecursion (λ w. IsTrue (among w.store)) x.waits
  pub reserved : IfSome x.reserved (λ r. IfSome r.taken (λ by. IsTrue (among by.store)))

-- the stores that memory and the processors name
pub record StateNames (among : ℕ → Bool) (s : MachineState) : Type 0 where
  pub memory : (address : ℕ) → CellNames among (s.memory address)
  pub processors : AllByRecursion (ProcessorNames among) s.processors

-- the store that a value is from
abbrev pub OriginNames : (ℕ → Bool) → Origin → Type 0
OriginNames among origin.First = Unit {0}
OriginNames among (origin.Waiting n) = IsTrue (among n)
OriginNames among (origin.Reached n line) = IsTrue (among n)

-- the stores that a refusal names
abbrev pub RefusalNames : (ℕ → Bool) → RefusalValue → Type 0
RefusalNames among (value has origins) = AllByRecursion (OriginNames among) origins
RefusalNames among (waiting n) = IsTrue (among n)
RefusalNames among (order n m) = IsTrue (among n) × IsTrue (among m)
RefusalNames among nothing_waits = Unit {0}
RefusalNames among (reservation n reached) = IsTrue (among n)
RefusalNames among no_reservation = Unit {0}
