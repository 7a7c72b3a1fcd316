-- What a plan says of the words of a program's states.
use Rattle.std.specs.Prelude.{◌≡◌, ℕ, suc, ◌≤◌, List, Option, length, map, slice_index}
use Rattle.std.specs.List.{range_with_len}
use Rattle.tso_ops.specs.declared.ops.Op.{Op}
use Rattle.tso_ops.specs.Limits.{IsProgram}
use Rattle.tso_ops.specs.Values.{ProgramValue}
use Rattle.final_states.specs.declared.plans.Plan.{Plan}
use Rattle.final_states.specs.FinalStates.{stored_addresses}
use Rattle.final_states.specs.Internal.Stands.{HasPlaces}
use Rattle.final_states.specs.Internal.Words.{slot_of, start_of, width_of}

-- where the words of each processor begin, and then where those of memory do
pub record AreStarts (lists : List (List Op)) (starts : List ℕ) : Type 0 where
  pub count : length starts ≡ suc (length lists)
  pub each : (p : ℕ) → p ≤ length lists → slice_index starts p ≡ start_of lists p

-- the places of the 256 addresses among these
abbrev pub AreSlots : List ℕ → List (Option ℕ) → Type 0
AreSlots addresses slots = slots ≡ map (slot_of addresses) (range_with_len 0 256)

-- The plan is of this program.
pub record IsPlanOf (program : ProgramValue) (plan : Plan) : Type 0 where
  pub starts : AreStarts program.lists plan.starts.items
  pub slots : AreSlots plan.addresses.items plan.slots.items
  pub addresses : plan.addresses.items ≡ stored_addresses program
  pub program_limits : IsProgram program
  pub places : HasPlaces program plan.addresses.items

-- the words are as many as the plan says
abbrev pub HaveWidth : ProgramValue → Plan → List ℕ → Type 0
HaveWidth program plan words = length words ≡ width_of program plan.addresses.items
