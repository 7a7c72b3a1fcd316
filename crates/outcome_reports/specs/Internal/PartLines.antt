-- A line of parts while it is printed.
use Rattle.std.specs.Prelude.{◌≡◌, ℕ, ◌≤◌, Bool, true, false, List, [], ◌∷◌, ◌++◌, length, take}
use Rattle.std.specs.List.{filter_map}
use Rattle.tso_ops.specs.declared.ops.Outcome.{Outcome}
use Rattle.final_states.specs.FinalStates.{value_read}
use Rattle.outcome_reports.specs.StateLines.{value_parts, with_spaces}

-- there is a part
abbrev pub has_part : List (List ℕ) → Bool
has_part [] = false
has_part (part ∷ parts) = true

-- The text is this one and then these parts, with a space between each two; and it is known whether there is one.
pub record IsLineOf (before : List ℕ) (parts : List (List ℕ)) (text : List ℕ) (begun : Bool) : Type 0 where
  pub text_is : text ≡ before ++ with_spaces parts
  pub begun_is : begun ≡ has_part parts

-- The line gets these parts more, whatever it has.
pub record GetsParts (old_text : List ℕ) (old_begun : Bool) (new_text : List ℕ) (new_begun : Bool) (more : List (List ℕ)) : Type 0 where
  pub gets : (before : List ℕ) (parts : List (List ℕ)) → IsLineOf before parts old_text old_begun → IsLineOf before (parts ++ more) new_text new_begun

-- It got the parts of what the first i operations of processor p read, which are so many.
pub record GetsValues (p i : ℕ) (outcomes : List Outcome) (old_text : List ℕ) (old_begun : Bool) (new_text : List ℕ) (new_begun : Bool) (number : ℕ) : Type 0 where
  pub few : number ≤ i
  pub count : number ≡ length (filter_map value_read (take i outcomes))
  pub gets : GetsParts old_text old_begun new_text new_begun (value_parts p 0 (filter_map value_read (take i outcomes)))
