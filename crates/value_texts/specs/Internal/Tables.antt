-- The table of the numbers of events by their names.
use Rattle.std.specs.Prelude.{◌≡◌, ℕ, ◌&&◌, nat_eq, Bool, List, Option, if◌then◌else◌}
use Rattle.std.specs.List.{position_from}
use Rattle.std.specs.HashMap.{HashMap, get}
use Rattle.value_texts.specs.declared.names.EventName.{EventName}

-- the key of a name: its line, and which half of a swap it is
abbrev pub name_key : EventName → ℕ × ℕ
name_key name = (name.line, if name.is_swap_store then 1 else 0)

abbrev pub same_key : ℕ × ℕ → ℕ × ℕ → Bool
same_key u v = nat_eq u.0 v.0 && nat_eq u.1 v.1

-- the number of the first event whose name has the key
abbrev pub number_of_key : List EventName → ℕ × ℕ → Option ℕ
number_of_key names key = position_from (λ name. same_key key (name_key name)) 1 names

module _ {S : Type 0} where
  -- the table has the number of the first event of each name
  abbrev pub HasNumbers : List EventName → HashMap (ℕ × ℕ) ℕ S → Type 0
  HasNumbers names numbers = (key : ℕ × ℕ) → get same_key numbers key ≡ number_of_key names key
