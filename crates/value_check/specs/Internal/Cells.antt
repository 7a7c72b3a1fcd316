-- Events in cells: those of one class that lie in one chain.
use Rattle.std.specs.Prelude.{◌≡◌, ℕ, ◌<◌, List, length, slice_index}
use Rattle.chain_reach.specs.declared.types.Groups.{Groups}
use Rattle.chain_reach.specs.Groups.{node_count, count_of, group_of}
use Rattle.value_check.specs.declared.cells.Cells.{Cells}
use Rattle.value_check.specs.Internal.Numbering.{pair_at}

-- the class of an event
abbrev pub class_in : Cells → ℕ → ℕ
class_in c x = slice_index c.class_of.items x

-- The cells of events with these keys in these chains: events of one key are of one class, and those of a cell are of one class and one chain.
pub record AreCells (keys : List (ℕ × ℕ)) (chains : Groups) (c : Cells) : Type 0 where
  pub whole : length c.class_of.items ≡ length keys
  pub events : node_count c.cells ≡ length keys
  pub cells : node_count c.classes ≡ count_of c.cells
  pub class_below : (x : ℕ) → x < length keys → class_in c x < count_of c.classes
  pub cell_below : (x : ℕ) → x < length keys → group_of c.cells x < count_of c.cells
  pub class_of_cell : (x : ℕ) → x < length keys → group_of c.classes (group_of c.cells x) ≡ class_in c x
  pub one_class : (x y : ℕ) → x < length keys → y < length keys → pair_at keys x ≡ pair_at keys y → class_in c x ≡ class_in c y
  pub one_key : (x y : ℕ) → x < length keys → y < length keys → class_in c x ≡ class_in c y → pair_at keys x ≡ pair_at keys y
  pub one_chain : (x y : ℕ) → x < length keys → y < length keys → group_of c.cells x ≡ group_of c.cells y → group_of chains x ≡ group_of chains y
