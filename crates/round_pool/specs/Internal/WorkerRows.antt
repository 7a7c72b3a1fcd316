-- The rows that workers computed, and the rows of given numbers.
use Rattle.std.specs.Prelude.{◌≡◌, ℕ, ◌<◌, List, [], length, map, get_or, All}
use Rattle.order_graph.specs.Digraphs.{Digraph, IsEdge}
use Rattle.tso_ops.specs.Values.{TraceValue}
use Rattle.tso_model.specs.NewEdges.{IsNew}
use Rattle.tso_model.specs.Ranks.{RankSet}
use Rattle.tso_rules.specs.declared.masks.SourceMasks.{SourceMasks}
use Rattle.tso_rules.specs.SourceMasks.{AreSourceMasks}
use Rattle.bitsets.specs.Rows.{IsListOf}
use Rattle.round_pool.specs.declared.claims.types.Claims.{Claims}
use Rattle.round_pool.specs.declared.worker_rows.ComputedRow.{ComputedRow}
use Rattle.round_pool.specs.declared.worker_rows.WorkerRows.{WorkerRows}
use Rattle.round_pool.specs.Claims.{held, IsOf}

-- The graph has the trace's base edges, and the masks are the trace's.
pub record AreOverBase (t : TraceValue) (g : Digraph) (masks : SourceMasks) : Type 0 where
  pub base : (x y : ℕ) → RankSet t 0 x y → IsEdge g x y
  pub masks_are : AreSourceMasks t masks

-- the row has the edges that a round adds to the graph's from its number
abbrev pub IsRow : TraceValue → Digraph → ComputedRow → Type 0
IsRow t g computed = IsListOf computed.row.items (IsNew t (IsEdge g) computed.number)

-- the numbers of the rows
abbrev pub numbers_of : List ComputedRow → List ℕ
numbers_of computed = map (λ (c : ComputedRow). c.number) computed

-- The claimant is one of these claims, its rows are those that it claimed, in that order, and each is the row of its number.
pub record AreOfClaimant (t : TraceValue) (g : Digraph) (claims : Claims) (made : WorkerRows) : Type 0 where
  pub own : IsOf claims made.claimant
  pub numbers : numbers_of made.rows.items ≡ held claims made.claimant
  pub each : All (IsRow t g) made.rows.items

-- There is a row for each number, in the order of the numbers, and it has the edges that a round adds to the graph's from there.
pub record AreRowsOf (t : TraceValue) (g : Digraph) (numbers : List ℕ) (rows : List (List ℕ)) : Type 0 where
  pub count_is : length rows ≡ length numbers
  pub row : (i : ℕ) → i < length numbers → IsListOf (get_or rows i []) (IsNew t (IsEdge g) (get_or numbers i 0))
