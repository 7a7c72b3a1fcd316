-- What a round adds by chains.
use Rattle.std.specs.Prelude.{◌≡◌, ◌⊎◌, ℕ, suc, ◌<◌, ◌≤◌, List, [], length, get_or, Contains, AllPairs}
use Rattle.tso_ops.specs.Values.{TraceValue}
use Rattle.tso_ops.specs.Events.{event_total}
use Rattle.chain_reach.specs.declared.types.Reach.{Reach}
use Rattle.chain_reach.specs.Groups.{node_count}
use Rattle.chain_reach.specs.Leading.{Leads, IsOrLeads, LeadsToMore}
use Rattle.chain_rules.specs.Rows.{IsRankReach, IsNewBy, IsLeastRow}

-- v is in the row of u, which is one of the numbers
abbrev pub IsInRowOf : List ℕ → List (List ℕ) → ℕ → ℕ → Type 0
IsInRowOf numbers rows u v = (i : ℕ) × (i < length numbers) × (get_or numbers i 0 ≡ u) × Contains (get_or rows i []) v

-- The numbers are those of the chains, and each has a row of such.
pub record AreRowsWithin (r : Reach) (numbers : List ℕ) (rows : List (List ℕ)) : Type 0 where
  pub count : length rows ≡ length numbers
  pub numbers_within : (i : ℕ) → i < length numbers → get_or numbers i 0 < node_count r.chains
  pub within : (u v : ℕ) → IsInRowOf numbers rows u v → v < node_count r.chains

-- Each number has its least row, and all numbers with new edges are among them.
pub record AreLeastRows (t : TraceValue) (r : Reach) (numbers : List ℕ) (rows : List (List ℕ)) : Type 0 where
  pub each : (i : ℕ) → i < length numbers → IsLeastRow t r (get_or numbers i 0) (get_or rows i [])
  pub whole : (u v : ℕ) → IsNewBy t r u v → (i : ℕ) × (i < length numbers) × (get_or numbers i 0 ≡ u)

-- Some listed edge leads from a number that its end leads to.
abbrev pub ClosesCycle : Reach → List ℕ → List (List ℕ) → Type 0
ClosesCycle r numbers rows = (u : ℕ) × (v : ℕ) × IsInRowOf numbers rows u v × Leads r v u

-- What came to lead to more by listed edges: a number leads to what it led to, or by way of a listed edge; and it has grown where it leads to more.
pub record JoinsListed (old new : Reach) (numbers : List ℕ) (rows : List (List ℕ)) : Type 0 where
  pub chains : new.chains ≡ old.chains
  pub kept : (x y : ℕ) → Leads old x y → Leads new x y
  pub joined : (u v : ℕ) → IsInRowOf numbers rows u v → Leads new u v
  pub passes : (x y : ℕ) → Leads new x y → Leads old x y ⊎ ((u : ℕ) × (v : ℕ) × IsInRowOf numbers rows u v × IsOrLeads new x u × IsOrLeads new v y)
  pub grown : (x y : ℕ) → Leads new x y → (Leads old x y → ⊥) → LeadsToMore new x
  pub still_grown : (x : ℕ) → LeadsToMore old x → LeadsToMore new x

-- The numbers are ascending, each is that of an event, and each from which a new edge leads is among them.
pub record IsRowList (t : TraceValue) (r : Reach) (numbers : List ℕ) : Type 0 where
  pub ascending : AllPairs (λ x y. x < y) numbers
  pub within : (u : ℕ) → Contains numbers u → u ≤ event_total t
  pub whole : (u v : ℕ) → IsNewBy t r u v → Contains numbers u

-- The one leads by the paths of a rank set, the other by those of the next, and what leads to more has grown in it.
pub record FollowsRound (t : TraceValue) (k : ℕ) (old new : Reach) : Type 0 where
  pub ranked : IsRankReach t k old
  pub next : IsRankReach t (suc k) new
  pub grown : (x y : ℕ) → Leads new x y → (Leads old x y → ⊥) → LeadsToMore new x
