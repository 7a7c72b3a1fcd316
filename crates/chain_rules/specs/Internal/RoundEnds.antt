-- How a round ends.
use Rattle.std.specs.Prelude.{◌≡◌, ℕ}
use Rattle.tso_ops.specs.Values.{TraceValue}
use Rattle.chain_reach.specs.declared.types.Reach.{Reach}
use Rattle.chain_reach.specs.Leading.{Leads}
use Rattle.chain_rules.specs.declared.rounds.RoundEnd.{RoundEnd}
use Rattle.chain_rules.specs.declared.rounds.RoundEnd.TheVariants.{Nothing, Cycle, Open}
use Rattle.chain_rules.specs.Rows.{IsRankReach, IsNewBy}
use Rattle.chain_rules.specs.Rounds.{FollowsRound}

-- A round was added: some edge was new, and where the one leads by the paths of a rank set the other leads by those of the next.
pub record AddsRound (t : TraceValue) (old new : Reach) : Type 0 where
  pub chains : new.chains ≡ old.chains
  pub kept : (x y : ℕ) → Leads old x y → Leads new x y
  pub some : (u : ℕ) × (v : ℕ) × IsNewBy t old u v × Leads new u v
  pub follows : (k : ℕ) → IsRankReach t k old → FollowsRound t k old new

-- The round had nothing to add, or it was added and something leads to itself, or nothing does.
abbrev pub IsRoundEnd : TraceValue → Reach → Reach → RoundEnd → Type 0
IsRoundEnd t old new Nothing = (new ≡ old) × ((u v : ℕ) → IsNewBy t old u v → ⊥)
IsRoundEnd t old new Cycle = AddsRound t old new × ((x : ℕ) × Leads new x x)
IsRoundEnd t old new Open = AddsRound t old new × ((x : ℕ) → Leads new x x → ⊥)
