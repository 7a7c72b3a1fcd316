use Rattle.std.proofs.Common.{◌≡◌, ℕ, ◌-◌, false}
use Rattle.tso_model.proofs.LastRankSet.{last_exists}
use Rattle.chain_reach.specs.Leading.{Leads}
use Rattle.chain_rules.specs.Rounds.{IsRowList}
use Rattle.chain_rules.specs.Tables.{AreTablesOf}
use Rattle.chain_rules.proofs.RoundFacts.{AreRoundsMade}
use Rattle.chain_rules.proofs.rounds.count_rounds.Given as goal

-- the rounds are made, nothing leads to itself yet, and the rows to look at are known
abbrev pub invariant-loop-numbers : goal.invariant-loop-numbers
invariant-loop-numbers l =
    AreRoundsMade l.trace l.reach l.count.rounds × ((x : ℕ) → Leads l.reach x x → ⊥) × IsRowList l.trace l.reach l.numbers.items × AreTablesOf l.trace l.reach.chains l.tables
    × (l.count.is_cyclic ≡ false)

-- each round comes nearer to a last rank set
abbrev pub decreases-loop-numbers : goal.decreases-loop-numbers
decreases-loop-numbers l = (last_exists l.trace).0 - l.count.rounds
