-- The passes that come back from the issuers.
use Rattle.std.specs.Prelude.{◌≡◌, ℕ, zero, suc, List, [], ◌∷◌, map}
use Rattle.issue_desk.specs.Desks.{PassValue}

-- so many processors from p on
abbrev pub processors_from : ℕ → ℕ → List ℕ
processors_from p zero = []
processors_from p (suc count) = p ∷ processors_from (suc p) count

-- the passes are those of so many processors from p on
abbrev pub ArePassesFrom : ℕ → ℕ → List PassValue → Type 0
ArePassesFrom p count passes = map (λ pass. pass.processor) passes ≡ processors_from p count
