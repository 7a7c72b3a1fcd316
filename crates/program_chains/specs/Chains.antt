-- The events of a log in chains: what program order alone keeps in order, one after the other.
use Rattle.std.specs.Prelude.{◌≡◌, ℕ, suc, ◌<◌}
use Rattle.tso_ops.specs.Values.{TraceValue}
use Rattle.tso_ops.specs.declared.settings.Order.TheVariants.{Pso}
use Rattle.tso_ops.specs.Events.{event_total, IsLoad, IsStore, IsEventOf, SameAddress, KeepsStores}
use Rattle.chain_reach.specs.declared.types.Groups.{Groups}
use Rattle.chain_reach.specs.Groups.{node_count, count_of, group_of, IsIn, IsLaterIn}
use Rattle.value_evidence.specs.Candidates.{IsProgramPair}

-- two numbers of one chain
abbrev pub AreOfOneChain : Groups → ℕ → ℕ → Type 0
AreOfOneChain g x y = (x < node_count g) × (y < node_count g) × (group_of g x ≡ group_of g y)

-- The groups are the trace's chains: number n, from 0, stands for event number suc n. The loads of a processor are one chain. Its stores are one
-- chain where the memory model keeps the order of them all, else those to each address are one. Each chain has an event.
pub record AreProgramChains (t : TraceValue) (g : Groups) : Type 0 where
  pub nodes : node_count g ≡ event_total t
  pub used : (d : ℕ) → d < count_of g → (x : ℕ) × IsIn g d x
  -- the events of a chain are of one processor and kind, and stores of a chain are kept in order, under PSO as those to one address
  pub processors : (p x y : ℕ) → AreOfOneChain g x y → IsEventOf t p (suc x) → IsEventOf t p (suc y)
  pub loads : (x y : ℕ) → AreOfOneChain g x y → IsLoad t (suc x) → IsLoad t (suc y)
  pub stores : (x y : ℕ) → AreOfOneChain g x y → IsStore t (suc x) → IsStore t (suc y)
  pub addresses : (x y : ℕ) → AreOfOneChain g x y → IsStore t (suc x) → t.setting.order ≡ Pso → SameAddress t (suc x) (suc y)
  pub ordered : (x y : ℕ) → IsLaterIn g x y → IsProgramPair t (suc x) (suc y)
  -- and events of which all this holds are of one chain
  pub all_loads : (p x y : ℕ) → IsLoad t (suc x) → IsLoad t (suc y) → IsEventOf t p (suc x) → IsEventOf t p (suc y) → group_of g x ≡ group_of g y
  pub all_stores : (p x y : ℕ) → IsStore t (suc x) → IsStore t (suc y) → IsEventOf t p (suc x) → IsEventOf t p (suc y) → KeepsStores t (suc x) (suc y) →
      group_of g x ≡ group_of g y
