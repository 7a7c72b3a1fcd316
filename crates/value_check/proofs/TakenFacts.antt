-- Lemmas on sources that swaps took.
use Rattle.std.proofs.Common.{◌≢◌, ◌↔◌, subst, ap, ◌∙◌, ℕ, suc, List, arith}
use Rattle.tso_ops.specs.Values.{TraceValue}
use Rattle.tso_ops.specs.Events.{IsSwapLoad, SameAddress}
use Rattle.std.specs.List.{Contains}
use Rattle.value_evidence.specs.declared.steps.ValueStep.{ValueStep}
use Rattle.value_evidence.specs.declared.steps.ValueStep.TheVariants.{Read}
use Rattle.value_check.specs.declared.known.Known.{Known}
use Rattle.value_check.specs.Internal.Cells.{class_in}
use Rattle.value_check.specs.Internal.Known.{AreTablesOf, IsTaken, Takes, TakesFirst}
use Rattle.value_check.proofs.CellFacts.{address_of_class, class_of_address, index_below}
use Rattle.value_check.proofs.EventFacts.{address_joined, address_turned}
use Rattle.value_check.proofs.LeadingFacts.{index_is}

module _ (t : TraceValue) (steps : List ValueStep) (l : ℕ) (swap : IsSwapLoad t (suc l)) where
  -- another swap that took a store to the load's address is another swap of the address
  pub taken_store : (x : ℕ) → SameAddress t (suc x) (suc l) → ((m : ℕ) × Takes t steps x m × (m ≢ l)) ↔ IsTaken t steps (suc l) (suc x)
  taken_store x address = (
    λ (m, takes, other). (suc m, swap, takes.0, address_joined t (suc m) (suc x) (suc l) (address_turned t (suc x) (suc m) takes.1) address, (λ same. other (omega (arith, same))), takes.2),
    λ (n, swap_l, swap_n, one, other, said).
        let at = index_is t n (swap_n.0, swap_n.1) in
        let one_m = subst (λ i. SameAddress t i (suc l)) at.1 one in (
          at.0,
          (subst (IsSwapLoad t) at.1 swap_n, address_joined t (suc x) (suc l) (suc at.0) address (address_turned t (suc at.0) (suc l) one_m), subst (λ i. Contains steps (Read i (suc x))) at.1 said),
          λ same. other (at.1 ∙ ap suc same),
        ),
  )

  -- and the same of the first value
  pub taken_first : (k : Known) → AreTablesOf t k → ((m : ℕ) × TakesFirst t steps k.addresses (class_in k.addresses l) m × (m ≢ l)) ↔ IsTaken t steps (suc l) 0
  taken_first k tables = (
    λ (m, takes, other).
        let below_m = index_below t k tables m (takes.0.0, takes.0.1) in
        let below_l = index_below t k tables l (swap.0, swap.1) in
        (suc m, swap, takes.0, address_of_class t k tables m l below_m below_l takes.1, (λ same. other (omega (arith, same))), takes.2),
    λ (n, swap_l, swap_n, one, other, said).
        let at = index_is t n (swap_n.0, swap_n.1) in (
          at.0,
          (subst (IsSwapLoad t) at.1 swap_n, class_of_address t k tables at.0 l (subst (λ i. SameAddress t i (suc l)) at.1 one), subst (λ i. Contains steps (Read i 0)) at.1 said),
          λ same. other (at.1 ∙ ap suc same),
        ),
  )
