-- States of which the second has each piece as a location, where the first has its bytes.
use Rattle.std.proofs.Common.{◌≡◌, ◌∙◌, sym, ap, subst, inl, inr, ℕ, ◌*◌, List}
use Rattle.std.proofs.lemmas.Bool.{cases_eq}
use Rattle.tso_ops.specs.declared.settings.Order.{Order}
use Rattle.run_steps.specs.declared.steps.RunStep.{RunStep}
use Rattle.run_steps.specs.Machine.{MachineState, waits_of}
use Rattle.run_steps.specs.Reads.{Memory}
use Rattle.run_orders.proofs.States.{IsSame, tag_of}
use Rattle.run_orders.proofs.Pieces.{AreCutWaits, IsSameMemory, split_waits}
use Rattle.run_orders.proofs.PieceSteps.{Leads}

module _ (bs : List ℕ) where
  -- the second state has each piece as a location
  pub record Split (s t : MachineState) : Type 0 where
    pub memory : IsSameMemory bs s.memory t.memory
    pub waits : (q : ℕ) → waits_of t q ≡ split_waits bs (waits_of s q)
    pub tags : (q : ℕ) → tag_of t q ≡ 8 * tag_of s q
    pub cut : (q : ℕ) → AreCutWaits bs (waits_of s q)

  -- states that differ in nothing of this
  pub split_same : (s t s_next t_next : MachineState) → Split s t → IsSameMemory bs s_next.memory t_next.memory → ((q : ℕ) → IsSame s_next s q) →
      ((q : ℕ) → IsSame t_next t q) → Split s_next t_next
  split_same s t s_next t_next split memory left right = record {
    memory = memory;
    waits = λ q. (right q).0 ∙ split.waits q ∙ ap (split_waits bs) (sym (left q).0);
    tags = λ q. (right q).1 ∙ split.tags q ∙ ap (λ n. 8 * n) (sym (left q).1);
    cut = λ q. subst (AreCutWaits bs) (sym (left q).0) (split.cut q);
  }

  -- after steps of processor p
  pub split_led : (order : Order) (p n : ℕ) (steps : List RunStep) (s t s_next : MachineState) (Becomes : Memory → Type 0) → Split s t →
      (led : Leads order p n t steps (split_waits bs (waits_of s_next p)) Becomes) → IsSameMemory bs s_next.memory led.to.memory →
      tag_of s_next p ≡ tag_of s p → ((q : ℕ) → (q ≡ p → ⊥) → IsSame s_next s q) → AreCutWaits bs (waits_of s_next p) → Split s_next led.to
  split_led order p n steps s t s_next Becomes split led memory tag others cut = record {
    memory = memory;
    waits = λ q. elim (cases_eq q p) [
      | inl same ↦ ap (waits_of led.to) same ∙ led.waits_left ∙ ap (λ r. split_waits bs (waits_of s_next r)) (sym same)
      | inr other ↦ (led.others q other).0 ∙ split.waits q ∙ ap (split_waits bs) (sym (others q other).0)
    ];
    tags = λ q. elim (cases_eq q p) [
      | inl same ↦ ap (tag_of led.to) same ∙ led.tag ∙ split.tags p ∙ ap (λ n. 8 * n) (sym tag) ∙ ap (λ r. 8 * tag_of s_next r) (sym same)
      | inr other ↦ (led.others q other).1 ∙ split.tags q ∙ ap (λ n. 8 * n) (sym (others q other).1)
    ];
    cut = λ q. elim (cases_eq q p) [
      | inl same ↦ subst (λ r. AreCutWaits bs (waits_of s_next r)) (sym same) cut
      | inr other ↦ subst (AreCutWaits bs) (sym (others q other).0) (split.cut q)
    ];
  }
