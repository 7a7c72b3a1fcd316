use Rattle.std.proofs.Common.{inl, inr, List, ℕ, refl, subst, arith}
use Rattle.std.proofs.lemmas.List.{take_at}
use Rattle.bitsets.specs.Tables.{IsSet}
use Rattle.bitsets.proofs.TableFacts.{no_bit}
use Rattle.order_graph.proofs.forward.copied_row.Goals as goal

pub returns-clause-bits : goal.returns-clause-bits
returns-clause-bits c =
    let a = c.args in
    let fills = rw c.deref_mut.ensures.value at c.or_row.ensures in
    let zeros = c.in_ok-row.ensures.items_if_clones_equal (λ y e. e) in
    λ y h. rw (take_at c.or_row.new.table _ c.in_ok-row.row.len (omega arith)) (
      λ s. elim ((fills.bits 0 y h).0 s) [
        | inl o ↦ absurd (no_bit a.table.width a.table.width 0 y (subst (λ (l : List ℕ). IsSet l a.table.width 0 y) zeros o))
        | inr g ↦ g.2
      ],
      λ s. (fills.bits 0 y h).1 (inr (refl, omega arith, s)),
    )
