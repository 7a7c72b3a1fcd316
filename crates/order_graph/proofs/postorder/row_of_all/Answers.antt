use Rattle.std.proofs.Common.{◌≡◌, ℕ, length, replicate, ap, subst, ◌∙◌, arith}
use Rattle.std.proofs.lemmas.List.{length-replicate}
use Rattle.bitsets.specs.Tables.{IsSet}
use Rattle.bitsets.proofs.TableFacts.{no_bit}
use Rattle.order_graph.proofs.postorder.row_of_all.Goals as goal

pub loop-y-init : goal.loop-y-init
loop-y-init c =
    let a = c.args in
    let zeros : c.in_ok-row.row.items ≡ replicate a.width 0 = c.in_ok-row.ensures.items_if_clones_equal (λ y e. e) in (
      ap length zeros ∙ length-replicate {A = ℕ} a.width 0,
      λ y h. (λ s. absurd (no_bit a.width a.width 0 y (subst (λ l. IsSet l a.width 0 y) zeros s)), λ less. absurd (omega (arith, less))),
    )
