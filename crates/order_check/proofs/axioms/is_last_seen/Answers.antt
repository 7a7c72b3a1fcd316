use Rattle.std.proofs.Common.{ℕ, ◌≤◌, ◌↔◌, [], IsTrue, slice_index, subst, arith}
use Rattle.std.proofs.lemmas.Bool.Decides.{nat_tests}
use Rattle.order_check.specs.Internal.Left.{IsLeftIn}
use Rattle.order_check.proofs.ValueFacts.{last_not_seen, last_seen}
use Rattle.order_check.proofs.axioms.is_last_seen.Goals as goal

pub returns-then-last_place-most : goal.returns-then-last_place-most
returns-then-last_place-most c = λ order passed at.
    let progress = c.args.progress.now in
    last_seen c.args.trace.now order c.args.l progress passed c.args.event at c.processor_words.result.now c.store_words.result.now c.processor_words.ensures c.store_words.ensures
    c.args.s c.left_are_up_to.result (omega (arith, c.if-last_place-most.true, c.place-most.ensures, c.last_place.ensures))
    (subst (λ m. IsTrue c.left_are_up_to.result ↔ ((u : ℕ) → IsLeftIn progress.left.items c.processor_words.result.now c.store_words.result.now [] c.args.l u → slice_index progress.places.items u ≤ m))
    c.place-most.ensures c.left_are_up_to.ensures)

pub returns-else-last_place-most : goal.returns-else-last_place-most
returns-else-last_place-most c = λ order passed at. (
  λ yes. absurd (grind (arith, nat_tests, yes, c.if-last_place-most.false)),
  λ all. absurd (last_not_seen c.args.trace.now order c.args.l c.args.progress.now passed c.args.event at c.args.s (omega (arith, c.if-last_place-most.false, c.place-most.ensures, c.last_place.ensures)) all),
)
