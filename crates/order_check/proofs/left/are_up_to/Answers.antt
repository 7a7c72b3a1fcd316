use Rattle.std.proofs.Common.{refl, arith}
use Rattle.std.proofs.lemmas.Bool.{false≢true}
use Rattle.order_check.proofs.LeftFacts.{bits_dropped, bits_kept, lowest_up_to, no_bits}
use Rattle.order_check.proofs.left.are_up_to.Goals as goal

pub returns-then-place-most : goal.returns-then-place-most
returns-then-place-most c = (
  λ e. absurd (false≢true e),
  λ all. absurd (
      let low = lowest_up_to c.args.progress.now.places.items c.args.j c.args.most c.loop-rest.rest (omega arith) (omega arith) (c.loop-rest.invariant.1 all) in
      omega (arith, low, c.place.ensures, c.if-place-most.true)),
)

pub loop-rest-preserved : goal.loop-rest-preserved
loop-rest-preserved c =
    let places = c.args.progress.now.places.items in (
      λ all. c.loop-rest.invariant.0 (bits_dropped places c.args.j c.args.most c.loop-rest.rest (omega arith) (omega arith) (omega (arith, c.place.ensures, c.if-place-most.false)) all),
      λ all. bits_kept places c.args.j c.args.most c.loop-rest.rest (omega arith) (omega arith) (c.loop-rest.invariant.1 all),
    )

pub returns : goal.returns
returns c = (λ _. c.loop-rest.invariant.0 (no_bits c.args.progress.now.places.items c.args.j c.args.most c.loop-rest.rest (omega arith)), λ _. refl)
