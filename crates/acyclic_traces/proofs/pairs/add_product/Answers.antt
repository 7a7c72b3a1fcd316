use Rattle.std.proofs.Common.{◌∙◌, arith}
use Rattle.std.specs.Int.{trailing_zeros, w64}
use Rattle.std.proofs.lemmas.List.{length-set}
use Rattle.bitsets.proofs.WordFacts.{drop_less}
use Rattle.acyclic_traces.proofs.ProductFacts.{product_none, product_more, product_all}
use Rattle.acyclic_traces.proofs.pairs.add_product.Goals as goal

pub loop-left-init : goal.loop-left-init
loop-left-init c = (c.requires, product_none c.args.rows.now c.args.from c.args.to)

pub loop-left-smaller : goal.loop-left-smaller
loop-left-smaller c = drop_less c.loop-left.left (omega arith)

pub loop-left-preserved : goal.loop-left-preserved
loop-left-preserved c = (
  length-set c.loop-left.rows (trailing_zeros w64 c.loop-left.left) _ ∙ c.loop-left.invariant.0,
  product_more c.args.rows.now c.loop-left.rows c.args.from c.args.to c.loop-left.left (omega arith) (omega arith) c.loop-left.invariant.0 c.loop-left.invariant.1,
)

pub returns-clause-pairs : goal.returns-clause-pairs
returns-clause-pairs c = λ x v. product_all c.args.rows.now c.loop-left.rows c.args.from c.args.to c.loop-left.left (omega (arith, c.loop-left-test.false)) c.loop-left.invariant.1 x v
