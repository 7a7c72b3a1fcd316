use Rattle.std.proofs.Common.{◌∙◌, map, nat_eq, subst}
use Rattle.std.proofs.lemmas.Map.Iter.{iter_end}
use Rattle.std.specs.HashMap.{values}
use Rattle.std.specs.HashSet.{contains}
use Rattle.std.specs.List.{AllByRecursion}
use Rattle.std.specs.Map.Iter.{deref}
use Rattle.run_steps.specs.declared.blocks.Block.{Block}
use Rattle.run_steps.specs.Names.{BlockNames, CellNames}
use Rattle.run_steps.proofs.NameFacts.{cell_weaker, each_last, each_weaker}
use Rattle.run_steps.proofs.names.add_of_blocks.Goals as goal

pub loop-block-preserved : goal.loop-block-preserved
loop-block-preserved c =
    let old = contains nat_eq c.loop-block.names in
    let new = contains nat_eq c.add_of_block.new.names in
    let ensures = c.in_ok-add_of_block.ensures in
    let weaker : (block : Block) → BlockNames old block → BlockNames new block = λ block. each_weaker (CellNames old) (CellNames new) block.cells (cell_weaker old new ensures.kept) in
    record {
      named =
          each_last (BlockNames new) deref c.loop-block.yielded c.in-Some.block
          (each_weaker (BlockNames old) (BlockNames new) (map deref c.loop-block.yielded) weaker c.loop-block.invariant.named) ensures.named;
      kept = λ n is. ensures.kept n (c.loop-block.invariant.kept n is);
    }

pub returns-clause-named : goal.returns-clause-named
returns-clause-named c =
    let names = contains nat_eq c.loop-block.names in
    let all =
    iter_end deref (values c.args.blocks.now) c.loop-block.yielded c.into_iter-block-iterator.result c.loop-block.block-iterator c.next.new.self c.next.result
    (c.into_iter-block-iterator.ensures.into_iter_gives ∙ c.values-block-items.ensures.rest) c.loop-block.yielded_by c.in-None.is c.next.ensures.steps in
    subst (AllByRecursion (BlockNames names)) all.0 c.loop-block.invariant.named
