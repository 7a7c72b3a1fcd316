use Rattle.std.proofs.Common.{◌∙◌, map, nat_eq, subst}
use Rattle.std.proofs.lemmas.Map.Iter.{iter_end}
use Rattle.std.specs.HashMap.{values}
use Rattle.std.specs.HashSet.{contains}
use Rattle.std.specs.List.{AllByRecursion}
use Rattle.std.specs.Map.Iter.{deref}
use Rattle.run_steps.specs.Names.{CellNames}
use Rattle.run_steps.proofs.NameFacts.{cell_weaker, each_last, each_weaker}
use Rattle.run_steps.proofs.names.add_of_locations.Goals as goal

pub loop-cell-preserved : goal.loop-cell-preserved
loop-cell-preserved c =
    let old = contains nat_eq c.loop-cell.names in
    let new = contains nat_eq c.add_of_cell.new.names in
    let ensures = c.in_ok-add_of_cell.ensures in
    record {
      named =
          each_last (CellNames new) deref c.loop-cell.yielded c.in-Some.cell
          (each_weaker (CellNames old) (CellNames new) (map deref c.loop-cell.yielded) (cell_weaker old new ensures.kept) c.loop-cell.invariant.named) ensures.named;
      kept = λ n is. ensures.kept n (c.loop-cell.invariant.kept n is);
    }

pub returns-clause-named : goal.returns-clause-named
returns-clause-named c =
    let names = contains nat_eq c.loop-cell.names in
    let all =
    iter_end deref (values c.args.locations.now) c.loop-cell.yielded c.into_iter-cell-iterator.result c.loop-cell.cell-iterator c.next.new.self c.next.result
    (c.into_iter-cell-iterator.ensures.into_iter_gives ∙ c.values-cell-items.ensures.rest) c.loop-cell.yielded_by c.in-None.is c.next.ensures.steps in
    subst (AllByRecursion (CellNames names)) all.0 c.loop-cell.invariant.named
