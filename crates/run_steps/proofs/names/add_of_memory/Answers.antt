use Rattle.std.proofs.Common.{Ok, Err, Result, OnOk, nat_eq}
use Rattle.std.specs.HashMap.{values}
use Rattle.std.specs.HashSet.{contains}
use Rattle.run_steps.specs.Names.{CellNames}
use Rattle.run_steps.proofs.NameFacts.{cell_weaker, each_weaker, memory_names}
use Rattle.run_steps.proofs.names.add_of_memory.Goals as goal

-- what follows from both
on_ok_both : {T E P Q R : Type 0} (r : Result T E) → (P → Q → R) → OnOk r P → OnOk r Q → OnOk r R
on_ok_both (Ok x) f p q = f p q
on_ok_both (Err e) f p q = tt

pub returns-clause-named : goal.returns-clause-named
returns-clause-named c =
    let memory = c.args.memory.now in
    let old = contains nat_eq c.add_of_locations.new.names in
    let new = contains nat_eq c.add_of_blocks.new.names in
    on_ok_both c.add_of_blocks.result
    (λ blocks kept.
    memory_names new memory.locations.entries memory.blocks.entries
    (each_weaker (CellNames old) (CellNames new) (values memory.locations) (cell_weaker old new kept) c.in_ok-add_of_locations.ensures.named) blocks)
    c.add_of_blocks.ensures.named c.add_of_blocks.ensures.kept
