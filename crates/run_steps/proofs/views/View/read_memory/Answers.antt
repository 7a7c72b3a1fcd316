use Rattle.std.proofs.Common.{◌∙◌}
use Rattle.run_steps.specs.Reads.{memory_of_cells}
use Rattle.run_steps.proofs.ReadFacts.{alone_read}
use Rattle.run_steps.proofs.views.View.read_memory.Goals as goal

pub returns-in-None : goal.returns-in-None
returns-in-None c =
    let view = c.args.self.now in
    c.read_bytes.ensures ∙ alone_read (memory_of_cells view.memory.now) view.waiting.now c.args.place c.requires.alone
