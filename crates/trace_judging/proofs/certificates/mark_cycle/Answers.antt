use Rattle.std.proofs.Common.{refl, sym, ◌∙◌}
use Rattle.trace_judging.proofs.Neighbours.{cycle_added, some_numbers}
use Rattle.trace_judging.proofs.certificates.mark_cycle.Goals as goal

pub returns : goal.returns
returns c =
    cycle_added c.args.marks.now c.mark_path.new.marks c.add.new.self c.args.cycle.now _ _ c.mark_path.ensures (some_numbers c.args.cycle.now (sym c.is_empty.ensures ∙ c.if-is_empty.false)) refl refl
    c.add.ensures.nodes c.add.ensures.edges
