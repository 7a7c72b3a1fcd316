use Rattle.std.proofs.Common.{refl}
use Rattle.command_line.proofs.found.campaign.Goals as goal

pub returns : goal.returns
returns c = rw (c.unit_options.ensures, c.workers.ensures, c.execution_of.ensures, c.is_used.ensures, c.drain_turns.ensures.value, c.campaign_printing_of.ensures, c.is_used-2.ensures, c.order.ensures, c.number.ensures, c.number-2.ensures, c.shape_numbers.ensures) refl
