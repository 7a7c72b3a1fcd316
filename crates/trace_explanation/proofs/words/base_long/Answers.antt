use Rattle.trace_explanation.specs.Words.{base_long}
use Rattle.trace_explanation.proofs.words.base_long.Goals as goal

pub returns-in_ok-read-in-Own : goal.returns-in_ok-read-in-Own
unfolding base_long
returns-in_ok-read-in-Own c = rw c.in-Own.is (rw (c.load_name-name.ensures, c.in_ok-read-in-Own.ensures, c.own_load-load.ensures) at c.format.ensures.ok)
