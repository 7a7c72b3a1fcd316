use Rattle.std.proofs.Common.{◌≡◌, ◌-◌}
use Rattle.line_text.specs.Lines.{parts_of}
use Rattle.trace_explanation.specs.Refusals.{line_there}
use Rattle.trace_explanation.proofs.refusals.line_there.Given as goal

abbrev pub invariant-loop-done : goal.invariant-loop-done
invariant-loop-done l = line_there (parts_of l.rest) (l.place - l.done) ≡ line_there (parts_of l.input) l.place
