use Rattle.std.proofs.Common.{◌≡◌, ◌++◌, ◌+◌, suc, drop}
use Rattle.tso_ops.specs.Operations.{operations_from}
use Rattle.tso_ops.proofs.operations.push_operations.Given as goal

-- what is pushed, and the events of the operations that are left, are those of all
abbrev pub invariant-loop-place : goal.invariant-loop-place
invariant-loop-place l = l.operations.items ++ operations_from l.proc l.place (l.line + 1 + l.place) (drop l.place l.list) ≡ l.fn.operations.items ++ operations_from l.proc 0 (suc l.line) l.list
