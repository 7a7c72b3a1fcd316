use Rattle.std.proofs.Common.{◌≡◌, ◌++◌, ◌+◌, ◌*◌, ◌^◌, ◌≤◌, drop}
use Rattle.tso_ops.specs.Operations.{first_list_line, operations_of_lists}
use Rattle.tso_ops.proofs.operations.list_operations.Given as goal

-- the operations so far, and those of the lists that are left, are those of all
abbrev pub invariant-loop-p : goal.invariant-loop-p
invariant-loop-p l =
    (l.operations.items ++ operations_of_lists l.p l.line (drop l.p l.trace.lists) ≡ operations_of_lists 0 (first_list_line l.trace.setting) l.trace.lists)
    × (l.line ≤ 2 ^ 60 + l.p * 2 ^ 59)
