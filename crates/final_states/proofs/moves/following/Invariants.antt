use Rattle.std.proofs.Common.{◌≡◌}
use Rattle.std.specs.List.{cons_option, flat_map, range_with_len}
use Rattle.tso_ops.specs.Values.{rows}
use Rattle.final_states.specs.Internal.Words.{all_drained, issued}
use Rattle.final_states.proofs.moves.following.Given as goal

abbrev pub invariant-loop-p : goal.invariant-loop-p
invariant-loop-p l =
    rows l.found.items ≡ flat_map (λ q. cons_option (issued l.program l.plan.addresses.items l.words q) (all_drained l.program l.plan.addresses.items l.words q)) (range_with_len 0 l.p)
