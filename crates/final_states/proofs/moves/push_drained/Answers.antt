use Rattle.std.proofs.Common.{◌≡◌, ◌∙◌, ◌++◌, ap, length, arith}
use Rattle.std.specs.List.{filter_map, range_with_len}
use Rattle.tso_ops.specs.Values.{ops_at, rows}
use Rattle.final_states.specs.Internal.Words.{drained}
use Rattle.final_states.proofs.MoveFacts.{drains-next}
use Rattle.final_states.proofs.moves.push_drained.Goals as goal

pub loop-i-preserved : goal.loop-i-preserved
loop-i-preserved c =
    drains-next (drained c.args.program.now c.args.plan.now.addresses.items c.args.words.now c.args.p) c.loop-i.i (rows c.args.found.now.items) (rows c.loop-i.found.items) _ _
    c.loop-i.invariant c.in_ok-drained.ensures c.in_ok-push_some.ensures

pub returns : goal.returns
returns c =
    let end : c.loop-i.i ≡ length (ops_at c.args.program.now c.args.p) = omega (arith, ap length c.ops-i-end.ensures) in
    c.loop-i.invariant
    ∙ ap (λ n. rows c.args.found.now.items ++ filter_map (drained c.args.program.now c.args.plan.now.addresses.items c.args.words.now c.args.p) (range_with_len 0 n)) end
