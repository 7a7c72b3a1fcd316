use Rattle.std.proofs.Common.{◌≡◌, ◌∙◌, ap, arith}
use Rattle.std.specs.List.{cons_option, flat_map, range_with_len}
use Rattle.tso_ops.specs.Values.{list_count, rows}
use Rattle.final_states.specs.Internal.Words.{all_drained, issued}
use Rattle.final_states.proofs.MoveFacts.{steps-next}
use Rattle.final_states.proofs.moves.following.Goals as goal

pub loop-p-preserved : goal.loop-p-preserved
loop-p-preserved c =
    steps-next c.args.program.now c.args.plan.now.addresses.items c.args.words.now c.loop-p.p (rows c.loop-p.found.items) _ _ _ c.loop-p.invariant c.in_ok-issued.ensures
    c.in_ok-push_some.ensures c.in_ok-push_drained.ensures

pub returns : goal.returns
returns c =
    let end : c.loop-p.p ≡ list_count c.args.program.now = omega (arith, c.processors-p-end.ensures.count) in
    c.loop-p.invariant
    ∙ ap (λ n. flat_map (λ q. cons_option (issued c.args.program.now c.args.plan.now.addresses.items c.args.words.now q) (all_drained c.args.program.now c.args.plan.now.addresses.items c.args.words.now q)) (range_with_len 0 n)) end
