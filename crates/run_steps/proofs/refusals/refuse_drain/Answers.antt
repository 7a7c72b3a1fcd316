use Rattle.std.proofs.Common.{◌≡◌, ◌∙◌, ◌++◌, Some, [], refl, length, map, take, slice_get, sym, ap}
use Rattle.std.specs.Option.{option_map_or}
use Rattle.std.proofs.lemmas.List.{append_assoc}
use Rattle.std.proofs.lemmas.Option.{slice_get_read}
use Rattle.std.proofs.lemmas.Result.{on_ok_weaker}
use Rattle.run_steps.specs.Machine.{drained_refusals, order_refusals}
use Rattle.run_steps.specs.Reads.{refusal_of}
use Rattle.run_steps.proofs.refusals.refuse_drain.Goals as goal

pub returns : goal.returns
returns c =
    let waiting = c.args.waiting.now in
    let number = c.args.number in
    let store = c.index-waiting-number.result in
    let at : slice_get waiting number ≡ Some store = slice_get_read waiting (length waiting) number store refl c.requires c.index-waiting-number.is in
    let told = map refusal_of c.args.refusals.now.items in
    let passing = order_refusals c.args.order store (take number waiting) in
    on_ok_weaker c.refuse_drained.result
    (λ is. is ∙ ap (λ rs. rs ++ drained_refusals store c.args.said) c.in_ok-refuse_passing.ensures ∙ append_assoc told passing (drained_refusals store c.args.said)
    ∙ ap (λ o. told ++ option_map_or (λ w. order_refusals c.args.order w (take number waiting) ++ drained_refusals w c.args.said) o []) (sym at))
    c.refuse_drained.ensures
