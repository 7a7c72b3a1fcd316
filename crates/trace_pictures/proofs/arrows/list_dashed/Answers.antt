use Rattle.std.proofs.Common.{◌≡◌, ◌∙◌, [], ◌∷◌, ◌++◌, cond, rules, sym}
use Rattle.std.specs.List.{filter, range_with_len}
use Rattle.trace_explanation.proofs.SearchFacts.{filter_places_more}
use Rattle.trace_pictures.specs.Arrows.{is_dashed}
use Rattle.trace_pictures.proofs.arrows.list_dashed.Goals as goal

pub loop-k-preserved : goal.loop-k-preserved
loop-k-preserved c =
    let test = is_dashed c.args.steps.now c.args.nodes.now c.args.shown.now in
    let before : c.loop-k.places.items ≡ filter test (range_with_len 0 c.loop-k.k) = c.loop-k.invariant in
    let added : c.if-is_dashed.places.items ≡ c.loop-k.places.items ++ cond (test c.loop-k.k) (c.loop-k.k ∷ []) [] = search rules in
    rw before at added ∙ sym (filter_places_more test c.loop-k.k)
