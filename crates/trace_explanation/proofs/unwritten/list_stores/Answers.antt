use Rattle.std.proofs.Common.{◌≡◌, ◌∙◌, ◌+◌, [], ◌∷◌, ◌++◌, cond, rules, sym}
use Rattle.std.specs.Prelude.{◌==◌}
use Rattle.std.specs.List.{filter, range_with_len}
use Rattle.trace_explanation.specs.Names.{is_store_where}
use Rattle.trace_explanation.proofs.SearchFacts.{filter_more}
use Rattle.trace_explanation.proofs.unwritten.list_stores.Goals as goal

pub loop-m-preserved : goal.loop-m-preserved
loop-m-preserved c =
    let test = is_store_where c.args.trace.now (λ s. s.a == c.args.a) in
    let before : c.loop-m.stores.items ≡ filter test (range_with_len 1 c.loop-m.m) = c.loop-m.invariant in
    let added : c.if-is_store_to.stores.items ≡ c.loop-m.stores.items ++ cond (test (c.loop-m.m + 1)) ((c.loop-m.m + 1) ∷ []) [] = search rules in
    rw before at added ∙ sym (filter_more test c.loop-m.m)
