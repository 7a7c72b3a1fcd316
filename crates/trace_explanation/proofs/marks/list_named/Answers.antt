use Rattle.std.proofs.Common.{◌≡◌, ◌<◌, ◌∙◌, ◌+◌, [], ◌∷◌, ◌++◌, ap, arith, cond, false, length, rules, sym}
use Rattle.std.specs.List.{filter, range_with_len}
use Rattle.std.proofs.lemmas.List.{get_or_read}
use Rattle.trace_explanation.specs.Steps.{is_named}
use Rattle.trace_explanation.proofs.SearchFacts.{filter_more}
use Rattle.trace_explanation.proofs.marks.list_named.Goals as goal

pub loop-n-preserved : goal.loop-n-preserved
loop-n-preserved g c =
    let n = c.loop-n.n in
    let marks = c.in_ok-marks.marks.items in
    let are = c.in_ok-marks.ensures in
    let test = is_named (g.N.NamesEvents.numbers c.args.trace.now) c.args.lines.now in
    let within : n + 1 < length marks = omega (arith, are.counted, c.loop-n-test.true, c.events-n-end.ensures.count) in
    let marked = get_or_read marks (n + 1) _ within c.index.ensures false ∙ are.each (n + 1) (omega (arith, c.loop-n-test.true, c.events-n-end.ensures.count)) in
    let added : c.if-index.events.items ≡ c.loop-n.events.items ++ cond c.index.result.now ((n + 1) ∷ []) [] = search rules in
    added ∙ ap (λ items. items ++ cond c.index.result.now ((n + 1) ∷ []) []) c.loop-n.invariant ∙ ap (λ b. filter test (range_with_len 1 n) ++ cond b ((n + 1) ∷ []) []) marked
    ∙ sym (filter_more test n)
