use Rattle.std.proofs.Common.{◌≡◌, [], ◌+◌, ◌<◌, length, get_or, set, map, sym, ap, subst, ◌∙◌, arith}
use Rattle.std.proofs.lemmas.List.{get_or_read, get_or-map}
use Rattle.chain_reach.proofs.GroupedFacts.{Grouped, Grouped-start, Grouped-step, Grouped-end}
use Rattle.chain_reach.proofs.types.Groups.of_keys.Goals as goal

pub loop-n-init : goal.loop-n-init
loop-n-init c = Grouped-start c.args.keys.items c.in_ok-lists.lists.items (λ list. list.items) c.args.count c.in_ok-lists.ensures.count c.in_ok-lists.ensures.empty

pub loop-n-preserved : goal.loop-n-preserved
loop-n-preserved c =
    let keys = c.args.keys.items in
    let lists = c.loop-n.lists.items in
    let n = c.loop-n.n in
    let low : n < length keys = omega (arith, c.loop-n-test.true, c.len-n-end.ensures) in
    let key : c.index.result.now ≡ get_or keys n 0 = get_or_read keys n c.index.result.now low c.index.ensures 0 in
    let within : get_or keys n 0 < c.args.count = c.requires.within n 0 low in
    let sized = c.loop-n.invariant.sized in
    let read : c.index_mut.result.now ≡ get_or lists (get_or keys n 0) c.index_mut.result.now = c.index_mut.ensures.value ∙ ap (λ k. get_or lists k c.index_mut.result.now) key in
    let was : c.index_mut.result.now.items ≡ get_or (map (λ list. list.items) lists) (get_or keys n 0) [] =
    ap (λ list. list.items) read ∙ sym (get_or-map (λ list. list.items) lists (get_or keys n 0) c.index_mut.result.now [] (omega (arith, within, sized))) in
    subst (λ k. Grouped keys (set lists k c.push.new.self) (λ list. list.items) c.args.count (n + 1)) (sym key)
    (Grouped-step keys lists (λ list. list.items) c.args.count n c.index_mut.result.now c.push.new.self c.loop-n.invariant within was c.in_ok-push.ensures.items)

pub invariant_of-result : goal.invariant_of-result
invariant_of-result c = record {
  grouped = Grouped-end c.args.keys.items c.loop-n.lists.items (λ list. list.items) c.args.count c.loop-n.n c.loop-n.invariant (omega (arith, c.loop-n.auto.n-end, c.loop-n-test.false, c.len-n-end.ensures))
      c.requires.most (λ k low. c.requires.within k 0 low);
}
