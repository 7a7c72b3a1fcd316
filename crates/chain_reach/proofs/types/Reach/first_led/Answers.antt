use Rattle.std.proofs.Common.{◌≡◌, ◌+◌, ◌*◌, ◌<◌, ◌≤◌, length, get_or, sym, ap, subst, ◌∙◌, arith}
use Rattle.std.proofs.lemmas.List.{get_or_read}
use Rattle.std.proofs.lemmas.Nat.{row_fits}
use Rattle.chain_reach.specs.Leading.{Leads}
use Rattle.chain_reach.proofs.types.Reach.first_led.Goals as goal

pub returns : goal.returns
unfolding Leads
returns c = λ y low same.
    let g = c.args.self.now in
    let count = length g.chains.lists.items in
    let fits : c.args.x * count + count ≤ length g.chains.keys.items * count = row_fits c.args.x count (length g.chains.keys.items) count c.requires.from (omega arith) in
    let sized : length g.first.items ≡ length g.chains.keys.items * count = g.kept.sized in
    let chain : c.args.d < count = c.requires.chain in
    let read : c.index.result.now ≡ get_or g.first.items (c.args.x * count + c.args.d) c.index.result.now =
    c.index.ensures ∙ ap (λ n. get_or g.first.items (c.args.x * n + c.args.d) c.index.result.now) c.count.ensures in
    let at : c.index.result.now ≡ get_or g.first.items (c.args.x * count + c.args.d) 0 =
    get_or_read g.first.items (c.args.x * count + c.args.d) c.index.result.now (omega (arith, fits, sized, chain)) read 0 in
    let here : c.index.result.now ≡ get_or g.first.items (c.args.x * count + get_or g.chains.keys.items y 0) 0 = at ∙ ap (λ n. get_or g.first.items (c.args.x * count + n) 0) (sym same) in (
      λ leads. subst (λ n. n ≤ y) (sym here) leads.2,
      λ le. (c.requires.from, low, subst (λ n. n ≤ y) here le),
    )
