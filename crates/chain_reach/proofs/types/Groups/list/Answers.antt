use Rattle.std.proofs.Common.{◌≡◌, [], get_or, map, subst, sym, ◌∙◌, ap, arith}
use Rattle.std.proofs.lemmas.List.{get_or-map, length-map}
use Rattle.bitsets.specs.Rows.{IsListOf}
use Rattle.chain_reach.specs.Groups.{IsIn}
use Rattle.chain_reach.proofs.ListFacts.{IsGroup-list}
use Rattle.chain_reach.proofs.types.Groups.list.Goals as goal

pub returns : goal.returns
returns c =
    let lists = c.args.self.now.lists.items in
    let low = c.requires in
    let at : get_or (map (λ list. list.items) lists) c.args.d [] ≡ c.deref.result.now =
    get_or-map (λ list. list.items) lists c.args.d c.index.result.now [] low ∙ ap (λ list. list.items) (sym c.index.ensures) ∙ sym c.deref.ensures.value in
    subst (λ list. IsListOf list (IsIn c.args.self.now c.args.d)) at
    (IsGroup-list c.args.self.now.keys.items (get_or (map (λ list. list.items) lists) c.args.d []) c.args.d (c.args.self.now.grouped.each c.args.d (omega (arith, low, length-map lists (λ list. list.items)))))
