use Rattle.std.proofs.Common.{◌≡◌, ◌∙◌, sym, ap, drop, rules}
use Rattle.store_buffers.specs.Buffers.{entries_of, with_entries}
use Rattle.store_buffers.proofs.RingFacts.{entries-ring, with-ring}
use Rattle.store_buffers.proofs.buffers.Buffers.remove_oldest.Goals as goal

pub returns-clause-left : goal.returns-clause-left
returns-clause-left c =
    let u = c.self.inside in
    let old = c.index_mut.result.now in
    let here : entries_of c.args.self.now c.args.p ≡ old.items = ap (λ b. entries_of b c.args.p) (sym c.self.view_is) ∙ entries-ring u.memory.items u.rings.items u.capacity c.args.p old (search rules) c.index_mut.ensures.value in
    with-ring u.memory.items u.rings.items u.capacity c.args.p c.pop_front.new.self
    ∙ ap (λ b. with_entries b c.args.p c.pop_front.new.self.items) c.self.view_is
    ∙ ap (with_entries c.args.self.now c.args.p) (ap (λ r. r.items) c.pop_front.ensures.items ∙ ap (drop 1) (sym here))
