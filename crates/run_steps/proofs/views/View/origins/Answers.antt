use Rattle.std.proofs.Common.{◌≡◌, ◌<◌, ◌∙◌, ◌+◌, ◌-◌, sym, ap, arith}
use Rattle.run_steps.specs.Places.{cell_count}
use Rattle.run_steps.specs.Reads.{memory_of_cells, origins_from, sees, with_origin}
use Rattle.run_steps.proofs.ReadFacts.{origins-next}
use Rattle.run_steps.proofs.WaitingFacts.{seen_at}
use Rattle.run_steps.proofs.views.View.origins.Goals as goal

pub loop-i-preserved : goal.loop-i-preserved
loop-i-preserved c =
    let look = sees (memory_of_cells c.args.self.now.memory.now) c.args.self.now.waiting.now in
    let count = cell_count c.args.place in
    let i = c.loop-i.i in
    let address = c.args.place.address in
    let found = c.loop-i.origins.items in
    let within : i < cell_count c.args.place = omega (arith, c.loop-i-test.true, c.cells-i-end.ensures) in
    let seen =
    seen_at (memory_of_cells c.args.self.now.memory.now) c.args.self.now.waiting.now (address + i) c.newest_of_cells-newest.result i c.index-newest-i.result c.seen-seen.result
    (omega (arith, within, c.args.place.few, c.newest_of_cells-newest.ensures.whole)) (c.newest_of_cells-newest.ensures.cells i within) c.seen-seen.ensures in
    let next : address + (i + 1) ≡ address + i + 1 = omega arith in
    let less : count - (i + 1) ≡ count - i - 1 = omega arith in
    ap (λ n. origins_from look n (count - (i + 1)) c.add_origin.new.origins.items) next ∙ ap (λ n. origins_from look (address + i + 1) n c.add_origin.new.origins.items) less
    ∙ ap (origins_from look (address + i + 1) (count - i - 1)) (c.in_ok-add_origin.ensures ∙ ap (with_origin found) seen)
    ∙ sym (origins-next look (address + i) (count - i) found (omega (arith, c.loop-i-test.true, c.cells-i-end.ensures))) ∙ c.loop-i.invariant
