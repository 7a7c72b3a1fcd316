use Rattle.std.proofs.Common.{◌≡◌, ◌+◌, ◌*◌, ◌/◌, ◌<◌, length, get_or, set, sym, ap, subst, ◌∙◌, arith}
use Rattle.chain_reach.specs.Leading.{Leads, LeadsToMore}
use Rattle.chain_reach.proofs.JoinFacts.{groups_within}
use Rattle.chain_reach.proofs.TableFacts.{Begun, Begun-step, Begun-leads, Begun-keeps, none_marked}
use Rattle.chain_reach.proofs.types.Reach.new.Goals as goal

pub loop-x-preserved : goal.loop-x-preserved
loop-x-preserved c =
    let keys = c.args.chains.keys.items in
    let count = length c.args.chains.lists.items in
    let within = groups_within keys c.args.chains.lists.items (λ list. list.items) c.args.chains.grouped in
    let low : c.loop-x.x < length keys = omega (arith, c.loop-x-test.true, c.nodes-nodes.ensures.nodes) in
    let step = Begun-step keys count c.loop-x.first.items c.loop-x.x c.loop-x.invariant low (within c.loop-x.x low) within in
    let at : c.loop-x.x * count + get_or keys c.loop-x.x 0 ≡ c.loop-x.x * c.count-count.result + c.group.result =
    ap (λ n. c.loop-x.x * n + get_or keys c.loop-x.x 0) (sym c.count-count.ensures) ∙ ap (λ d. c.loop-x.x * c.count-count.result + d) (sym c.group.ensures.group) in
    subst (λ p. Begun keys count (set c.loop-x.first.items p (c.loop-x.x + 1)) (c.loop-x.x + 1)) at step

pub invariant_of-result : goal.invariant_of-result
invariant_of-result c =
    let end : c.loop-x.x ≡ length c.args.chains.keys.items = omega (arith, c.loop-x.auto.x-end, c.loop-x-test.false, c.nodes-nodes.ensures.nodes) in
    let given_sized : length c.in_ok-given.given.items ≡ length c.args.chains.lists.items = omega (arith, c.in_ok-given.ensures.len, c.count-count.ensures) in
    let grown_sized : length c.in_ok-grown.grown.items ≡ (length c.args.chains.keys.items + 63) / 64 = omega (arith, c.in_ok-grown.ensures.len, c.nodes-nodes.ensures.nodes, c.div_ceil.ensures) in
    let count = length c.args.chains.lists.items in
    let square : c.count-count.result * c.count-count.result ≡ count * count = ap (λ n. n * n) c.count-count.ensures in
    let near_len : length c.in_ok-near.near.items ≡ c.saturating_mul-2.result = omega (arith, c.in_ok-near.ensures.len) in
    let near_small = c.in_ok-near.near.small in
    let near_sized : length c.in_ok-near.near.items ≡ count * count = omega (arith, square, near_len, near_small, c.saturating_mul-2.ensures) in
    record {
      near_sized = near_sized;
      kept = Begun-keeps c.args.chains.keys.items (length c.args.chains.lists.items) c.loop-x.first.items c.in_ok-given.given.items c.in_ok-grown.grown.items c.loop-x.x c.loop-x.invariant end
          (groups_within c.args.chains.keys.items c.args.chains.lists.items (λ list. list.items) c.args.chains.grouped) given_sized grown_sized
          (λ x has. none_marked c.in_ok-grown.grown.items _ x (c.in_ok-grown.ensures.items_if_clones_equal (λ y e. e)) has);
    }

pub returns-clause-leads : goal.returns-clause-leads
unfolding Leads
returns-clause-leads c =
    let end : c.loop-x.x ≡ length c.args.chains.keys.items = omega (arith, c.loop-x.auto.x-end, c.loop-x-test.false, c.nodes-nodes.ensures.nodes) in
    Begun-leads c.args.chains.keys.items (length c.args.chains.lists.items) c.loop-x.first.items c.loop-x.x c.loop-x.invariant end
    (groups_within c.args.chains.keys.items c.args.chains.lists.items (λ list. list.items) c.args.chains.grouped)

pub returns-clause-settled : goal.returns-clause-settled
unfolding LeadsToMore
returns-clause-settled c = λ x is. none_marked c.in_ok-grown.grown.items _ x (c.in_ok-grown.ensures.items_if_clones_equal (λ y e. e)) is
