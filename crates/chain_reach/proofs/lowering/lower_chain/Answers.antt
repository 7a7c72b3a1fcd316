use Rattle.std.proofs.Common.{◌≡◌, ℕ, ◌+◌, ◌-◌, ◌*◌, ◌/◌, ◌<◌, ◌≤◌, length, get_or, subst, arith}
use Rattle.std.proofs.lemmas.List.Elements.{Contains-get_or}
use Rattle.chain_reach.specs.Internal.FirstTables.{LeadsBy}
use Rattle.chain_reach.proofs.ChainFacts.{Members, Walks, Walks-step, Walks-led, Walks-stop, Walks-lowered, Walks-marked, members_first, members_fit}
use Rattle.chain_reach.proofs.LoweredFacts.{MarksRows-set}
use Rattle.chain_reach.proofs.lowering.lower_chain.Goals as goal

pub reaching-i-requires-clause-rows : goal.reaching-i-requires-clause-rows
reaching-i-requires-clause-rows c = members_fit c.args.chains.now.keys.items c.list-members.result.now (length c.args.edge.given.now) c.args.d c.args.first.now c.list-members.ensures c.requires.ready.sized

pub reaching-i-requires-clause-first : goal.reaching-i-requires-clause-first
reaching-i-requires-clause-first c = members_first c.args.chains.now.keys.items c.list-members.result.now (length c.args.edge.given.now) c.args.d c.args.first.now c.args.grown.now c.args.edge.from c.args.edge.from_chain c.args.edge.to c.args.edge.to_chain c.list-members.ensures c.requires.edge c.requires.ready

pub overflow_mul-x : goal.overflow_mul-x
overflow_mul-x c =
    let within : c.loop-i.i - 1 < length c.list-members.result.now = (let order = c.loop-i.invariant.order in let end = c.reaching-i.ensures.within in omega (arith, order, end)) in
    let fits : get_or c.list-members.result.now (c.loop-i.i - 1) 0 * (length c.args.edge.given.now) + (length c.args.edge.given.now) ≤ length c.args.first.now = members_fit c.args.chains.now.keys.items c.list-members.result.now (length c.args.edge.given.now) c.args.d c.args.first.now c.list-members.ensures c.requires.ready.sized (c.loop-i.i - 1) within in
    let chain = c.requires.edge.to_within in
    let same = c.loop-i.auto.first in
    omega (arith, fits, chain, same)

pub overflow_add-x : goal.overflow_add-x
overflow_add-x c =
    let within : c.loop-i.i - 1 < length c.list-members.result.now = (let order = c.loop-i.invariant.order in let end = c.reaching-i.ensures.within in omega (arith, order, end)) in
    let fits : get_or c.list-members.result.now (c.loop-i.i - 1) 0 * (length c.args.edge.given.now) + (length c.args.edge.given.now) ≤ length c.args.first.now = members_fit c.args.chains.now.keys.items c.list-members.result.now (length c.args.edge.given.now) c.args.d c.args.first.now c.list-members.ensures c.requires.ready.sized (c.loop-i.i - 1) within in
    let chain = c.requires.edge.to_within in
    let same = c.loop-i.auto.first in
    omega (arith, fits, chain, same)

pub offset_bounds-first-x : goal.offset_bounds-first-x
offset_bounds-first-x c =
    let within : c.loop-i.i - 1 < length c.list-members.result.now = (let order = c.loop-i.invariant.order in let end = c.reaching-i.ensures.within in omega (arith, order, end)) in
    let fits : get_or c.list-members.result.now (c.loop-i.i - 1) 0 * (length c.args.edge.given.now) + (length c.args.edge.given.now) ≤ length c.args.first.now = members_fit c.args.chains.now.keys.items c.list-members.result.now (length c.args.edge.given.now) c.args.d c.args.first.now c.list-members.ensures c.requires.ready.sized (c.loop-i.i - 1) within in
    let chain = c.requires.edge.to_within in
    let same = c.loop-i.auto.first in
    omega (arith, fits, chain, same)

pub bounds-first-x : goal.bounds-first-x
bounds-first-x c =
    let within : c.loop-i.i - 1 < length c.list-members.result.now = (let order = c.loop-i.invariant.order in let end = c.reaching-i.ensures.within in omega (arith, order, end)) in
    let fits : get_or c.list-members.result.now (c.loop-i.i - 1) 0 * (length c.args.edge.given.now) + (length c.args.edge.given.now) ≤ length c.args.first.now = members_fit c.args.chains.now.keys.items c.list-members.result.now (length c.args.edge.given.now) c.args.d c.args.first.now c.list-members.ensures c.requires.ready.sized (c.loop-i.i - 1) within in
    let chain = c.requires.edge.to_within in
    let same = c.loop-i.auto.first in
    omega (arith, fits, chain, same)

pub lower_row-requires : goal.lower_row-requires
lower_row-requires c =
    let within : c.loop-i.i - 1 < length c.list-members.result.now = (let order = c.loop-i.invariant.order in let end = c.reaching-i.ensures.within in omega (arith, order, end)) in
    let fits : get_or c.list-members.result.now (c.loop-i.i - 1) 0 * (length c.args.edge.given.now) + (length c.args.edge.given.now) ≤ length c.args.first.now = members_fit c.args.chains.now.keys.items c.list-members.result.now (length c.args.edge.given.now) c.args.d c.args.first.now c.list-members.ensures c.requires.ready.sized (c.loop-i.i - 1) within in
    let chain = c.requires.edge.to_within in
    let same = c.loop-i.auto.first in
    omega (arith, fits, chain, same)

pub returns-then-first-x-clause-lowered : goal.returns-then-first-x-clause-lowered
returns-then-first-x-clause-lowered c =
    let of : Members c.args.chains.now.keys.items c.list-members.result.now (length c.args.edge.given.now) c.args.d c.args.first.now c.args.edge.from c.args.edge.from_chain c.args.edge.to c.args.edge.to_chain c.reaching-i.result = record { list = c.list-members.ensures; edge = c.requires.edge; cut = c.reaching-i.ensures } in
    let at : c.loop-i.i ≡ c.loop-i.i - 1 + 1 = omega arith in
    let walks = subst (λ n. Walks c.args.chains.now.keys.items c.list-members.result.now (length c.args.edge.given.now) c.args.first.now c.loop-i.first c.args.edge.given.now c.args.grown.now c.loop-i.grown c.args.edge.to n c.reaching-i.result) at c.loop-i.invariant in
    let within : c.loop-i.i - 1 < length c.list-members.result.now = (let order = c.loop-i.invariant.order in let end = c.reaching-i.ensures.within in omega (arith, order, end)) in
    let led = Walks-led c.args.chains.now.keys.items c.list-members.result.now (length c.args.edge.given.now) c.args.d c.args.first.now c.loop-i.first c.args.edge.given.now c.args.grown.now c.loop-i.grown c.args.edge.from c.args.edge.from_chain c.args.edge.to c.args.edge.to_chain (c.loop-i.i - 1) c.reaching-i.result of walks c.if-first-x.true in
    let stop = λ (j : ℕ) (low : j < c.loop-i.i). Walks-stop c.args.chains.now.keys.items c.list-members.result.now (length c.args.edge.given.now) c.args.d c.args.first.now c.args.grown.now c.args.edge.from c.args.edge.from_chain c.args.edge.to c.args.edge.to_chain (c.loop-i.i - 1) c.reaching-i.result of c.requires.ready within led j (omega (arith, low)) in
    Walks-lowered c.args.chains.now.keys.items c.list-members.result.now (length c.args.edge.given.now) c.args.d c.args.first.now c.loop-i.first c.args.edge.given.now c.args.grown.now c.loop-i.grown c.args.edge.from c.args.edge.from_chain c.args.edge.to c.args.edge.to_chain c.loop-i.i c.reaching-i.result of c.loop-i.invariant stop

pub returns-clause-lowered : goal.returns-clause-lowered
returns-clause-lowered c =
    let of : Members c.args.chains.now.keys.items c.list-members.result.now (length c.args.edge.given.now) c.args.d c.args.first.now c.args.edge.from c.args.edge.from_chain c.args.edge.to c.args.edge.to_chain c.reaching-i.result = record { list = c.list-members.ensures; edge = c.requires.edge; cut = c.reaching-i.ensures } in
    let stop = λ (j : ℕ) (low : j < c.loop-i.i). absurd {A = LeadsBy c.args.chains.now.keys.items (length c.args.edge.given.now) c.args.first.now (get_or c.list-members.result.now j 0) c.args.edge.to} (let none = c.loop-i-test.false in omega (arith, none, low)) in
    Walks-lowered c.args.chains.now.keys.items c.list-members.result.now (length c.args.edge.given.now) c.args.d c.args.first.now c.loop-i.first c.args.edge.given.now c.args.grown.now c.loop-i.grown c.args.edge.from c.args.edge.from_chain c.args.edge.to c.args.edge.to_chain c.loop-i.i c.reaching-i.result of c.loop-i.invariant stop

pub returns-then-first-x-clause-marked : goal.returns-then-first-x-clause-marked
returns-then-first-x-clause-marked c =
    let of : Members c.args.chains.now.keys.items c.list-members.result.now (length c.args.edge.given.now) c.args.d c.args.first.now c.args.edge.from c.args.edge.from_chain c.args.edge.to c.args.edge.to_chain c.reaching-i.result = record { list = c.list-members.ensures; edge = c.requires.edge; cut = c.reaching-i.ensures } in
    let at : c.loop-i.i ≡ c.loop-i.i - 1 + 1 = omega arith in
    let walks = subst (λ n. Walks c.args.chains.now.keys.items c.list-members.result.now (length c.args.edge.given.now) c.args.first.now c.loop-i.first c.args.edge.given.now c.args.grown.now c.loop-i.grown c.args.edge.to n c.reaching-i.result) at c.loop-i.invariant in
    let within : c.loop-i.i - 1 < length c.list-members.result.now = (let order = c.loop-i.invariant.order in let end = c.reaching-i.ensures.within in omega (arith, order, end)) in
    let led = Walks-led c.args.chains.now.keys.items c.list-members.result.now (length c.args.edge.given.now) c.args.d c.args.first.now c.loop-i.first c.args.edge.given.now c.args.grown.now c.loop-i.grown c.args.edge.from c.args.edge.from_chain c.args.edge.to c.args.edge.to_chain (c.loop-i.i - 1) c.reaching-i.result of walks c.if-first-x.true in
    let stop = λ (j : ℕ) (low : j < c.loop-i.i). Walks-stop c.args.chains.now.keys.items c.list-members.result.now (length c.args.edge.given.now) c.args.d c.args.first.now c.args.grown.now c.args.edge.from c.args.edge.from_chain c.args.edge.to c.args.edge.to_chain (c.loop-i.i - 1) c.reaching-i.result of c.requires.ready within led j (omega (arith, low)) in
    Walks-marked c.args.chains.now.keys.items c.list-members.result.now (length c.args.edge.given.now) c.args.d c.args.first.now c.loop-i.first c.args.edge.given.now c.args.grown.now c.loop-i.grown c.args.edge.from c.args.edge.from_chain c.args.edge.to c.args.edge.to_chain c.loop-i.i c.reaching-i.result of c.loop-i.invariant stop

pub returns-clause-marked : goal.returns-clause-marked
returns-clause-marked c =
    let of : Members c.args.chains.now.keys.items c.list-members.result.now (length c.args.edge.given.now) c.args.d c.args.first.now c.args.edge.from c.args.edge.from_chain c.args.edge.to c.args.edge.to_chain c.reaching-i.result = record { list = c.list-members.ensures; edge = c.requires.edge; cut = c.reaching-i.ensures } in
    let stop = λ (j : ℕ) (low : j < c.loop-i.i). absurd {A = LeadsBy c.args.chains.now.keys.items (length c.args.edge.given.now) c.args.first.now (get_or c.list-members.result.now j 0) c.args.edge.to} (let none = c.loop-i-test.false in omega (arith, none, low)) in
    Walks-marked c.args.chains.now.keys.items c.list-members.result.now (length c.args.edge.given.now) c.args.d c.args.first.now c.loop-i.first c.args.edge.given.now c.args.grown.now c.loop-i.grown c.args.edge.from c.args.edge.from_chain c.args.edge.to c.args.edge.to_chain c.loop-i.i c.reaching-i.result of c.loop-i.invariant stop

pub loop-i-preserved : goal.loop-i-preserved
loop-i-preserved c =
    let of : Members c.args.chains.now.keys.items c.list-members.result.now (length c.args.edge.given.now) c.args.d c.args.first.now c.args.edge.from c.args.edge.from_chain c.args.edge.to c.args.edge.to_chain c.reaching-i.result = record { list = c.list-members.ensures; edge = c.requires.edge; cut = c.reaching-i.ensures } in
    let at : c.loop-i.i ≡ c.loop-i.i - 1 + 1 = omega arith in
    let walks = subst (λ n. Walks c.args.chains.now.keys.items c.list-members.result.now (length c.args.edge.given.now) c.args.first.now c.loop-i.first c.args.edge.given.now c.args.grown.now c.loop-i.grown c.args.edge.to n c.reaching-i.result) at c.loop-i.invariant in
    let order = c.loop-i.invariant.order in
    let end = c.reaching-i.ensures.within in
    let low = (c.list-members.ensures.only (get_or c.list-members.result.now (c.loop-i.i - 1) 0) (Contains-get_or c.list-members.result.now (c.loop-i.i - 1) 0 (omega (arith, order, end)))).0 in
    let sized = c.requires.ready.grown_sized in
    let same = c.loop-i.auto.grown in
    let node : get_or c.list-members.result.now (c.loop-i.i - 1) 0 / 64 < length c.loop-i.grown = omega (arith, low, sized, same) in
    let marks = MarksRows-set c.loop-i.grown c.set_bit.new.table (get_or c.list-members.result.now (c.loop-i.i - 1) 0) (omega arith) c.set_bit.ensures node in
    Walks-step c.args.chains.now.keys.items c.list-members.result.now (length c.args.edge.given.now) c.args.d c.args.first.now c.loop-i.first c.lower_row.new.first c.args.edge.given.now c.args.grown.now c.loop-i.grown c.set_bit.new.table c.args.edge.from c.args.edge.from_chain c.args.edge.to c.args.edge.to_chain (c.loop-i.i - 1) c.reaching-i.result of walks c.if-first-x.false
    c.lower_row.ensures marks
