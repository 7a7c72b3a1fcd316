use Rattle.std.proofs.Common.{◌≡◌, ◌∙◌, ap, sym, subst, suc, arith}
use Rattle.std.proofs.lemmas.List.{get_or_default, length-map}
use Rattle.value_check.specs.declared.noted.Noted.{Noted}
use Rattle.value_check.specs.Internal.Cells.{class_in}
use Rattle.value_check.specs.Internal.Known.{TakesFirst, address_only}
use Rattle.value_check.specs.Internal.Noted.{IsNotedOf, noted_at}
use Rattle.value_check.proofs.AnswerFacts.{not_so, refuses}
use Rattle.tso_ops.specs.Events.{IsSwapLoad}
use Rattle.value_check.proofs.CellFacts.{index_below}
use Rattle.value_check.proofs.NotedFacts.{noted_other}
use Rattle.value_check.proofs.TakenFacts.{taken_first}
use Rattle.value_check.proofs.known.Known.is_first_taken.Goals as goal

pub returns-then-not-is_swap_load : goal.returns-then-not-is_swap_load
returns-then-not-is_swap_load c = λ t steps known.
    refuses (λ is_taken. not_so c.is_swap_load.result (IsSwapLoad t (suc c.args.load)) (c.is_swap_load.ensures t known.tables.events) c.if-not-is_swap_load.true is_taken.1)

pub returns-then-load-len : goal.returns-then-load-len
returns-then-load-len c = λ t steps known.
    let k = c.args.self.now in
    let swap = (c.is_swap_load.ensures t known.tables.events).0 c.if-not-is_swap_load.false in
    let below = index_below t k known.tables c.args.load (swap.0, swap.1) in
    absurd (omega (arith, below, known.tables.addresses.whole, length-map k.events.items address_only))

pub returns : goal.returns
returns c = λ t steps known.
    let k = c.args.self.now in
    let swap = (c.is_swap_load.ensures t known.tables.events).0 c.if-not-is_swap_load.false in
    let d = class_in k.addresses c.args.load in
    let below = index_below t k known.tables c.args.load (swap.0, swap.1) in
    let within = known.tables.addresses.class_below c.args.load (omega (arith, below, length-map k.events.items address_only)) in
    let at : c.noted_at.result ≡ noted_at k.first_takers.items d =
    let index = c.index.ensures ∙ get_or_default k.addresses.class_of.items c.args.load c.index.result.now 0 (omega (arith, below, known.tables.addresses.whole, length-map k.events.items address_only)) in
    c.noted_at.ensures ∙ ap (λ table. noted_at table c.index.result.now) c.deref.ensures.value ∙ ap (noted_at k.first_takers.items) index in
    let noted = subst (λ (n : Noted). IsNotedOf n (TakesFirst t steps k.addresses d)) (sym at) (known.first_takers d within) in
    let other = noted_other c.noted_at.result (TakesFirst t steps k.addresses d) c.args.load noted in
    let of = taken_first t steps c.args.load swap k known.tables in
    (λ is. of.0 (other.0 (c.has_other.ensures.0 is)), λ is_taken. c.has_other.ensures.1 (other.1 (of.1 is_taken)))
