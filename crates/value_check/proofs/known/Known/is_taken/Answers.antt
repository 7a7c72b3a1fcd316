use Rattle.std.proofs.Common.{◌≡◌, ◌∙◌, ap, sym, subst, suc}
use Rattle.value_check.specs.declared.noted.Noted.{Noted}
use Rattle.value_check.specs.Internal.Known.{Takes}
use Rattle.value_check.specs.Internal.Noted.{IsNotedOf, noted_at}
use Rattle.value_check.proofs.AnswerFacts.{not_so, refuses}
use Rattle.tso_ops.specs.Events.{IsSwapLoad}
use Rattle.value_check.proofs.CellFacts.{index_below}
use Rattle.value_check.proofs.NotedFacts.{noted_other}
use Rattle.value_check.proofs.TakenFacts.{taken_store}
use Rattle.value_check.proofs.known.Known.is_taken.Goals as goal

pub returns-then-not-is_swap_load : goal.returns-then-not-is_swap_load
returns-then-not-is_swap_load c = λ t steps known address.
    refuses (λ is_taken. not_so c.is_swap_load.result (IsSwapLoad t (suc c.args.load)) (c.is_swap_load.ensures t known.tables.events) c.if-not-is_swap_load.true is_taken.1)

pub returns : goal.returns
returns c = λ t steps known address.
    let k = c.args.self.now in
    let x = c.args.store in
    let swap = (c.is_swap_load.ensures t known.tables.events).0 c.if-not-is_swap_load.false in
    let below = index_below t k known.tables x (address.0, address.2) in
    let at : c.noted_at.result ≡ noted_at k.takers.items x = c.noted_at.ensures ∙ ap (λ table. noted_at table x) c.deref.ensures.value in
    let noted = subst (λ (n : Noted). IsNotedOf n (Takes t steps x)) (sym at) (known.takers x below) in
    let other = noted_other c.noted_at.result (Takes t steps x) c.args.load noted in
    let of = taken_store t steps c.args.load swap x address in
    (λ is. of.0 (other.0 (c.has_other.ensures.0 is)), λ is_taken. c.has_other.ensures.1 (other.1 (of.1 is_taken)))
