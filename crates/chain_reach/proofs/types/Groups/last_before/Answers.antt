use Rattle.std.proofs.Common.{◌≡◌, ◌+◌, ◌-◌, ◌<◌, subst, arith}
use Rattle.chain_reach.specs.Groups.{IsIn}
use Rattle.chain_reach.specs.Internal.Lists.{IsCut}
use Rattle.chain_reach.proofs.CutFacts.{last_cut}
use Rattle.chain_reach.proofs.types.Groups.last_before.Goals as goal

pub returns : goal.returns
returns c =
    let at : c.place_of-i.result ≡ c.place_of-i.result - 1 + 1 = omega (arith, c.if-i-eq0.false) in
    let cut = last_cut c.list-list.result.now (IsIn c.args.self.now c.args.d) c.args.n (c.place_of-i.result - 1) c.list-list.ensures
    (subst (λ i. IsCut c.list-list.result.now (λ x. x < c.args.n) i) at c.place_of-i.ensures) in
    record { inside = cut.0; below = cut.1; greatest = cut.2 }
