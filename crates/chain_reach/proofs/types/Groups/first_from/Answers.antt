use Rattle.std.proofs.Common.{arith}
use Rattle.chain_reach.specs.Groups.{IsIn}
use Rattle.chain_reach.proofs.CutFacts.{first_cut}
use Rattle.chain_reach.proofs.types.Groups.first_from.Goals as goal

pub returns : goal.returns
returns c =
    let within = c.place_of-i.ensures.within in
    let cut = first_cut c.list-list.result.now (IsIn c.args.self.now c.args.d) c.args.n c.place_of-i.result c.list-list.ensures c.place_of-i.ensures (omega (arith, within, c.if-i-list.false)) in
    record { inside = cut.0; from = cut.1; least = cut.2 }
