use Rattle.std.proofs.Common.{arith}
use Rattle.chain_reach.specs.Leading.{Leads, LeadsToMore}
use Rattle.chain_reach.proofs.TableFacts.{none_marked}
use Rattle.chain_reach.proofs.types.Reach.settle.Goals as goal

pub returns-clause-leads : goal.returns-clause-leads
unfolding Leads
returns-clause-leads c = λ x y. (λ leads. leads, λ leads. leads)

pub returns-clause-settled : goal.returns-clause-settled
unfolding LeadsToMore
returns-clause-settled c = λ x is. none_marked c.fill.new.self.items _ x (c.fill.ensures.items (λ y e. e)) is

pub invariant_of-self : goal.invariant_of-self
invariant_of-self c =
    let kept = c.args.self.now.kept in
    let sized = kept.grown_sized in
    record {
      near_sized = c.args.self.now.near_sized;
      kept = record {
        sized = kept.sized;
        given_sized = kept.given_sized;
        grown_sized = omega (arith, sized);
        grown_within = λ x has. absurd (none_marked c.fill.new.self.items _ x (c.fill.ensures.items (λ y e. e)) has);
        transitive = kept.transitive;
        ordered = kept.ordered;
      };
    }
