use Rattle.tso_cert.specs.declared.rules.BaseRule.TheVariants.{Init}
use Rattle.tso_cert.specs.Internal.LineValues.{base_rules}
use Rattle.tso_model.specs.Rules.{BasePair}
use Rattle.tso_model.proofs.RuleOrder.{first_base, no_base}
use Rattle.tso_model.proofs.Searches.{none_more}
use Rattle.std.proofs.Common.{get_or, arith}
use Rattle.tso_model.proofs.conditions.base.first_base_rule.Goals as goal

pub returns-then-is_base_pair : goal.returns-then-is_base_pair
returns-then-is_base_pair c =
    first_base c.args.trace.now c.args.u c.args.v c.loop-k.k c.loop-k-test.true (c.is_base_pair.ensures.0 c.if-is_base_pair.true) c.loop-k.invariant

pub loop-k-preserved : goal.loop-k-preserved
loop-k-preserved c =
    none_more (λ j. BasePair c.args.trace.now (get_or base_rules j Init) c.args.u c.args.v) c.loop-k.k c.loop-k.invariant c.if-is_base_pair.ensures

pub returns : goal.returns
returns c = no_base c.args.trace.now c.args.u c.args.v c.loop-k.k (omega (arith, c.loop-k-test.false)) c.loop-k.invariant
