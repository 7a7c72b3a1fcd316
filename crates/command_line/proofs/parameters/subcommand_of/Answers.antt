use Rattle.std.proofs.Common.{◌∙◌}
use Rattle.command_line.proofs.Built.{globals_kept, rule_added}
use Rattle.command_line.specs.Commands.{memory_of}
use Rattle.command_line.proofs.OfferLemmas.{one_more}
use Rattle.command_line.proofs.parameters.subcommand_of.Goals as goal

pub loop-parameter-preserved : goal.loop-parameter-preserved
loop-parameter-preserved c = (
  rule_added _ _ _ c.in_ok-command.ensures c.argument.ensures.local _ _ c.loop-parameter.invariant.0 c.argument.ensures.rule
      ∙ one_more (memory_of c.args.names) c.args.name.now c.args.description.now.parameters.now c.loop-parameter.parameter-index _ c.loop-parameter-test.true,
  globals_kept _ _ _ c.in_ok-command.ensures c.argument.ensures.local ∙ c.loop-parameter.invariant.1,
)
