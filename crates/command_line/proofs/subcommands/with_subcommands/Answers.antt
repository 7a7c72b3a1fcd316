use Rattle.std.proofs.Common.{◌∙◌, refl, sym}
use Rattle.command_line.proofs.Built.{subcommand_added, subcommand_local}
use Rattle.command_line.proofs.OfferLemmas.{one_more_subcommand}
use Rattle.command_line.proofs.subcommands.with_subcommands.Goals as goal

pub loop-subcommand-preserved : goal.loop-subcommand-preserved
loop-subcommand-preserved c = (
  sym (one_more_subcommand c.args.names c.args.list.now c.loop-subcommand.subcommand-index _ c.loop-subcommand-test.true _ _
      (subcommand_added _ _ _ c.in_ok-program.ensures c.in_ok-command.ensures.local _ _ refl c.in_ok-command.ensures.app))
      ∙ c.loop-subcommand.invariant.0,
  subcommand_local _ _ _ c.in_ok-program.ensures c.in_ok-command.ensures.local c.loop-subcommand.invariant.1,
)
